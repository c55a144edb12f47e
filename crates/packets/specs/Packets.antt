-- Bodies of pings and profiles.
use Rattle.std.specs.Prelude.{ℕ, ◌+◌, ◌-◌, ◌*◌, ◌%◌, Bool, true, false, cond, List, length, Some, None, Ok, Err, Option, Result, ◌==◌, nat_le, slice_index}
use Rattle.std.specs.Bool.{beq}
use Rattle.std.specs.Option.{ok_or}
use Rattle.std.specs.Option as options
use Rattle.layouts.specs.declared.settings.Counter.{Counter}
use Rattle.layouts.specs.declared.settings.Counter.TheVariants.{With, Without}
use Rattle.layouts.specs.Checks.{check, and_then, sound}
use Rattle.layouts.specs.Numbers.{number}
use Rattle.packets.specs.declared.fault.PacketFault.{PacketFault}
use Rattle.packets.specs.declared.fault.PacketFault.TheVariants as fault
use Rattle.packets.specs.declared.packet.Content.{Content}
use Rattle.packets.specs.declared.packet.Content.TheVariants.{Sonar, Profile}
use Rattle.packets.specs.declared.packet.Packet.{Packet}

-- DataType 1 and 2 are sonar data, 3 and 4 profiles
abbrev pub content_of : ℕ → Option Content
content_of n = cond (nat_le 1 n) (cond (nat_le n 2) (Some Sonar) (cond (nat_le n 4) (Some Profile) None)) None

-- whether it is sonar data
abbrev pub is_sonar : Content → Bool
is_sonar Sonar = true
is_sonar Profile = false

-- the other of the two
abbrev pub other : Content → Content
other Sonar = Profile
other Profile = Sonar

-- what a header of 22 bytes at a place says: HeaderSizeBytes, DataType, DataNumber and DataSizeBytes follow one another
abbrev pub packet_at : List ℕ → ℕ → Result Packet PacketFault
packet_at bs at =
    and_then (check (nat_le (at + 22) (length bs)) fault.Length) (λ _.
    and_then (check (number bs at 2 == 22) (fault.HeaderSizeBytes at)) (λ _.
    ok_or (options.option_map (λ c. record { content = c; data_number = number bs (at + 4) 2; data_size_bytes = number bs (at + 6) 2 }) (content_of (number bs (at + 2) 2))) (fault.DataType (at + 2))))

-- the same, where only one content will do
abbrev pub packet_of : Content → List ℕ → ℕ → Result Packet PacketFault
packet_of content bs at = and_then (packet_at bs at) (λ p. and_then (check (beq (is_sonar p.content) (is_sonar content)) (fault.DataType (at + 2))) (λ _. Ok p))

-- how many bytes of data a header announces
abbrev pub data_length : Packet → ℕ
data_length p = p.data_number * p.data_size_bytes

-- how many bytes a header and its data take
abbrev pub plain : Packet → ℕ
plain p = 22 + data_length p

-- a counter has two bytes
abbrev pub counter_length : Counter → ℕ
counter_length With = 2
counter_length Without = 0

-- the counter that stands behind sonar data
abbrev pub counter_of : Counter → Packet → ℕ
counter_of counter p = cond (is_sonar p.content) (counter_length counter) 0

-- how many bytes a packet takes with its counter
abbrev pub counted : Counter → Packet → ℕ
counted counter p = plain p + counter_of counter p

-- so many pings of so many bytes each: BitsPerSample is 8 or 16, and a ping of 16-bit samples is even
abbrev pub pings : List ℕ → ℕ → ℕ → Result (Unit {0}) PacketFault
pings bs count size =
    cond (slice_index bs 11 == 8) (Ok tt)
    (cond (slice_index bs 11 == 16) (check (cond (count == 0) true (size % 2 == 0)) fault.OddPing)
    (Err fault.BitsPerSample))

-- type 12: extra header, one ping, counter
abbrev pub sonar_body : Counter → List ℕ → Result (Unit {0}) PacketFault
sonar_body counter bs =
    and_then (check (nat_le (20 + counter_length counter) (length bs)) fault.Length) (λ _.
    pings bs 1 (length bs - 20 - counter_length counter))

-- type 13: extra header, profile packet
abbrev pub profile_packet : List ℕ → Result Packet PacketFault
profile_packet bs =
    and_then (packet_of Profile bs 20) (λ p.
    and_then (check (length bs == 20 + plain p) fault.Length) (λ _.
    Ok p))

-- whether such a body is sound
abbrev pub profile_body : List ℕ → Result (Unit {0}) PacketFault
profile_body bs = sound (profile_packet bs)

-- type 14: extra header, then a sonar and a profile packet in either order; this is the one with sonar data
abbrev pub sonar_of : Packet → Packet → Packet
sonar_of first second = cond (is_sonar first.content) first second

-- the two packets of a body of the right length
abbrev pub pair_packets : Counter → List ℕ → Result (Packet × Packet) PacketFault
pair_packets counter bs =
    and_then (packet_at bs 20) (λ a.
    and_then (packet_of (other a.content) bs (20 + counted counter a)) (λ b.
    and_then (check (length bs == 20 + counted counter a + counted counter b) fault.Length) (λ _.
    Ok (a, b))))

-- the same, once the pings are judged
abbrev pub pair_sound : Counter → List ℕ → Result (Packet × Packet) PacketFault
pair_sound counter bs =
    and_then (pair_packets counter bs) (λ p.
    and_then (pings bs (sonar_of p.0 p.1).data_number (sonar_of p.0 p.1).data_size_bytes) (λ _.
    Ok p))

-- whether such a body is sound
abbrev pub pair_body : Counter → List ℕ → Result (Unit {0}) PacketFault
pair_body counter bs = sound (pair_sound counter bs)

-- type 21: extra header, a sonar packet of pings, and a counter for each of them
abbrev pub multi_packet : Counter → List ℕ → Result Packet PacketFault
multi_packet counter bs =
    and_then (packet_of Sonar bs 20) (λ p.
    and_then (check (length bs == 20 + plain p + p.data_number * counter_length counter) fault.Length) (λ _.
    Ok p))

-- the same, once the pings are judged
abbrev pub multi_sound : Counter → List ℕ → Result Packet PacketFault
multi_sound counter bs =
    and_then (multi_packet counter bs) (λ p.
    and_then (pings bs p.data_number p.data_size_bytes) (λ _.
    Ok p))

-- whether such a body is sound
abbrev pub multi_body : Counter → List ℕ → Result (Unit {0}) PacketFault
multi_body counter bs = sound (multi_sound counter bs)
