-- The parts of pings and profiles.
use Rattle.std.specs.Prelude.{ℕ, ◌+◌, ◌-◌, ◌*◌, List, length, Result}
use Rattle.std.specs.Result.{result_map_both}
use Rattle.layouts.specs.declared.settings.Counter.{Counter}
use Rattle.layouts.specs.Numbers.{part, number}
use Rattle.packets.specs.declared.fault.PacketFault.{PacketFault}
use Rattle.packets.specs.declared.packet.Packet.{Packet}
use Rattle.packets.specs.declared.packet.PacketParts.{PacketParts}
use Rattle.packets.specs.declared.pair.TwoPackets.{TwoPackets}
use Rattle.packets.specs.declared.profile.OnePacket.{OnePacket}
use Rattle.packets.specs.declared.sonar.SonarParts.{SonarParts}
use Rattle.packets.specs.Packets.{data_length, plain, counter_length, counter_of, counted, sonar_body, profile_packet, pair_sound, multi_sound}

-- what a ping holds, whoever holds its bytes
pub record SonarBytes : Type 0 where
  pub bytes_in_packet : ℕ
  pub extra_header : List ℕ
  pub data_bytes : List ℕ
  pub counter : List ℕ

-- a ping in code, as its bytes
abbrev pub sonar_held : SonarParts → SonarBytes
sonar_held p =
    record { bytes_in_packet = p.bytes_in_packet; extra_header = p.extra_header.now; data_bytes = p.«data».now; counter = p.counter.now }

-- type 12: all between the extra header and the counter is the ping
abbrev pub sonar_parts : Counter → List ℕ → Result SonarBytes PacketFault
sonar_parts counter bs =
    result_map_both (λ _. record { bytes_in_packet = number bs 0 2; extra_header = part bs 0 20; data_bytes = part bs 20 (length bs - 20 - counter_length counter); counter = part bs (length bs - counter_length counter) (counter_length counter) }) (λ e. e)
    (sonar_body counter bs)

-- what a packet holds, whoever holds its bytes
pub record PacketBytes : Type 0 where
  pub packet : Packet
  pub header : List ℕ
  pub data_bytes : List ℕ
  pub counters : List ℕ

-- a packet in code, as its bytes
abbrev pub parts_held : PacketParts → PacketBytes
parts_held p = record { packet = p.packet; header = p.header.now; data_bytes = p.«data».now; counters = p.counters.now }

-- a packet's header, the data behind it, and so many bytes of counters behind them
abbrev pub parts_at : List ℕ → ℕ → Packet → ℕ → PacketBytes
parts_at bs at p k =
    record { packet = p; header = part bs at 22; data_bytes = part bs (at + 22) (data_length p); counters = part bs (at + plain p) k }

-- a body of one packet in code, as its bytes
abbrev pub one_held : OnePacket → List ℕ × PacketBytes
one_held b = (b.extra_header.now, parts_held b.packet)

-- a body of two packets in code, as its bytes
abbrev pub two_held : TwoPackets → List ℕ × PacketBytes × PacketBytes
two_held b = (b.extra_header.now, parts_held b.first, parts_held b.second)

-- type 13
abbrev pub profile_parts : List ℕ → Result (List ℕ × PacketBytes) PacketFault
profile_parts bs = result_map_both (λ p. (part bs 0 20, parts_at bs 20 p 0)) (λ e. e) (profile_packet bs)

-- type 14
abbrev pub pair_parts : Counter → List ℕ → Result (List ℕ × PacketBytes × PacketBytes) PacketFault
pair_parts counter bs =
    result_map_both (λ p. (part bs 0 20, parts_at bs 20 p.0 (counter_of counter p.0), parts_at bs (20 + counted counter p.0) p.1 (counter_of counter p.1))) (λ e. e)
    (pair_sound counter bs)

-- type 21
abbrev pub multi_parts : Counter → List ℕ → Result (List ℕ × PacketBytes) PacketFault
multi_parts counter bs = result_map_both (λ p. (part bs 0 20, parts_at bs 20 p (p.data_number * counter_length counter))) (λ e. e) (multi_sound counter bs)
