-- What the faults of pings and profiles tell.
use Rattle.refusals.specs.declared.Notice.{Notice}
use Rattle.refusals.specs.Notices.{notice, nowhere}
use Rattle.packets.specs.declared.fault.PacketFault.{PacketFault}
use Rattle.packets.specs.declared.fault.PacketFault.TheVariants as fault

-- 6: length; 9: HeaderSizeBytes or DataType, where it begins; 11: BitsPerSample, which is byte 11
abbrev pub packet_fault : PacketFault → Notice
packet_fault fault.Length = nowhere 6
packet_fault (fault.HeaderSizeBytes at) = notice 9 at
packet_fault (fault.DataType at) = notice 9 at
packet_fault fault.BitsPerSample = notice 11 11
packet_fault fault.OddPing = notice 11 11
