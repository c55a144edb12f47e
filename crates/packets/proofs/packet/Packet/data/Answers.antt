use Rattle.std.proofs.Common.{arith, rules}
use Rattle.std.proofs.lemmas.Nat.{mul-le}
use Rattle.packets.proofs.packet.Packet.data.Goals as goal

pub returns-clause-bound : goal.returns-clause-bound
returns-clause-bound c =
    omega (arith, mul-le c.from.result c.from-2.result 65535 65535 (search rules) (search rules))
