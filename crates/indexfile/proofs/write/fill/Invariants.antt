use Rattle.std.proofs.Common.{◌≡◌, ℕ, ◌+◌, ◌*◌, ◌<◌, get_or, drop}
use Rattle.std.specs.List.{flat_map}
use Rattle.indexfile.specs.Files.{row_bytes}
use Rattle.indexfile.specs.Written.{Wide, no_row}
use Rattle.indexfile.specs.Numbers.{set_at}
use Rattle.indexfile.proofs.write.fill.Given as goal

abbrev pub invariant-loop-n : goal.invariant-loop-n
invariant-loop-n l =
    (set_at l.buffer (16 + 20 * l.n) (flat_map row_bytes (drop l.n l.rows)) ≡ set_at l.initial.buffer 16 (flat_map row_bytes l.rows))
    × ((k : ℕ) → k < l.n → Wide (get_or l.rows k no_row))
