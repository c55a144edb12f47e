use Rattle.std.proofs.Common.{◌≡◌, ◌+◌, ◌-◌, ◌≤◌, length, take, drop}
use Rattle.std.specs.List.{prefix_len}
use Rattle.records.specs.Sentences.{text_char, xored}
use Rattle.records.proofs.text.text_at_front.Given as goal

abbrev pub invariant-loop-i : goal.invariant-loop-i
invariant-loop-i l =
    (prefix_len text_char l.bytes ≡ l.i + prefix_len text_char (drop l.i l.bytes)) × (l.i ≤ length l.bytes) × (l.sum ≡ xored l.name_sum (take l.i l.bytes))

abbrev pub decreases-loop-i : goal.decreases-loop-i
decreases-loop-i l = length l.bytes - l.i

abbrev pub invariant-loop-i-2 : goal.invariant-loop-i-2
invariant-loop-i-2 l =
    (prefix_len text_char l.bytes ≡ l.i + prefix_len text_char (drop l.i l.bytes)) × (l.i ≤ length l.bytes) × (l.sum ≡ xored l.name_sum (take l.i l.bytes))

abbrev pub decreases-loop-i-2 : goal.decreases-loop-i-2
decreases-loop-i-2 l = length l.bytes - l.i
