-- Which record crosses a boundary.
use Rattle.std.specs.Prelude.{◌≡◌, ℕ, zero, suc, ◌+◌, ◌≤◌, Bool, false, cond, ◌↔◌, List, length, Some, None, Ok, Err, Option, Result, nat_lt}
use Rattle.recording.specs.declared.Cell.{Cell}
use Rattle.records.specs.declared.kind.Record.{Record}
use Rattle.records.specs.Records.{Meaning}
use Rattle.listing.specs.declared.answer.ClearRefusal.{ClearRefusal}
use Rattle.listing.specs.declared.answer.ClearRefusal.TheVariants.{ShortTable, PastEnd}
use Rattle.listing.specs.Listing.{Clear, Crosses}
use Rattle.listing.specs.Progress.{Progress}

-- a record that stands at a place ends after the boundary
abbrev pub ends_after : ℕ → ℕ → Option Record → Bool
ends_after b p None = false
ends_after b p (Some x) = nat_lt b (p + x.length)

-- the first of n places, from a place on, whose record ends after the boundary, if there is one
unfoldable pub first_crossing : Meaning → List Cell → ℕ → ℕ → ℕ → Option ℕ
first_crossing m cs b zero p = None
first_crossing m cs b (suc n) p = cond (ends_after b p (m cs p)) (Some p) (first_crossing m cs b n (p + 1))

-- the lowest of all places before the boundary
abbrev pub cleared : Meaning → List Cell → ℕ → Option ℕ
cleared m cs b = first_crossing m cs b b 0

-- a call: refused, or answered
abbrev pub clearing : Meaning → List Cell → ℕ → Progress → Result (Option ℕ) ClearRefusal
clearing m cs b s = cond (nat_lt (length s.table) s.rows) (Err ShortTable) (cond (nat_lt (length cs) b) (Err PastEnd) (Ok (cleared m cs b)))

-- what an answer says: no place exactly if the boundary is clear; a place exactly if it is the lowest of a record that crosses the boundary
pub record Tells (m : Meaning) (cs : List Cell) (b : ℕ) (s : Progress) (r : Result (Option ℕ) ClearRefusal) : Type 0 where
  pub yes : (r ≡ Ok None) ↔ ((s.rows ≤ length s.table) × Clear m cs b)
  pub crossed : (p : ℕ) → (r ≡ Ok (Some p)) ↔ ((s.rows ≤ length s.table) × Crosses m cs b p)
