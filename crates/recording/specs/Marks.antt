-- A recording of which stretches are lost.
use Rattle.std.specs.Prelude.{◌≡◌, ℕ, suc, ◌+◌, ◌≤◌, min, max, Bool, cond, ◌&&◌, List, [], ◌∷◌, ◌++◌, length, Ok, Err, Result, ◌==◌, nat_le, nat_lt, refl}
use Rattle.std.specs.List.{list_any}
use Rattle.std.proofs.Common.{ap, arith}
use Rattle.recording.specs.declared.Cell.{Cell}
use Rattle.recording.specs.declared.Cell.TheVariants.{Lost}
use Rattle.recording.specs.declared.PastEnd.{PastEnd}
use Rattle.recording.specs.declared.stretches.Stretch.{Stretch}
use Rattle.recording.specs.declared.stretches.Stretches.{Stretches}
use Rattle.recording.specs.declared.stretches.MarkRefusal.{MarkRefusal}
use Rattle.recording.specs.declared.stretches.MarkRefusal.TheVariants as mark

-- whether a place lies in a stretch
abbrev pub holds : Stretch → ℕ → Bool
holds s place = nat_le s.first place && nat_lt place (s.first + s.count)

-- whether a stretch and the count places from a place on have a place in common
abbrev pub meets : Stretch → ℕ → ℕ → Bool
meets s at count = nat_lt (max at s.first) (min (at + count) (s.first + s.count))

-- whether a place lies in one of the stretches
abbrev pub lost_at : List Stretch → ℕ → Bool
lost_at ss place = list_any (λ s. holds s place) ss

-- cells that begin at a place, lost inside the stretches
abbrev pub losing : List Stretch → ℕ → List Cell → List Cell
losing ss place [] = []
losing ss place (c ∷ cs) = cond (lost_at ss place) Lost c ∷ losing ss (suc place) cs

-- the recording without what lies in the stretches
abbrev pub without : List Stretch → List Cell → List Cell
without ss cs = losing ss 0 cs

-- a cell that is lost, if there is one
abbrev pub lose : Result Cell PastEnd → Result Cell PastEnd
lose (Ok c) = Ok Lost
lose (Err e) = Err e

-- the stretches that are marked
abbrev pub marks : {S : Type 0} → Stretches S → List Stretch
marks s = s.rows.items

-- what mark answers and the stretches marked then, of a recording of so many cells and the stretches marked before
abbrev pub marking : ℕ → List Stretch → Stretch → Result (Unit {0}) MarkRefusal × List Stretch
marking cells ss s =
    cond (s.count == 0) (Err mark.Empty, ss)
    (cond (nat_lt cells (s.first + s.count)) (Err mark.PastEnd, ss)
    (cond (nat_lt (length ss) 64) (Ok tt, ss ++ s ∷ []) (Err mark.Full, ss)))

pub length-losing : (ss : List Stretch) (place : ℕ) (cs : List Cell) → length (losing ss place cs) ≡ length cs
length-losing ss place [] = refl
length-losing ss place (c ∷ cs) = ap suc (length-losing ss (suc place) cs)

pub without_bounded : (ss : List Stretch) (cs : List Cell) → length cs ≤ 2147483647 → length (without ss cs) ≤ 2147483647
without_bounded ss cs h = omega (arith, length-losing ss 0 cs)
