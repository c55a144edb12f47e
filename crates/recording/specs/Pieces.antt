-- A recording in pieces: rows that each name a run of an image.
use Rattle.std.specs.Prelude.{◌≡◌, ℕ, zero, suc, ◌+◌, ◌*◌, ◌<◌, ◌≤◌, cond, List, [], ◌∷◌, length, take, Some, None, Ok, Err, Option, Result, nat_le, nat_lt, refl}
use Rattle.std.proofs.Common.{ap, arith, length-take, length-append}
use Rattle.std.specs.List.{flat_map}
use Rattle.std.specs.Result.{result_and}
use Rattle.std.proofs.lemmas.Bool.{cond_both, leb-true}
use Rattle.recording.specs.declared.Cell.{Cell}
use Rattle.recording.specs.declared.Cell.TheVariants.{Byte, Lost}
use Rattle.recording.specs.declared.extents.Extent.{Extent}
use Rattle.recording.specs.Cells.{cell_at}
use Rattle.recording.specs.declared.extents.BadExtent.{BadExtent}
use Rattle.recording.specs.declared.extents.BadExtent.TheVariants.{TooLong, TooMany}

-- the cell at a place of an image: lost outside of it
abbrev pub cell_in : List ℕ → ℕ → Cell
cell_in [] place = Lost
cell_in (b ∷ bs) zero = Byte b
cell_in (b ∷ bs) (suc place) = cell_in bs place

-- the count cells of an image from a place on
abbrev pub run : List ℕ → ℕ → ℕ → List Cell
run image place zero = []
run image place (suc count) = cell_in image place ∷ run image (suc place) count

-- how many cells a row adds: one that is too long adds none
abbrev pub added : Extent → ℕ
added e = cond (nat_le e.length 33554431) e.length 0

-- the cells that a row adds
abbrev pub piece : List ℕ → Extent → List Cell
piece image e = run image e.place (added e)

-- the cells of the first sixty-four rows, in order
abbrev pub pieces : List ℕ → List Extent → List Cell
pieces image rows = flat_map (piece image) (take 64 rows)

-- a row that adds the cell at a place, as its cell of this number, and the cells that follow in the row; or no row does
abbrev pub Located : List ℕ → List Extent → ℕ → Option (Extent × ℕ) → Type 0
Located image rows at None = cell_at (flat_map (piece image) rows) at ≡ Err (record {})
Located image rows at (Some x) =
    (x.1 < added x.0) × ((k : ℕ) → x.1 + k < added x.0 → cell_at (flat_map (piece image) rows) (at + k) ≡ Ok (cell_in image (x.0.place + (x.1 + k))))

-- what is said of a row of this number
abbrev pub judged : ℕ → Extent → Result (Unit {0}) BadExtent
judged row e = cond (nat_le 64 row) (Err (TooMany row)) (cond (nat_lt 33554431 e.length) (Err (TooLong row)) (Ok tt))

-- what is said of the first row that adds no cells, of rows that are numbered from i on
abbrev pub first_bad : ℕ → List Extent → Result (Unit {0}) BadExtent
first_bad i [] = Ok tt
first_bad i (e ∷ es) = result_and (judged i e) (first_bad (i + 1) es)

pub length_run : (image : List ℕ) (place count : ℕ) → length (run image place count) ≡ count
length_run image place zero = refl
length_run image place (suc count) = ap suc (length_run image (suc place) count)

added_bounded : (e : Extent) → added e ≤ 33554431
added_bounded e = cond_both (nat_le e.length 33554431) e.length 0 (λ n. n ≤ 33554431) (λ t. leb-true e.length 33554431 t) (λ t. omega arith)

joined_bounded : (image : List ℕ) (rows : List Extent) → length (flat_map (piece image) rows) ≤ 33554431 * length rows
joined_bounded image [] = omega arith
joined_bounded image (e ∷ es) =
    omega (arith, length-append (piece image e) (flat_map (piece image) es), length_run image e.place (added e), added_bounded e, joined_bounded image es)

pub pieces_bounded : (image : List ℕ) (rows : List Extent) → length (pieces image rows) ≤ 2147483647
pieces_bounded image rows = omega (arith, joined_bounded image (take 64 rows), length-take 64 rows)
