-- Rows that are written one behind the other.
use Rattle.std.proofs.Common.{◌≡◌, ℕ, ◌+◌, ◌-◌, ◌*◌, ◌<◌, ◌≤◌, List, [], ◌∷◌, ◌++◌, length, get_or, take, drop, sym, refl, ap, ◌∙◌, add-zero, arith}
use Rattle.std.specs.List.{flat_map}
use Rattle.std.proofs.lemmas.List.{at_drop_more, at_drop_all, take-append-drop, length-drop}
use Rattle.indexfile.specs.declared.row.Row.{Row}
use Rattle.indexfile.specs.Numbers.{set_at}
use Rattle.indexfile.specs.Files.{row_bytes, head_bytes, file_of}
use Rattle.indexfile.specs.Written.{no_row}
use Rattle.indexfile.proofs.Bytes.{set_on}

pub length-rows : (rows : List Row) → length (flat_map row_bytes rows) ≡ 20 * length rows
length-rows [] = refl
length-rows (x ∷ rows) = omega (arith, length-rows rows)

pub length-file : (place skipped : ℕ) (rows : List Row) → length (file_of place skipped rows) ≡ 16 + 20 * length rows
unfolding file_of
length-file place skipped rows = omega (arith, length-rows rows)

set_none : (bs : List ℕ) (at : ℕ) → set_at bs at [] ≡ bs
set_none bs at = ap (λ n. take at bs ++ drop n bs) (add-zero at) ∙ take-append-drop at bs

-- the rows that are left, after one more and after all
pub rows_more : (rows : List Row) (n : ℕ) (bs cs : List ℕ) → n < length rows → 16 + 20 * length rows ≤ length bs → cs ≡ set_at bs (16 + 20 * n) (row_bytes (get_or rows n no_row)) → set_at cs (16 + 20 * (n + 1)) (flat_map row_bytes (drop (n + 1) rows)) ≡ set_at bs (16 + 20 * n) (flat_map row_bytes (drop n rows))
rows_more rows n bs cs h room e =
    let x = get_or rows n no_row in
    let rest = flat_map row_bytes (drop (n + 1) rows) in
    let l : length rest ≡ 20 * (length rows - (n + 1)) = length-rows (drop (n + 1) rows) ∙ ap (λ k. 20 * k) (length-drop (n + 1) rows) in
    ap (λ ds. set_at ds (16 + 20 * (n + 1)) rest) e ∙ set_on bs (16 + 20 * n) (16 + 20 * (n + 1)) (row_bytes x) rest (omega arith) (omega arith) ∙ sym (ap (set_at bs (16 + 20 * n)) (at_drop_more (flat_map row_bytes) rows n no_row h))

pub rows_all : (place skipped : ℕ) (rows : List Row) (n : ℕ) (bs cs ds : List ℕ) → length rows ≤ n → 16 + 20 * length rows ≤ length bs → cs ≡ set_at bs 0 (head_bytes (length rows) place skipped) → set_at ds (16 + 20 * n) (flat_map row_bytes (drop n rows)) ≡ set_at cs 16 (flat_map row_bytes rows) → ds ≡ file_of place skipped rows ++ drop (16 + 20 * length rows) bs
unfolding file_of
rows_all place skipped rows n bs cs ds h room e f =
    let body = flat_map row_bytes rows in
    let l : length body ≡ 20 * length rows = length-rows rows in
    let done : set_at ds (16 + 20 * n) (flat_map row_bytes (drop n rows)) ≡ ds = ap (set_at ds (16 + 20 * n)) (at_drop_all (flat_map row_bytes) rows n h) ∙ set_none ds (16 + 20 * n) in
    sym done ∙ f ∙ ap (λ xs. set_at xs 16 body) e ∙ set_on bs 0 16 (head_bytes (length rows) place skipped) body refl (omega arith) ∙ ap (λ k. head_bytes (length rows) place skipped ++ (body ++ drop k bs)) (omega arith)
