-- The rows of a file, by their numbers.
use Rattle.std.proofs.Common.{◌≡◌, ℕ, zero, suc, ◌+◌, ◌-◌, ◌*◌, ◌/◌, ◌<◌, ◌≤◌, Bool, true, eqb, leb, ◌&&◌, List, ◌∷◌, length, get_or, take, drop, map, Bor, Some, None, Option, IsSomeAnd, IfSome, MatchOption, Ok, Err, sym, refl, ap, ◌∙◌, arith}
use Rattle.std.specs.Option.{ok_or}
use Rattle.std.specs.Simd.{first_chunks}
use Rattle.std.proofs.lemmas.List.{drop-drop, drop-take, get_or-map, take-take}
use Rattle.std.proofs.lemmas.Bool.{and_parts, cond-true, cond-false, le-leb, lt-leb, eqb-true}
use Rattle.indexfile.specs.declared.row.Row.{Row}
use Rattle.indexfile.specs.declared.refusal.ReadRefusal.TheVariants.{RowNotHeld}
use Rattle.indexfile.specs.Reading.{reached_row}
use Rattle.indexfile.specs.Numbers.{little, number}
use Rattle.indexfile.specs.Files.{row_of, row_in, rows_of, rows_in, sound_rows, shaped, sound_file}

length-rows-of : (m : ℕ) (bs : List ℕ) → length (rows_of m bs) ≡ m
length-rows-of zero bs = refl
length-rows-of (suc m) bs = ap suc (length-rows-of m (drop 20 bs))

-- a file has as many rows as it counts
pub counted : (bs : List ℕ) → length (rows_in bs) ≡ number bs 0 4
counted bs = length-rows-of (number bs 0 4) (drop 16 bs)

at_rows : (m n : ℕ) (bs : List ℕ) (d : Row) → n < m → get_or (rows_of m bs) n d ≡ row_of (drop (20 * n) bs)
at_rows zero n bs d h = absurd (omega arith)
at_rows (suc m) zero bs d h = refl
at_rows (suc m) (suc n) bs d h =
    let l : n < m = omega arith in
    let e : 20 + 20 * n ≡ 20 * suc n = omega arith in
    at_rows m n (drop 20 bs) d l ∙ ap row_of (drop-drop (20 * n) 20 bs) ∙ ap (λ k. row_of (drop k bs)) e

pub row_in_lem : (bs : List ℕ) (n : ℕ) (d : Row) → n < number bs 0 4 → get_or (rows_in bs) n d ≡ row_in bs n
row_in_lem bs n d h = at_rows (number bs 0 4) n (drop 16 bs) d h ∙ ap row_of (drop-drop (20 * n) 16 bs)

number_front : (xs : List ℕ) (at n : ℕ) → at + n ≤ 20 → number (take 20 xs) at n ≡ number xs at n
number_front xs at n h =
    let e : 20 ≡ at + (20 - at) = omega arith in
    ap (λ k. little (take n (drop at (take k xs)))) e ∙ ap (λ ys. little (take n ys)) (drop-take at (20 - at) xs) ∙ ap little (take-take n (20 - at) (drop at xs) (omega arith))

row_front : (xs : List ℕ) → row_of (take 20 xs) ≡ row_of xs
row_front xs = λ i. record {
  place = number_front xs 0 4 (omega arith) i;
  length = number_front xs 4 4 (omega arith) i;
  tag = number_front xs 8 4 (omega arith) i;
  source_type = number_front xs 12 2 (omega arith) i;
  source_id = number_front xs 14 2 (omega arith) i;
  time = number_front xs 16 4 (omega arith) i;
}

-- rows that are read from pieces of 20 bytes
pub rows_in_pieces : (k : ℕ) (bs : List ℕ) → map row_of (first_chunks 20 k bs) ≡ rows_of k bs
rows_in_pieces zero bs = refl
rows_in_pieces (suc k) bs = λ i. row_front bs i ∷ rows_in_pieces k (drop 20 bs) i

-- the pieces behind a header
abbrev pub pieces : List ℕ → List (List ℕ)
pieces bs = first_chunks 20 ((length bs - 16) / 20) (drop 16 bs)

pub sound_in_pieces : (bs : List ℕ) (r : Bool) → true ≡ shaped bs → r ≡ sound_rows (number bs 8 4) (number bs 12 4) (map row_of (pieces bs)) → r ≡ sound_file bs
sound_in_pieces bs r s e =
    let long : length bs ≡ 16 + 20 * number bs 0 4 =
    eqb-true _ _ (and_parts (leb (number bs 0 4) 65536) _ (and_parts (eqb (number bs 4 4) 16) _ (and_parts (leb 16 (length bs)) _ (sym s)).1).1).1 in
    let k : (length bs - 16) / 20 ≡ number bs 0 4 = omega arith in
    e ∙ ap (sound_rows (number bs 8 4) (number bs 12 4)) (rows_in_pieces ((length bs - 16) / 20) (drop 16 bs) ∙ ap (λ n. rows_of n (drop 16 bs)) k) ∙ ap (λ b. b && sound_rows (number bs 8 4) (number bs 12 4) (rows_in bs)) s

length_first : (k : ℕ) (xs : List ℕ) → length (first_chunks 20 k xs) ≡ k
length_first zero xs = refl
length_first (suc k) xs = ap suc (length_first k (drop 20 xs))

row_found : (bs : List ℕ) (n : ℕ) (ps : List (List ℕ)) (p : List ℕ) (x : Row) → ps ≡ pieces bs → n < length ps → p ≡ get_or ps n p → x ≡ row_of p → Ok x ≡ reached_row bs n
row_found bs n ps p x e h q r =
    let k = (length bs - 16) / 20 in
    let l : length ps ≡ k = ap length e ∙ length_first k (drop 16 bs) in
    let found : row_of (get_or (pieces bs) n p) ≡ row_in bs n =
    sym (get_or-map row_of (pieces bs) n p (row_of p) (omega (arith, ap length e))) ∙ ap (λ xs. get_or xs n (row_of p)) (rows_in_pieces k (drop 16 bs)) ∙ at_rows k n (drop 16 bs) (row_of p) (omega arith) ∙ ap row_of (drop-drop (20 * n) 16 bs) in
    ap Ok (r ∙ ap row_of (q ∙ ap (λ xs. get_or xs n p) e) ∙ found) ∙ sym (cond-true _ _ _ (le-leb (36 + 20 * n) (length bs) (omega arith)))

row_past : (bs : List ℕ) (n : ℕ) (ps : List (List ℕ)) → ps ≡ pieces bs → length ps ≤ n → Err RowNotHeld ≡ reached_row bs n
row_past bs n ps e h =
    let l : length ps ≡ (length bs - 16) / 20 = ap length e ∙ length_first ((length bs - 16) / 20) (drop 16 bs) in
    sym (cond-false _ _ _ (lt-leb (36 + 20 * n) (length bs) (omega arith)))

-- a piece that was looked up, and the row that was read of it
module _ (bs : List ℕ) (n : ℕ) (ps : List (List ℕ)) (e : ps ≡ pieces bs) {Read : Bor (List ℕ) → Row → Type 0} (reads : (p : Bor (List ℕ)) (x : Row) → Read p x → x ≡ row_of p.now) where
  found : (p : Bor (List ℕ)) (r : Option Row) → n < length ps → p.now ≡ get_or ps n p.now → IsSomeAnd r (Read p) → ok_or r RowNotHeld ≡ reached_row bs n
  found p None h q x = absurd x
  found p (Some x) h q d = row_found bs n ps p.now x e h q (reads p x d)

  pub row_read : (Held : Bor (List ℕ) → Type 0) (g : Option (Bor (List ℕ))) (r : Option Row) → MatchOption g (length ps ≤ n) (λ p. (n < length ps) × Held p) → IfSome g (λ p. p.now ≡ get_or ps n p.now) → MatchOption g (r ≡ None) (λ p. IsSomeAnd r (Read p)) → ok_or r RowNotHeld ≡ reached_row bs n
  row_read Held None r h q d = ap (λ o. ok_or o RowNotHeld) d ∙ row_past bs n ps e h
  row_read Held (Some p) r h q d = found p r h.0 q d
