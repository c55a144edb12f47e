-- Reads of a store at a place, told by the run of bytes at an earlier place.
use Rattle.std.proofs.Common.{◌≡◌, ℕ, zero, suc, ◌+◌, ◌*◌, ◌<◌, ◌≤◌, true, false, cond, leb, nat_eq, List, [], ◌∷◌, length, get_or, drop, is_some, Some, None, Ok, Err, Option, Result, sym, refl, ap, ◌∙◌, ⊎_elim, le_of_suc-le-suc, not-suc-le-zero, add-zero, mod-eq_of_lt, arith, length-drop, get_or-drop, drop-drop}
use Rattle.recording.specs.declared.Cell.{Cell}
use Rattle.recording.specs.declared.Cell.TheVariants.{Byte, Lost}
use Rattle.recording.specs.declared.PastEnd.{PastEnd}
use Rattle.std.specs.Option.{option_and_then, option_eq}
use Rattle.std.specs.Result.{result_ok}
use Rattle.recording.specs.Cells.{byte_held, cell_at, is_byte, whole_from, Stand}
use Rattle.records.specs.Grammars.{bytes_of, bytes_from, held, first, first_two}
use Rattle.records.specs.GrammarLaws.{bytes_within}
use Rattle.std.proofs.lemmas.Bool.{le-leb, lt-leb, cases_lt, eqb-true, false≢true}
use Rattle.records.specs.Tuples.{pair_at}

pub first_cell : (cs : List Cell) (p : ℕ) → first (bytes_from cs p) ≡ held (cell_at cs p)
first_cell [] zero = refl
first_cell [] (suc p) = refl
first_cell (Byte b ∷ cs) zero = refl
first_cell (Lost ∷ cs) zero = refl
first_cell (Byte b ∷ cs) (suc p) = first_cell cs p
first_cell (Lost ∷ cs) (suc p) = first_cell cs p

-- the byte of a cell that is there
pub held_is : (r : Result Cell PastEnd) → option_and_then byte_held (result_ok r) ≡ held r
held_is (Ok (Byte b)) = refl
held_is (Ok Lost) = refl
held_is (Err e) = refl

-- what is equal to a number that is there
pub same_some : (o : Option ℕ) (n : ℕ) → option_eq nat_eq o (Some n) ≡ true → o ≡ Some n
same_some None n e = absurd (false≢true e)
same_some (Some b) n e = ap Some (eqb-true b n e)

drop_bytes : (k : ℕ) (cs : List Cell) → k ≤ length (bytes_of cs) → bytes_of (drop k cs) ≡ drop k (bytes_of cs)
drop_bytes zero cs h = refl
drop_bytes (suc k) [] h = refl
drop_bytes (suc k) (Byte b ∷ cs) h = drop_bytes k cs (le_of_suc-le-suc h)
drop_bytes (suc k) (Lost ∷ cs) h = absurd (not-suc-le-zero h)

pub some_first : (bs : List ℕ) (b : ℕ) → first bs ≡ Some b → (1 ≤ length bs) × (get_or bs 0 0 ≡ b)
some_first [] b e = let z : ◌≡◌ {A = ℕ} 0 1 = cc in absurd (omega arith)
some_first (a ∷ bs) b e = (omega arith, cc)

first_some : (bs : List ℕ) → 1 ≤ length bs → first bs ≡ Some (get_or bs 0 0)
first_some [] h = absurd (not-suc-le-zero h)
first_some (a ∷ bs) h = refl

pub none_first : (bs : List ℕ) → first bs ≡ None → length bs ≡ 0
none_first [] e = refl
none_first (a ∷ bs) e = let z : ◌≡◌ {A = ℕ} 0 1 = cc in absurd (omega arith)

some_two : (bs : List ℕ) (v : ℕ) → first_two bs ≡ Some v → (2 ≤ length bs) × (pair_at bs 0 ≡ v)
some_two [] v e = let z : ◌≡◌ {A = ℕ} 0 1 = cc in absurd (omega arith)
some_two (a ∷ []) v e = let z : ◌≡◌ {A = ℕ} 0 1 = cc in absurd (omega arith)
some_two (a ∷ b ∷ bs) v e = (omega arith, cc)

two_some : (bs : List ℕ) → 2 ≤ length bs → first_two bs ≡ Some (pair_at bs 0)
two_some [] h = absurd (not-suc-le-zero h)
two_some (a ∷ []) h = absurd (not-suc-le-zero (le_of_suc-le-suc h))
two_some (a ∷ b ∷ bs) h = refl

pair_drop : (bs : List ℕ) (k : ℕ) → pair_at (drop k bs) 0 ≡ pair_at bs k
pair_drop bs k = λ j. (get_or-drop k bs 0 0 ∙ ap (λ i. get_or bs i 0) (add-zero k)) j + 256 * get_or-drop k bs 1 0 j

-- a byte at a place is of the recording
pub within : (cs : List Cell) (p b : ℕ) → first (bytes_from cs p) ≡ Some b → p < length cs
within cs p b e = omega (arith, (some_first (bytes_from cs p) b e).0, bytes_within (drop p cs), length-drop p cs)

-- the place q is k bytes or less past p
module _ (cs : List Cell) (p q k : ℕ) (past : q ≡ p + k) where
  pub later : k ≤ length (bytes_from cs p) → bytes_from cs q ≡ drop k (bytes_from cs p)
  later h = ap (bytes_from cs) past ∙ ap bytes_of (sym (drop-drop k p cs)) ∙ drop_bytes k (drop p cs) h

  pub byte_in_lem : k + 1 ≤ length (bytes_from cs p) → first (bytes_from cs q) ≡ Some (get_or (bytes_from cs p) k 0)
  byte_in_lem h =
      ap first (later (omega arith)) ∙ first_some (drop k (bytes_from cs p)) (omega (arith, length-drop k (bytes_from cs p)))
      ∙ ap Some (get_or-drop k (bytes_from cs p) 0 0 ∙ ap (λ i. get_or (bytes_from cs p) i 0) (add-zero k))

  pub byte_next : (b : ℕ) → k ≤ length (bytes_from cs p) → first (bytes_from cs q) ≡ Some b → (k + 1 ≤ length (bytes_from cs p)) × (get_or (bytes_from cs p) k 0 ≡ b)
  byte_next b h e =
      let more = some_first (drop k (bytes_from cs p)) b (ap first (sym (later h)) ∙ e) in
      let long : k + 1 ≤ length (bytes_from cs p) = omega (arith, more.0, length-drop k (bytes_from cs p)) in
      let in_place = byte_in_lem long in
      (long, cc)

  pub byte_end : k ≤ length (bytes_from cs p) → first (bytes_from cs q) ≡ None → length (bytes_from cs p) ≡ k
  byte_end h e = omega (arith, none_first (drop k (bytes_from cs p)) (ap first (sym (later h)) ∙ e), length-drop k (bytes_from cs p))

  pub pair_in : k + 2 ≤ length (bytes_from cs p) → first_two (bytes_from cs q) ≡ Some (pair_at (bytes_from cs p) k)
  pair_in h =
      ap first_two (later (omega arith)) ∙ two_some (drop k (bytes_from cs p)) (omega (arith, length-drop k (bytes_from cs p))) ∙ ap Some (pair_drop (bytes_from cs p) k)

  pub pair_next : (v : ℕ) → k ≤ length (bytes_from cs p) → first_two (bytes_from cs q) ≡ Some v → (k + 2 ≤ length (bytes_from cs p)) × (pair_at (bytes_from cs p) k ≡ v)
  pair_next v h e =
      let more = some_two (drop k (bytes_from cs p)) v (ap first_two (sym (later h)) ∙ e) in
      let long : k + 2 ≤ length (bytes_from cs p) = omega (arith, more.0, length-drop k (bytes_from cs p)) in
      let in_place = pair_in long in
      (long, cc)

one_alone : (bs : List ℕ) → length bs ≡ 1 → first_two bs ≡ None
one_alone [] h = refl
one_alone (a ∷ []) h = refl
one_alone (a ∷ b ∷ bs) h = absurd (omega arith)

module _ (cs : List Cell) (p a : ℕ) (low : first (bytes_from cs p) ≡ Some a) where
  pub no_pair : first (bytes_from cs (p + 1)) ≡ None → first_two (bytes_from cs p) ≡ None
  no_pair e = one_alone (bytes_from cs p) (byte_end cs p (p + 1) 1 refl (some_first (bytes_from cs p) a low).0 e)

  pub the_pair : (b : ℕ) → first (bytes_from cs (p + 1)) ≡ Some b → first_two (bytes_from cs p) ≡ Some (a + 256 * b)
  the_pair b e =
      let front = some_first (bytes_from cs p) a low in
      let next = byte_next cs p (p + 1) 1 refl b front.0 e in
      two_some (bytes_from cs p) (omega (arith, next.0)) ∙ ap Some (λ j. front.1 j + 256 * next.1 j)

-- the run at a place, by its first byte
cons_first : (bs : List ℕ) (b : ℕ) → first bs ≡ Some b → bs ≡ b ∷ drop 1 bs
cons_first [] b e = let z : ◌≡◌ {A = ℕ} 0 1 = cc in absurd (omega arith)
cons_first (a ∷ bs) b e = let same : a ≡ b = cc in ap (λ x. x ∷ bs) same

pub run_empty : (bs : List ℕ) → first bs ≡ None → bs ≡ []
run_empty [] e = refl
run_empty (a ∷ bs) e = let z : ◌≡◌ {A = ℕ} 0 1 = cc in absurd (omega arith)

pub run_first : (cs : List Cell) (q b : ℕ) → first (bytes_from cs q) ≡ Some b → bytes_from cs q ≡ b ∷ bytes_from cs (q + 1)
run_first cs q b e = cons_first (bytes_from cs q) b e ∙ ap (λ bs. b ∷ bs) (sym (later cs q (q + 1) 1 refl (some_first (bytes_from cs q) b e).0))

-- whether a run of cells is whole, told by the run of bytes
is_byte_lem : (c : Result Cell PastEnd) → is_byte c ≡ is_some (held c)
is_byte_lem (Ok (Byte b)) = refl
is_byte_lem (Ok Lost) = refl
is_byte_lem (Err e) = refl

leb-suc : (m n : ℕ) → leb m n ≡ leb (suc m) (suc n)
leb-suc m n = ⊎_elim (λ lt. lt-leb m n lt ∙ sym (lt-leb (suc m) (suc n) (omega arith))) (λ le. le-leb m n le ∙ sym (le-leb (suc m) (suc n) (omega arith))) (cases_lt n m)

pub whole_run : (n : ℕ) (cs : List Cell) (p : ℕ) → whole_from cs p n ≡ leb n (length (bytes_from cs p))
unfolding whole_from
whole_run zero cs p = sym (le-leb 0 (length (bytes_from cs p)) (omega arith))
whole_run (suc n) cs p = go (first (bytes_from cs p)) refl (is_byte_lem (cell_at cs p) ∙ ap is_some (sym (first_cell cs p))) (whole_run n cs (suc p))
  where
    go : (o : Option ℕ) → first (bytes_from cs p) ≡ o → is_byte (cell_at cs p) ≡ is_some (first (bytes_from cs p)) → whole_from cs (suc p) n ≡ leb n (length (bytes_from cs (suc p)))
        → cond (is_byte (cell_at cs p)) (whole_from cs (suc p) n) false ≡ leb (suc n) (length (bytes_from cs p))
    go None e b more =
        (λ j. cond ((b ∙ ap is_some e) j) (whole_from cs (suc p) n) false) ∙ sym (lt-leb (suc n) (length (bytes_from cs p)) (omega (arith, none_first (bytes_from cs p) e)))
    go (Some x) e b more =
        let next : p + 1 ≡ suc p = omega arith in
        let long : length (bytes_from cs p) ≡ suc (length (bytes_from cs (suc p))) = ap length (run_first cs p x e) ∙ ap (λ q. suc (length (bytes_from cs q))) next in
        (λ j. cond ((b ∙ ap is_some e) j) (more j) false) ∙ leb-suc n (length (bytes_from cs (suc p))) ∙ sym (ap (leb (suc n)) long)

-- bytes that stand in a recording, and the run there
module _ (cs : List Cell) (p : ℕ) (bs : List ℕ) (stand : Stand cs p bs) (bytes : (k : ℕ) → get_or bs k 0 < 256) where
  pub stand_byte : (k : ℕ) → k < length bs → first (bytes_from cs (p + k)) ≡ Some (get_or bs k 0)
  stand_byte k h = first_cell cs (p + k) ∙ ap held (stand k h) ∙ ap Some (mod-eq_of_lt (bytes k))
