-- Rows that were found in order one by one.
use Rattle.std.proofs.Common.{◌≡◌, ℕ, ◌+◌, ◌<◌, ◌≤◌, Bool, true, false, ◌&&◌, eqb, ltb, leb, List, [], ◌∷◌, length, get_or, drop, Option, sym, refl, ap, ◌∙◌, arith}
use Rattle.std.specs.Iterator.{AlwaysYields}
use Rattle.std.proofs.lemmas.Iterator.{YieldsList}
use Rattle.std.proofs.lemmas.List.{drop_more, drop_all}
use Rattle.std.proofs.lemmas.Bool.{and_parts, and_left, leb-true}
use Rattle.indexfile.specs.declared.row.Row.{Row}
use Rattle.indexfile.specs.Files.{lengths, in_order, sound_rows}

-- what is said of all that an iterator gives, at the list that it gives
pub sound_from : {S : Type 0} {steps : S → Option Row → S → Type 0} {s : S} {r : Bool} {rows : List Row} (f : List Row → Bool) → ((all : List Row) → AlwaysYields steps (λ x. x) s all → r ≡ f all) → YieldsList steps (λ x. x) s rows → r ≡ f rows
sound_from f e y = e _ y.runs

-- a row behind an end, and by a place
abbrev pub following : ℕ → ℕ → Row → Bool
following place end x = ltb 0 x.length && (leb end x.place && leb (x.place + x.length) place)

-- n rows are in order, end there and have that length
pub record Sofar (place : ℕ) (rows : List Row) (n end sum : ℕ) : Type 0 where
  pub left : in_order place end (drop n rows) ≡ in_order place 0 rows
  pub rest : sum + lengths (drop n rows) ≡ lengths rows

pub behind : (place end : ℕ) (x : Row) → true ≡ following place end x → (end ≤ x.place) × (x.place + x.length ≤ place)
behind place end x t =
    let p = and_parts (leb end x.place) (leb (x.place + x.length) place) (and_parts (ltb 0 x.length) _ (sym t)).1 in
    (leb-true _ _ p.0, leb-true _ _ p.1)

and_four : (a b c d : Bool) → (a && (b && (c && d))) ≡ ((a && (b && c)) && d)
and_four false b c d = refl
and_four true false c d = refl
and_four true true c d = refl

module _ (place skipped : ℕ) (rows : List Row) (n end sum : ℕ) (s : Sofar place rows n end sum) where
  pub sofar_all : length rows ≤ n → eqb place (skipped + sum) ≡ sound_rows place skipped rows
  sofar_all h =
      let e : drop n rows ≡ [] = drop_all n rows h in
      let o : true ≡ in_order place 0 rows = sym (ap (in_order place end) e) ∙ s.left in
      let l : sum + 0 ≡ lengths rows = sym (ap (λ xs. sum + lengths xs) e) ∙ s.rest in
      let k : sum ≡ lengths rows = omega arith in
      ap (λ m. eqb place (skipped + m)) k ∙ ap (λ b. b && eqb place (skipped + lengths rows)) o

  module _ (x : Row) (h : n < length rows) (e : x ≡ get_or rows n x) where
    next : drop n rows ≡ x ∷ drop (n + 1) rows
    next = drop_more rows n x h ∙ ap (λ y. y ∷ drop (n + 1) rows) (sym e)

    split : (following place end x && in_order place (x.place + x.length) (drop (n + 1) rows)) ≡ in_order place 0 rows
    split =
        sym (and_four (ltb 0 x.length) (leb end x.place) (leb (x.place + x.length) place) (in_order place (x.place + x.length) (drop (n + 1) rows))) ∙ sym (ap (in_order place end) next) ∙ s.left

    pub out_of_order : false ≡ following place end x → false ≡ sound_rows place skipped rows
    out_of_order f =
        sym (and_left (in_order place 0 rows) _ (sym split ∙ and_left (following place end x) _ (sym f)))

    pub one_more : true ≡ following place end x → Sofar place rows (n + 1) (x.place + x.length) (sum + x.length)
    one_more t =
        let l : sum + (x.length + lengths (drop (n + 1) rows)) ≡ lengths rows = sym (ap (λ xs. sum + lengths xs) next) ∙ s.rest in
        record { left = ap (λ c. c && in_order place (x.place + x.length) (drop (n + 1) rows)) t ∙ split; rest = omega arith }
