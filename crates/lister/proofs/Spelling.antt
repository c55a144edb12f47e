-- Facts on words.
use Rattle.std.specs.Cmp.Lexicographic.{pointwise}
use Rattle.std.proofs.Common.{nat_eq, zero, suc, ◌≤◌, ◌≢◌, ◌≡◌, ℕ, ◌+◌, ◌-◌, ◌<◌, Bool, true, false, cond, ◌&&◌, eqb, List, [], ◌∷◌, ◌++◌, length, get_or, take, drop, Some, None, codes, Option, sym, refl, ap, ◌∙◌, le_of_suc-le-suc, not-suc-le-zero, arith, length-drop}
use Rattle.std.proofs.lemmas.List.{at_drop_more, take_more, take_all}
use Rattle.std.proofs.lemmas.Bool.{eq-eqb, ne_eqb}
use Rattle.std.specs.Option.{option_map, option_zip, MatchOption}
use Rattle.records.specs.Sentences.{begins}
use Rattle.lister.specs.Words.{with_digit, following, number_on, number_of, pair_on, extent_of, stretch_of, worded}

-- one digit further, or none
pub digit_more : (ds : List ℕ) (i n m : ℕ) → i < length ds → Some m ≡ with_digit n (get_or ds i 0) → number_on (drop (i + 1) ds) m ≡ number_on (drop i ds) n
digit_more ds i n m h e = ap (λ o. following o (λ k. number_on (drop (i + 1) ds) k)) e ∙ sym (at_drop_more (λ xs. number_on xs n) ds i 0 h)

pub digit_none : (ds : List ℕ) (i n : ℕ) → i < length ds → None ≡ with_digit n (get_or ds i 0) → None ≡ number_on (drop i ds) n
digit_none ds i n h e = ap (λ o. following o (λ k. number_on (drop (i + 1) ds) k)) e ∙ sym (at_drop_more (λ xs. number_on xs n) ds i 0 h)

pub some_digits : (ds : List ℕ) → false ≡ eqb (length ds) 0 → number_on ds 0 ≡ number_of ds
some_digits [] h = let z : ◌≡◌ {A = ℕ} 0 1 = cc in absurd (omega arith)
some_digits (d ∷ ds) h = refl

-- the rest of a text from a place on
pub rest : (bs : List ℕ) (k : ℕ) → take (length bs - k) (drop k bs) ≡ drop k bs
rest bs k = take_all (length bs - k) (drop k bs) (omega (arith, length-drop k bs))

-- one character further, or at the colon
pub pair_more : (bs : List ℕ) (i : ℕ) → i < length bs → (get_or bs i 0 ≡ 58 → ⊥) → pair_on (take (i + 1) bs) (drop (i + 1) bs) ≡ pair_on (take i bs) (drop i bs)
pair_more bs i h n =
    ap (λ front. pair_on front (drop (i + 1) bs)) (take_more bs i 0 h)
    ∙ sym (at_drop_more (pair_on (take i bs)) bs i 0 h ∙ ap (λ b. cond b (option_zip (number_of (take i bs)) (number_of (drop (i + 1) bs))) (pair_on (take i bs ++ get_or bs i 0 ∷ []) (drop (i + 1) bs))) (ne_eqb (get_or bs i 0) 58 n))

pub pair_here : (bs : List ℕ) (i : ℕ) → i < length bs → get_or bs i 0 ≡ 58 → option_zip (number_of (take i bs)) (number_of (drop (i + 1) bs)) ≡ pair_on (take i bs) (drop i bs)
pair_here bs i h e =
    sym (at_drop_more (pair_on (take i bs)) bs i 0 h ∙ ap (λ b. cond b (option_zip (number_of (take i bs)) (number_of (drop (i + 1) bs))) (pair_on (take i bs ++ get_or bs i 0 ∷ []) (drop (i + 1) bs))) (eq-eqb (get_or bs i 0) 58 e))

-- no colon stands before a place
pub pair_until : (bs : List ℕ) (i : ℕ) → i ≤ length bs → ((k : ℕ) → k < i → get_or bs k 0 ≢ 58) → pair_on (take i bs) (drop i bs) ≡ pair_on [] bs
pair_until bs zero h n = refl
pair_until bs (suc i) h n =
    let l : i < length bs = omega arith in
    let e : i + 1 ≡ suc i = omega arith in
    ap (λ k. pair_on (take k bs) (drop k bs)) (sym e) ∙ pair_more bs i l (n i (omega arith)) ∙ pair_until bs i (omega arith) (λ k m. n k (omega arith))

-- a front that stands before a text, as the library compares it
pub front_is : (xs bs : List ℕ) → pointwise nat_eq (take (length xs) bs) xs ≡ begins xs bs
front_is [] bs = refl
front_is (x ∷ xs) [] = refl
front_is (x ∷ xs) (b ∷ bs) = ap (λ r. nat_eq b x && r) (front_is xs bs)

pub behind_is : {R : Type 0} (now : R → List ℕ) (xs bs : List ℕ) (r : Option R) → MatchOption r (pointwise nat_eq (take (length xs) bs) xs ≡ false) (λ x. (pointwise nat_eq (take (length xs) bs) xs ≡ true) × (now x ≡ drop (length xs) bs) × (length (now x) + length xs ≡ length bs)) → option_map now r ≡ cond (begins xs bs) (Some (drop (length xs) bs)) None
behind_is now xs bs None h = ap (λ b. cond b (Some (drop (length xs) bs)) None) (sym h ∙ front_is xs bs)
behind_is now xs bs (Some x) h = ap Some h.1 ∙ ap (λ b. cond b (Some (drop (length xs) bs)) None) (sym h.0 ∙ front_is xs bs)
