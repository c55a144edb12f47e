-- Where a sentence stands, told by what was read.
use Rattle.std.proofs.Common.{◌≡◌, ℕ, zero, suc, ◌+◌, ◌<◌, ◌≤◌, Bool, true, false, cond, ◌&&◌, eqb, leb, List, [], ◌∷◌, length, get_or, take, drop, min, Some, None, sym, refl, ap, ◌∙◌, ⊎_elim, add-one, suc-le-suc, le_of_suc-le-suc, not-suc-le-zero, zero-le, arith, length-take, get_or-take, take-take}
use lib.Bits.{bit_xor}
use Rattle.std.proofs.lemmas.List.{drop_all}
use Rattle.std.proofs.lemmas.List.Sums.{prefix_len-le-length, prefix_len_passes, prefix_len_stops}
use Rattle.std.specs.List.{prefix_len}
use Rattle.std.proofs.lemmas.Bool.{cases_Bool, cond-false, cond-true, eqb-true, eq-eqb, ne_eqb, and_left, and_right, and_from, and_parts, le-leb, lt-leb, false≢true}
use Rattle.records.specs.Sentences.{name_char, text_char, all_text, is_text, before_star, xored, closing, begins, dollar, is_head, name_sum, tag_of, is_tail, tail_of, sentence_of, sentence}
use Rattle.records.specs.GrammarLaws.{some_cond}
use Rattle.records.proofs.TupleTests.{read_in}

and_true : (t : Bool) → (t && true) ≡ t
and_true true = refl
and_true false = refl

-- a text is of characters, a comma first
pub text_parts : (text : List ℕ) → (all_text text && is_text (take 1 text)) ≡ is_text text
text_parts [] = refl
text_parts (b ∷ bs) = ⊎_elim (λ e. comma (eqb-true b 44 e) e) (λ e. and_right (all_text (b ∷ bs)) _ (and_left _ true e) ∙ sym (and_left _ (all_text bs) e)) (cases_Bool (eqb b 44))
  where
    comma : b ≡ 44 → eqb b 44 ≡ true → (all_text (b ∷ bs) && (eqb b 44 && true)) ≡ (eqb b 44 && all_text bs)
    comma is e = (λ j. all_text (is j ∷ bs) && (eqb (is j) 44 && true)) ∙ and_true (all_text bs) ∙ sym (λ j. eqb (is j) 44 && all_text bs)

pub comma_kept : (n : ℕ) (rest : List ℕ) → is_text (take 1 rest) ≡ true → is_text (take 1 (take n rest)) ≡ true
comma_kept zero rest e = refl
comma_kept (suc n) [] e = refl
comma_kept (suc n) (b ∷ bs) e = e

-- with no star among the first m bytes, so many stand before the first
unstarred : (m : ℕ) (bs : List ℕ) → m ≤ length bs → ((k : ℕ) → k < m → get_or bs k 0 ≡ 42 → ⊥) → m ≤ length (before_star bs)
unstarred zero bs h none = zero-le
unstarred (suc m) [] h none = absurd (not-suc-le-zero h)
unstarred (suc m) (b ∷ bs) h none =
    let goes : before_star (b ∷ bs) ≡ b ∷ before_star bs = cond-false (eqb b 42) _ _ (ne_eqb b 42 (none 0 (omega arith))) in
    omega (arith, ap length goes, unstarred m bs (le_of_suc-le-suc h) (λ k l. none (suc k) (suc-le-suc l)))

-- the first star is at k
starred : (k : ℕ) (bs : List ℕ) → k < length bs → ((j : ℕ) → j < k → get_or bs j 0 ≡ 42 → ⊥) → get_or bs k 0 ≡ 42 → before_star bs ≡ take k bs
starred k [] h none e = absurd (not-suc-le-zero h)
starred zero (b ∷ bs) h none e = cond-true (eqb b 42) _ _ (eq-eqb b 42 e)
starred (suc k) (b ∷ bs) h none e =
    cond-false (eqb b 42) _ _ (ne_eqb b 42 (none 0 (omega arith))) ∙ ap (λ l. b ∷ l) (starred k bs (le_of_suc-le-suc h) (λ j l. none (suc j) (suc-le-suc l)) e)

both : (t u : Bool) (n : ℕ) → cond t (cond u (Some n) None) None ≡ cond (t && u) (Some n) None
both true u n = refl
both false u n = refl

none_cond : {A : Type 0} (t : Bool) (x : A) → cond t (Some x) None ≡ None → t ≡ false
none_cond false x e = refl
none_cond true x e = let z : ◌≡◌ {A = ℕ} 0 1 = cc in absurd (omega arith)

-- a byte that stands in no text, ahead of the first star
strays : (k : ℕ) (bs : List ℕ) → k < length bs → ((j : ℕ) → j < k → get_or bs j 0 ≡ 42 → ⊥) → (get_or bs k 0 ≡ 42 → ⊥) → text_char (get_or bs k 0) ≡ false → all_text (before_star bs) ≡ false
strays k [] h none ne e = absurd (not-suc-le-zero h)
strays zero (b ∷ bs) h none ne e = ap all_text (cond-false (eqb b 42) _ _ (ne_eqb b 42 ne)) ∙ and_left (text_char b) _ e
strays (suc k) (b ∷ bs) h none ne e =
    ap all_text (cond-false (eqb b 42) _ _ (ne_eqb b 42 (none 0 (omega arith))))
    ∙ and_right (text_char b) _ (strays k bs (le_of_suc-le-suc h) (λ j l. none (suc j) (suc-le-suc l)) ne e)

all_good : (n : ℕ) (bs : List ℕ) → n ≤ length bs → ((k : ℕ) → k < n → text_char (get_or bs k 0) ≡ true) → all_text (take n bs) ≡ true
all_good zero bs h good = refl
all_good (suc n) [] h good = refl
all_good (suc n) (b ∷ bs) h good = and_from _ _ (good 0 (omega arith)) (all_good n bs (le_of_suc-le-suc h) (λ k l. good (suc k) (suc-le-suc l)))

-- of the first m bytes, 80 or all, n at the front may stand in a text
module _ (sum m n : ℕ) (rest : List ℕ) (is : m ≡ min (length rest) 80) (len : n ≡ prefix_len text_char (take m rest)) where
  inside : n ≤ m
  inside = omega (arith, prefix_len-le-length text_char (take m rest), length-take m rest)

  good : (k : ℕ) → k < n → text_char (get_or rest k 0) ≡ true
  good k h = sym (ap text_char (get_or-take m rest k 0 (omega (arith, inside)))) ∙ prefix_len_passes text_char (take m rest) k 0 (omega arith)

  none : (k : ℕ) → k < n → get_or rest k 0 ≡ 42 → ⊥
  none k h e = false≢true (sym (ap text_char e) ∙ good k h)

  far : n ≤ length (before_star rest)
  far = unstarred n rest (omega (arith, inside)) none

  pub too_long : 71 < n → None ≡ tail_of sum rest
  too_long h = sym (cond-false _ _ _ (and_right (is_text (before_star rest)) _ (and_left _ _ (lt-leb (length (before_star rest) + 11) 82 (omega (arith, far))))))

  pub endless : length rest ≤ n → None ≡ tail_of sum rest
  endless h =
      let text = before_star rest in
      let past : begins (closing (xored sum text)) (drop (suc (length text)) rest) ≡ false = ap (begins (closing (xored sum text))) (drop_all (suc (length text)) rest (omega (arith, far))) in
      sym (cond-false _ _ _ (and_right (is_text text) _ (and_right (leb (length text + 11) 82) _ past)))

  module _ (near : n ≤ 71) (room : n < length rest) where
    pub starless : (get_or rest n 0 ≡ 42 → ⊥) → None ≡ tail_of sum rest
    starless ne =
        let bad : text_char (get_or rest n 0) ≡ false =
        sym (ap text_char (get_or-take m rest n 0 (omega arith))) ∙ ap (λ k. text_char (get_or (take m rest) k 0)) len ∙ prefix_len_stops text_char (take m rest) 0 (omega (arith, length-take m rest)) in
        let text = before_star rest in
        let no : is_text text ≡ false = sym (text_parts text) ∙ and_left (all_text text) _ (strays n rest room none ne bad) in
        sym (cond-false _ _ _ (and_left _ _ no))

    module _ (star : get_or rest n 0 ≡ 42) where
      by_comma : is_text (take n rest) ≡ is_text (take 1 (take n rest))
      by_comma = sym (text_parts (take n rest)) ∙ ap (λ t. t && is_text (take 1 (take n rest))) (all_good n rest (omega arith) good)

      by_text : cond (is_text (take n rest)) (cond (begins (closing (xored sum (take n rest))) (drop (n + 1) rest)) (Some (n + 11)) None) None ≡ tail_of sum rest
      by_text =
          let same = starred n rest room none star in
          let l : length (before_star rest) ≡ n = omega (arith, ap length same, length-take n rest) in
          let short : leb (n + 11) 82 ≡ true = le-leb _ _ (omega arith) in
          let next : n + 1 ≡ suc n = add-one n in
          both (is_text (take n rest)) (begins (closing (xored sum (take n rest))) (drop (n + 1) rest)) (n + 11)
          ∙ (λ j. cond (is_text (take n rest) && (sym short j && begins (closing (xored sum (take n rest))) (drop (next j) rest))) (Some (n + 11)) None)
          ∙ sym (λ j. cond (is_text (same j) && (leb (l j + 11) 82 && begins (closing (xored sum (same j))) (drop (suc (l j)) rest))) (Some (l j + 11)) None)

      pub commaless : is_text (take 1 (take n rest)) ≡ false → None ≡ tail_of sum rest
      commaless e = sym (cond-false _ _ _ (by_comma ∙ e)) ∙ by_text

      pub closed : is_text (take 1 (take n rest)) ≡ true → cond (begins (closing (xored sum (take n (take m rest)))) (drop (n + 1) rest)) (Some (n + 11)) None ≡ tail_of sum rest
      closed e =
          ap (λ t. cond (begins (closing (xored sum t)) (drop (n + 1) rest)) (Some (n + 11)) None) (take-take n m rest inside)
          ∙ sym (cond-true _ _ _ (by_comma ∙ e)) ∙ by_text

name_some : (b : ℕ) → name_char b ≡ true → 0 < b
name_some zero e = absurd (false≢true e)
name_some (suc b) e = omega arith

-- what it says of the bytes that a sentence's head stands at their front
pub record Headed (bs : List ℕ) : Type 0 where
  pub mark : dollar bs ≡ true
  pub n1 : name_char (get_or bs 1 0) ≡ true
  pub n2 : name_char (get_or bs 2 0) ≡ true
  pub n3 : name_char (get_or bs 3 0) ≡ true
  pub n4 : name_char (get_or bs 4 0) ≡ true
  pub n5 : name_char (get_or bs 5 0) ≡ true

pub when_head : (bs : List ℕ) → is_head bs ≡ true → Headed bs
when_head bs e =
    let a = and_parts _ _ e in
    let b = and_parts _ _ a.1 in
    let c = and_parts _ _ b.1 in
    let d = and_parts _ _ c.1 in
    let f = and_parts _ _ d.1 in
    record { mark = a.0; n1 = b.0; n2 = c.0; n3 = d.0; n4 = f.0; n5 = f.1 }

-- without a head there is no sentence
pub headless : (bs : List ℕ) → (Headed bs → ⊥) → sentence bs ≡ None
headless bs lacks =
    ⊎_elim (λ e. absurd (lacks (when_head bs e))) (λ e. cond-false _ _ _ (and_left (is_head bs) _ e)) (cases_Bool (is_head bs))

pub short : (bs : List ℕ) → length bs < 6 → None ≡ sentence bs
short bs h = sym (headless bs (λ head. let long = read_in bs 5 (name_some _ head.n5) in omega arith))

-- the exclusive-or of the five characters
abbrev pub sum_of : List ℕ → ℕ
sum_of bs = bit_xor (bit_xor (bit_xor (bit_xor (get_or bs 1 0) (get_or bs 2 0)) (get_or bs 3 0)) (get_or bs 4 0)) (get_or bs 5 0)

sums : (bs : List ℕ) → 6 ≤ length bs → name_sum bs ≡ sum_of bs
sums [] h = absurd (omega arith)
sums (s ∷ []) h = absurd (omega arith)
sums (s ∷ a ∷ []) h = absurd (omega arith)
sums (s ∷ a ∷ b ∷ []) h = absurd (omega arith)
sums (s ∷ a ∷ b ∷ c ∷ []) h = absurd (omega arith)
sums (s ∷ a ∷ b ∷ c ∷ d ∷ []) h = absurd (omega arith)
sums (s ∷ a ∷ b ∷ c ∷ d ∷ e ∷ tail) h = refl

-- what follows the five characters was read
module _ (bs rest : List ℕ) (long : 6 ≤ length bs) (is : rest ≡ drop 6 bs) where
  told : tail_of (name_sum bs) (drop 6 bs) ≡ tail_of (sum_of bs) rest
  told = λ j. tail_of (sums bs long j) (sym is j)

  pub tailless : tail_of (sum_of bs) rest ≡ None → None ≡ sentence bs
  tailless e = sym (cond-false _ _ _ (and_right (is_head bs) _ (none_cond (is_tail (name_sum bs) (drop 6 bs)) _ (told ∙ e))))

  pub stands : is_head bs ≡ true → (n : ℕ) → tail_of (sum_of bs) rest ≡ Some n → Some (sentence_of n (tag_of bs)) ≡ sentence bs
  stands head n e =
      let tail = some_cond (is_tail (name_sum bs) (drop 6 bs)) _ n (told ∙ e) in
      sym (cond-true _ _ _ (and_from _ _ head tail.0) ∙ ap (λ m. Some (sentence_of m (tag_of bs))) tail.1)
