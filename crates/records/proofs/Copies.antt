-- What a sentence has at each place, and what a copy up to its star decides.
use Rattle.std.proofs.Common.{◌≡◌, ℕ, zero, suc, ◌+◌, ◌-◌, ◌/◌, ◌%◌, ◌<◌, ◌≤◌, ltb, Bool, true, false, cond, not, nat_eq, ◌&&◌, eqb, leb, List, [], ◌∷◌, ◌++◌, slice_set, length, get_or, take, drop, Some, None, Option, sym, refl, ap, ◌∙◌, ⊎_elim, le_of_suc-le-suc, not-suc-le-zero, add_comm, arith, length-take, length-drop, get_or-drop, get_or-take}
use Rattle.std.specs.Option.{option_eq}
use Rattle.std.proofs.lemmas.List.{take_more_set, take_more}
use Rattle.std.proofs.lemmas.Bool.{cases_Bool, cases_lt, cond-false, cond-true, eqb-true, ne_eqb, and_parts, leb-true, le-leb, lt-leb, false≢true}
use Rattle.recording.specs.declared.Cell.{Cell}
use Rattle.records.specs.declared.kind.Record.{Record}
use Rattle.records.specs.Grammars.{meaning, bytes_from, first}
use Rattle.records.specs.GrammarLaws.{some_cond, all_bytes}
use Rattle.records.specs.Sentences.{name_char, text_char, char_at, all_text, is_text, before_star, xored, hex_digit, closing, begins, is_head, name_sum, is_tail, sentence}
use Rattle.records.specs.SentenceLaws.{begins_long, sentence_reads}
use Rattle.records.specs.Copying.{may_stand, may_close, Begun, Starred}
use Rattle.records.proofs.Runs.{part_decides}
use Rattle.records.proofs.Reading.{some_first, same_some, byte_next, byte_end}
use Rattle.records.proofs.SentenceTests.{Headed, when_head, headless, short}

-- a `$` comes first, and what is read behind it
lasts : (b : Bool) → false ≡ not b → b ≡ true
lasts true e = refl
lasts false e = absurd (false≢true e)

first_two_of : (bs : List ℕ) → 2 ≤ length bs → take 2 bs ≡ get_or bs 0 0 ∷ get_or bs 1 0 ∷ []
first_two_of [] h = absurd (omega arith)
first_two_of (a ∷ []) h = absurd (omega arith)
first_two_of (a ∷ b ∷ bs) h = refl

module _ (cs : List Cell) (p : ℕ) (mark : false ≡ not (option_eq nat_eq (first (bytes_from cs p)) (Some 36))) where
  here : (1 ≤ length (bytes_from cs p)) × (get_or (bytes_from cs p) 0 0 ≡ 36)
  here = some_first (bytes_from cs p) 36 (same_some (first (bytes_from cs p)) 36 (lasts _ mark))

  pub alone : first (bytes_from cs (p + 1)) ≡ None → sentence (bytes_from cs p) ≡ None
  alone e = sym (short (bytes_from cs p) (omega (arith, byte_end cs p (p + 1) 1 refl here.0 e)))

  module _ (b : ℕ) (e : first (bytes_from cs (p + 1)) ≡ Some b) where
    next : (2 ≤ length (bytes_from cs p)) × (get_or (bytes_from cs p) 1 0 ≡ b)
    next = byte_next cs p (p + 1) 1 refl b here.0 e

    pub unnamed : name_char b ≡ false → sentence (bytes_from cs p) ≡ None
    unnamed bad = headless (bytes_from cs p) (λ h. false≢true (sym bad ∙ ap name_char (sym next.1) ∙ h.n1))

    pub named : name_char b ≡ true → Begun (bytes_from cs p) b
    named good = record { front = first_two_of (bytes_from cs p) next.0 ∙ (λ j. here.1 j ∷ next.1 j ∷ []); name = good }

-- what such bytes are
module _ (bs : List ℕ) (b : ℕ) (h : Begun bs b) where
  pub long : 2 ≤ length bs
  long = omega (arith, ap length h.front, length-take 2 bs)

  at : (k : ℕ) → k < 2 → get_or bs k 0 ≡ get_or (36 ∷ b ∷ []) k 0
  at k l = sym (get_or-take 2 bs k 0 l) ∙ ap (λ l. get_or l k 0) h.front

  pub starless : (k : ℕ) → k < 2 → get_or bs k 0 ≡ 42 → ⊥
  starless zero l e = let z = sym (at 0 l) ∙ e in absurd (omega arith)
  starless (suc zero) l e = false≢true (ap name_char (sym e ∙ at 1 l) ∙ h.name)
  starless (suc (suc k)) l e = absurd (omega arith)

-- the copy with one byte more
pub copied : (bs bytes : List ℕ) (i b : ℕ) → i + 1 ≤ length bs → i < length bytes → take i bytes ≡ take i bs → get_or bs i 0 ≡ b → take (i + 1) (slice_set bytes i b) ≡ take (i + 1) bs
copied bs bytes i b h l same is =
    take_more_set bytes i b l ∙ ap (λ x. take i bytes ++ x ∷ []) (sym is) ∙ ap (λ l. l ++ get_or bs i 0 ∷ []) same ∙ sym (take_more bs i 0 (omega arith))

-- the bytes before the star, and the star
text_step : (t : Bool) (b : ℕ) (bs : List ℕ) (j : ℕ) → j < length (cond t [] (b ∷ before_star bs)) → ((i : ℕ) → i < length (before_star bs) → get_or (before_star bs) i 0 ≡ get_or bs i 0)
    → get_or (cond t [] (b ∷ before_star bs)) j 0 ≡ get_or (b ∷ bs) j 0
text_step true b bs j h ih = absurd (not-suc-le-zero h)
text_step false b bs zero h ih = refl
text_step false b bs (suc j) h ih = ih j (le_of_suc-le-suc h)

text_same : (bs : List ℕ) (j : ℕ) → j < length (before_star bs) → get_or (before_star bs) j 0 ≡ get_or bs j 0
text_same [] j h = refl
text_same (b ∷ bs) j h = text_step (eqb b 42) b bs j h (text_same bs)

star_step : (t : Bool) (b : ℕ) (bs : List ℕ) → eqb b 42 ≡ t → length (cond t [] (b ∷ before_star bs)) < suc (length bs) → (length (before_star bs) < length bs → get_or bs (length (before_star bs)) 0 ≡ 42)
    → get_or (b ∷ bs) (length (cond t [] (b ∷ before_star bs))) 0 ≡ 42
star_step true b bs e h ih = eqb-true b 42 e
star_step false b bs e h ih = ih (le_of_suc-le-suc h)

star_there : (bs : List ℕ) → length (before_star bs) < length bs → get_or bs (length (before_star bs)) 0 ≡ 42
star_there [] h = absurd (not-suc-le-zero h)
star_there (b ∷ bs) h = star_step (eqb b 42) b bs refl h (star_there bs)

all_chars : (bs : List ℕ) (j : ℕ) → all_text bs ≡ true → j < length bs → text_char (get_or bs j 0) ≡ true
all_chars [] j e h = absurd (not-suc-le-zero h)
all_chars (b ∷ bs) zero e h = (and_parts (text_char b) (all_text bs) e).0
all_chars (b ∷ bs) (suc j) e h = all_chars bs j (and_parts (text_char b) (all_text bs) e).1 (le_of_suc-le-suc h)

chars : (bs : List ℕ) (j : ℕ) → is_text bs ≡ true → j < length bs → char_at j (get_or bs j 0) ≡ true
chars [] j e h = absurd (not-suc-le-zero h)
chars (b ∷ bs) zero e h = (and_parts (eqb b 44) (all_text bs) e).0
chars (b ∷ bs) (suc j) e h =
    cond-false (eqb (suc j) 0) _ _ (ne_eqb (suc j) 0 (λ z. omega arith)) ∙ all_chars bs j (and_parts (eqb b 44) (all_text bs) e).1 (le_of_suc-le-suc h)

-- of the places behind the address
later_on : (k b : ℕ) → 6 ≤ k → may_stand k b ≡ char_at (k - 6) b
later_on k b h = cond-false (eqb k 0) _ _ (ne_eqb k 0 (λ e. omega arith)) ∙ cond-false (leb k 5) _ _ (lt-leb k 5 (omega arith))

either : (t : Bool) → cond t false false ≡ false
either true = refl
either false = refl

-- a star stands nowhere ahead of the star
pub no_star : (k : ℕ) → may_stand k 42 ≡ false
no_star k = ⊎_elim (λ h. early k h) (λ h. later_on k 42 h ∙ either (eqb (k - 6) 0)) (cases_lt k 6)
  where
    early : (k : ℕ) → k < 6 → may_stand k 42 ≡ false
    early k h = ⊎_elim (λ e. cond-true (eqb k 0) _ _ e) (λ e. cond-false (eqb k 0) _ _ e ∙ cond-true (leb k 5) _ _ (le-leb k 5 (omega arith))) (cases_Bool (eqb k 0))

-- what closes a sentence
hex_high : (n : ℕ) → leb 48 (hex_digit n) ≡ true
hex_high n =
    ⊎_elim
    (λ e. ap (leb 48) (cond-true (ltb n 10) (n + 48) (n + 55) e) ∙ le-leb 48 (n + 48) (omega arith))
    (λ e. ap (leb 48) (cond-false (ltb n 10) (n + 48) (n + 55) e) ∙ le-leb 48 (n + 55) (omega arith))
    (cases_Bool (ltb n 10))

closing_bytes : (xs bs : List ℕ) (k : ℕ) → begins xs bs ≡ true → k < length xs → get_or bs k 0 ≡ get_or xs k 0
closing_bytes [] bs k e h = absurd (not-suc-le-zero h)
closing_bytes (x ∷ xs) [] k e h = absurd (false≢true e)
closing_bytes (x ∷ xs) (b ∷ bs) zero e h = eqb-true b x (and_parts (eqb b x) (begins xs bs) e).0
closing_bytes (x ∷ xs) (b ∷ bs) (suc k) e h = closing_bytes xs bs k (and_parts (eqb b x) (begins xs bs) e).1 (le_of_suc-le-suc h)

closing_closes : (sum k : ℕ) → k < 4 → may_close (k + 1) (get_or (closing sum) k 0) ≡ true
closing_closes sum zero h = hex_high (sum / 16)
closing_closes sum (suc zero) h = hex_high (sum % 16)
closing_closes sum (suc (suc zero)) h = refl
closing_closes sum (suc (suc (suc zero))) h = refl
closing_closes sum (suc (suc (suc (suc k)))) h = absurd (omega arith)

-- a sentence whose star stands at place s
record Shape (bs : List ℕ) (s : ℕ) : Type 0 where
  late : 6 ≤ s
  early : s < 78
  long : s + 5 ≤ length bs
  star : get_or bs s 0 ≡ 42
  allowed : (k : ℕ) → k < s → may_stand k (get_or bs k 0) ≡ true
  closes : (k : ℕ) → k < 4 → may_close (k + 1) (get_or bs (s + (k + 1)) 0) ≡ true

head_allowed : (bs : List ℕ) → Headed bs → (k : ℕ) → k < 6 → may_stand k (get_or bs k 0) ≡ true
head_allowed bs h zero l = h.mark
head_allowed bs h (suc zero) l = h.n1
head_allowed bs h (suc (suc zero)) l = h.n2
head_allowed bs h (suc (suc (suc zero))) l = h.n3
head_allowed bs h (suc (suc (suc (suc zero)))) l = h.n4
head_allowed bs h (suc (suc (suc (suc (suc zero))))) l = h.n5
head_allowed bs h (suc (suc (suc (suc (suc (suc k)))))) l = absurd (omega arith)

shape : (bs : List ℕ) (x : Record) → sentence bs ≡ Some x → (s : ℕ) × (x.length ≡ s + 5) × Shape bs s
shape bs x e =
    let rest = drop 6 bs in
    let text = before_star rest in
    let f = some_cond (is_head bs && is_tail (name_sum bs) rest) _ x e in
    let both = and_parts (is_head bs) (is_tail (name_sum bs) rest) f.0 in
    let tail = and_parts (is_text text) _ both.1 in
    let ends = and_parts _ _ tail.1 in
    let n : length text + 11 ≡ x.length = ap (λ (y : Record). y.length) f.1 in
    let few : length text + 11 ≤ 82 = leb-true _ _ ends.0 in
    let closed : 4 ≤ length (drop (suc (length text)) rest) = begins_long (closing (xored (name_sum bs) text)) _ ends.1 in
    let more : suc (length text) + 4 ≤ length rest = omega (arith, length-drop (suc (length text)) rest) in
    let behind : (k : ℕ) → 6 ≤ k → k < 6 + length text → may_stand k (get_or bs k 0) ≡ true =
    λ k h l.
    let j = k - 6 in
    let is : 6 + j ≡ k = omega arith in
    let there = sym (ap (λ i. get_or bs i 0) is) ∙ sym (get_or-drop 6 bs j 0) ∙ sym (text_same rest j (omega arith)) in
    later_on k (get_or bs k 0) h ∙ ap (char_at j) there ∙ chars text j tail.0 (omega arith) in (
      6 + length text,
      omega arith,
      record {
        late = omega arith;
        early = omega arith;
        long = omega (arith, length-drop 6 bs);
        star = sym (get_or-drop 6 bs (length text) 0) ∙ star_there rest (omega arith);
        closes = λ k h.
            let place : suc (length text) + k + 6 ≡ 6 + length text + (k + 1) = omega arith in
            let there : get_or (drop (suc (length text)) rest) k 0 ≡ get_or bs (6 + length text + (k + 1)) 0 =
            get_or-drop (suc (length text)) rest k 0 ∙ get_or-drop 6 bs (suc (length text) + k) 0 ∙ ap (λ i. get_or bs i 0) (add_comm 6 (suc (length text) + k) ∙ place) in
            ap (may_close (k + 1)) (sym there ∙ closing_bytes (closing (xored (name_sum bs) text)) _ k ends.1 h) ∙ closing_closes (xored (name_sum bs) text) k h;
        allowed = λ k h. ⊎_elim (λ l. head_allowed bs (when_head bs both.0) k l) (λ l. behind k l h) (cases_lt k 6);
      },
    )

shapeless : (bs : List ℕ) → ((s : ℕ) → Shape bs s → ⊥) → sentence bs ≡ None
shapeless bs lacks = go (sentence bs) refl
  where
    go : (o : Option Record) → sentence bs ≡ o → sentence bs ≡ None
    go None e = e
    go (Some x) e = let s = shape bs x e in absurd (lacks s.0 s.2)

-- no star stands at the first i places
module _ (bs : List ℕ) (i : ℕ) (none : (k : ℕ) → k < i → get_or bs k 0 ≡ 42 → ⊥) where
  behind_them : (s : ℕ) → Shape bs s → i ≤ s
  behind_them s h = ⊎_elim (λ l. absurd (none s l h.star)) (λ l. l) (cases_lt s i)

  pub cut : length bs ≤ i → sentence bs ≡ None
  cut l = shapeless bs (λ s h. omega (arith, behind_them s h, h.long))

  pub far : 78 ≤ i → sentence bs ≡ None
  far l = shapeless bs (λ s h. omega (arith, behind_them s h, h.early))

  pub ruled_out : (get_or bs i 0 ≡ 42 → i < 6) → may_stand i (get_or bs i 0) ≡ false → sentence bs ≡ None
  ruled_out few e =
      shapeless bs (λ s h.
      ⊎_elim
      (λ l. false≢true (sym e ∙ h.allowed i l))
      (λ l. let is : s ≡ i = omega (arith, behind_them s h) in omega (arith, h.late, few (ap (λ k. get_or bs k 0) (sym is) ∙ h.star)))
      (cases_lt i s))

  starred_at : get_or bs i 0 ≡ 42 → (s : ℕ) → Shape bs s → s ≡ i
  starred_at e s h =
      ⊎_elim (λ l. absurd (false≢true (sym (no_star i) ∙ ap (may_stand i) (sym e) ∙ h.allowed i l))) (λ l. omega (arith, behind_them s h)) (cases_lt i s)

  pub unclosed : get_or bs i 0 ≡ 42 → length bs < i + 5 → sentence bs ≡ None
  unclosed e l = shapeless bs (λ s h. omega (arith, starred_at e s h, h.long))

  pub unclosing : get_or bs i 0 ≡ 42 → (k : ℕ) → 0 < k → k < 5 → may_close k (get_or bs (i + k) 0) ≡ false → sentence bs ≡ None
  unclosing e k o l bad =
      let is : k ≡ k - 1 + 1 = omega arith in
      let here = ap (λ n. may_close n (get_or bs (i + n) 0)) (sym is) ∙ bad in
      shapeless bs (λ s h. false≢true (sym here ∙ ap (λ j. may_close (k - 1 + 1) (get_or bs (j + (k - 1 + 1)) 0)) (sym (starred_at e s h)) ∙ h.closes (k - 1) (omega arith)))

  ends_by : get_or bs i 0 ≡ 42 → (x : Record) → sentence bs ≡ Some x → x.length ≤ i + 5
  ends_by e x f = let s = shape bs x f in omega (arith, s.1, starred_at e s.0 s.2)

-- a copy that goes four bytes past the star decides what stands at its place
pub decided : (cs : List Cell) (p n : ℕ) (copy part : List ℕ) → Starred (bytes_from cs p) copy n → part ≡ take (n + 5) (bytes_from cs p) → sentence part ≡ meaning sentence cs p
decided cs p n copy part h same =
    ap sentence same ∙ part_decides 82 sentence sentence_reads (bytes_from cs p) (n + 5) (all_bytes (drop p cs)) (ends_by (bytes_from cs p) n h.first h.star)
