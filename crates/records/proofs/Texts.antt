-- A text is read a vector at a time.
use Rattle.std.proofs.Common.{◌≡◌, ℕ, zero, suc, ◌+◌, ◌*◌, ◌%◌, ◌^◌, ◌<◌, ◌≤◌, ltb, leb, Bool, true, false, not, ◌&&◌, cond, eqb, List, [], ◌∷◌, map, length, get_or, take, drop, replicate, ◌-◌, ◌++◌, take-take, take-add, refl, sym, ap, ap₂, subst, ◌∙◌, ⊎_elim, not-suc-le-zero, arith, w8, Fits}
use Rattle.std.proofs.lemmas.Simd.{chunk-drop, length-chunk, leading_from_mask_l, trailing_mask_l, mask_l-mod, tops_compared}
use Rattle.std.proofs.lemmas.List.{length-map, take_more}
use Rattle.std.proofs.lemmas.List.Folds.{prefix_len-append}
use Rattle.std.proofs.lemmas.List.Sums.{prefix_len-le-length}
use Rattle.std.proofs.lemmas.Bool.{eq-eqb, ne_eqb, cases_lt, and_parts, le-ltb, lt-ltb}
use Rattle.std.specs.List.{prefix_len, range_with_len}
use lib.Bits.{bit_or, bit_xor, xor_zero_r, xor_assoc}
use lib.Lanes.{zip2, chunk, mask_l, top, Each1, fold_l, sel_l}
use lib.Count.{count_trailing_zeros}
use Rattle.records.specs.Sentences.{text_char, xored}
use Rattle.records.specs.Searching.{strange}

abbrev pub hit : ℕ → ℕ → ℕ
hit a b = cond (eqb a b) 255 0

abbrev pub below : ℕ → ℕ → ℕ
below a b = cond (ltb a b) 255 0

abbrev pub at_most : ℕ → ℕ → ℕ
at_most a b = cond (leb a b) 255 0

both_maps : (f g : ℕ → ℕ) (xs : List ℕ) → zip2 bit_or (map f xs) (map g xs) ≡ map (λ x. bit_or (f x) (g x)) xs
both_maps f g [] = refl
both_maps f g (x ∷ xs) = ap (λ r. bit_or (f x) (g x) ∷ r) (both_maps f g xs)

pub either : (f g : ℕ → ℕ) (v : List ℕ) {a b : List ℕ} → a ≡ map f v → b ≡ map g v → zip2 bit_or a b ≡ map (λ x. bit_or (f x) (g x)) v
either f g v p q = ap₂ (zip2 bit_or) p q ∙ both_maps f g v

splat_left : (h : ℕ → ℕ → ℕ) (y : ℕ) (xs : List ℕ) → zip2 h (replicate (length xs) y) xs ≡ map (h y) xs
splat_left h y [] = refl
splat_left h y (x ∷ xs) = ap (λ r. h y x ∷ r) (splat_left h y xs)

-- a splat on the left
pub from_splat : (h : ℕ → ℕ → ℕ) (v : List ℕ) (n y : ℕ) → length v ≡ n → zip2 h (replicate n y) v ≡ map (h y) v
from_splat h v n y long = ap (λ k. zip2 h (replicate k y) v) (sym long) ∙ splat_left h y v

-- a test that all numbers below n pass
abbrev upto : (ℕ → Bool) → ℕ → Bool
upto t zero = true
upto t (suc n) = t n && upto t n

upto_sound : (t : ℕ → Bool) (n : ℕ) → upto t n ≡ true → (i : ℕ) → i < n → t i ≡ true
upto_sound t zero h i lt = absurd (not-suc-le-zero lt)
upto_sound t (suc n) h i lt =
    let p = and_parts (t n) (upto t n) h in
    ⊎_elim (λ l. upto_sound t n p.1 i l) (λ ge. let same : n ≡ i = omega arith in subst (λ k. t k ≡ true) same p.0) (cases_lt i n)

abbrev alike : Bool → Bool → Bool
alike true b = b
alike false b = not b

alike_is : (a b : Bool) → alike a b ≡ true → a ≡ b
alike_is true true h = refl
alike_is false false h = refl
alike_is true false h = sym h
alike_is false true h = h

-- what the lanes tell of each byte
abbrev judged : ℕ → ℕ
judged x = bit_or (bit_or (bit_or (bit_or (below x 32) (at_most 127 x)) (hit x 36)) (hit x 33)) (hit x 42)

each_byte : (v : List ℕ) → Each1 (Fits w8) v → map (top 7) (map judged v) ≡ map strange v
each_byte [] fits = refl
each_byte (x ∷ xs) fits = ap₂ (λ a b. a ∷ b) (alike_is _ _ (upto_sound (λ y. alike (top 7 (judged y)) (strange y)) 256 refl x fits.0.fits)) (each_byte xs fits.1)

pub masked : (v z : List ℕ) → length v ≤ 64 → Each1 (Fits w8) v → z ≡ map judged v → mask_l (map (top 7) z) % 2 ^ 64 ≡ mask_l (map strange v)
masked v z short fits e =
    ap (λ l. mask_l l % 2 ^ 64) (ap (map (top 7)) e ∙ each_byte v fits) ∙ mask_l-mod (map strange v) 64 (omega (arith, length-map v strange))

-- the run of text, seen a vector at a time
none_fails : (b : Bool) (n l m : ℕ) → n ≤ l → cond (not b) (1 + n) 0 ≡ 1 + l → (n ≡ l → m ≡ 0) → cond b 1 0 + 2 * m ≡ 0
none_fails true n l m le e ih = let no : ⊥ = omega arith in absurd no
none_fails false n l m le e ih = let z = ih (omega arith) in omega arith

not-not : (b : Bool) → b ≡ not (not b)
not-not true = refl
not-not false = refl

same_run : (xs : List ℕ) → prefix_len text_char xs ≡ prefix_len (λ x. not (strange x)) xs
same_run [] = refl
same_run (x ∷ xs) = ap₂ (λ b n. cond b (1 + n) 0) (not-not (text_char x)) (same_run xs)

all_pass : (xs : List ℕ) → prefix_len (λ x. not (strange x)) xs ≡ length xs → mask_l (map strange xs) ≡ 0
all_pass [] e = refl
all_pass (x ∷ xs) e = none_fails (strange x) _ (length xs) _ (prefix_len-le-length (λ y. not (strange y)) xs) (omega arith) (all_pass xs)

split : (d : List ℕ) (i n : ℕ) → prefix_len text_char (drop i d) ≡ cond (eqb (prefix_len text_char (chunk i n d)) (length (chunk i n d))) (length (chunk i n d) + prefix_len text_char (drop (i + n) d)) (prefix_len text_char (chunk i n d))
split d i n = ap (prefix_len text_char) (chunk-drop i n d) ∙ prefix_len-append text_char (chunk i n d) (drop (i + n) d)

pub run_through : (d : List ℕ) (i n : ℕ) → i + n ≤ length d → mask_l (map strange (chunk i n d)) ≡ 0 → prefix_len text_char (drop i d) ≡ n + prefix_len text_char (drop (i + n) d)
run_through d i n room none =
    let c = chunk i n d in
    split d i n ∙ ap (λ b. cond b (length c + prefix_len text_char (drop (i + n) d)) (prefix_len text_char c)) (eq-eqb _ _ (same_run c ∙ leading_from_mask_l strange c none))
    ∙ ap (λ k. k + prefix_len text_char (drop (i + n) d)) (length-chunk i n d room)

pub run_stops : (d : List ℕ) (i n : ℕ) → i + n ≤ length d → n ≤ 64 → 0 < mask_l (map strange (chunk i n d)) → prefix_len text_char (drop i d) ≡ count_trailing_zeros 64 (mask_l (map strange (chunk i n d)))
run_stops d i n room short some =
    let c = chunk i n d in
    split d i n ∙ ap (λ b. cond b (length c + prefix_len text_char (drop (i + n) d)) (prefix_len text_char c)) (ne_eqb _ _ (λ (e : prefix_len text_char c ≡ length c). omega (arith, all_pass c (sym (same_run c) ∙ e))))
    ∙ same_run c ∙ sym (trailing_mask_l strange 64 c (omega (arith, length-chunk i n d room)) some)

pub found_near : (d : List ℕ) (i n : ℕ) → i + n ≤ length d → n ≤ 64 → 0 < mask_l (map strange (chunk i n d)) → count_trailing_zeros 64 (mask_l (map strange (chunk i n d))) ≤ n
found_near d i n room short some =
    let c = chunk i n d in
    let long = length-chunk i n d room in
    omega (arith, trailing_mask_l strange 64 c (omega arith) some, prefix_len-le-length (λ x. not (strange x)) c)

-- the exclusive-or of lanes
xor_out : (a b : ℕ) (xs : List ℕ) → bit_xor a (fold_l bit_xor b xs) ≡ fold_l bit_xor (bit_xor a b) xs
xor_out a b [] = refl
xor_out a b (x ∷ xs) = xor_out a (bit_xor b x) xs ∙ ap (λ c. fold_l bit_xor c xs) (sym (xor_assoc a b x))

take_none : (k : ℕ) → take {A = ℕ} k [] ≡ []
take_none zero = refl
take_none (suc k) = refl

-- lanes i and on, of which those below n are kept
kept : (a n i k : ℕ) (v : List ℕ) → k ≡ n - i → fold_l bit_xor a (sel_l (zip2 ltb (range_with_len i (length v)) (replicate (length v) n)) v (replicate (length v) 0)) ≡ xored a (take k v)
kept a n i k [] e = sym (ap (xored a) (take_none k))
kept a n i zero (x ∷ xs) e =
    let out : ltb i n ≡ false = le-ltb i n (omega arith) in
    ap (λ b. fold_l bit_xor (bit_xor a (cond b x 0)) (sel_l (zip2 ltb (range_with_len (i + 1) (length xs)) (replicate (length xs) n)) xs (replicate (length xs) 0))) out
    ∙ kept (bit_xor a 0) n (i + 1) zero xs (omega arith) ∙ xor_zero_r a
kept a n i (suc k) (x ∷ xs) e =
    let inside : ltb i n ≡ true = lt-ltb i n (omega arith) in
    ap (λ b. fold_l bit_xor (bit_xor a (cond b x 0)) (sel_l (zip2 ltb (range_with_len (i + 1) (length xs)) (replicate (length xs) n)) xs (replicate (length xs) 0))) inside
    ∙ kept (bit_xor a x) n (i + 1) k xs (omega arith)

pub masked_sum : (sum n : ℕ) (v : List ℕ) → length v ≡ 16 → bit_xor sum (fold_l bit_xor 0 (sel_l (map (top 7) (zip2 below (range_with_len 0 16) (replicate 16 n))) v (replicate 16 0))) ≡ xored sum (take n v)
masked_sum sum n v long =
    xor_out sum 0 (sel_l (map (top 7) (zip2 below (range_with_len 0 16) (replicate 16 n))) v (replicate 16 0))
    ∙ ap (λ c. fold_l bit_xor c (sel_l (map (top 7) (zip2 below (range_with_len 0 16) (replicate 16 n))) v (replicate 16 0))) (xor_zero_r sum)
    ∙ ap (λ m. fold_l bit_xor sum (sel_l m v (replicate 16 0))) (tops_compared w8 ltb (range_with_len 0 16) (replicate 16 n))
    ∙ ap (λ k. fold_l bit_xor sum (sel_l (zip2 ltb (range_with_len 0 k) (replicate k n)) v (replicate k 0))) (sym long)
    ∙ kept sum n 0 n v (omega arith)

-- the exclusive-or of a text, a vector at a time
xored_more : (a : ℕ) (xs ys : List ℕ) → xored a (xs ++ ys) ≡ xored (xored a xs) ys
xored_more a [] ys = refl
xored_more a (x ∷ xs) ys = xored_more (bit_xor a x) xs ys

pub sum_more : (a i n : ℕ) (bs : List ℕ) → n ≤ 16 → xored (xored a (take i bs)) (take n (chunk i 16 bs)) ≡ xored a (take (i + n) bs)
sum_more a i n bs h = ap (xored (xored a (take i bs))) (take-take n 16 (drop i bs) h) ∙ sym (xored_more a (take i bs) (take n (drop i bs))) ∙ ap (xored a) (sym (take-add i n bs))

pub sum_one : (a i : ℕ) (bs : List ℕ) → i < length bs → bit_xor (xored a (take i bs)) (get_or bs i 0) ≡ xored a (take (i + 1) bs)
sum_one a i bs h = sym (xored_more a (take i bs) (get_or bs i 0 ∷ [])) ∙ ap (xored a) (sym (take_more bs i 0 h))
