-- Places that a search passes over.
use Rattle.std.proofs.Common.{◌≡◌, ℕ, zero, suc, ◌+◌, ◌-◌, ◌<◌, ◌≤◌, not, eqb, List, map, length, get_or, replicate, Some, None, Option, sym, refl, ap, ◌∙◌, ⊎_elim, arith}
use lib.Bits.{bit_or, bit_xor}
use lib.Count.{count_trailing_zeros}
use lib.Lanes.{zip2, chunk, mask_l}
use Rattle.std.specs.List.{prefix_len}
use Rattle.std.proofs.lemmas.Simd.{length-zip2, length-chunk, length-replicate, get_or-zip2, get_or-replicate, get_or-chunk, leading_from_mask_l, trailing_mask_l}
use Rattle.std.proofs.lemmas.List.Sums.{prefix_len-le-length, prefix_len_passes}
use Rattle.std.proofs.lemmas.Bool.{cases_lt, eq-eqb, eqb-true, false≢true}
use Rattle.std.specs.Option.{unwrap_or}
use Rattle.memchr.specs.Find.{IsFirstByte, is_byte}
use Rattle.records.specs.declared.search.Pair.{Pair}
use Rattle.records.specs.Grammars.{meaning, bytes_from, first}
use Rattle.records.specs.Records.{Vacant}
use Rattle.records.proofs.Reading.{some_first, stand_byte, byte_in_lem}
use Rattle.records.specs.Sentences.{sentence}
use Rattle.records.specs.Tuples.{tuple}
use Rattle.records.proofs.SentenceTests.{headless}
use Rattle.records.proofs.TupleTests.{none_when}
use Rattle.records.specs.Searching.{differs, lanes, Unlike}

-- 32 lanes
module _ (pair : Pair) (heres nexts : List ℕ) (lh : length heres ≡ 32) (ln : length nexts ≡ 32) where
  with_splat : (f : ℕ → ℕ → ℕ) (xs : List ℕ) (y : ℕ) → length xs ≡ 32 → length (zip2 f xs (replicate 32 y)) ≡ 32
  with_splat f xs y l = length-zip2 f xs (replicate 32 y) (l ∙ sym (length-replicate 32 y)) ∙ l

  at_splat : (f : ℕ → ℕ → ℕ) (xs : List ℕ) (y j : ℕ) → length xs ≡ 32 → j < 32 → get_or (zip2 f xs (replicate 32 y)) j 0 ≡ f (get_or xs j 0) y
  at_splat f xs y j l h = get_or-zip2 f xs (replicate 32 y) j 0 0 0 (omega arith) (omega (arith, length-replicate 32 y)) ∙ ap (f (get_or xs j 0)) (get_or-replicate 32 j y 0 h)

  abbrev firsts : List ℕ
  firsts = zip2 bit_xor heres (replicate 32 pair.first)

  abbrev seconds : List ℕ
  seconds = zip2 bit_xor nexts (replicate 32 pair.second)

  firsts_long : length firsts ≡ 32
  firsts_long = with_splat bit_xor heres pair.first lh

  seconds_long : length seconds ≡ 32
  seconds_long = with_splat bit_xor nexts pair.second ln

  pub lanes_long : length (lanes pair heres nexts) ≡ 32
  lanes_long = length-zip2 bit_or firsts seconds (firsts_long ∙ sym seconds_long) ∙ firsts_long

  pub lane_at : (j : ℕ) → j < 32 → get_or (lanes pair heres nexts) j 0 ≡ differs pair (get_or heres j 0) (get_or nexts j 0)
  lane_at j h =
      let first = at_splat bit_xor heres pair.first j lh h in
      let second = at_splat bit_xor nexts pair.second j ln h in
      get_or-zip2 bit_or firsts seconds j 0 0 0 (omega (arith, firsts_long)) (omega (arith, seconds_long)) ∙ (λ i. bit_or (first i) (second i))

-- 32 places of a run from a place on
module _ (pair : Pair) (run : List ℕ) (at : ℕ) (room : at + 33 ≤ length run) where
  abbrev compared : List ℕ
  compared = lanes pair (chunk at 32 run) (chunk (at + 1) 32 run)

  pub compared_long : length compared ≡ 32
  compared_long = lanes_long pair (chunk at 32 run) (chunk (at + 1) 32 run) (length-chunk at 32 run (omega arith)) (length-chunk (at + 1) 32 run (omega arith))

  compared_at : (j : ℕ) → j < 32 → get_or compared j 0 ≡ differs pair (get_or run (at + j) 0) (get_or run (at + 1 + j) 0)
  compared_at j h =
      lane_at pair (chunk at 32 run) (chunk (at + 1) 32 run) (length-chunk at 32 run (omega arith)) (length-chunk (at + 1) 32 run (omega arith)) j h
      ∙ (λ i. differs pair (get_or-chunk at 32 run j 0 h i) (get_or-chunk (at + 1) 32 run j 0 h i))

  passed : (n : ℕ) → n ≡ prefix_len (λ x. not (eqb x 0)) compared → Unlike pair run at → Unlike pair run (at + n)
  passed n e before k h = ⊎_elim (λ lt. before k lt) here (cases_lt k at)
    where
      most : n ≤ 32
      most = omega (arith, prefix_len-le-length (λ x. not (eqb x 0)) compared, compared_long)

      here : at ≤ k → (k + 1 < length run) × (differs pair (get_or run k 0) (get_or run (k + 1) 0) ≡ 0 → ⊥)
      here ge =
          let j = k - at in
          let i-is : at + j ≡ k = omega arith in
          let n-is : at + 1 + j ≡ k + 1 = omega arith in
          let small : j < 32 = omega (arith, most) in
          let unlike = prefix_len_passes (λ x. not (eqb x 0)) compared j 0 (omega arith) in
          let lane = compared_at j small in
          let there : get_or compared j 0 ≡ differs pair (get_or run k 0) (get_or run (k + 1) 0) = lane ∙ (λ i. differs pair (get_or run (i-is i) 0) (get_or run (n-is i) 0)) in
          (omega (arith, most), λ z. false≢true (sym (ap not (eq-eqb (get_or compared j 0) 0 (there ∙ z))) ∙ unlike))

  pub none_found : mask_l (map (λ x. eqb x 0) compared) ≡ 0 → Unlike pair run at → Unlike pair run (at + 32)
  none_found e = passed 32 (sym (leading_from_mask_l (λ x. eqb x 0) compared e ∙ compared_long))

  pub first_found : (m : ℕ) → m ≡ mask_l (map (λ x. eqb x 0) compared) → (m ≡ 0 → ⊥) → Unlike pair run at → Unlike pair run (at + count_trailing_zeros 64 m)
  first_found m e ne =
      let some : 0 < mask_l (map (λ x. eqb x 0) compared) = omega arith in
      passed (count_trailing_zeros 64 m) (ap (count_trailing_zeros 64) e ∙ trailing_mask_l (λ x. eqb x 0) 64 compared (omega (arith, compared_long)) some)

pub unlike_within : (pair : Pair) (run : List ℕ) (n : ℕ) → Unlike pair run n → n ≤ length run
unlike_within pair run zero unlike = omega arith
unlike_within pair run (suc n) unlike = omega (arith, (unlike n (omega arith)).0)

-- a tuple begins with its pair
abbrev pub sync_pair : Pair
sync_pair = record { first = 0; second = 128 }

module _ (run : List ℕ) (n : ℕ) (bytes : (k : ℕ) → get_or run k 0 < 256) where
  pub no_tuple : Unlike sync_pair run n → Vacant (meaning tuple) run n
  no_tuple unlike cs p stand k h = sym (none_when cs (p + k) (λ s.
      let here = unlike k h in
      let zeroth : get_or run k 0 ≡ 0 = sym (some_first _ _ (stand_byte cs p run stand bytes k (omega (arith, here.0)))).1 ∙ s.first_sync in
      let later : p + k + 1 ≡ p + (k + 1) = omega arith in
      let there = byte_in_lem cs (p + k) (p + k + 1) 1 refl (omega (arith, s.whole)) in
      let second : Some (get_or run (k + 1) 0) ≡ Some 128 = sym (stand_byte cs p run stand bytes (k + 1) here.0) ∙ ap (λ q. first (bytes_from cs q)) (sym later) ∙ there ∙ ap Some s.last_sync in
      let same : get_or run (k + 1) 0 ≡ 128 = cc in
      here.1 (λ i. differs sync_pair (zeroth i) (same i))))

  -- no sentence begins before the first `$`
  pub no_sentence : n ≤ length run → ((k : ℕ) → k < n → get_or run k 0 ≡ 36 → ⊥) → Vacant (meaning sentence) run n
  no_sentence within unlike cs p stand k h = headless (bytes_from cs (p + k)) (λ head.
      unlike k h (sym (some_first _ _ (stand_byte cs p run stand bytes k (omega arith))).1 ∙ eqb-true _ 36 head.mark))

-- how far the first `$` is, or the end
pub first_dollar : (run : List ℕ) (found : Option ℕ) (n : ℕ) → IsFirstByte (is_byte 36) run found → n ≡ unwrap_or found (length run) → (n ≤ length run) × ((k : ℕ) → k < n → get_or run k 0 ≡ 36 → ⊥)
first_dollar run None n h is = (omega arith, λ k l e. h k (omega arith) (omega arith) (eq-eqb _ 36 e))
first_dollar run (Some m) n h is = (omega (arith, h.0.high), λ k l e. h.0.before k (omega arith) (omega arith) (eq-eqb _ 36 e))
