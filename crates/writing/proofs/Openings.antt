-- Which bytes are one tuple, and what it holds.
use Rattle.std.proofs.Common.{◌≡◌, ℕ, zero, suc, ◌+◌, ◌-◌, ◌*◌, ◌/◌, ◌%◌, ◌<◌, ◌≤◌, List, [], ◌∷◌, ◌++◌, length, get_or, take, drop, Ok, sym, refl, ap, ◌∙◌, arith}
use Rattle.std.proofs.lemmas.List.{length-append, length-drop, length-take-le, take_at, drop_more, drop_all, drop-drop, take-append-drop}
use Rattle.std.proofs.lemmas.Bool.{cond-true, eq-eqb}
use Rattle.writing.specs.declared.header.Header.{Header}
use Rattle.writing.specs.Parts.{parts, Wide}
use Rattle.writing.specs.Written.{front, written}
use Rattle.writing.specs.Opened.{apart, opened}
use Rattle.writing.proofs.Fronts.{stands}

-- a tuple that was written is opened
pub reopened : (h : Header) (body : List ℕ) → Wide h → length body < 65536 → opened (written h body) ≡ Ok (parts h body)
reopened h body w few =
    let n = length body in
    let bs = written h body in
    let long : n + 16 ≡ length bs = omega (arith, length-append body (n % 256 ∷ n / 256 % 256 ∷ [])) in
    let held : take (n + 16 - 16) (body ++ n % 256 ∷ n / 256 % 256 ∷ []) ≡ body = take_at body _ (n + 16 - 16) (omega arith) in
    ap (apart bs) (stands h n body [] w few refl) ∙ cond-true _ _ _ (eq-eqb _ _ long) ∙ ap (λ b. Ok (parts h b)) held

-- what was read of bytes that are one tuple
pub record Read (bs : List ℕ) (h : Header) (n f : ℕ) : Type 0 where
  pub first_sync : get_or bs 0 0 ≡ 0
  pub last_sync : get_or bs 1 0 ≡ 128
  pub type : h.source_type ≡ get_or bs 2 0 + get_or bs 3 0 * 256
  pub id : h.source_id ≡ get_or bs 4 0 + get_or bs 5 0 * 256
  pub data_type : h.data_type ≡ get_or bs 6 0 + get_or bs 7 0 * 256
  pub time : h.time ≡ get_or bs 8 0 + get_or bs 9 0 * 256 + get_or bs 10 0 * 65536 + get_or bs 11 0 * 16777216
  pub size : n ≡ get_or bs 12 0 + get_or bs 13 0 * 256
  pub long : length bs ≡ n + 16
  pub foot : f ≡ get_or bs (length bs - 2) 0 + get_or bs (length bs - 1) 0 * 256
  pub agreed : f ≡ n

-- the k numbers from a place on
abbrev firsts : ℕ → ℕ → List ℕ → List ℕ
firsts zero at bs = []
firsts (suc k) at bs = get_or bs at 0 ∷ firsts k (at + 1) bs

firsts_then : (k at : ℕ) (bs : List ℕ) → at + k ≤ length bs → firsts k at bs ++ drop (at + k) bs ≡ drop at bs
firsts_then zero at bs h = let e : at + 0 ≡ at = omega arith in ap (λ j. drop j bs) e
firsts_then (suc k) at bs h =
    let e : at + suc k ≡ at + 1 + k = omega arith in
    ap (λ xs. get_or bs at 0 ∷ xs) (ap (λ j. firsts k (at + 1) bs ++ drop j bs) e ∙ firsts_then k (at + 1) bs (omega arith)) ∙ sym (drop_more bs at 0 (omega arith))

split : (v low high : ℕ) → low < 256 → v ≡ low + high * 256 → (v % 256 ≡ low) × (v / 256 ≡ high)
split v low high h e = (omega arith, omega arith)

-- written again, it has its old bytes
pub rewritten : (bs : List ℕ) (h : Header) (n f : ℕ) → ((i : ℕ) → get_or bs i 0 < 256) → Read bs h n f → written h (take (length bs - 2 - 14) (drop 14 bs)) ≡ bs
rewritten bs h n f small r =
    let body = take (length bs - 2 - 14) (drop 14 bs) in
    let cut : length bs - 2 - 14 ≡ n = omega (arith, r.long) in
    let is : body ≡ take n (drop 14 bs) = ap (λ k. take k (drop 14 bs)) cut in
    let fit : n ≤ length (drop 14 bs) = omega (arith, length-drop 14 bs, r.long) in
    let long : length body ≡ n = ap length is ∙ length-take-le n (drop 14 bs) fit in
    let low : (v i j : ℕ) → v ≡ get_or bs i 0 + get_or bs j 0 * 256 → v % 256 ≡ get_or bs i 0 = λ v i j e. omega (arith, small i, small j) in
    let high : (v i j : ℕ) → v ≡ get_or bs i 0 + get_or bs j 0 * 256 → v / 256 % 256 ≡ get_or bs j 0 = λ v i j e. omega (arith, small i, small j) in
    let t = h.time in
    let x = get_or bs 8 0 in
    let y = get_or bs 9 0 in
    let z = get_or bs 10 0 in
    let u = get_or bs 11 0 in
    let (t0, q1) = split t x (y + (z + u * 256) * 256) (small 8) (r.time ∙ omega arith) in
    let (t1, q2) = split (t / 256) y (z + u * 256) (small 9) q1 in
    let (t2, q3) = split (t / 256 / 256) z u (small 10) q2 in
    let (t3, q4) = split (t / 256 / 256 / 256) u 0 (small 11) (q3 ∙ omega arith) in
    let foot : length bs - 2 ≡ 14 + n = omega (arith, r.long) in
    let last_foot : length bs - 1 ≡ 14 + n + 1 = omega (arith, r.long) in
    let end : n ≡ get_or bs (14 + n) 0 + get_or bs (14 + n + 1) 0 * 256 = sym r.agreed ∙ r.foot ∙ (λ i. get_or bs (foot i) 0 + get_or bs (last_foot i) 0 * 256) in
    let z0 : n % 256 ≡ get_or bs (14 + n) 0 = low n (14 + n) (14 + n + 1) end in
    let z1 : n / 256 % 256 ≡ get_or bs (14 + n + 1) 0 = high n (14 + n) (14 + n + 1) end in
    let last : get_or bs (14 + n) 0 ∷ get_or bs (14 + n + 1) 0 ∷ [] ≡ drop n (drop 14 bs) =
    (λ i. get_or bs (14 + n) 0 ∷ get_or bs (14 + n + 1) 0 ∷ sym (drop_all (14 + n + 2) bs (omega (arith, r.long))) i) ∙ firsts_then 2 (14 + n) bs (omega (arith, r.long)) ∙ sym (drop-drop n 14 bs) in
    let after : body ++ n % 256 ∷ n / 256 % 256 ∷ [] ≡ drop 14 bs = (λ i. is i ++ z0 i ∷ z1 i ∷ []) ∙ ap (λ xs. take n (drop 14 bs) ++ xs) last ∙ take-append-drop n (drop 14 bs) in
    let head : front h n ++ drop 14 bs ≡ firsts 14 0 bs ++ drop 14 bs = λ i.
    sym r.first_sync i ∷ sym r.last_sync i ∷ low _ 2 3 r.type i ∷ high _ 2 3 r.type i ∷ low _ 4 5 r.id i ∷ high _ 4 5 r.id i ∷ low _ 6 7 r.data_type i ∷ high _ 6 7 r.data_type i ∷ t0 i ∷ t1 i ∷ t2 i ∷ t3 i ∷ low n 12 13 r.size i ∷ high n 12 13 r.size i ∷ drop 14 bs in
    ap (λ k. front h k ++ (body ++ k % 256 ∷ k / 256 % 256 ∷ [])) long ∙ ap (λ xs. front h n ++ xs) after ∙ head ∙ firsts_then 14 0 bs (omega (arith, r.long))
