-- A tuple stands where its bytes are.
use Rattle.std.proofs.Common.{◌≡◌, ℕ, ◌+◌, ◌*◌, ◌/◌, ◌%◌, ◌<◌, List, [], ◌∷◌, ◌++◌, map, length, get_or, Some, sym, refl, ap, ◌∙◌, arith}
use native.Mathlib.Nat.{mod-mod}
use Rattle.std.proofs.lemmas.List.{append_assoc, map-append, length-append, length-map, get_or-drop, get_or_at, get_or-append-add}
use Rattle.recording.specs.Cells.{bytes_only}
use Rattle.records.specs.Grammars.{bytes_of}
use Rattle.records.specs.Tuples.{pair_at, size_of, tuple_of, tuple}
use Rattle.records.specs.TupleLaws.{Stood, tuple_stands}
use Rattle.writing.specs.declared.header.Header.{Header}
use Rattle.writing.specs.Parts.{record_of, Wide}
use Rattle.writing.specs.Written.{front, written}

two_back : (n : ℕ) → n < 65536 → n % 256 + 256 * (n / 256 % 256) ≡ n
two_back n h = omega arith

four_back : (n : ℕ) → n < 4294967296 → n % 256 + 256 * (n / 256 % 256) + 65536 * (n / 256 / 256 % 256 + 256 * (n / 256 / 256 / 256 % 256)) ≡ n
four_back n h = omega arith

-- the size again, behind a body of n bytes
abbrev tail : List ℕ → ℕ → List ℕ → List ℕ
tail body n rest = body ++ n % 256 ∷ n / 256 % 256 ∷ rest

pub stands : (h : Header) (n : ℕ) (body rest : List ℕ) → Wide h → n < 65536 → length body ≡ n → tuple (front h n ++ tail body n rest) ≡ Some (record_of h n)
stands h n body rest w few long =
    let ds = tail body n rest in
    let bs = front h n ++ ds in
    let size : size_of bs ≡ n = two_back n few in
    let at : (i : ℕ) → get_or bs (i + 14) 0 ≡ get_or ds i 0 = λ i. let e : i + 14 ≡ 14 + i = omega arith in ap (λ k. get_or bs k 0) e ∙ sym (get_or-drop 14 bs i 0) in
    let low : get_or bs (n + 14) 0 ≡ n % 256 = at n ∙ get_or_at body (n % 256) (n / 256 % 256 ∷ rest) 0 n long in
    let one : n + 1 ≡ length body + 1 = omega arith in
    let far : n + 14 + 1 ≡ n + 1 + 14 = omega arith in
    let high : get_or bs (n + 14 + 1) 0 ≡ n / 256 % 256 = ap (λ k. get_or bs k 0) far ∙ at (n + 1) ∙ ap (λ k. get_or ds k 0) one ∙ get_or-append-add body (n % 256 ∷ n / 256 % 256 ∷ rest) 1 0 in
    let again : pair_at bs (n + 14) ≡ n = (λ i. low i + 256 * high i) ∙ two_back n few in
    let stood : Stood bs = record {
      first_sync = refl;
      last_sync = refl;
      whole = omega (arith, length-append body (n % 256 ∷ n / 256 % 256 ∷ rest), size);
      agreed = ap (λ s. pair_at bs (s + 14)) size ∙ again ∙ sym size;
    } in
    let same : tuple_of bs ≡ record_of h n = λ i. record {
      length = size i + 16;
      tag = two_back h.data_type w.data_type i;
      source_type = two_back h.source_type w.type i;
      source_id = two_back h.source_id w.id i;
      time = four_back h.time w.time i;
    } in
    tuple_stands bs stood ∙ ap Some same

low_bytes : (bs : List ℕ) → bytes_of (bytes_only bs) ≡ map (λ b. b % 256) bs
low_bytes [] = refl
low_bytes (b ∷ bs) = ap (λ ds. b % 256 ∷ ds) (low_bytes bs)

low_front : (h : Header) (n : ℕ) (ds : List ℕ) → map (λ b. b % 256) (front h n ++ ds) ≡ front h n ++ map (λ b. b % 256) ds
low_front h n ds =
    let m : (k : ℕ) → k % 256 % 256 ≡ k % 256 = λ k. mod-mod k 256 in
    let a = h.source_type in
    let b = h.source_id in
    let c = h.data_type in
    let t = h.time in
    λ i. 0 ∷ 128 ∷ m a i ∷ m (a / 256) i ∷ m b i ∷ m (b / 256) i ∷ m c i ∷ m (c / 256) i ∷ m t i ∷ m (t / 256) i ∷ m (t / 256 / 256) i ∷ m (t / 256 / 256 / 256) i ∷ m n i ∷ m (n / 256) i ∷ map (λ k. k % 256) ds

low_tail : (n : ℕ) (body rest : List ℕ) → map (λ b. b % 256) (tail body n rest) ≡ tail (map (λ b. b % 256) body) n (map (λ b. b % 256) rest)
low_tail n body rest =
    let low = map (λ b. b % 256) body in
    let last = map (λ b. b % 256) rest in
    map-append (λ b. b % 256) body (n % 256 ∷ n / 256 % 256 ∷ rest) ∙ (λ i. low ++ mod-mod n 256 i ∷ mod-mod (n / 256) 256 i ∷ last)

-- the tuple at the front of cells that begin with its bytes
pub stands_first : (h : Header) (body rest : List ℕ) → Wide h → length body < 65536 → tuple (bytes_of (bytes_only (written h body ++ rest))) ≡ Some (record_of h (length body))
stands_first h body rest w few =
    let n = length body in
    let low : List ℕ → List ℕ = map (λ b. b % 256) in
    let apart : (body ++ n % 256 ∷ n / 256 % 256 ∷ []) ++ rest ≡ tail body n rest = append_assoc body (n % 256 ∷ n / 256 % 256 ∷ []) rest in
    let same : bytes_of (bytes_only (written h body ++ rest)) ≡ front h n ++ tail (low body) n (low rest) = low_bytes (written h body ++ rest) ∙ low_front h n ((body ++ n % 256 ∷ n / 256 % 256 ∷ []) ++ rest) ∙ ap (λ ds. front h n ++ low ds) apart ∙ ap (λ ds. front h n ++ ds) (low_tail n body rest) in
    ap tuple same ∙ stands h n (low body) (low rest) w few (length-map body (λ b. b % 256))
