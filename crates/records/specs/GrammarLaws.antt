-- A kind that knows its records by a grammar keeps the laws of records.
use Rattle.std.specs.Prelude.{◌≡◌, ℕ, zero, suc, ◌+◌, ◌%◌, ◌<◌, ◌≤◌, Bool, true, false, cond, List, [], ◌∷◌, length, get_or, take, drop, Some, None, slice_index_or, refl}
use Rattle.std.proofs.Common.{sym, ap, ◌∙◌, suc-le-suc, zero-le, not-suc-le-zero, le_of_suc-le-suc, mod-lt, arith, length-take, length-drop, get_or-drop, get_or-take, take-take}
use Rattle.std.specs.List.{AllByRecursion}
use Rattle.std.proofs.lemmas.List.{drop-take}
use Rattle.recording.specs.declared.Cell.{Cell}
use Rattle.recording.specs.declared.Cell.TheVariants.{Byte, Lost}
use Rattle.records.specs.declared.kind.Record.{Record}
use Rattle.records.specs.Records.{Laws}
use Rattle.records.specs.Grammars.{bytes_of, bytes_from, Grammar, meaning}

-- a grammar of records of 1 to M bytes, which looks at no byte past a record's end
pub record Reads (M : ℕ) (g : Grammar) : Type 0 where
  pub inside : (bs : List ℕ) (x : Record) → AllByRecursion (λ b. b < 256) bs → g bs ≡ Some x → (1 ≤ x.length) × (x.length ≤ M) × (x.length ≤ length bs)
  pub alike : (bs ds : List ℕ) (x : Record) → g bs ≡ Some x → take x.length ds ≡ take x.length bs → g ds ≡ Some x

pub all_bytes : (cs : List Cell) → AllByRecursion (λ b. b < 256) (bytes_of cs)
all_bytes [] = tt
all_bytes (Byte b ∷ cs) = (mod-lt b (omega arith), all_bytes cs)
all_bytes (Lost ∷ cs) = tt

pub bytes_within : (cs : List Cell) → length (bytes_of cs) ≤ length cs
bytes_within [] = zero-le
bytes_within (Byte b ∷ cs) = suc-le-suc (bytes_within cs)
bytes_within (Lost ∷ cs) = zero-le

pub bytes_at_lem : (cs : List Cell) (i : ℕ) → i < length (bytes_of cs) → (b : ℕ) × (slice_index_or cs i Lost ≡ Byte b)
bytes_at_lem [] i h = absurd (not-suc-le-zero h)
bytes_at_lem (Byte b ∷ cs) zero h = (b, refl)
bytes_at_lem (Byte b ∷ cs) (suc i) h = bytes_at_lem cs i (le_of_suc-le-suc h)
bytes_at_lem (Lost ∷ cs) i h = absurd (not-suc-le-zero h)

pub bytes_take : (n : ℕ) (cs : List Cell) → bytes_of (take n cs) ≡ take n (bytes_of cs)
bytes_take zero cs = refl
bytes_take (suc n) [] = refl
bytes_take (suc n) (Byte b ∷ cs) = ap (λ bs. b % 256 ∷ bs) (bytes_take n cs)
bytes_take (suc n) (Lost ∷ cs) = refl

-- the meaning depends on the run of bytes alone
pub lawful : (M : ℕ) (g : Grammar) → Reads M g → Laws M (meaning g)
lawful M g r = record {
  inside = λ cs p x e.
      let h = r.inside (bytes_from cs p) x (all_bytes (drop p cs)) e in
      (h.0, h.1, omega (arith, bytes_within (drop p cs), length-drop p cs));
  bytes = λ cs p x e i lt.
      let h = r.inside (bytes_from cs p) x (all_bytes (drop p cs)) e in
      let at = bytes_at_lem (drop p cs) i (omega arith) in
      (at.0, sym (get_or-drop p cs i Lost) ∙ at.1);
  moves = λ cs p x e ds q same.
      r.alike (bytes_from cs p) (bytes_from ds q) x e (sym (bytes_take x.length (drop q ds)) ∙ ap bytes_of same ∙ bytes_take x.length (drop p cs));
}

-- a condition that stands before an answer
pub some_cond : {A : Type 0} (b : Bool) (v x : A) → cond b (Some v) None ≡ Some x → (b ≡ true) × (v ≡ x)
some_cond true v x e = (refl, cc)
some_cond false v x e = let z : ◌≡◌ {A = ℕ} 0 1 = cc in absurd (omega arith)

-- lists that agree so far
module _ (n : ℕ) (bs ds : List ℕ) (same : take n ds ≡ take n bs) where
  pub same_at : (i d : ℕ) → i < n → slice_index_or ds i d ≡ slice_index_or bs i d
  same_at i d h = sym (get_or-take n ds i d h) ∙ ap (λ l. get_or l i d) same ∙ get_or-take n bs i d h

  pub as_long : n ≤ length bs → n ≤ length ds
  as_long h = omega (arith, ap length same, length-take n ds, length-take n bs)

  pub same_part : (k m : ℕ) → k + m ≤ n → take m (drop k ds) ≡ take m (drop k bs)
  same_part k m h = sym (drop-take k m ds) ∙ ap (drop k) (sym (take-take (k + m) n ds h) ∙ ap (take (k + m)) same ∙ take-take (k + m) n bs h) ∙ drop-take k m bs
