-- Tuples keep the laws of records.
use Rattle.std.specs.Prelude.{◌≡◌, ℕ, zero, suc, ◌+◌, ◌*◌, ◌<◌, ◌≤◌, true, List, [], ◌∷◌, length, get_or, take, Some, None, slice_index, slice_index_or}
use Rattle.std.proofs.Common.{sym, ap, ◌∙◌, arith}
use Rattle.std.specs.List.{AllByRecursion}
use Rattle.std.proofs.lemmas.Bool.{and_parts, and_from, eqb-true, eq-eqb, leb-true, le-leb, cond-true}
use Rattle.records.specs.declared.kind.Record.{Record}
use Rattle.records.specs.Records.{Laws}
use Rattle.records.specs.Grammars.{meaning}
use Rattle.records.specs.GrammarLaws.{Reads, lawful, some_cond, same_at, as_long}
use Rattle.records.specs.Tuples.{pair_at, size_of, is_tuple, tuple_of, tuple}

-- two bytes hold a number below 65,536
byte_fits : (bs : List ℕ) → AllByRecursion (λ b. b < 256) bs → (i : ℕ) → slice_index bs i < 256
byte_fits [] h zero = omega arith
byte_fits [] h (suc i) = omega arith
byte_fits (b ∷ bs) h zero = h.0
byte_fits (b ∷ bs) h (suc i) = byte_fits bs h.1 i

pub pair_fits : (bs : List ℕ) → AllByRecursion (λ b. b < 256) bs → (i : ℕ) → pair_at bs i ≤ 65535
pair_fits bs h i = omega (arith, byte_fits bs h i, byte_fits bs h (i + 1))

-- what it says of the bytes that a tuple stands at their front
pub record Stood (bs : List ℕ) : Type 0 where
  pub first_sync : get_or bs 0 0 ≡ 0
  pub last_sync : get_or bs 1 0 ≡ 128
  pub whole : size_of bs + 16 ≤ length bs
  pub agreed : pair_at bs (size_of bs + 14) ≡ size_of bs

pub when_stands : (bs : List ℕ) → is_tuple bs ≡ true → Stood bs
when_stands bs e =
    let a = and_parts _ _ e in
    let b = and_parts _ _ a.0 in
    let c = and_parts _ _ a.1 in
    record { first_sync = eqb-true _ _ b.0; last_sync = eqb-true _ _ b.1; whole = leb-true _ _ c.0; agreed = eqb-true _ _ c.1 }

pub tuple_stands : (bs : List ℕ) → Stood bs → tuple bs ≡ Some (tuple_of bs)
tuple_stands bs h =
    cond-true (is_tuple bs) (Some (tuple_of bs)) None
    (and_from _ _ (and_from _ _ (eq-eqb _ _ h.first_sync) (eq-eqb _ _ h.last_sync)) (and_from _ _ (le-leb _ _ h.whole) (eq-eqb _ _ h.agreed)))

-- a tuple that is found stands, and is the one that its bytes say
pub found : (bs : List ℕ) (x : Record) → tuple bs ≡ Some x → Stood bs × (tuple_of bs ≡ x)
found bs x e = let f = some_cond (is_tuple bs) (tuple_of bs) x e in (when_stands bs f.0, f.1)

tuple_alike : (bs ds : List ℕ) (x : Record) → tuple bs ≡ Some x → take x.length ds ≡ take x.length bs → tuple ds ≡ Some x
tuple_alike bs ds x e same =
    let f = found bs x e in
    let h = f.0 in
    let n : size_of bs + 16 ≡ x.length = ap (λ (y : Record). y.length) f.1 in
    let at : (i d : ℕ) → i < size_of bs + 16 → slice_index_or ds i d ≡ get_or bs i d = λ i d lt. same_at x.length bs ds same i d (omega arith) in
    let two : (i : ℕ) → i + 1 < size_of bs + 16 → pair_at ds i ≡ pair_at bs i = λ i lt. λ j. at i 0 (omega arith) j + 256 * at (i + 1) 0 lt j in
    let size : size_of ds ≡ size_of bs = two 12 (omega arith) in
    let long = as_long x.length bs ds same (omega (arith, h.whole)) in
    let stood : Stood ds = record {
      first_sync = at 0 0 (omega arith) ∙ h.first_sync;
      last_sync = at 1 0 (omega arith) ∙ h.last_sync;
      whole = omega arith;
      agreed = ap (λ s. pair_at ds (s + 14)) size ∙ two (size_of bs + 14) (omega arith) ∙ h.agreed ∙ sym size;
    } in
    let equal : tuple_of ds ≡ tuple_of bs = λ j. record { length = size j + 16; tag = two 6 (omega arith) j; source_type = two 2 (omega arith) j; source_id = two 4 (omega arith) j; time = two 8 (omega arith) j + 65536 * two 10 (omega arith) j } in
    tuple_stands ds stood ∙ ap Some (equal ∙ f.1)

pub tuple_reads : Reads 65551 tuple
tuple_reads = record {
  inside = λ bs x bytes e.
      let f = found bs x e in
      let n : size_of bs + 16 ≡ x.length = ap (λ (y : Record). y.length) f.1 in
      (omega arith, omega (arith, pair_fits bs bytes 12), omega (arith, f.0.whole));
  alike = tuple_alike;
}

pub tuple_laws : Laws 65551 (meaning tuple)
tuple_laws = lawful 65551 tuple tuple_reads
