-- Where a tuple stands, told by what was read.
use Rattle.std.proofs.Common.{◌≡◌, ℕ, ◌+◌, ◌*◌, ◌<◌, ◌≤◌, Bool, true, false, ◌&&◌, eqb, nat_eq, List, length, get_or, Some, None, Option, sym, refl, ap, ◌∙◌, ⊎_elim, arith}
use Rattle.std.proofs.lemmas.List.{get_or_past}
use Rattle.std.proofs.lemmas.Bool.{cases_Bool, cases_lt, cond-false, eqb-true, and_right, and_parts, leb-true, leb-false}
use Rattle.recording.specs.declared.Cell.{Cell}
use Rattle.records.specs.declared.kind.Record.{Record}
use Rattle.records.specs.Grammars.{bytes_from, first, first_two}
use Rattle.records.specs.Tuples.{pair_at, size_of, sync_mark, is_tuple, tuple}
use Rattle.records.specs.TupleLaws.{Stood, when_stands, tuple_stands, found}
use Rattle.records.proofs.Reading.{byte_next, byte_end, pair_in, pair_next, some_first, whole_run}
use Rattle.recording.specs.Cells.{whole_from}
use Rattle.std.specs.Option.{option_map, option_eq}
use Rattle.std.specs.Bool.{then_some}

-- an element that is not 0 is of the list
pub read_in : (bs : List ℕ) (i : ℕ) → 0 < get_or bs i 0 → i + 1 ≤ length bs
read_in bs i h = ⊎_elim (λ lt. omega arith) (λ ge. let none = get_or_past bs i 0 ge in absurd (omega arith)) (cases_lt i (length bs))

module _ (cs : List Cell) (p : ℕ) where
  pub no_mark : length (bytes_from cs p) ≤ 1 → sync_mark (bytes_from cs p) ≡ false
  no_mark h = and_right _ _ (ap (λ b. eqb b 128) (get_or_past (bytes_from cs p) 1 0 h))

  pub mark : (a b : ℕ) → first (bytes_from cs p) ≡ Some a → a ≡ 0 → first (bytes_from cs (p + 1)) ≡ Some b → eqb b 128 ≡ sync_mark (bytes_from cs p)
  mark a b e z f =
      let front = some_first (bytes_from cs p) a e in
      let next = byte_next cs p (p + 1) 1 refl b front.0 f in
      λ j. eqb ((sym z ∙ sym front.1) j) 0 && eqb (sym next.1 j) 128

  -- with the first byte read as 0, the second decides
  pub mark_by : first (bytes_from cs p) ≡ Some 0 → (o : Option ℕ) → first (bytes_from cs (p + 1)) ≡ o → option_eq nat_eq o (Some 128) ≡ sync_mark (bytes_from cs p)
  mark_by e None f =
      let one = (some_first (bytes_from cs p) 0 e).0 in
      let end = byte_end cs p (p + 1) 1 refl one f in
      sym (no_mark (omega arith))
  mark_by e (Some b) f = mark 0 b e refl f

  pub none_when : (Stood (bytes_from cs p) → ⊥) → None ≡ tuple (bytes_from cs p)
  none_when not =
      ⊎_elim (λ e. absurd (not (when_stands (bytes_from cs p) e))) (λ e. sym (cond-false (is_tuple (bytes_from cs p)) _ _ e)) (cases_Bool (is_tuple (bytes_from cs p)))

  pub unread : (k : ℕ) → k ≤ 14 → first_two (bytes_from cs (p + k)) ≡ None → None ≡ tuple (bytes_from cs p)
  unread k h e = none_when (λ s. let f = pair_in cs p (p + k) k refl (omega (arith, s.whole)) in let z : ◌≡◌ {A = ℕ} 0 1 = cc in omega arith)

  -- with the size read
  module _ (s : ℕ) (size : first_two (bytes_from cs (p + 12)) ≡ Some s) where
    sized : Stood (bytes_from cs p) → size_of (bytes_from cs p) ≡ s
    sized h = let f = pair_in cs p (p + 12) 12 refl (omega (arith, h.whole)) in cc

    pub footless : first_two (bytes_from cs (p + (s + 14))) ≡ None → None ≡ tuple (bytes_from cs p)
    footless e = none_when (λ h. let f = pair_in cs p (p + (s + 14)) (s + 14) refl (omega (arith, h.whole, sized h)) in let z : ◌≡◌ {A = ℕ} 0 1 = cc in omega arith)

    pub unlike : (v : ℕ) → first_two (bytes_from cs (p + (s + 14))) ≡ Some v → (v ≡ s → ⊥) → None ≡ tuple (bytes_from cs p)
    unlike v e ne =
        none_when (λ h.
        let same = sized h in
        let f = pair_in cs p (p + (s + 14)) (s + 14) refl (omega (arith, h.whole)) in
        let agreed = h.agreed in
        let there : pair_at (bytes_from cs p) (s + 14) ≡ size_of (bytes_from cs p) = ap (λ n. pair_at (bytes_from cs p) (n + 14)) (sym same) ∙ agreed in
        ne cc)

    pub broken : whole_from cs p (s + 16) ≡ false → None ≡ tuple (bytes_from cs p)
    broken e = none_when (λ h. omega (arith, h.whole, sized h, leb-false _ _ (sym (whole_run (s + 16) cs p) ∙ e)))

    -- and all the rest as a tuple has it
    pub stands : (v : ℕ) → sync_mark (bytes_from cs p) ≡ true → first_two (bytes_from cs (p + (s + 14))) ≡ Some v → v ≡ s → whole_from cs p (s + 16) ≡ true
        → Some (s + 16) ≡ option_map (λ x. x.length) (tuple (bytes_from cs p))
    stands v on again same whole =
        let marks = and_parts (eqb (get_or (bytes_from cs p) 0 0) 0) (eqb (get_or (bytes_from cs p) 1 0) 128) on in
        let long : s + 16 ≤ length (bytes_from cs p) = leb-true _ _ (sym (whole_run (s + 16) cs p) ∙ whole) in
        let head = pair_next cs p (p + 12) 12 refl s (omega arith) size in
        let foot = pair_next cs p (p + (s + 14)) (s + 14) refl v (omega arith) again in
        let stood : Stood (bytes_from cs p) = record {
          first_sync = eqb-true _ _ marks.0;
          last_sync = eqb-true _ _ marks.1;
          whole = omega (arith, head.1);
          agreed = ap (λ n. pair_at (bytes_from cs p) (n + 14)) head.1 ∙ foot.1 ∙ same ∙ sym head.1;
        } in
        sym (ap (option_map (λ x. x.length)) (tuple_stands (bytes_from cs p) stood) ∙ ap (λ n. Some (n + 16)) head.1)

    -- with both sizes read and alike, the rest of the cells decides
    pub decided : (v : ℕ) → sync_mark (bytes_from cs p) ≡ true → first_two (bytes_from cs (p + (s + 14))) ≡ Some v → v ≡ s → (b : Bool) → b ≡ whole_from cs p (s + 16)
        → then_some b (s + 16) ≡ option_map (λ x. x.length) (tuple (bytes_from cs p))
    decided v on again same true e = stands v on again same (sym e)
    decided v on again same false e = ap (option_map (λ x. x.length)) (broken (sym e))

  -- a tuple of which the length is known
  module _ (n : ℕ) (told : Some n ≡ option_map (λ x. x.length) (tuple (bytes_from cs p))) where
    known : (x : Record) × (tuple (bytes_from cs p) ≡ Some x) × (n ≡ x.length)
    known = go (tuple (bytes_from cs p)) refl told
      where
        go : (o : Option Record) → tuple (bytes_from cs p) ≡ o → Some n ≡ option_map (λ x. x.length) o → (x : Record) × (tuple (bytes_from cs p) ≡ Some x) × (n ≡ x.length)
        go None e t = let z : ◌≡◌ {A = ℕ} 0 1 = cc in absurd (omega arith)
        go (Some x) e t = (x, e, cc)

    pub read : (a b c d f : ℕ)
        → first_two (bytes_from cs (p + 2)) ≡ Some a
        → first_two (bytes_from cs (p + 4)) ≡ Some b
        → first_two (bytes_from cs (p + 6)) ≡ Some c
        → first_two (bytes_from cs (p + 8)) ≡ Some d
        → first_two (bytes_from cs (p + 10)) ≡ Some f
        → Some (record { length = n; tag = c; source_type = a; source_id = b; time = d + 65536 * f }) ≡ tuple (bytes_from cs p)
    read a b c d f at2 at4 at6 at8 at10 =
        let k = known in
        let w = found (bytes_from cs p) k.0 k.1 in
        let two : (i v : ℕ) → i ≤ 12 → first_two (bytes_from cs (p + i)) ≡ Some v → pair_at (bytes_from cs p) i ≡ v = λ i v h e. (pair_next cs p (p + i) i refl v (omega (arith, w.0.whole)) e).1 in
        let size : size_of (bytes_from cs p) + 16 ≡ n = ap (λ (x : Record). x.length) w.1 ∙ sym k.2 in
        let r2 = two 2 a (omega arith) at2 in
        let r4 = two 4 b (omega arith) at4 in
        let r6 = two 6 c (omega arith) at6 in
        let r8 = two 8 d (omega arith) at8 in
        let r10 = two 10 f (omega arith) at10 in
        sym (tuple_stands (bytes_from cs p) w.0 ∙ ap Some (λ j. record { length = size j; tag = r6 j; source_type = r2 j; source_id = r4 j; time = r8 j + 65536 * r10 j }))
