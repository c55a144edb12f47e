-- Whether a boundary is clear depends on the cells behind it and on the M - 1 before it, where a cell that does not exist is lost.
use Rattle.std.proofs.Common.{◌≡◌, ℕ, ◌+◌, ◌-◌, ◌<◌, ◌≤◌, ◌↔◌, List, length, get_or, drop, Some, sym, ap, ◌∙◌, inl, inr, arith, length-drop, length-take, get_or-drop, get_or-take, ext_get_or}
use Rattle.std.proofs.lemmas.Bool.{lt-ltb, le-ltb, cases_lt}
use Rattle.recording.specs.declared.Cell.{Cell}
use Rattle.recording.specs.declared.Cell.TheVariants.{Lost}
use Rattle.records.specs.declared.kind.Record.{Record}
use Rattle.records.specs.Records.{Meaning, Laws, run}
use Rattle.listing.specs.Listing.{Clear}
use Rattle.listing.specs.Promise.{before}
use Rattle.std.proofs.lemmas.Grind.{common_steps}

before_is : (cs : List Cell) (b i p : ℕ) → i ≤ b → b - i ≡ p → before cs b i ≡ get_or cs p Lost
before_is cs b i p l e = rw (le-ltb b i l, e)

before_none : (cs : List Cell) (b i : ℕ) → b < i → before cs b i ≡ Lost
before_none cs b i l = rw (lt-ltb b i l)

module _ {M : ℕ} {m : Meaning} (laws : Laws M m) (cs ds : List Cell) (b c : ℕ) (in-cs : b ≤ length cs) (in-ds : c ≤ length ds) (same : drop b cs ≡ drop c ds)
    (near : (i : ℕ) → 1 ≤ i → i ≤ M - 1 → before cs b i ≡ before ds c i) where
  -- a record that begins k cells before c stands k cells before b
  module _ (p k : ℕ) (x : Record) (e : m ds p ≡ Some x) (here : p + k ≡ c) (some : 1 ≤ k) (over : k < x.length) where
    few : k ≤ M - 1
    few = omega (arith, laws.inside ds p x e)

    not_lost : get_or ds p Lost ≡ Lost → ⊥
    not_lost s =
        let w = (laws.bytes ds p x e 0 (omega arith)).1 in
        let u : p + 0 ≡ p = omega arith in
        let v : get_or ds (p + 0) Lost ≡ get_or ds p Lost = ap (λ z. get_or ds z Lost) u in
        let z : ◌≡◌ {A = ℕ} 0 1 = cc in
        omega arith

    as_far : k ≤ b
    as_far = elim (cases_lt b k) [ inl l ↦ absurd (not_lost (sym (before_is ds c k p (omega arith) (omega arith)) ∙ sym (near k some few) ∙ before_none cs b k l)) | inr l ↦ l ]

    cell : (j : ℕ) → get_or cs (b - k + j) Lost ≡ get_or ds (p + j) Lost
    cell j = elim (cases_lt j k) [
      | inl l ↦ (let f = as_far in let g = few in sym (before_is cs b (k - j) (b - k + j) (omega arith) (omega arith)) ∙ near (k - j) (omega arith) (omega arith) ∙ before_is ds c (k - j) (p + j) (omega arith) (omega arith))
      | inr l ↦ (
          let f = as_far in
          let u : b - k + j ≡ b + (j - k) = omega arith in
          let v : c + (j - k) ≡ p + j = omega arith in
          ap (λ z. get_or cs z Lost) u ∙ sym (get_or-drop b cs (j - k) Lost) ∙ ap (λ z. get_or z (j - k) Lost) same ∙ get_or-drop c ds (j - k) Lost ∙ ap (λ z. get_or ds z Lost) v
          )
    ]

    same_run : run cs (b - k) x.length ≡ run ds p x.length
    same_run = ext_get_or Lost (run cs (b - k) x.length) (run ds p x.length) long (λ j h. there j (omega (arith, length-take x.length (drop (b - k) cs))))
      where
        long : length (run cs (b - k) x.length) ≡ length (run ds p x.length)
        long =
            let l = ap length same in
            simp (length-take, length-drop) (omega (arith, as_far, laws.inside ds p x e, length-drop b cs, length-drop c ds))

        there : (j : ℕ) → j < x.length → get_or (run cs (b - k) x.length) j Lost ≡ get_or (run ds p x.length) j Lost
        there j h = simp (get_or-take, get_or-drop, h) (cell j)

    crosses : (b - k < b) × (m cs (b - k) ≡ Some x) × (b < b - k + x.length)
    crosses = grind (arith, common_steps, as_far, same_run)

  pub clear_there : Clear m cs b → Clear m ds c
  clear_there clear = record { within = in-ds; uncrossed = λ p x e l. elim (cases_lt c (p + x.length)) [ inl s ↦ absurd (never p x e l s) | inr s ↦ s ] }
    where
      never : (p : ℕ) (x : Record) → m ds p ≡ Some x → p < c → c < p + x.length → ⊥
      never p x e l s = let w = crosses p (c - p) x e (omega arith) (omega arith) (omega arith) in omega (arith, clear.uncrossed (b - (c - p)) x w.1 w.0)

pub both_clear : {M : ℕ} {m : Meaning} → Laws M m → (cs ds : List Cell) (b c : ℕ) → b ≤ length cs → c ≤ length ds → drop b cs ≡ drop c ds
    → ((i : ℕ) → 1 ≤ i → i ≤ M - 1 → before cs b i ≡ before ds c i) → Clear m cs b ↔ Clear m ds c
both_clear laws cs ds b c h i same near = (clear_there laws cs ds b c h i same near, clear_there laws ds cs c b i h (sym same) (λ j l k. sym (near j l k)))
