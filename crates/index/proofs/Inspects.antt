-- An inspection, told by what was fetched, settled and judged.
use Rattle.std.proofs.Common.{◌≡◌, ℕ, ◌-◌, List, take, drop, Some, None, Ok, Err, Result, refl, ap, ◌∙◌, arith}
use Rattle.recording.specs.declared.Cell.{Cell}
use Rattle.records.specs.Records.{Meaning, Laws}
use Rattle.layouts.specs.declared.settings.Counter.{Counter}
use Rattle.bodies.specs.declared.fault.TupleFault.{TupleFault}
use Rattle.bodies.specs.Judge.{tuple_of, lifted}
use Rattle.listing.specs.declared.answer.Finding.{Finding}
use Rattle.listing.specs.Refusals.{finding}
use Rattle.listing.specs.Progress.{Progress}
use Rattle.listing.specs.Fetching.{row_of, fetching}
use Rattle.listing.specs.Settling.{settled, in_row, judged, inspecting}
use Rattle.listing.proofs.Fetched.{body_there}
use Rattle.std.proofs.lemmas.Grind.{common_steps}

found_in : (i : ℕ) (v : Result (Unit {0}) TupleFault) (x : Finding) → Err x ≡ lifted (λ f. finding (i, f)) v → Some x ≡ in_row i v
found_in i (Ok u) x e = let z : ◌≡◌ {A = ℕ} 0 1 = cc in absurd (omega arith)
found_in i (Err f) x e = let same : x ≡ finding (i, f) = cc in ap Some same

sound_in : (i : ℕ) (v : Result (Unit {0}) TupleFault) (u : Unit {0}) → Ok u ≡ lifted (λ f. finding (i, f)) v → None ≡ in_row i v
sound_in i (Ok w) u e = refl
sound_in i (Err f) u e = let z : ◌≡◌ {A = ℕ} 0 1 = cc in absurd (omega arith)

module _ {M : ℕ} {m : Meaning} (laws : Laws M m) (cs : List Cell) (i : ℕ) (buffer : List ℕ) (s : Progress) (n : ℕ) (after : List ℕ) (fetched : (Ok n, after) ≡ fetching m cs i buffer s) (counter : Counter) (c : Some counter ≡ settled m cs (take i s.table) (row_of s i))
    (bs : List ℕ) (b : bs ≡ take (n - 16) (drop 14 after)) where
  same_judged : tuple_of (row_of s i).tag (Some counter) bs ≡ judged m cs (take i s.table) (row_of s i)
  same_judged =
      let there = b ∙ body_there laws cs i buffer s n (ap (λ z. z.0) fetched) after (ap (λ z. z.1) fetched) in
      λ j. tuple_of (row_of s i).tag (c j) (there j)

  inspected : (Ok (in_row i (judged m cs (take i s.table) (row_of s i))), after) ≡ inspecting m cs i buffer s
  inspected = grind (arith, common_steps)

  pub finds : (x : Finding) → Err x ≡ lifted (λ f. finding (i, f)) (tuple_of (row_of s i).tag (Some counter) bs) → (Ok (Some x), after) ≡ inspecting m cs i buffer s
  finds x e = ap (λ v. (Ok v, after)) (found_in i _ x (e ∙ ap (lifted (λ f. finding (i, f))) same_judged)) ∙ inspected

  pub is_sound : (u : Unit {0}) → Ok u ≡ lifted (λ f. finding (i, f)) (tuple_of (row_of s i).tag (Some counter) bs) → (Ok None, after) ≡ inspecting m cs i buffer s
  is_sound u e = ap (λ v. (Ok v, after)) (sound_in i _ u (e ∙ ap (lifted (λ f. finding (i, f))) same_judged)) ∙ inspected
