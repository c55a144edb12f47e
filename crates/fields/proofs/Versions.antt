-- Where settings have the members by which they are judged.
use Rattle.std.proofs.Common.{◌≡◌, ℕ, zero, suc, ◌-◌, ◌≤◌, Bool, true, false, ◌||◌, eqb, leb, List, length, Some, Ok, Result, sym, refl, subst, inl, inr, arith}
use Rattle.std.proofs.lemmas.Bool.{eqb-true, or_cases, and_parts, leb-true}
use Rattle.layouts.specs.declared.fault.LayoutFault.{LayoutFault}
use Rattle.layouts.specs.declared.fault.LayoutFault.TheVariants as fault
use Rattle.layouts.specs.declared.letters.Letter.{Letter}
use Rattle.layouts.specs.declared.letters.Letter.TheVariants.{L, B}
use Rattle.layouts.specs.Checks.{check, and_then}
use Rattle.layouts.specs.Letters.{field_of}
use Rattle.layouts.specs.Members.{settings_letters}
use Rattle.layouts.specs.Settings.{between, length_of, altimeter_for, head_agrees, settings_checks}

-- Version, HidType and HeadControllerVersion among the letters of n bytes
pub record Judging (n : ℕ) (ls : List Letter) : Type 0 where
  pub version_at : field_of ls 9 ≡ Some (13, B)
  pub hid_at : field_of ls (length ls - 33) ≡ Some (n - 94, L)
  pub controller_at : field_of ls (length ls - 21) ≡ Some (n - 30, B)

at : {n : ℕ} {ls : List Letter} → field_of ls 9 ≡ Some (13, B) → field_of ls (length ls - 33) ≡ Some (n - 94, L) → field_of ls (length ls - 21) ≡ Some (n - 30, B) → Judging n ls
at v h c = record { version_at = v; hid_at = h; controller_at = c }

At : ℕ → ℕ → Type 0
At v n = Judging n (settings_letters v (altimeter_for n v))

each : (v : ℕ) → 1 ≤ v → v ≤ 11 → At v (length_of v false) × At v (length_of v true)
unfolding At
each zero p q = absurd (omega arith)
each (suc zero) p q = (at refl refl refl, at refl refl refl)
each (suc (suc zero)) p q = (at refl refl refl, at refl refl refl)
each (suc (suc (suc zero))) p q = (at refl refl refl, at refl refl refl)
each (suc (suc (suc (suc zero)))) p q = (at refl refl refl, at refl refl refl)
each (suc (suc (suc (suc (suc zero))))) p q = (at refl refl refl, at refl refl refl)
each (suc (suc (suc (suc (suc (suc zero)))))) p q = (at refl refl refl, at refl refl refl)
each (suc (suc (suc (suc (suc (suc (suc zero))))))) p q = (at refl refl refl, at refl refl refl)
each (suc (suc (suc (suc (suc (suc (suc (suc zero)))))))) p q = (at refl refl refl, at refl refl refl)
each (suc (suc (suc (suc (suc (suc (suc (suc (suc zero))))))))) p q = (at refl refl refl, at refl refl refl)
each (suc (suc (suc (suc (suc (suc (suc (suc (suc (suc zero)))))))))) p q = (at refl refl refl, at refl refl refl)
each (suc (suc (suc (suc (suc (suc (suc (suc (suc (suc (suc zero))))))))))) p q = (at refl refl refl, at refl refl refl)
each (suc (suc (suc (suc (suc (suc (suc (suc (suc (suc (suc (suc n)))))))))))) p q = absurd (omega arith)

pub judging : (n v controller hid : ℕ) → settings_checks n v controller hid ≡ Ok tt → Judging n (settings_letters v (altimeter_for n v))
unfolding At
judging n v controller hid e =
    go (leb 20 n) (between 1 11 v) (eqb n (length_of v false) || eqb n (length_of v true)) refl refl e
  where
    rest : ℕ → Result (Unit {0}) LayoutFault
    rest w = and_then (check (eqb controller w) (fault.HeadControllerVersion (n - 30))) (λ _. check (head_agrees n v hid) (fault.HidType (n - 94)))

    go : (a b c : Bool) → between 1 11 v ≡ b → eqb n (length_of v false) || eqb n (length_of v true) ≡ c → and_then (and_then (check a fault.Length) (λ _. and_then (check b fault.Version) (λ _. and_then (check c fault.Length) (λ _. Ok v)))) rest ≡ Ok tt → At v n
    go false b c f g q = cc
    go true false c f g q = cc
    go true true false f g q = cc
    go true true true f g q =
        let low : 1 ≤ v = leb-true 1 v (and_parts (leb 1 v) (leb v 11) f).0 in
        let high : v ≤ 11 = leb-true v 11 (and_parts (leb 1 v) (leb v 11) f).1 in
        elim (or_cases (eqb n (length_of v false)) (eqb n (length_of v true)) g) [
          | inl h ↦ subst (At v) (sym (eqb-true n (length_of v false) h)) (each v low high).0
          | inr h ↦ subst (At v) (sym (eqb-true n (length_of v true) h)) (each v low high).1
        ]
