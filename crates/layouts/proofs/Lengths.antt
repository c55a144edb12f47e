-- The members that stand take as many bytes as the length says.
use Rattle.std.proofs.Common.{◌≡◌, ℕ, zero, suc, ◌≤◌, Bool, true, false, Ok, refl, sym, ◌∙◌, arith, rules}
use Rattle.layouts.specs.Letters.{total}
use Rattle.layouts.specs.Members.{settings_letters}
use Rattle.layouts.specs.Settings.{length_of, altimeter_for, version_for}

pub settings_total : (v : ℕ) (a : Bool) → 1 ≤ v → v ≤ 11 → total (settings_letters v a) ≡ length_of v a
settings_total zero a p q = omega arith
settings_total (suc zero) a p q = refl
settings_total (suc (suc zero)) a p q = refl
settings_total (suc (suc (suc zero))) true p q = refl
settings_total (suc (suc (suc zero))) false p q = refl
settings_total (suc (suc (suc (suc zero)))) true p q = refl
settings_total (suc (suc (suc (suc zero)))) false p q = refl
settings_total (suc (suc (suc (suc (suc zero))))) true p q = refl
settings_total (suc (suc (suc (suc (suc zero))))) false p q = refl
settings_total (suc (suc (suc (suc (suc (suc zero)))))) a p q = refl
settings_total (suc (suc (suc (suc (suc (suc (suc zero))))))) a p q = refl
settings_total (suc (suc (suc (suc (suc (suc (suc (suc zero)))))))) a p q = refl
settings_total (suc (suc (suc (suc (suc (suc (suc (suc (suc zero))))))))) a p q = refl
settings_total (suc (suc (suc (suc (suc (suc (suc (suc (suc (suc zero)))))))))) a p q = refl
settings_total (suc (suc (suc (suc (suc (suc (suc (suc (suc (suc (suc zero))))))))))) a p q = refl
settings_total (suc (suc (suc (suc (suc (suc (suc (suc (suc (suc (suc (suc n)))))))))))) a p q = omega arith

-- n bytes of a Version that is theirs
pub version_total : (n v : ℕ) → version_for n v ≡ Ok v → n ≡ total (settings_letters v (altimeter_for n v))
version_total n v e =
    let low : 1 ≤ v = search rules in
    let high : v ≤ 11 = search rules in
    let long : n ≡ length_of v (altimeter_for n v) = search rules in
    long ∙ sym (settings_total v (altimeter_for n v) low high)
