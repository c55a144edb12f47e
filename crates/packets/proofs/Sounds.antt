-- A body of which the parts are read is sound.
use Rattle.std.proofs.Common.{◌≡◌, Ok, Err, Result, refl}
use Rattle.std.specs.Result.{result_map_both}
use Rattle.layouts.specs.Checks.{sound}

pub sound_read : {A B C E : Type 0} (f : A → C) (g : B → C) (r : Result A E) (s : Result B E) → result_map_both f (λ e. e) r ≡ result_map_both g (λ e. e) s → sound r ≡ sound s
sound_read f g (Ok x) (Ok y) e = refl
sound_read f g (Ok x) (Err y) e = cc
sound_read f g (Err x) (Ok y) e = cc
sound_read f g (Err x) (Err y) e = cc
