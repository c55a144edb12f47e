-- The letters of a body, and where its fields are.
use Rattle.std.specs.Prelude.{ℕ, cond, List, Option, Result, ◌==◌}
use Rattle.std.specs.Result.{result_map_both}
use Rattle.layouts.specs.declared.fault.LayoutFault.{LayoutFault}
use Rattle.layouts.specs.declared.letters.Letter.{Letter}
use Rattle.layouts.specs.declared.settings.Settings.{Settings}
use Rattle.layouts.specs.Catalogue.{fixed_body}
use Rattle.layouts.specs.Letters.{field_of}
use Rattle.layouts.specs.Members.{settings_letters}
use Rattle.layouts.specs.Settings.{settings_of}

-- the letters that settings have by what they say
abbrev pub letters_said : Settings → List Letter
letters_said s = settings_letters s.version s.altimeter

-- the letters of a sound body
abbrev pub letters_of : ℕ → List ℕ → Result (List Letter) LayoutFault
letters_of t bs = cond (t == 15) (result_map_both letters_said (λ e. e) (settings_of bs)) (result_map_both (λ l. l.0) (λ e. e) (fixed_body t bs))

-- where field n of a sound body is, if it has so many
abbrev pub located_in : ℕ → List ℕ → ℕ → Result (Option (ℕ × Letter)) LayoutFault
located_in t bs n = result_map_both (λ ls. field_of ls n) (λ e. e) (letters_of t bs)
