-- What words name.
use Rattle.std.specs.Prelude.{ℕ, ◌+◌, ◌-◌, ◌*◌, cond, ◌||◌, List, [], ◌∷◌, ◌++◌, drop, Some, None, codes, Option, ◌==◌, nat_le, nat_lt}
use Rattle.std.specs.Option.{option_map, option_zip}
use Rattle.records.specs.Sentences.{begins}
use Rattle.lister.specs.declared.words.Word.{Word}
use Rattle.lister.specs.declared.words.Word.TheVariants.{Extent, Lost}

-- a number with one more decimal digit: at most 4,294,967,295
abbrev pub with_digit : ℕ → ℕ → Option ℕ
with_digit n d = cond (nat_lt d 48 || nat_lt 57 d) None (cond (nat_le (10 * n + (d - 48)) 4294967295) (Some (10 * n + (d - 48))) None)

-- what comes of a number, if there is one
abbrev pub following : {U : Type 0} → Option ℕ → (ℕ → Option U) → Option U
following None f = None
following (Some n) f = f n

-- the number that digits write after those of a number
abbrev pub number_on : List ℕ → ℕ → Option ℕ
number_on [] n = Some n
number_on (d ∷ ds) n = following (with_digit n d) (λ m. number_on ds m)

-- the number that one digit or more write
abbrev pub number_of : List ℕ → Option ℕ
number_of [] = None
number_of (d ∷ ds) = number_on (d ∷ ds) 0

-- the numbers before and after the first colon, of a text that goes on after its front
abbrev pub pair_on : List ℕ → List ℕ → Option (ℕ × ℕ)
pair_on front [] = None
pair_on front (c ∷ cs) = cond (c == 58) (option_zip (number_of front) (number_of cs)) (pair_on (front ++ c ∷ []) cs)

abbrev pub extent_of : ℕ × ℕ → Word
extent_of p = Extent (record { place = p.0; length = p.1 })

abbrev pub stretch_of : ℕ × ℕ → Word
stretch_of p = Lost (record { first = p.0; count = p.1 })

-- `extent=PLACE:LENGTH` or `lost=FIRST:COUNT`
abbrev pub worded : List ℕ → Option Word
worded bs = cond (begins (codes "extent=") bs) (option_map extent_of (pair_on [] (drop 7 bs))) (cond (begins (codes "lost=") bs) (option_map stretch_of (pair_on [] (drop 5 bs))) None)
