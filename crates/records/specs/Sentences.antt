-- Sentences of NMEA 0183: `$`, five characters, nothing or a comma and a text, `*`, two digits, CR, LF.
use Rattle.std.specs.Prelude.{ℕ, suc, ◌+◌, ◌*◌, ◌/◌, ◌%◌, Bool, true, false, cond, not, ◌&&◌, ◌||◌, List, [], ◌∷◌, length, take, drop, Some, None, Option, ◌==◌, bit_xor, nat_le, nat_lt, slice_index}
use Rattle.records.specs.declared.kind.Record.{Record}
use Rattle.records.specs.Grammars.{Grammar}

-- A to Z or 0 to 9
abbrev pub name_char : ℕ → Bool
name_char b = (nat_le 65 b && nat_le b 90) || (nat_le 48 b && nat_le b 57)

-- 0x20 to 0x7E, and none of `$`, `!` and `*`
abbrev pub text_char : ℕ → Bool
text_char b = (nat_le 32 b && nat_le b 126) && (not (b == 36) && (not (b == 33) && not (b == 42)))

-- characters only
abbrev pub all_text : List ℕ → Bool
all_text [] = true
all_text (b ∷ bs) = text_char b && all_text bs

-- nothing, or a comma and characters
abbrev pub is_text : List ℕ → Bool
is_text [] = true
is_text (b ∷ bs) = b == 44 && all_text bs

-- the bytes before the first `*`
abbrev pub before_star : List ℕ → List ℕ
before_star [] = []
before_star (b ∷ bs) = cond (b == 42) [] (b ∷ before_star bs)

-- the exclusive-or of a number and of bytes
abbrev pub xored : ℕ → List ℕ → ℕ
xored a [] = a
xored a (b ∷ bs) = xored (bit_xor a b) bs

-- 0 to 9, then A to F
abbrev pub hex_digit : ℕ → ℕ
hex_digit n = cond (nat_lt n 10) (n + 48) (n + 55)

-- what stands after the `*`: the two digits of the sum, CR, LF
abbrev pub closing : ℕ → List ℕ
closing sum = hex_digit (sum / 16) ∷ hex_digit (sum % 16) ∷ 13 ∷ 10 ∷ []

-- whether bytes begin with others
abbrev pub begins : List ℕ → List ℕ → Bool
begins [] bs = true
begins (x ∷ xs) [] = false
begins (x ∷ xs) (b ∷ bs) = b == x && begins xs bs

-- `$`
abbrev pub dollar : List ℕ → Bool
dollar bs = slice_index bs 0 == 36

-- `$` and five characters
abbrev pub is_head : List ℕ → Bool
is_head bs = dollar bs && (name_char (slice_index bs 1) && (name_char (slice_index bs 2) && (name_char (slice_index bs 3) && (name_char (slice_index bs 4) && name_char (slice_index bs 5)))))

-- the last three of the five characters, the first most significant
abbrev pub tag_of : List ℕ → ℕ
tag_of bs = slice_index bs 3 * 65536 + (slice_index bs 4 * 256 + slice_index bs 5)

-- the exclusive-or of the five characters
abbrev pub name_sum : List ℕ → ℕ
name_sum bs = xored 0 (take 5 (drop 1 bs))

-- the rest of a sentence: what stands before the `*`, of at most 82 characters in all, and what closes the sentence
abbrev pub is_tail : ℕ → List ℕ → Bool
is_tail sum rest =
    is_text (before_star rest) && (nat_le (length (before_star rest) + 11) 82 && begins (closing (xored sum (before_star rest))) (drop (suc (length (before_star rest))) rest))

-- a sentence's length, told by what follows its five characters
abbrev pub tail_of : ℕ → List ℕ → Option ℕ
tail_of sum rest = cond (is_tail sum rest) (Some (length (before_star rest) + 11)) None

-- a sentence tells no source and no time
abbrev pub sentence_of : ℕ → ℕ → Record
sentence_of n tag = record { length = n; tag = tag; source_type = 0; source_id = 0; time = 0 }

abbrev pub sentence : Grammar
sentence bs = cond (is_head bs && is_tail (name_sum bs) (drop 6 bs)) (Some (sentence_of (length (before_star (drop 6 bs)) + 11) (tag_of bs))) None

-- what may stand at each place of the text: a comma comes first
abbrev pub char_at : ℕ → ℕ → Bool
char_at k b = cond (k == 0) (b == 44) (text_char b)

-- a first byte that may stand in the address
abbrev pub named : List ℕ → Option ℕ
named [] = None
named (b ∷ bs) = cond (name_char b) (Some b) None
