-- A search for two bytes that stand side by side, and one for the end of a text.
use Rattle.std.specs.Prelude.{ℕ, ◌+◌, ◌<◌, Bool, not, List, length, replicate, ◌≢◌, bit_or, bit_xor, slice_index}
use Rattle.records.specs.Sentences.{text_char}
use Rattle.std.specs.Simd.Lanes.{zip2}
use Rattle.records.specs.declared.search.Pair.{Pair}

-- what two bytes differ in from a pair: 0 where they are the pair
abbrev pub differs : Pair → ℕ → ℕ → ℕ
differs pair a b = bit_or (bit_xor a pair.first) (bit_xor b pair.second)

-- the same of 32 places at once, by their bytes and the next ones
abbrev pub lanes : Pair → List ℕ → List ℕ → List ℕ
lanes pair heres nexts = zip2 bit_or (zip2 bit_xor heres (replicate 32 pair.first)) (zip2 bit_xor nexts (replicate 32 pair.second))

-- at none of the first n places the pair stands, and a byte follows each
abbrev pub Unlike : Pair → List ℕ → ℕ → Type 0
Unlike pair bs n = (k : ℕ) → k < n → (k + 1 < length bs) × (differs pair (slice_index bs k) (slice_index bs (k + 1)) ≢ 0)

-- a byte that stands in no text
abbrev pub strange : ℕ → Bool
strange b = not (text_char b)
