-- Sentences that are copied up to their star.
use Rattle.std.specs.Prelude.{◌≡◌, ◌≢◌, ℕ, ◌+◌, ◌-◌, ◌<◌, Bool, true, cond, List, [], ◌∷◌, length, take, ◌==◌, nat_le, slice_index}
use Rattle.records.specs.Sentences.{name_char, char_at}

-- what may stand at each place of a sentence ahead of its star
abbrev pub may_stand : ℕ → ℕ → Bool
may_stand i b = cond (i == 0) (b == 36) (cond (nat_le i 5) (name_char b) (char_at (i - 6) b))

-- what may stand so many places behind the star: two digits, CR, LF
abbrev pub may_close : ℕ → ℕ → Bool
may_close k b = cond (nat_le k 2) (nat_le 48 b) (cond (k == 3) (b == 13) (b == 10))

-- bytes that begin with `$` and a character of an address
pub record Begun (bs : List ℕ) (b : ℕ) : Type 0 where
  pub front : take 2 bs ≡ 36 ∷ b ∷ []
  pub name : name_char b ≡ true

-- bytes whose first star stands at place n, early enough for a sentence, and a copy of them up to it
pub record Starred (bs copy : List ℕ) (n : ℕ) : Type 0 where
  pub early : n < 78
  pub within : n < length bs
  pub star : slice_index bs n ≡ 42
  pub first : (k : ℕ) → k < n → slice_index bs k ≢ 42
  pub same : take (n + 1) copy ≡ take (n + 1) bs
