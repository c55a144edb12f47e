-- The fixed bodies.
use Rattle.std.specs.Prelude.{◌≡◌, ℕ, Bool, true, cond, ◌&&◌, List, [], ◌∷◌, length, Some, None, Ok, Option, Result, ◌==◌}
use Rattle.std.specs.Option.{ok_or}
use Rattle.layouts.specs.declared.catalogue.Layout.{Layout}
use Rattle.layouts.specs.declared.fault.LayoutFault.{LayoutFault}
use Rattle.layouts.specs.declared.fault.LayoutFault.TheVariants as fault
use Rattle.layouts.specs.declared.letters.Letter.{Letter}
use Rattle.layouts.specs.declared.letters.Letter.TheVariants.{D, F, L, W, S, B, R}
use Rattle.layouts.specs.Checks.{check, and_then}
use Rattle.layouts.specs.Letters.{total}

-- every type whose members never vary, with its letters and its length in bytes
abbrev pub catalogue : List (ℕ × List Letter × ℕ)
catalogue =
    (0, D ∷ D ∷ B ∷ D ∷ B ∷ W ∷ W ∷ D ∷ D ∷ D ∷ D ∷ W ∷ [], 64)
    ∷ (1, L ∷ D ∷ B ∷ D ∷ B ∷ D ∷ B ∷ D ∷ B ∷ D ∷ B ∷ D ∷ B ∷ [], 58)
    ∷ (2, D ∷ B ∷ D ∷ B ∷ D ∷ B ∷ [], 27)
    ∷ (3, B ∷ B ∷ B ∷ W ∷ B ∷ W ∷ B ∷ [], 9)
    ∷ (4, D ∷ D ∷ B ∷ D ∷ B ∷ [], 26)
    ∷ (5, D ∷ B ∷ [], 9)
    ∷ (6, D ∷ [], 8)
    ∷ (7, B ∷ D ∷ B ∷ D ∷ B ∷ R 20 ∷ D ∷ B ∷ B ∷ [], 49)
    ∷ (8, D ∷ D ∷ D ∷ D ∷ [], 32)
    ∷ (9, D ∷ D ∷ [], 16)
    ∷ (10, L ∷ L ∷ D ∷ B ∷ D ∷ D ∷ [], 33)
    ∷ (22, L ∷ W ∷ R 26 ∷ [], 32)
    ∷ (23, F ∷ F ∷ F ∷ F ∷ F ∷ F ∷ L ∷ [], 28)
    ∷ (25, D ∷ D ∷ D ∷ D ∷ D ∷ D ∷ D ∷ D ∷ B ∷ B ∷ B ∷ B ∷ W ∷ W ∷ W ∷ W ∷ R 56 ∷ [], 132)
    ∷ (1001, D ∷ B ∷ D ∷ B ∷ D ∷ B ∷ [], 27)
    ∷ (1002, D ∷ D ∷ [], 16)
    ∷ (1003, D ∷ B ∷ [], 9)
    ∷ (1004, B ∷ D ∷ B ∷ D ∷ B ∷ D ∷ D ∷ D ∷ D ∷ D ∷ B ∷ [], 60)
    ∷ (1005, D ∷ B ∷ D ∷ B ∷ D ∷ B ∷ D ∷ D ∷ L ∷ D ∷ B ∷ [], 56)
    ∷ (1006, D ∷ D ∷ B ∷ D ∷ D ∷ B ∷ [], 34)
    ∷ (1007, D ∷ B ∷ D ∷ B ∷ D ∷ B ∷ D ∷ B ∷ [], 36)
    ∷ (1008, D ∷ W ∷ W ∷ W ∷ S ∷ S ∷ [], 18)
    ∷ []

-- the rule of the table: a layout is as long as its letters together
abbrev pub all_sums : List (ℕ × List Letter × ℕ) → Bool
all_sums [] = true
all_sums (r ∷ rs) = total r.1 == r.2 && all_sums rs

-- the whole table keeps the rule
abbrev pub Sums : Type 0
Sums = all_sums catalogue ≡ true

-- the letters and the length of a type
abbrev pub lookup : ℕ → List (ℕ × List Letter × ℕ) → Option (List Letter × ℕ)
lookup t [] = None
lookup t (r ∷ rs) = cond (t == r.0) (Some (r.1, r.2)) (lookup t rs)

-- the layout of a type, if its bodies are fixed
abbrev pub layout_of : ℕ → Option (List Letter × ℕ)
layout_of t = lookup t catalogue

-- a layout in code, as its letters and its length
abbrev pub laid : Layout → List Letter × ℕ
laid l = (l.letters.now, l.length)

-- the layout of a type, for a body of so many bytes
abbrev pub layout_for : ℕ → ℕ → Result (List Letter × ℕ) LayoutFault
layout_for t n =
    and_then (ok_or (layout_of t) fault.NoLayout) (λ l.
    and_then (check (n == l.1) fault.Length) (λ _.
    Ok l))

-- the layout of a sound fixed body
abbrev pub fixed_body : ℕ → List ℕ → Result (List Letter × ℕ) LayoutFault
fixed_body t bs = layout_for t (length bs)
