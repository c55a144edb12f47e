-- Cells, and a copy of their bytes.
use Rattle.std.proofs.Common.{◌≡◌, ℕ, zero, suc, ◌+◌, ◌<◌, List, [], ◌∷◌, ◌++◌, map, length, get_or, take, drop, set, sym, refl, ap, ◌∙◌, append_assoc, add-one, arith, length-drop, length-take, get_or-drop, drop-cons}
use lib.ListN.{length-map}
use Rattle.std.proofs.lemmas.List.{map_more, set_at}
use Rattle.recording.specs.declared.Cell.{Cell}
use Rattle.recording.specs.declared.Cell.TheVariants.{Lost}
use Rattle.recording.specs.Cells.{cell_at}
use Rattle.listing.specs.Fetching.{byte_of, byte_in, bytes_at}

byte_in_lem : (cs : List Cell) (k : ℕ) → byte_in (cell_at cs k) ≡ byte_of (get_or cs k Lost)
byte_in_lem [] k = refl
byte_in_lem (c ∷ cs) zero = refl
byte_in_lem (c ∷ cs) (suc k) = byte_in_lem cs k

module _ {X Y : Type 0} (f : X → Y) where
  -- one more of xs, over what was there
  front_more : (xs : List X) (ys : List Y) (i : ℕ) (x : X) (y : Y) → i < length xs → i < length ys → set (map f (take i xs) ++ drop i ys) i (f (get_or xs i x)) ≡ map f (take (i + 1) xs) ++ drop (i + 1) ys
  front_more xs ys i x y lx ly =
      let long : length (map f (take i xs)) ≡ i = simp (length-map, length-take) (omega arith) in
      ap (λ l. set (map f (take i xs) ++ l) i (f (get_or xs i x))) (drop-cons ys i y ly)
      ∙ set_at (map f (take i xs)) (get_or ys i y) (drop (suc i) ys) (f (get_or xs i x)) i long
      ∙ sym (append_assoc (map f (take i xs)) (f (get_or xs i x) ∷ []) (drop (suc i) ys))
      ∙ (λ j. sym (map_more f xs i x lx) j ++ drop (sym (add-one i) j) ys)

pub copied_more : (cs : List Cell) (p : ℕ) (buffer : List ℕ) (i b : ℕ) → p + i < length cs → i < length buffer → b ≡ byte_in (cell_at cs (p + i)) → set (bytes_at cs p i ++ drop i buffer) i b ≡ bytes_at cs p (i + 1) ++ drop (i + 1) buffer
copied_more cs p buffer i b lc lb e =
    let read : b ≡ byte_of (get_or (drop p cs) i Lost) = e ∙ byte_in_lem cs (p + i) ∙ ap byte_of (sym (get_or-drop p cs i Lost)) in
    ap (set (bytes_at cs p i ++ drop i buffer) i) read ∙ front_more byte_of (drop p cs) buffer i Lost 0 (simp length-drop (omega arith)) lb
