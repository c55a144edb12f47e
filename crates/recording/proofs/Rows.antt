-- Facts on rows and the cells that they add.
use Rattle.std.proofs.Common.{◌≡◌, ℕ, zero, suc, ◌+◌, ◌-◌, ◌<◌, ◌≤◌, min, true, false, cond, List, [], ◌∷◌, length, get_or, take, drop, Bor, Some, None, Ok, Option, sym, refl, ap, ◌∙◌, subst, le_of_suc-le-suc, not-suc-le-zero, arith, length-drop, length-take, get_or-drop, get_or-take}
use Rattle.std.specs.List.{flat_map, sum_by, HoldsAt}
use Rattle.std.specs.Option.{option_map_or, option_copied, MatchOption}
use Rattle.std.proofs.lemmas.List.Concat.{length-flat_map}
use Rattle.std.proofs.lemmas.List.{at_drop_more, at_drop_all}
use Rattle.recording.specs.declared.Cell.TheVariants.{Byte, Lost}
use Rattle.recording.specs.declared.extents.Extent.{Extent}
use Rattle.recording.specs.Cells.{cell_at, is_byte, whole_from, bytes_only, Stand}
use Rattle.recording.specs.Pieces.{cell_in, run, added, piece, pieces, Located, length_run}
use Rattle.recording.proofs.Lists.{at_left, at_right, whole_same, whole_append}

in_image : (bs : List ℕ) (k : ℕ) → k < length bs → Byte (get_or bs k 0) ≡ cell_in bs k
in_image [] k h = absurd (not-suc-le-zero h)
in_image (b ∷ bs) zero h = refl
in_image (b ∷ bs) (suc k) h = in_image bs k (le_of_suc-le-suc h)

out_image : (bs : List ℕ) (k : ℕ) → length bs ≤ k → Lost ≡ cell_in bs k
out_image [] k h = refl
out_image (b ∷ bs) zero h = absurd (not-suc-le-zero h)
out_image (b ∷ bs) (suc k) h = out_image bs k (le_of_suc-le-suc h)

-- what is got of an image at a place
pub got : (image : List ℕ) (at : ℕ) (r : Option (Bor ℕ)) → MatchOption r (length image ≤ at) (λ x. (at < length image) × HoldsAt (λ y. x.now ≡ y) image at) → option_map_or Byte (option_copied r) Lost ≡ cell_in image at
got image at None h = out_image image at h
got image at (Some x) h = ap Byte (h.1 0) ∙ in_image image at h.0

at_run : (image : List ℕ) (p n k j : ℕ) → k < n → p + k ≡ j → cell_at (run image p n) k ≡ Ok (cell_in image j)
at_run image p zero k j h e = absurd (not-suc-le-zero h)
at_run image p (suc n) zero j h e = let f : p ≡ j = omega arith in ap (λ q. Ok (cell_in image q)) f
at_run image p (suc n) (suc k) j h e = at_run image (suc p) n k j (le_of_suc-le-suc h) (omega arith)

byte_in_lem : (bs : List ℕ) (k : ℕ) → is_byte (Ok (cell_in bs k)) ≡ is_byte (cell_at (bytes_only bs) k)
byte_in_lem [] k = refl
byte_in_lem (b ∷ bs) zero = refl
byte_in_lem (b ∷ bs) (suc k) = byte_in_lem bs k

-- a run inside a row is whole where the image has its bytes
whole_run : (image : List ℕ) (p n a h : ℕ) → a + h ≤ n → whole_from (run image p n) a h ≡ whole_from (bytes_only image) (p + a) h
whole_run image p n a h s =
    whole_same (run image p n) (bytes_only image) a (p + a) h (λ i j e l u. ap is_byte (at_run image p n i j (omega arith) (omega arith)) ∙ byte_in_lem image j)

-- how many cells the rows add
pub length-pieces : (image : List ℕ) (rows : List Extent) → length (pieces image rows) ≡ sum_by added (take 64 rows)
length-pieces image rows = length-flat_map (piece image) (take 64 rows) ∙ (λ i. sum_by (λ e. length_run image e.place (added e) i) (take 64 rows))

-- one row further
pub cell_here : (image : List ℕ) (rows : List Extent) (i : ℕ) (d : Extent) → i < length rows → (k : ℕ) → k < added (get_or rows i d) → cell_at (flat_map (piece image) (drop i rows)) k ≡ Ok (cell_in image ((get_or rows i d).place + k))
cell_here image rows i d h k l =
    let e = get_or rows i d in
    at_drop_more (λ es. cell_at (flat_map (piece image) es) k) rows i d h ∙ at_left (piece image e) (flat_map (piece image) (drop (i + 1) rows)) k (omega (arith, length_run image e.place (added e))) ∙ at_run image e.place (added e) k (e.place + k) l refl

pub cell_more : (image : List ℕ) (rows : List Extent) (i : ℕ) (d : Extent) → i < length rows → (k : ℕ) → added (get_or rows i d) ≤ k → cell_at (flat_map (piece image) (drop i rows)) k ≡ cell_at (flat_map (piece image) (drop (i + 1) rows)) (k - added (get_or rows i d))
cell_more image rows i d h k l =
    let e = get_or rows i d in
    at_drop_more (λ es. cell_at (flat_map (piece image) es) k) rows i d h ∙ at_right (piece image e) (flat_map (piece image) (drop (i + 1) rows)) k (k - added e) (omega (arith, length_run image e.place (added e)))

-- where a place is looked for: `left` cells into the rows from number i on
module _ (image : List ℕ) (rows : List Extent) (i left at : ℕ) (d : Extent) (sofar : (k : ℕ) → cell_at (flat_map (piece image) (drop i rows)) (left + k) ≡ cell_at (flat_map (piece image) rows) (at + k)) where
  pub located_here : (all : List Extent) → rows ≡ all → i < length rows → left < added (get_or rows i d) → Located image all at (Some (get_or rows i d, left))
  located_here all e h lt =
      let P : List Extent → Type 0 = λ rs. Located image rs at (Some (get_or rows i d, left)) in
      subst P e (lt, λ k u. sym (sofar k) ∙ cell_here image rows i d h (left + k) u)

  pub located_more : i < length rows → (n : ℕ) → n ≡ added (get_or rows i d) → n ≤ left → (k : ℕ) → cell_at (flat_map (piece image) (drop (i + 1) rows)) (left - n + k) ≡ cell_at (flat_map (piece image) rows) (at + k)
  located_more h n e le k =
      let f : left - n + k ≡ left + k - added (get_or rows i d) = omega arith in
      ap (cell_at (flat_map (piece image) (drop (i + 1) rows))) f ∙ sym (cell_more image rows i d h (left + k) (omega arith)) ∙ sofar k

  pub located_none : (all : List Extent) → rows ≡ all → length rows ≤ i → Located image all at None
  located_none all e h =
      let f : at ≡ at + 0 = omega arith in
      ap (λ rs. cell_at (flat_map (piece image) rs) at) (sym e) ∙ ap (cell_at (flat_map (piece image) rows)) f ∙ sym (sofar 0) ∙ at_drop_all (λ rs. cell_at (flat_map (piece image) rs) (left + 0)) rows i h

-- the bytes of the image that lie in what is left of a row stand there
pub located_run : (image : List ℕ) (rows : List Extent) (at : ℕ) (e : Extent) (skip n : ℕ) (bs : List ℕ) → Located image rows at (Some (e, skip)) → n ≡ added e → bs ≡ take (n - skip) (drop (e.place + skip) image) → Stand (flat_map (piece image) rows) at bs
located_run image rows at e skip n bs l f g k h =
    let rest = drop (e.place + skip) image in
    let long : length bs ≡ length (take (n - skip) rest) = ap length g in
    let lt : k < n - skip = omega (arith, length-take (n - skip) rest) in
    let within : e.place + (skip + k) < length image = omega (arith, length-take (n - skip) rest, length-drop (e.place + skip) image) in
    let same : e.place + (skip + k) ≡ e.place + skip + k = omega arith in
    l.1 k (omega arith) ∙ ap Ok (sym (in_image image (e.place + (skip + k)) within) ∙ ap Byte (ap (λ p. get_or image p 0) same ∙ sym (ap (λ l. get_or l k 0) g ∙ get_or-take (n - skip) rest k 0 lt ∙ get_or-drop (e.place + skip) image k 0)))

-- p cells of the row are passed over, and h of them belong to the run
whole_row : (image : List ℕ) (rows : List Extent) (i : ℕ) (d : Extent) → i < length rows → (a n p h : ℕ) → p ≡ min a (added (get_or rows i d)) → h ≡ min n (added (get_or rows i d) - p) → whole_from (flat_map (piece image) (drop i rows)) a n ≡ cond (whole_from (bytes_only image) ((get_or rows i d).place + p) h) (whole_from (flat_map (piece image) (drop (i + 1) rows)) (a - p) (n - h)) false
whole_row image rows i d l a n p h s t =
    let e = get_or rows i d in
    let rest = flat_map (piece image) (drop (i + 1) rows) in
    let m : length (piece image e) ≡ added e = length_run image e.place (added e) in
    at_drop_more (λ es. whole_from (flat_map (piece image) es) a n) rows i d l ∙ whole_append (piece image e) rest a n p h (omega arith) (omega arith) (λ x. omega arith) (omega arith) (λ x. omega arith) ∙ ap (λ b. cond b (whole_from rest (a - p) (n - h)) false) (whole_run image e.place (added e) p h (omega arith))

pub row_more : (image : List ℕ) (rows : List Extent) (i : ℕ) (d : Extent) → i < length rows → (a n p h : ℕ) → p ≡ min a (added (get_or rows i d)) → h ≡ min n (added (get_or rows i d) - p) → true ≡ whole_from (bytes_only image) ((get_or rows i d).place + p) h → whole_from (flat_map (piece image) (drop (i + 1) rows)) (a - p) (n - h) ≡ whole_from (flat_map (piece image) (drop i rows)) a n
row_more image rows i d l a n p h s t e =
    ap (λ b. cond b (whole_from (flat_map (piece image) (drop (i + 1) rows)) (a - p) (n - h)) false) e ∙ sym (whole_row image rows i d l a n p h s t)

pub row_stop : (image : List ℕ) (rows : List Extent) (i : ℕ) (d : Extent) → i < length rows → (a n p h : ℕ) → p ≡ min a (added (get_or rows i d)) → h ≡ min n (added (get_or rows i d) - p) → false ≡ whole_from (bytes_only image) ((get_or rows i d).place + p) h → false ≡ whole_from (flat_map (piece image) (drop i rows)) a n
row_stop image rows i d l a n p h s t e =
    ap (λ b. cond b (whole_from (flat_map (piece image) (drop (i + 1) rows)) (a - p) (n - h)) false) e ∙ sym (whole_row image rows i d l a n p h s t)

-- what a slice of rows is read at past its end
abbrev pub no_extent : Extent
no_extent = record { place = 0; length = 0 }
