-- Rows behind two clear boundaries that the same cells follow.
use Rattle.std.proofs.Common.{◌≡◌, ℕ, zero, suc, ◌+◌, ◌-◌, ◌<◌, ◌≤◌, Bool, true, false, ◌&&◌, eqb, List, [], ◌∷◌, ◌++◌, map, length, get_or, take, drop, Some, None, filter, Option, sym, refl, ap, ◌∙◌, inl, inr, append-nil, arith, drop-drop}
use Rattle.std.specs.List.{AllZip, AllByRecursion}
use Rattle.std.proofs.lemmas.Bool.{lt-ltb, le-ltb, le-leb, lt-leb, eq-eqb, cases_lt}
use Rattle.std.proofs.ByRecursion.{All-get_or}
use Rattle.recording.specs.declared.Cell.{Cell}
use Rattle.records.specs.declared.kind.Record.{Record}
use Rattle.indexfile.specs.declared.row.Row.{Row}
use Rattle.records.specs.Records.{Meaning, Laws}
use Rattle.listing.specs.Listing.{row_at, listing, Clear, ahead, behind, Ascending}
use Rattle.indexfile.specs.Written.{no_row}
use Rattle.listing.specs.Fetching.{byte_of, bytes_at, standing}
use Rattle.listing.specs.Settling.{body, last}
use Rattle.listing.proofs.SameTest.{same_test}
use Rattle.listing.proofs.Lists.{Lists, at_end, at_cell, at_record, rows_end, rows_cell, rows_record, lists_from}
use Rattle.listing.proofs.Boundaries.{ahead_none, behind_all, behind_clear, same_length}

-- the rows before a place, and those from there on
pub split : {m : Meaning} {cs : List Cell} {p : ℕ} {rows : List Row} → Lists m cs p rows → (b : ℕ) → ahead b rows ++ behind b rows ≡ rows
split (at_end h) b = refl
split (at_cell h e r) b = split r b
split (at_record {p} {rows} x e r) b = elim (cases_lt p b) [
  | inl l ↦ rw (lt-ltb p b l, lt-leb b p l) (ap (λ z. row_at p x ∷ z) (split r b))
  | inr l ↦ rw (le-ltb p b l, le-leb b p l, ahead_none r b (omega arith), behind_all r b (omega arith))
]

-- the rows before one are those that begin before it
none_ahead : (p : ℕ) (rows : List Row) → AllByRecursion (λ r. p < r.place) rows → ahead p rows ≡ []
none_ahead p [] h = refl
none_ahead p (r ∷ rows) h = rw (le-ltb r.place p (omega (arith, h.0))) (none_ahead p rows h.1)

pub earlier_rows : (rows : List Row) → Ascending rows → (n : ℕ) → n < length rows → take n rows ≡ ahead (get_or rows n no_row).place rows
earlier_rows [] h n l = absurd (omega arith)
earlier_rows (r ∷ rows) h zero l = rw (le-ltb r.place r.place (omega arith)) (sym (none_ahead r.place rows h.0))
earlier_rows (r ∷ rows) h (suc n) l =
    let k : n < length rows = omega arith in
    rw (lt-ltb r.place (get_or rows n no_row).place (All-get_or (λ z. r.place < z.place) rows n no_row k h.0)) (ap (λ z. r ∷ z) (earlier_rows rows h.1 n k))

-- a row of the one recording, and the same one of the other
pub record Moved (b c : ℕ) (x y : Row) : Type 0 where
  pub far : ℕ
  pub from : x.place ≡ b + far
  pub to : y.place ≡ c + far
  pub long : x.length ≡ y.length
  pub tag : x.tag ≡ y.tag
  pub kind : x.source_type ≡ y.source_type
  pub id : x.source_id ≡ y.source_id
  pub time : x.time ≡ y.time

pub kept_each : {X : Type 0} (R : X → X → Type 0) (P Q : X → Bool) → ((x y : X) → R x y → P x ≡ Q y) → (xs ys : List X) → AllZip R xs ys → AllZip R (filter P xs) (filter Q ys)
kept_each R P Q h [] [] e = tt
kept_each R P Q h [] (y ∷ ys) e = absurd e
kept_each R P Q h (x ∷ xs) [] e = absurd e
kept_each R P Q h (x ∷ xs) (y ∷ ys) e = go (P x) refl (Q y) refl (kept_each R P Q h xs ys e.1)
  where
    go : (t : Bool) → P x ≡ t → (u : Bool) → Q y ≡ u → AllZip R (filter P xs) (filter Q ys) → AllZip R (filter P (x ∷ xs)) (filter Q (y ∷ ys))
    go true i true j k = rw (i, j) (e.0, k)
    go false i false j k = rw (i, j) k
    go true i false j k = let s = h x y e.0 in let z : true ≡ false = cc in let w : ◌≡◌ {A = ℕ} 0 1 = cc in absurd (omega arith)
    go false i true j k = let s = h x y e.0 in let z : true ≡ false = cc in let w : ◌≡◌ {A = ℕ} 0 1 = cc in absurd (omega arith)

-- the last of two lists joined
pub last_right : (us : List Row) (w : Row) (ws : List Row) → last (us ++ w ∷ ws) ≡ last (w ∷ ws)
last_right [] w ws = refl
last_right (u ∷ []) w ws = refl
last_right (u ∷ v ∷ us) w ws = last_right (v ∷ us) w ws

pub last_all : (P : Row → Type 0) (us : List Row) (x : Row) → AllByRecursion P us → last us ≡ Some x → P x
last_all P [] x h e = let z : ◌≡◌ {A = ℕ} 0 1 = cc in absurd (omega arith)
last_all P (u ∷ []) x h e = let z : u ≡ x = cc in rw z at h.0
last_all P (u ∷ v ∷ us) x h e = last_all P (v ∷ us) x h.1 e

pub last_behind : (b : ℕ) (us ws : List Row) (x : Row) → AllByRecursion (λ r. r.place < b) us → last (us ++ ws) ≡ Some x → b ≤ x.place → last ws ≡ Some x
last_behind b us [] x h e l = absurd (omega (arith, last_all (λ r. r.place < b) us x h (rw (append-nil us) at e)))
last_behind b us (w ∷ ws) x h e l = sym (last_right us w ws) ∙ e

pub last_join : (us ws : List Row) (x : Row) → last ws ≡ Some x → last (us ++ ws) ≡ Some x
last_join us [] x e = let z : ◌≡◌ {A = ℕ} 0 1 = cc in absurd (omega arith)
last_join us (w ∷ ws) x e = last_right us w ws ∙ e

pub last_each : (R : Row → Row → Type 0) (xs ys : List Row) (x : Row) → AllZip R xs ys → last xs ≡ Some x → (y : Row) × (last ys ≡ Some y) × R x y
last_each R [] ys x h e = let z : ◌≡◌ {A = ℕ} 0 1 = cc in absurd (omega arith)
last_each R (u ∷ xs) [] x h e = absurd h
last_each R (u ∷ []) (v ∷ []) x h e = let z : u ≡ x = cc in (v, refl, rw z at h.0)
last_each R (u ∷ []) (v ∷ w ∷ ys) x h e = absurd h.1
last_each R (u ∷ t ∷ xs) (v ∷ []) x h e = absurd h.1
last_each R (u ∷ t ∷ xs) (v ∷ w ∷ ys) x h e = last_each R (t ∷ xs) (w ∷ ys) x h.1 e

module _ {M : ℕ} {m : Meaning} (laws : Laws M m) (cs ds : List Cell) (b c : ℕ) (same : drop b cs ≡ drop c ds) where
  same_from : {x y : Row} → Moved b c x y → drop x.place cs ≡ drop y.place ds
  same_from v = ap (λ z. drop z cs) v.from ∙ sym (drop-drop v.far b cs) ∙ ap (drop v.far) same ∙ drop-drop v.far c ds ∙ sym (ap (λ z. drop z ds) v.to)

  pub same_bytes : {x y : Row} → Moved b c x y → bytes_at cs x.place x.length ≡ bytes_at ds y.place y.length
  same_bytes v = λ i. map byte_of (take (v.long i) (same_from v i))

  pub same_body : {x y : Row} → Moved b c x y → body cs x ≡ body ds y
  same_body v = λ i. take (v.long i - 16) (drop 14 (same_bytes v i))

  same_standing : {x y : Row} → Moved b c x y → (o : Option Record) → standing o x ≡ standing o y
  same_standing v None = refl
  same_standing {x} {y} v (Some z) =
      let p : eqb x.place x.place ≡ eqb y.place y.place = eq-eqb x.place x.place refl ∙ sym (eq-eqb y.place y.place refl) in
      λ i. p i && (eqb z.length (v.long i) && (eqb z.tag (v.tag i) && (eqb z.source_type (v.kind i) && (eqb z.source_id (v.id i) && eqb z.time (v.time i)))))

  pub stands_too : {x y : Row} → Moved b c x y → standing (m cs x.place) x ≡ standing (m ds y.place) y
  stands_too {x} {y} v = ap (λ z. standing (m cs z) x) v.from ∙ ap (λ o. standing o x) (same_test laws cs ds b c v.far same) ∙ sym (ap (λ z. standing (m ds z) x) v.to) ∙ same_standing v (m ds y.place)

  module _ (in-cs : b ≤ length cs) (in-ds : c ≤ length ds) where
    moved_rows : (d : ℕ) {p q : ℕ} {rs ss : List Row} → Lists m cs p rs → Lists m ds q ss → p ≡ b + d → q ≡ c + d → AllZip (Moved b c) rs ss
    moved_rows d (at_end h) t u v = rw (rows_end laws ds t (omega (arith, same_length laws cs ds b c same in-cs in-ds))) tt
    moved_rows d (at_cell {p} h e r) t u v =
        moved_rows (suc d) r (rows_cell laws ds t (omega (arith, same_length laws cs ds b c same in-cs in-ds)) (cc (same_test laws cs ds b c d same))) (omega arith) (omega arith)
    moved_rows d {q = q} (at_record {p} {rows} x e r) t u v =
        let (rest, s, w) = rows_record laws ds t x (cc (same_test laws cs ds b c d same)) in
        rw s (record { far = d; from = u; to = v; long = refl; tag = refl; kind = refl; id = refl; time = refl }, moved_rows (d + x.length) r w (omega arith) (omega arith))

  pub each_moved : Clear m cs b → Clear m ds c → AllZip (Moved b c) (behind b (listing m cs)) (behind c (listing m ds))
  each_moved k l = moved_rows k.within l.within 0 (behind_clear (lists_from laws cs 0) b k (omega arith)) (behind_clear (lists_from laws ds 0) c l (omega arith)) (omega arith) (omega arith)
