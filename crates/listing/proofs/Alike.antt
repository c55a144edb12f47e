-- Two indexes settle and inspect alike what lies behind clear boundaries that the same cells follow.
use Rattle.std.proofs.Common.{◌≡◌, ℕ, ◌+◌, ◌<◌, ◌≤◌, true, false, cond, ltb, List, ◌++◌, take, drop, Some, Ok, Err, filter, Result, sym, refl, ap, ◌∙◌, inl, inr, arith}
use Rattle.std.specs.List.{AllByRecursion}
use Rattle.std.specs.Option.{ok_or}
use Rattle.std.specs.Result.{result_map_both}
use Rattle.std.proofs.lemmas.Bool.{ltb-true}
use Rattle.std.proofs.lemmas.List.Elements.{filter-append}
use Rattle.std.proofs.ByRecursion.{All-weaker, all_kept_by, kept_by_passes}
use Rattle.recording.specs.declared.Cell.{Cell}
use Rattle.records.specs.Records.{Meaning, Laws}
use Rattle.layouts.specs.declared.settings.Counter.TheVariants.{Without}
use Rattle.bodies.specs.declared.fault.TupleFault.{TupleFault}
use Rattle.bodies.specs.Judge.{needs_settings}
use Rattle.indexfile.specs.declared.row.Row.{Row}
use Rattle.listing.specs.declared.answer.FetchRefusal.{FetchRefusal}
use Rattle.listing.specs.declared.answer.SettleRefusal.TheVariants.{NoSettings}
use Rattle.listing.specs.Listing.{listing, Clear, ahead, behind}
use Rattle.listing.specs.Progress.{Progress}
use Rattle.listing.specs.Fetching.{row_of, fetching}
use Rattle.listing.specs.Settling.{last, counter_in, is_settings, governing, counter_by, settled, judged, in_row, unnumbered}
use Rattle.listing.specs.Promise.{SettledBehind, Alike}
use Rattle.listing.proofs.SameTest.{same_test}
use Rattle.listing.proofs.Lists.{lists_from}
use Rattle.listing.proofs.HeldRows.{Faithful, row_made, rows_before, settle_held, fetch_held}
use Rattle.listing.proofs.Moved.{split, Moved, kept_each, last_behind, last_join, last_each, same_bytes, same_body, stands_too, each_moved}
use Rattle.std.proofs.lemmas.Grind.{common_steps}

-- an inspection but for the row's number
unnumbered_is : (n : ℕ) (v : Result (Unit {0}) TupleFault) (r : Result ℕ FetchRefusal) → unnumbered (result_map_both (λ z. in_row n v) (λ e. e) r) ≡ result_map_both (λ z. v) (λ e. e) r
unnumbered_is n (Ok u) (Ok z) = refl
unnumbered_is n (Err f) (Ok z) = refl
unnumbered_is n (Ok u) (Err e) = refl
unnumbered_is n (Err f) (Err e) = refl

module _ {M : ℕ} {m : Meaning} (laws : Laws M m) (cs ds : List Cell) (b c : ℕ) (clear-b : Clear m cs b) (clear-c : Clear m ds c) (same : drop b cs ≡ drop c ds) where
  same_settings : {x y : Row} → Moved b c x y → {z w : Row} → Moved b c z w → is_settings m cs x z ≡ is_settings m ds y w
  same_settings v u = grind (arith, common_steps, stands_too, same_body)

  -- the rows before x that are settings for it, ahead of the boundary and behind it
  abbrev parts : List Cell → ℕ → Row → List Row → List Row
  parts es p x rows = filter (is_settings m es x) (ahead p rows)

  parts_join : (es : List Cell) (a p : ℕ) (x : Row) → parts es p x (listing m es) ≡ parts es p x (ahead a (listing m es)) ++ parts es p x (behind a (listing m es))
  parts_join es a p x =
      ap (λ z. parts es p x z) (sym (split (lists_from laws es 0) a))
      ∙ ap (filter (is_settings m es x)) (filter-append (λ r. ltb r.place p) (ahead a (listing m es)) (behind a (listing m es)))
      ∙ filter-append (is_settings m es x) (ahead p (ahead a (listing m es))) (ahead p (behind a (listing m es)))

  parts_ahead : (es : List Cell) (a p : ℕ) (x : Row) → AllByRecursion (λ r. r.place < a) (parts es p x (ahead a (listing m es)))
  parts_ahead es a p x =
      all_kept_by (is_settings m es x) (λ r. r.place < a) (ahead p (ahead a (listing m es)))
      (all_kept_by (λ r. ltb r.place p) (λ r. r.place < a) (ahead a (listing m es))
      (All-weaker (λ r. ltb r.place a ≡ true) (λ r. r.place < a) (λ r e. ltb-true r.place a e) (ahead a (listing m es)) (kept_by_passes (λ r. ltb r.place a) (listing m es))))

  before_both : (p q d : ℕ) → p ≡ b + d → q ≡ c + d → (x y : Row) → Moved b c x y → ltb x.place p ≡ ltb y.place q
  before_both p q d e f x y v = grind (arith, common_steps)

  -- settings that begin at the boundary or later are there in both
  same_governing : (x y : Row) (v : Moved b c x y) (g : Row) → last (parts cs x.place x (listing m cs)) ≡ Some g → b ≤ g.place
      → (h : Row) × (last (parts ds y.place y (listing m ds)) ≡ Some h) × Moved b c g h
  same_governing x y v g e l =
      let each = kept_each (Moved b c) (is_settings m cs x) (is_settings m ds y) (λ z w u. same_settings v u) (ahead x.place (behind b (listing m cs))) (ahead y.place (behind c (listing m ds)))
      (kept_each (Moved b c) (λ r. ltb r.place x.place) (λ r. ltb r.place y.place) (before_both x.place y.place v.far v.from v.to) (behind b (listing m cs)) (behind c (listing m ds)) (each_moved laws cs ds b c same clear-b clear-c)) in
      let here = last_behind b (parts cs x.place x (ahead b (listing m cs))) (parts cs x.place x (behind b (listing m cs))) g (parts_ahead cs b x.place x) (sym (ap last (parts_join cs b x.place x)) ∙ e) l in
      let (h, there, moved) = last_each (Moved b c) (parts cs x.place x (behind b (listing m cs))) (parts ds y.place y (behind c (listing m ds))) g each here in
      (h, ap last (parts_join ds c y.place y) ∙ last_join (parts ds y.place y (ahead c (listing m ds))) (parts ds y.place y (behind c (listing m ds))) h there, moved)

  module _ (s t : Progress) (f : Faithful m cs s) (g : Faithful m ds t) (n k d : ℕ) (hn : n < s.rows) (hk : k < t.rows) (at_b : (row_of s n).place ≡ b + d) (at_c : (row_of t k).place ≡ c + d) (free : SettledBehind m cs b s n) where
    moved : Moved b c (row_of s n) (row_of t k)
    moved =
        let (x, e, r) = row_made laws cs s f n hn in
        let (y, u, v) = row_made laws ds t g k hk in
        let i : m cs (row_of s n).place ≡ m ds (row_of t k).place = ap (m cs) at_b ∙ same_test laws cs ds b c d same ∙ sym (ap (m ds) at_c) in
        let w : x ≡ y = cc in
        record {
          far = d;
          from = at_b;
          to = at_c;
          long = ap (λ z. z.length) r ∙ ap (λ z. z.length) w ∙ sym (ap (λ z. z.length) v);
          tag = ap (λ z. z.tag) r ∙ ap (λ z. z.tag) w ∙ sym (ap (λ z. z.tag) v);
          kind = ap (λ z. z.source_type) r ∙ ap (λ z. z.source_type) w ∙ sym (ap (λ z. z.source_type) v);
          id = ap (λ z. z.source_id) r ∙ ap (λ z. z.source_id) w ∙ sym (ap (λ z. z.source_id) v);
          time = ap (λ z. z.time) r ∙ ap (λ z. z.time) w ∙ sym (ap (λ z. z.time) v);
        }

    same_settled : settled m cs (take n s.table) (row_of s n) ≡ settled m ds (take k t.table) (row_of t k)
    same_settled = elim free [ inl e ↦ none e | inr z ↦ some z.0 z.1 z.2 ]
      where
        none : needs_settings (row_of s n).tag ≡ false → settled m cs (take n s.table) (row_of s n) ≡ settled m ds (take k t.table) (row_of t k)
        none e =
            let o : needs_settings (row_of t k).tag ≡ false = sym (ap needs_settings moved.tag) ∙ e in
            ap (λ z. cond z (counter_by m cs (governing m cs (take n s.table) (row_of s n))) (Some Without)) e
            ∙ sym (ap (λ z. cond z (counter_by m ds (governing m ds (take k t.table) (row_of t k))) (Some Without)) o)

        some : (x : Row) → governing m cs (take n s.table) (row_of s n) ≡ Some x → b ≤ x.place → settled m cs (take n s.table) (row_of s n) ≡ settled m ds (take k t.table) (row_of t k)
        some x e l =
            let (y, u, v) = same_governing (row_of s n) (row_of t k) moved x (sym (ap (λ z. last (filter (is_settings m cs (row_of s n)) z)) (rows_before laws cs s f n hn)) ∙ e) l in
            let o : governing m ds (take k t.table) (row_of t k) ≡ Some y = ap (λ z. last (filter (is_settings m ds (row_of t k)) z)) (rows_before laws ds t g k hk) ∙ u in
            let p : counter_by m cs (governing m cs (take n s.table) (row_of s n)) ≡ counter_by m ds (governing m ds (take k t.table) (row_of t k))
            = ap (counter_by m cs) e ∙ ap (counter_in) (same_body laws cs ds b c same v) ∙ sym (ap (counter_by m ds) o) in
            λ i. cond (needs_settings (moved.tag i)) (p i) (Some Without)

    same_judged : judged m cs (take n s.table) (row_of s n) ≡ judged m ds (take k t.table) (row_of t k)
    same_judged = grind (arith, common_steps, moved, same_settled, same_body)

    same_fetch : (buffer : List ℕ) → fetching m cs n buffer s ≡ fetching m ds k buffer t
    same_fetch buffer = grind (arith, common_steps, fetch_held, moved, same_bytes)

    pub alike : Alike m cs ds s t n k
    alike = record {
      settle = settle_held laws cs s f n hn ∙ ap (λ o. ok_or o NoSettings) same_settled ∙ sym (settle_held laws ds t g k hk);
      inspect = λ buffer. unnumbered_is n (judged m cs (take n s.table) (row_of s n)) (fetching m cs n buffer s).0 ∙ (λ i. result_map_both (λ z. same_judged i) (λ e. e) (same_fetch buffer i).0) ∙ sym (unnumbered_is k (judged m ds (take k t.table) (row_of t k)) (fetching m ds k buffer t).0);
      buffer = λ buffer. ap (λ z. z.1) (same_fetch buffer);
    }
