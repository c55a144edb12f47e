-- A file that was written is read again.
use Rattle.std.proofs.Common.{◌≡◌, ℕ, suc, ◌+◌, ◌*◌, ◌^◌, ◌<◌, ◌≤◌, true, leb, List, [], ◌∷◌, ◌++◌, length, get_or, take, sym, refl, ap, ◌∙◌, subst, arith}
use Rattle.std.specs.List.{flat_map}
use Rattle.std.proofs.lemmas.List.{take_at}
use Rattle.std.proofs.lemmas.Bool.{and_from, le-leb, eq-eqb}
use Rattle.indexfile.specs.declared.row.Row.{Row}
use Rattle.indexfile.specs.Numbers.{number}
use Rattle.indexfile.specs.Files.{sound_rows, row_bytes, file_of, row_of, rows_of, rows_in, shaped}
use Rattle.indexfile.specs.Written.{Wide, no_row, ReadsBack}
use Rattle.indexfile.proofs.Bytes.{little_bytes}
use Rattle.indexfile.proofs.Numbered.{row_in_lem}
use Rattle.indexfile.proofs.Writes.{length-file}

row_back : (x : Row) (rest : List ℕ) → Wide x → row_of (row_bytes x ++ rest) ≡ x
row_back x rest w = λ i. record {
  place = little_bytes 4 x.place w.place i;
  length = little_bytes 4 x.length w.length i;
  tag = little_bytes 4 x.tag w.tag i;
  source_type = little_bytes 2 x.source_type w.type i;
  source_id = little_bytes 2 x.source_id w.id i;
  time = little_bytes 4 x.time w.time i;
}

rows_back : (rows : List Row) → ((k : ℕ) → k < length rows → Wide (get_or rows k no_row)) → rows_of (length rows) (flat_map row_bytes rows) ≡ rows
rows_back [] w = refl
rows_back (x ∷ rows) w = λ i. row_back x (flat_map row_bytes rows) (w 0 (omega arith)) i ∷ rows_back rows (λ k h. w (suc k) (omega arith)) i

pub reads_back : (place skipped : ℕ) (rows : List Row) → place < 2 ^ 32 → skipped < 2 ^ 32 → length rows ≤ 65536 → ((k : ℕ) → k < length rows → Wide (get_or rows k no_row)) → sound_rows place skipped rows ≡ true → ReadsBack place skipped rows (file_of place skipped rows)
unfolding file_of
reads_back place skipped rows p q few w s =
    let bs = file_of place skipped rows in
    let fits : length rows < 256 ^ 4 = omega arith in
    let count : number bs 0 4 ≡ length rows = little_bytes 4 (length rows) fits in
    let reached : number bs 8 4 ≡ place = little_bytes 4 place p in
    let over : number bs 12 4 ≡ skipped = little_bytes 4 skipped q in
    let all : rows_in bs ≡ rows = ap (λ k. rows_of k (flat_map row_bytes rows)) count ∙ rows_back rows w in
    let long : length bs ≡ 16 + 20 * length rows = length-file place skipped rows in
    record {
      sound = and_from (shaped bs) _ (and_from (leb 16 (length bs)) _ (le-leb 16 _ (omega arith)) (and_from (leb (number bs 0 4) 65536) _ (le-leb _ 65536 (omega arith)) (eq-eqb _ _ (omega arith)))) ((λ i. sound_rows (reached i) (over i) (all i)) ∙ s);
      counts = λ i. record { rows = count i; place = reached i; skipped = over i };
      all = all;
      each = λ n h. sym (row_in_lem bs n no_row (omega arith)) ∙ ap (λ xs. get_or xs n no_row) all;
    }

-- the front of a buffer that the file was written to
pub front_reads_back : (place skipped : ℕ) (rows : List Row) (bs rest : List ℕ) → place < 2 ^ 32 → skipped < 2 ^ 32 → length rows ≤ 65536 → ((k : ℕ) → k < length rows → Wide (get_or rows k no_row)) → sound_rows place skipped rows ≡ true → bs ≡ file_of place skipped rows ++ rest → ReadsBack place skipped rows (take (16 + 20 * length rows) bs)
front_reads_back place skipped rows bs rest p q few w s e =
    subst (ReadsBack place skipped rows) (sym (ap (take (16 + 20 * length rows)) e ∙ take_at _ rest (16 + 20 * length rows) (length-file place skipped rows))) (reads_back place skipped rows p q few w s)
