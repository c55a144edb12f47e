-- What a put adds to an output and to its listing.
use Rattle.std.proofs.Common.{◌≡◌, ℕ, ◌+◌, ◌/◌, ◌%◌, ◌<◌, ◌≤◌, false, List, [], ◌∷◌, ◌++◌, length, drop, Ok, Result, sym, refl, ap, ◌∙◌, arith}
use Rattle.std.specs.List.{AllByRecursion}
use Rattle.std.proofs.lemmas.List.{append_assoc, length-append, length-drop, drop-drop, drop_at, take_all, map-append, flat_map_more}
use Rattle.std.proofs.lemmas.Bool.{cond-false, le-ltb}
use Rattle.recording.specs.declared.Cell.{Cell}
use Rattle.recording.specs.declared.Cell.TheVariants.{Byte}
use Rattle.recording.specs.Cells.{bytes_only, plain, length-bytes}
use Rattle.records.specs.Grammars.{bytes_of, meaning}
use Rattle.records.specs.Tuples.{tuple}
use Rattle.records.specs.TupleLaws.{tuple_laws}
use Rattle.indexfile.specs.Files.{lengths}
use Rattle.listing.specs.Listing.{listing}
use Rattle.listing.proofs.Lists.{Lists, at_end, at_record, from_lists}
use Rattle.writing.specs.declared.header.Header.{Header}
use Rattle.writing.specs.declared.refusal.PutError.{PutError}
use Rattle.writing.specs.Parts.{Parts, parts, record_of, Wide, Fits}
use Rattle.writing.specs.Written.{front, written, putting}
use Rattle.writing.specs.Outputs.{outputs, rows_from, Holds, Adds}
use Rattle.writing.proofs.Fronts.{stands_first}
use Rattle.writing.proofs.Openings.{reopened}

long_written : (h : Header) (body : List ℕ) → length (written h body) ≡ length body + 16
long_written h body = omega (arith, length-append body (length body % 256 ∷ length body / 256 % 256 ∷ []))

-- the rows from a place on at which tuples stand one behind the other, to the end
lists_all : (cs : List Cell) (at : ℕ) (ps : List Parts) → AllByRecursion Fits ps → drop at cs ≡ bytes_only (outputs ps) → Lists (meaning tuple) cs at (rows_from at ps)
lists_all cs at [] f e = at_end (omega (arith, length-drop at cs, ap length e))
lists_all cs at (p ∷ ps) f e =
    let h = p.header in
    let body = p.body in
    let few : length body < 65536 = omega (arith, f.0.1) in
    let here : meaning tuple cs at ≡ _ = ap (λ ds. tuple (bytes_of ds)) e ∙ stands_first h body (outputs ps) f.0.0 few in
    let long : length (bytes_only (written h body)) ≡ length body + 16 = length-bytes (written h body) ∙ long_written h body in
    let on : drop (at + (length body + 16)) cs ≡ bytes_only (outputs ps) = sym (drop-drop (length body + 16) at cs) ∙ ap (drop (length body + 16)) (e ∙ map-append Byte (written h body) (outputs ps)) ∙ drop_at (bytes_only (written h body)) (bytes_only (outputs ps)) (length body + 16) long in
    at_record (record_of h (length body)) here (lists_all cs (at + (length body + 16)) ps f.1 on)

-- the rows leave nothing out
rows_whole : (at : ℕ) (ps : List Parts) → lengths (rows_from at ps) ≡ length (outputs ps)
rows_whole at [] = refl
rows_whole at (p ∷ ps) = omega (arith, rows_whole (at + (length p.body + 16)) ps, length-append (written p.header p.body) (outputs ps), long_written p.header p.body)

pub holds : (ps : List Parts) (bs : List ℕ) → AllByRecursion Fits ps → bs ≡ outputs ps → length bs ≤ 2147483647 → Holds ps bs
holds ps bs f e few =
    let same : plain bs ≡ bytes_only (outputs ps) = ap bytes_only (take_all 2147483647 bs few ∙ e) in
    let rows : listing (meaning tuple) (plain bs) ≡ rows_from 0 ps = sym (from_lists tuple_laws (plain bs) (lists_all (plain bs) 0 ps f same)) in
    record { fit = f; bytes = e; listed = rows; whole = ap lengths rows ∙ rows_whole 0 ps ∙ ap length (sym e) }

pub holds_none : (bs : List ℕ) → bs ≡ [] → Holds [] bs
holds_none bs e = holds [] bs tt e (omega (arith, ap length e))

all_more : (ps : List Parts) (p : Parts) → AllByRecursion Fits ps → Fits p → AllByRecursion Fits (ps ++ p ∷ [])
all_more [] p f g = (g, tt)
all_more (q ∷ ps) p f g = (f.0, all_more ps p f.1 g)

pub adds : (h : Header) (body before after : List ℕ) → Wide h → length body ≤ 65535 → after ≡ before ++ written h body → length after ≤ 2147483647 → Adds h body before after
adds h body before after w few e short = record {
  again = reopened h body w (omega arith);
  behind = λ ps k. holds (ps ++ parts h body ∷ []) after (all_more ps (parts h body) k.fit (w, few)) (e ∙ ap (λ bs. bs ++ written h body) k.bytes ∙ flat_map_more (λ p. written p.header p.body) [] ps (parts h body)) short;
}

-- the bytes after three pieces were added
pub in_pieces : (h : Header) (n : ℕ) (body before ready one two after head foot : List ℕ) → ready ≡ before → one ≡ ready ++ head → head ≡ front h n → two ≡ one ++ body → after ≡ two ++ foot → foot ≡ n % 256 ∷ n / 256 % 256 ∷ [] → n ≡ length body → after ≡ before ++ written h body
in_pieces h n body before ready one two after head foot e0 e1 e2 e3 e4 e5 e6 =
    e4 ∙ ap (λ bs. bs ++ foot) (e3 ∙ ap (λ bs. bs ++ body) (e1 ∙ (λ i. e0 i ++ e2 i))) ∙ append_assoc (before ++ front h n) body foot ∙ append_assoc before (front h n) (body ++ foot) ∙ ap (λ bs. before ++ (front h n ++ (body ++ bs))) e5 ∙ ap (λ k. before ++ (front h k ++ (body ++ k % 256 ∷ k / 256 % 256 ∷ []))) e6

pub put_whole : (h : Header) (body before after : List ℕ) → length body ≤ 65535 → length before + (length body + 16) ≤ 2147483647 → after ≡ before ++ written h body → ◌≡◌ {A = Result (Unit {0}) PutError × List ℕ} (Ok tt, after) (putting false before h body)
put_whole h body before after few room e = ap (λ bs. (Ok tt, bs)) e ∙ sym (cond-false _ _ _ (le-ltb 65535 (length body) few) ∙ cond-false _ _ _ (le-ltb 2147483647 (length before + (length body + 16)) room))

pub still_short : (h : Header) (body before after : List ℕ) → length before + (length body + 16) ≤ 2147483647 → after ≡ before ++ written h body → length after ≤ 2147483647
still_short h body before after room e = omega (arith, ap length e, length-append before (written h body), long_written h body)
