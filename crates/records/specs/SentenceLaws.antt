-- Sentences keep the laws of records.
use Rattle.std.specs.Prelude.{◌≡◌, ℕ, zero, suc, ◌+◌, ◌*◌, ◌<◌, ◌≤◌, Bool, true, false, cond, ◌&&◌, List, [], ◌∷◌, length, take, drop, Some, None, ◌==◌, nat_le, slice_index, slice_index_or, refl}
use Rattle.std.proofs.Common.{sym, ap, ◌∙◌, zero-le, suc-le-suc, not-suc-le-zero, le_of_suc-le-suc, arith, length-drop, drop-drop}
use Rattle.std.specs.List.{AllByRecursion}
use Rattle.std.proofs.lemmas.Bool.{and_parts, leb-true, false≢true}
use Rattle.records.specs.declared.kind.Record.{Record}
use Rattle.records.specs.Records.{Laws}
use Rattle.records.specs.Grammars.{meaning}
use Rattle.records.specs.GrammarLaws.{Reads, lawful, some_cond, same_at, same_part}
use Rattle.records.specs.Sentences.{name_char, is_text, before_star, xored, closing, begins, is_head, name_sum, is_tail, sentence_of, sentence}

pub begins_long : (xs bs : List ℕ) → begins xs bs ≡ true → length xs ≤ length bs
begins_long [] bs e = zero-le
begins_long (x ∷ xs) [] e = absurd (false≢true e)
begins_long (x ∷ xs) (b ∷ bs) e = suc-le-suc (begins_long xs bs (and_parts (b == x) (begins xs bs) e).1)

begins_take : (xs bs : List ℕ) → begins xs bs ≡ begins xs (take (length xs) bs)
begins_take [] bs = refl
begins_take (x ∷ xs) [] = refl
begins_take (x ∷ xs) (b ∷ bs) = ap (λ t. (b == x) && t) (begins_take xs bs)

star_step : (t : Bool) (e f : ℕ) (cs bs : List ℕ) (m : ℕ) → e ≡ f → (length bs < m → cs ≡ bs) → length (cond t [] (f ∷ bs)) < suc m → cond t [] (e ∷ cs) ≡ cond t [] (f ∷ bs)
star_step true e f cs bs m same ih h = refl
star_step false e f cs bs m same ih h = λ j. same j ∷ ih (le_of_suc-le-suc h) j

star_alike : (m : ℕ) (es fs : List ℕ) → take m es ≡ take m fs → length (before_star fs) < m → before_star es ≡ before_star fs
star_alike zero es fs same h = absurd (not-suc-le-zero h)
star_alike (suc m) [] [] same h = refl
star_alike (suc m) [] (f ∷ fs) same h = let z = ap length same in absurd (omega arith)
star_alike (suc m) (e ∷ es) [] same h = let z = ap length same in absurd (omega arith)
star_alike (suc m) (e ∷ es) (f ∷ fs) same h =
    let head : e ≡ f = ap (λ l. slice_index l 0) same in
    ap (λ b. cond (b == 42) [] (e ∷ before_star es)) head ∙ star_step (f == 42) e f (before_star es) (before_star fs) m head (star_alike m es fs (ap (drop 1) same)) h

sentence_inside : (bs : List ℕ) (x : Record) → AllByRecursion (λ b. b < 256) bs → sentence bs ≡ Some x → (1 ≤ x.length) × (x.length ≤ 82) × (x.length ≤ length bs)
sentence_inside bs x bytes e =
    let text = before_star (drop 6 bs) in
    let f = some_cond (is_head bs && is_tail (name_sum bs) (drop 6 bs)) _ x e in
    let tail = (and_parts (is_head bs) (is_tail (name_sum bs) (drop 6 bs)) f.0).1 in
    let ends = and_parts _ _ (and_parts (is_text text) _ tail).1 in
    let n : length text + 11 ≡ x.length = ap (λ (y : Record). y.length) f.1 in
    let short : length text + 11 ≤ 82 = leb-true _ _ ends.0 in
    let closed : 4 ≤ length (drop (suc (length text)) (drop 6 bs)) = begins_long (closing (xored (name_sum bs) text)) _ ends.1 in
    (omega arith, omega arith, omega (arith, length-drop (suc (length text)) (drop 6 bs), length-drop 6 bs))

sentence_alike : (bs ds : List ℕ) (x : Record) → sentence bs ≡ Some x → take x.length ds ≡ take x.length bs → sentence ds ≡ Some x
sentence_alike bs ds x e same =
    let text = before_star (drop 6 bs) in
    let f = some_cond (is_head bs && is_tail (name_sum bs) (drop 6 bs)) _ x e in
    let n : length text + 11 ≡ x.length = ap (λ (y : Record). y.length) f.1 in
    let at : (i : ℕ) → i < 6 → slice_index ds i ≡ slice_index_or bs i 0 = λ i h. same_at x.length bs ds same i 0 (omega arith) in
    let name : take 5 (drop 1 ds) ≡ take 5 (drop 1 bs) = same_part x.length bs ds same 1 5 (omega arith) in
    let texts : before_star (drop 6 ds) ≡ text = star_alike (length text + 5) (drop 6 ds) (drop 6 bs) (same_part x.length bs ds same 6 (length text + 5) (omega arith)) (omega arith) in
    let sum = closing (xored (name_sum bs) text) in
    let after : take 4 (drop (suc (length text)) (drop 6 ds)) ≡ take 4 (drop (suc (length text)) (drop 6 bs)) =
    ap (take 4) (drop-drop (suc (length text)) 6 ds) ∙ same_part x.length bs ds same (6 + suc (length text)) 4 (omega arith) ∙ sym (ap (take 4) (drop-drop (suc (length text)) 6 bs)) in
    let ends = begins_take sum (drop (suc (length text)) (drop 6 ds)) ∙ ap (begins sum) after ∙ sym (begins_take sum (drop (suc (length text)) (drop 6 bs))) in
    let closes : begins (closing (xored (name_sum ds) (before_star (drop 6 ds)))) (drop (suc (length (before_star (drop 6 ds)))) (drop 6 ds)) ≡ begins sum (drop (suc (length text)) (drop 6 bs)) =
    (λ j. begins (closing (xored (xored 0 (name j)) (texts j))) (drop (suc (length (texts j))) (drop 6 ds))) ∙ ends in
    let a0 = at 0 (omega arith) in
    let a1 = at 1 (omega arith) in
    let a2 = at 2 (omega arith) in
    let a3 = at 3 (omega arith) in
    let a4 = at 4 (omega arith) in
    let a5 = at 5 (omega arith) in
    let head : is_head ds ≡ is_head bs = λ j. (a0 j == 36) && (name_char (a1 j) && (name_char (a2 j) && (name_char (a3 j) && (name_char (a4 j) && name_char (a5 j))))) in
    let equal : sentence ds ≡ sentence bs =
    λ j. cond (head j && (is_text (texts j) && (nat_le (length (texts j) + 11) 82 && closes j))) (Some (sentence_of (length (texts j) + 11) (a3 j * 65536 + (a4 j * 256 + a5 j)))) None in
    equal ∙ e

pub sentence_reads : Reads 82 sentence
sentence_reads = record { inside = sentence_inside; alike = sentence_alike }

pub sentence_laws : Laws 82 (meaning sentence)
sentence_laws = lawful 82 sentence sentence_reads
