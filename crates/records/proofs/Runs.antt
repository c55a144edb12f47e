-- Bytes at hand that stand in a recording decide what stands there.
use Rattle.std.proofs.Common.{◌≡◌, ℕ, zero, suc, ◌+◌, ◌<◌, ◌≤◌, List, [], ◌∷◌, length, get_or, take, drop, Some, None, Option, sym, refl, ap, ◌∙◌, le_of_suc-le-suc, suc-le-suc, not-suc-le-zero, add-zero, arith, length-take, take-take}
use Rattle.std.specs.List.{AllByRecursion}
use Rattle.recording.specs.declared.Cell.{Cell}
use Rattle.recording.specs.Cells.{cell_at, Stand}
use Rattle.records.specs.declared.kind.Record.{Record}
use Rattle.records.specs.Grammars.{Grammar, meaning, bytes_from, first}
use Rattle.records.specs.GrammarLaws.{Reads, all_bytes}
use Rattle.records.proofs.Reading.{run_first, stand_byte}

all_taken : (n : ℕ) (bs : List ℕ) → AllByRecursion (λ b. b < 256) bs → AllByRecursion (λ b. b < 256) (take n bs)
all_taken zero bs h = tt
all_taken (suc n) [] h = tt
all_taken (suc n) (b ∷ bs) h = (h.0, all_taken n bs h.1)

-- bytes at the front decide what stands there, if no longer record does
pub part_decides : (M : ℕ) (g : Grammar) → Reads M g → (bs : List ℕ) (n : ℕ) → AllByRecursion (λ b. b < 256) bs → ((x : Record) → g bs ≡ Some x → x.length ≤ n) → g (take n bs) ≡ g bs
part_decides M g r bs n all short = go (g bs) refl (g (take n bs)) refl
  where
    within : (x : Record) → g (take n bs) ≡ Some x → x.length ≤ n
    within x f = omega (arith, (r.inside (take n bs) x (all_taken n bs all) f).2, length-take n bs)

    go : (o : Option Record) → g bs ≡ o → (q : Option Record) → g (take n bs) ≡ q → g (take n bs) ≡ g bs
    go (Some x) e q f = r.alike bs (take n bs) x e (take-take x.length n bs (short x e)) ∙ sym e
    go None e None f = f ∙ sym e
    go None e (Some x) f = f ∙ sym (r.alike (take n bs) bs x f (sym (take-take x.length n bs (within x f))))

-- so the first M bytes do
pub front_decides : (M : ℕ) (g : Grammar) → Reads M g → (bs : List ℕ) → AllByRecursion (λ b. b < 256) bs → g (take M bs) ≡ g bs
front_decides M g r bs all = part_decides M g r bs M all (λ x e. (r.inside bs x all e).1)

-- so does a copy of them
pub copy_decides : (M : ℕ) (g : Grammar) → Reads M g → (cs : List Cell) (p : ℕ) (bs : List ℕ) → bs ≡ take M (bytes_from cs p) → g bs ≡ meaning g cs p
copy_decides M g r cs p bs same = ap g same ∙ front_decides M g r (bytes_from cs p) (all_bytes (drop p cs))

stand_rest : (cs : List Cell) (p b : ℕ) (bs : List ℕ) → Stand cs p (b ∷ bs) → Stand cs (p + 1) bs
stand_rest cs p b bs stand k h =
    let next : p + 1 + k ≡ p + suc k = omega arith in
    ap (cell_at cs) next ∙ stand (suc k) (suc-le-suc h)

-- so far as bytes stand, they are the run at their place
stand_front : (n : ℕ) (cs : List Cell) (p : ℕ) (bs : List ℕ) → n ≤ length bs → Stand cs p bs → ((k : ℕ) → get_or bs k 0 < 256) → take n bs ≡ take n (bytes_from cs p)
stand_front zero cs p bs h stand bytes = refl
stand_front (suc n) cs p [] h stand bytes = absurd (not-suc-le-zero h)
stand_front (suc n) cs p (b ∷ bs) h stand bytes =
    let here : first (bytes_from cs p) ≡ Some b = ap (λ q. first (bytes_from cs q)) (sym (add-zero p)) ∙ stand_byte cs p (b ∷ bs) stand bytes 0 (omega arith) in
    ap (λ l. b ∷ l) (stand_front n cs (p + 1) bs (le_of_suc-le-suc h) (stand_rest cs p b bs stand) (λ k. bytes (suc k))) ∙ sym (ap (take (suc n)) (run_first cs p b here))

all_below : (bs : List ℕ) → ((k : ℕ) → get_or bs k 0 < 256) → AllByRecursion (λ b. b < 256) bs
all_below [] h = tt
all_below (b ∷ bs) h = (h 0, all_below bs (λ k. h (suc k)))

-- M bytes or more decide what stands where they stand
pub run_decides : (M : ℕ) (g : Grammar) → Reads M g → (cs : List Cell) (p : ℕ) (bs : List ℕ) → M ≤ length bs → Stand cs p bs → ((k : ℕ) → get_or bs k 0 < 256) → g bs ≡ meaning g cs p
run_decides M g r cs p bs long stand bytes =
    sym (front_decides M g r bs (all_below bs bytes)) ∙ copy_decides M g r cs p (take M bs) (stand_front M cs p bs long stand bytes)
