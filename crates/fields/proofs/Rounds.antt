-- A field that was set is read again, and every other field stays.
use Rattle.std.proofs.Common.{◌≡◌, ℕ, zero, suc, ◌+◌, ◌-◌, ◌^◌, ◌<◌, ◌≤◌, Bool, true, false, cond, eqb, ltb, ◌≢◌, ◌⊎◌, List, [], ◌∷◌, length, get_or, take, ℤ, pos, negsuc, IfOk, Some, None, Ok, Err, Option, Result, sym, refl, ap, ◌∙◌, subst, inl, inr, arith, w16, to_z, of_z, ltb-true, eqb-true, leb-true}
use Rattle.std.proofs.lemmas.Bool.{cases_lt, ne_eqb}
use Rattle.std.proofs.lemmas.Int.{ints}
use Rattle.std.specs.Option as options
use Rattle.std.specs.Option.{ok_or}
use Rattle.std.specs.Result.{result_map_both}
use Rattle.layouts.specs.declared.fault.LayoutFault.{LayoutFault}
use Rattle.fields.specs.declared.fault.FieldFault.{FieldFault}
use Rattle.fields.specs.declared.fault.FieldFault.TheVariants.{Body, NoField}
use Rattle.layouts.specs.declared.letters.Letter.{Letter}
use Rattle.layouts.specs.declared.letters.Letter.TheVariants.{D, F, L, W, S, B, R}
use Rattle.layouts.specs.Catalogue.{layout_for}
use Rattle.layouts.specs.Checks.{and_then}
use Rattle.fields.specs.Fields.{Value, a_number, a_signed, a_run, says, value_at, field_in, place_of, value_of}
use Rattle.layouts.specs.Letters.{size, total, field_of}
use Rattle.layouts.specs.Located.{letters_said, letters_of}
use Rattle.layouts.specs.Members.{settings_letters}
use Rattle.layouts.specs.Settings.{version, head_controller_version, hid_type, altimeter_for, settings_checks, settings_body, counter_of, settings_of}
use Rattle.layouts.specs.Numbers.{little, part, number}
use Rattle.fields.specs.Set.{bytes_of, number_bytes, narrow, signed_bytes, run_bytes, bytes_for, set_at, put_of, FieldSet}
use Rattle.fields.proofs.Versions.{Judging, judging}
use Rattle.fields.proofs.Sets.{length-bytes, little_bytes, length-set, part_set, part_before, part_after}

-- what a value's bytes are: as many as the member has, and they say the value
Fit : Letter → Value → List ℕ → Type 0
Fit l v new = (length new ≡ size l) × (says l new ≡ v)

number_fits : (k : ℕ) (v : Value) (new : List ℕ) → number_bytes k v ≡ Some new → (length new ≡ k) × (a_number (little new) ≡ v)
number_fits k (a_number n) new e = go (ltb n (256 ^ k)) refl e
  where
    go : (b : Bool) → ltb n (256 ^ k) ≡ b → cond b (Some (bytes_of k n)) None ≡ Some new → (length new ≡ k) × (a_number (little new) ≡ a_number n)
    go true h q =
        let same : bytes_of k n ≡ new = cc in
        (ap length (sym same) ∙ length-bytes k n, ap a_number (ap little (sym same) ∙ little_bytes k n (ltb-true _ _ h)))
    go false h q = cc
number_fits k (a_signed z) new e = cc
number_fits k (a_run s) new e = cc

signed_back : (z : ℤ) → narrow z ≡ true → (of_z w16 z < 256 ^ 2) × (to_z w16 (of_z w16 z) ≡ z)
signed_back (pos n) h = let l : n ≤ 32767 = leb-true _ _ h in (omega arith, omega (arith, ints))
signed_back (negsuc n) h = let l : n ≤ 32767 = leb-true _ _ h in (omega arith, omega (arith, ints))

signed_fits : (v : Value) (new : List ℕ) → signed_bytes v ≡ Some new → Fit S v new
unfolding Fit
signed_fits (a_number n) new e = cc
signed_fits (a_signed z) new e = go (narrow z) refl e
  where
    go : (b : Bool) → narrow z ≡ b → cond b (Some (bytes_of 2 (of_z w16 z))) None ≡ Some new → (length new ≡ 2) × (a_signed (to_z w16 (little new)) ≡ a_signed z)
    go true h q =
        let same : bytes_of 2 (of_z w16 z) ≡ new = cc in (
          ap length (sym same),
          ap a_signed (ap (λ n. to_z w16 n) (ap little (sym same) ∙ little_bytes 2 (of_z w16 z) (signed_back z h).0) ∙ (signed_back z h).1),
        )
    go false h q = cc
signed_fits (a_run s) new e = cc

run_fits : (k : ℕ) (v : Value) (new : List ℕ) → run_bytes k v ≡ Some new → Fit (R k) v new
unfolding Fit
run_fits k (a_number n) new e = cc
run_fits k (a_signed z) new e = cc
run_fits k (a_run s) new e = go (eqb (length s) k) refl e
  where
    go : (b : Bool) → eqb (length s) k ≡ b → cond b (Some s) None ≡ Some new → (length new ≡ k) × (a_run new ≡ a_run s)
    go true h q =
        let same : s ≡ new = cc in
        (ap length (sym same) ∙ eqb-true _ _ h, ap a_run (sym same))
    go false h q = cc

fits : (l : Letter) (v : Value) (new : List ℕ) → bytes_for l v ≡ Some new → Fit l v new
unfolding Fit
fits D v new e = number_fits 8 v new e
fits F v new e = number_fits 4 v new e
fits L v new e = number_fits 4 v new e
fits W v new e = number_fits 2 v new e
fits S v new e = signed_fits v new e
fits B v new e = number_fits 1 v new e
fits (R k) v new e = run_fits k v new e

-- a field ends where the next begins, or before
apart : (ls : List Letter) (m n : ℕ) → m < n → n ≤ length ls → total (take m ls) + size (get_or ls m D) ≤ total (take n ls)
apart [] m n h k = omega arith
apart (l ∷ ls) m zero h k = omega arith
apart (l ∷ ls) zero (suc n) h k = omega arith
apart (l ∷ ls) (suc m) (suc n) h k =
    let h' : m < n = omega arith in
    let k' : n ≤ length ls = omega arith in
    omega (arith, apart ls m n h' k')

-- where a field of letters is
record Found (ls : List Letter) (n : ℕ) (p : ℕ × Letter) : Type 0 where
  pub among : n < length ls
  pub place : p.0 ≡ total (take n ls)
  pub letter : p.1 ≡ get_or ls n D

found : (ls : List Letter) (n : ℕ) (p : ℕ × Letter) → field_of ls n ≡ Some p → Found ls n p
found ls n p e = go (ltb n (length ls)) refl e
  where
    go : (b : Bool) → ltb n (length ls) ≡ b → cond b (Some (total (take n ls), get_or ls n D)) None ≡ Some p → Found ls n p
    go true h q =
        let same : (total (take n ls), get_or ls n D) ≡ p = cc in
        record { among = ltb-true _ _ h; place = ap (λ x. x.0) (sym same); letter = ap (λ x. x.1) (sym same) }
    go false h q = cc

module _ (bs : List ℕ) (p : ℕ × Letter) (v : Value) (new : List ℕ) (room : p.0 + size p.1 ≤ length bs) (e : bytes_for p.1 v ≡ Some new) where
  after : List ℕ
  after = set_at bs p.0 new

  long : length new ≡ size p.1
  unfolding Fit
  long = (fits p.1 v new e).0

  within : p.0 + length new ≤ length bs
  within = let l : length new ≡ size p.1 = long in omega arith

  says_again : value_at after p ≡ v
  unfolding after Fit
  says_again = ap (λ k. says p.1 (part (set_at bs p.0 new) p.0 k)) (sym long) ∙ ap (says p.1) (part_set bs p.0 new within) ∙ (fits p.1 v new e).1

  module _ (ls : List Letter) (n : ℕ) (f : field_of ls n ≡ Some p) where
    field_again : field_in ls after n ≡ Some v
    field_again = ap (options.option_map (value_at after)) f ∙ ap Some says_again

    -- a part that is not the field's own
    stays : (q : ℕ × Letter) → (q.0 + size q.1 ≤ p.0) ⊎ (p.0 + size p.1 ≤ q.0) → value_at after q ≡ value_at bs q
    unfolding after
    stays q (inl b) = ap (says q.1) (part_before bs p.0 new within q.0 (size q.1) b)
    stays q (inr a) =
        let l : length new ≡ size p.1 = long in
        ap (says q.1) (part_after bs p.0 new within q.0 (size q.1) (omega arith))

    beside : (m : ℕ) (q : ℕ × Letter) → m ≢ n → Found ls m q → (q.0 + size q.1 ≤ p.0) ⊎ (p.0 + size p.1 ≤ q.0)
    beside m q ne g =
        let h : Found ls n p = found ls n p f in
        let i : n < length ls = h.among in
        let j : m < length ls = g.among in
        elim (cases_lt m n) [
          | inl k ↦ inl (rw (g.place, g.letter, h.place) (apart ls m n k (omega arith)))
          | inr k ↦ inr (rw (h.place, h.letter, g.place) (let lt : n < m = omega arith in apart ls n m lt (omega arith)))
        ]

    value_stays : (m : ℕ) (q : ℕ × Letter) → n ≢ m → field_of ls m ≡ Some q → value_at after q ≡ value_at bs q
    value_stays m q ne g = stays q (beside m q (λ x. ne (sym x)) (found ls m q g))

    field_stays : (m : ℕ) → m ≢ n → field_in ls after m ≡ field_in ls bs m
    field_stays m ne = go (field_of ls m) refl
      where
        go : (o : Option (ℕ × Letter)) → field_of ls m ≡ o → options.option_map (value_at after) o ≡ options.option_map (value_at bs) o
        go None g = refl
        go (Some q) g = ap Some (stays q (beside m q ne (found ls m q g)))

-- what a body says, by its letters
mapped_ok : {T U E : Type 0} (f : T → U) (e : E) (o : Option T) → result_map_both f (λ x. x) (ok_or o e) ≡ ok_or (options.option_map f o) e
mapped_ok f e None = refl
mapped_ok f e (Some x) = refl

by_letters : (t : ℕ) (bs : List ℕ) (n : ℕ) (ls : List Letter) → letters_of t bs ≡ Ok ls → value_of t bs n ≡ ok_or (field_in ls bs n) NoField
by_letters t bs n ls e =
    ap (λ r. result_map_both (value_at bs) (λ x. x) (and_then (result_map_both (λ o. o) Body (result_map_both (λ l. field_of l n) (λ x. x) r)) (λ o. ok_or o NoField))) e ∙ mapped_ok (value_at bs) NoField (field_of ls n)

-- the letters of a body whose field was found
lettered : {T : Type 0} (r : Result (List Letter) LayoutFault) (f : List Letter → Option T) (p : T) → and_then (result_map_both (λ o. o) Body (result_map_both f (λ x. x) r)) (λ o. ok_or o NoField) ≡ Ok p → (ls : List Letter) × ((r ≡ Ok ls) × (f ls ≡ Some p))
lettered (Ok ls) f p e = (ls, (refl, go (f ls) refl e))
  where
    go : (o : Option _) → f ls ≡ o → ok_or o NoField ≡ Ok p → f ls ≡ Some p
    go None g q = cc
    go (Some x) g q = cc
lettered (Err x) f p e = cc

fixed_letters : (t : ℕ) (bs cs : List ℕ) → length cs ≡ length bs → t ≢ 15 → letters_of t cs ≡ letters_of t bs
fixed_letters t bs cs e ne =
    let other : eqb t 15 ≡ false = ne_eqb t 15 ne in
    plain cs other ∙ ap (λ n. result_map_both (λ l. l.0) (λ x. x) (layout_for t n)) e ∙ sym (plain bs other)
  where
    plain : (xs : List ℕ) → eqb t 15 ≡ false → letters_of t xs ≡ result_map_both (λ l. l.0) (λ x. x) (layout_for t (length xs))
    plain xs o = ap (λ b. cond b (result_map_both letters_said (λ x. x) (settings_of xs)) (result_map_both (λ l. l.0) (λ x. x) (layout_for t (length xs)))) o

-- settings that are judged alike have the same letters
judged : (bs : List ℕ) → result_map_both letters_said (λ x. x) (settings_of bs) ≡ result_map_both (λ _. settings_letters (version bs) (altimeter_for (length bs) (version bs))) (λ x. x) (settings_body bs)
judged bs = go (settings_body bs)
  where
    go : (r : Result (Unit {0}) LayoutFault) → result_map_both letters_said (λ x. x) (and_then r (λ _. Ok (record { version = version bs; altimeter = altimeter_for (length bs) (version bs); counter = counter_of bs }))) ≡ result_map_both (λ _. settings_letters (version bs) (altimeter_for (length bs) (version bs))) (λ x. x) r
    go (Ok x) = refl
    go (Err x) = refl

alike : (bs cs : List ℕ) → length cs ≡ length bs → version cs ≡ version bs → head_controller_version cs ≡ head_controller_version bs → hid_type cs ≡ hid_type bs → result_map_both letters_said (λ x. x) (settings_of cs) ≡ result_map_both letters_said (λ x. x) (settings_of bs)
alike bs cs l v k h =
    judged cs ∙ (λ i. result_map_both (λ _. settings_letters (v i) (altimeter_for (l i) (v i))) (λ x. x) (settings_checks (l i) (v i) (k i) (h i))) ∙ sym (judged bs)

-- a byte is the number that it writes
byte_number : (bs : List ℕ) (at : ℕ) → get_or bs at 0 ≡ number bs at 1
byte_number [] zero = refl
byte_number [] (suc at) = refl
byte_number (b ∷ bs) zero = omega arith
byte_number (b ∷ bs) (suc at) = byte_number bs at

same_number : {x y : ℕ} → a_number x ≡ a_number y → x ≡ y
same_number e = cc

-- the letters of sound settings
said : (bs : List ℕ) (ls : List Letter) → result_map_both letters_said (λ x. x) (settings_of bs) ≡ Ok ls → Judging (length bs) ls
said bs ls e = go (settings_body bs) refl (sym (judged bs) ∙ e)
  where
    go : (r : Result (Unit {0}) LayoutFault) → settings_body bs ≡ r → result_map_both (λ _. settings_letters (version bs) (altimeter_for (length bs) (version bs))) (λ x. x) r ≡ Ok ls → Judging (length bs) ls
    go (Ok tt) f q =
        let same : settings_letters (version bs) (altimeter_for (length bs) (version bs)) ≡ ls = cc in
        subst (Judging (length bs)) same (judging (length bs) (version bs) (head_controller_version bs) (hid_type bs) f)
    go (Err x) f q = cc

-- settings whose other members were set
kept_settings : (bs : List ℕ) (p : ℕ × Letter) (v : Value) (new : List ℕ) (room : p.0 + size p.1 ≤ length bs) (e : bytes_for p.1 v ≡ Some new) (ls : List Letter) (n : ℕ) → field_of ls n ≡ Some p → length (set_at bs p.0 new) ≡ length bs → result_map_both letters_said (λ x. x) (settings_of bs) ≡ Ok ls → n ≢ 9 → n ≢ length ls - 33 → n ≢ length ls - 21 → result_map_both letters_said (λ x. x) (settings_of (set_at bs p.0 new)) ≡ result_map_both letters_said (λ x. x) (settings_of bs)
unfolding after
kept_settings bs p v new room e ls n f long_set l a b c =
    let j : Judging (length bs) ls = said bs ls l in
    let cs : List ℕ = set_at bs p.0 new in
    let version-same : version cs ≡ version bs = byte_number cs 13 ∙ same_number (value_stays bs p v new room e ls n f 9 (13, B) a j.version_at) ∙ sym (byte_number bs 13) in
    let controller-same : get_or cs (length bs - 30) 0 ≡ get_or bs (length bs - 30) 0 = byte_number cs (length bs - 30) ∙ same_number (value_stays bs p v new room e ls n f (length ls - 21) (length bs - 30, B) c j.controller_at) ∙ sym (byte_number bs (length bs - 30)) in
    let hid-same : number cs (length bs - 94) 4 ≡ number bs (length bs - 94) 4 = same_number (value_stays bs p v new room e ls n f (length ls - 33) (length bs - 94, L) b j.hid_at) in
    alike bs cs long_set version-same
    (ap (λ k. get_or cs (k - 30) 0) long_set ∙ controller-same)
    (ap (λ k. number cs (k - 94) 4) long_set ∙ hid-same)

-- a field set at its place
set_at_lem : (t n : ℕ) (v : Value) (bs : List ℕ) (p : ℕ × Letter) (new : List ℕ) → place_of t bs n ≡ Ok p → p.0 + size p.1 ≤ length bs → bytes_for p.1 v ≡ Some new → FieldSet t n v bs (set_at bs p.0 new)
unfolding after
set_at_lem t n v bs p new e room f = go (lettered (letters_of t bs) (λ ls. field_of ls n) p e)
  where
    long_set : length (set_at bs p.0 new) ≡ length bs
    long_set = length-set bs p.0 new (within bs p v new room f)

    go : (ls : List Letter) × ((letters_of t bs ≡ Ok ls) × (field_of ls n ≡ Some p)) → FieldSet t n v bs (set_at bs p.0 new)
    go g = record {
      long = long_set;
      again = λ ls l. field_again bs p v new room f ls n (same ls l);
      others = λ ls m l ne. field_stays bs p v new room f ls n (same ls l) m ne;
      settings = λ ls l e a b c. settled ls l (same ls l) e a b c;
      fixed = λ ne. fixed_letters t bs (set_at bs p.0 new) long_set ne;
      read = λ k. by_letters t (set_at bs p.0 new) n g.0 (k ∙ g.1.0) ∙ ap (λ o. ok_or o NoField) (field_again bs p v new room f g.0 n g.1.1);
      read_others = λ m k ne. by_letters t (set_at bs p.0 new) m g.0 (k ∙ g.1.0) ∙ ap (λ o. ok_or o NoField) (field_stays bs p v new room f g.0 n g.1.1 m ne) ∙ sym (by_letters t bs m g.0 g.1.0);
    }
      where
        same : (ls : List Letter) → letters_of t bs ≡ Ok ls → field_of ls n ≡ Some p
        same ls l = let e : g.0 ≡ ls = cc in ap (λ x. field_of x n) (sym e) ∙ g.1.1

        settled : (ls : List Letter) → letters_of t bs ≡ Ok ls → field_of ls n ≡ Some p → t ≡ 15 → n ≢ 9 → n ≢ length ls - 33 → n ≢ length ls - 21 → letters_of t (set_at bs p.0 new) ≡ letters_of t bs
        settled ls l k h a b c = ap (λ x. letters_of x (set_at bs p.0 new)) h ∙ kept_settings bs p v new room f ls n k long_set (ap (λ x. letters_of x bs) (sym h) ∙ l) a b c ∙ ap (λ x. letters_of x bs) (sym h)

pub set_law : (t n : ℕ) (v : Value) (bs : List ℕ) (p : ℕ × Letter) (r : Result (Unit {0}) FieldFault) (cs : List ℕ) → place_of t bs n ≡ Ok p → p.0 + size p.1 ≤ length bs → (r, cs) ≡ put_of bs p.0 (bytes_for p.1 v) → IfOk r (λ _. FieldSet t n v bs cs)
set_law t n v bs p (Err x) cs e room q = tt
set_law t n v bs p (Ok x) cs e room q = go (bytes_for p.1 v) refl q
  where
    go : (o : Option (List ℕ)) → bytes_for p.1 v ≡ o → (Ok x, cs) ≡ put_of bs p.0 o → FieldSet t n v bs cs
    go None f w = let c : Ok x ≡ Err NoField = ap (λ y. y.0) w in cc
    go (Some new) f w = subst (FieldSet t n v bs) (ap (λ y. y.1) (sym w)) (set_at_lem t n v bs p new e room f)
