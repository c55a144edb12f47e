-- What writes to parts leave, and a number's bytes read again.
use Rattle.std.proofs.Common.{◌≡◌, ℕ, zero, suc, ◌+◌, ◌-◌, ◌/◌, ◌%◌, ◌^◌, ◌<◌, ◌≤◌, List, ◌∷◌, ◌++◌, length, take, drop, sym, refl, ap, ◌∙◌, pow-suc, arith, drop-drop, rules}
use borrow.Rule.Slice.PartMut.{put_mid}
use Rattle.std.specs.Int.{byte_at, bytes_low_first}
use Rattle.std.proofs.Math.Nat.{div-div-eq-div-mul, div-one}
use Rattle.std.proofs.lemmas.List.{append_assoc, append-nil, drop_all, drop_at, length-drop, places, same_lists, take_at, take_rest}
use Rattle.indexfile.specs.Numbers.{little, bytes_of, set_at}

pub little_bytes : (k n : ℕ) → n < 256 ^ k → little (bytes_of k n) ≡ n
little_bytes zero n h = omega arith
little_bytes (suc k) n h =
    let q : n / 256 < 256 ^ k = omega (arith, pow-suc 256 k) in
    omega (arith, little_bytes k (n / 256) q)

-- bytes set one behind the other are set together
pub set_on : (bs : List ℕ) (at next : ℕ) (xs ys : List ℕ) → at + length xs ≡ next → next + length ys ≤ length bs → set_at (set_at bs at xs) next ys ≡ set_at bs at (xs ++ ys)
set_on bs at next xs ys e h = same_lists _ _ (search (rules, places)) (λ k d i. grind (arith, places))

byte : (i n : ℕ) → byte_at i n ≡ n / 256 ^ i % 256
byte zero n = ap (λ m. m % 256) (sym (div-one n))
byte (suc i) n = refl

-- a number's bytes, as the library writes them
low_first : (i k n : ℕ) → bytes_low_first i k n ≡ bytes_of k (n / 256 ^ i)
low_first i zero n = refl
low_first i (suc k) n =
    let next : n / 256 ^ suc i ≡ n / 256 ^ i / 256 = ap (λ m. n / m) (pow-suc 256 i) ∙ sym (div-div-eq-div-mul n (256 ^ i) 256) in
    λ j. byte i n j ∷ (low_first (suc i) k n ∙ ap (bytes_of k) next) j

pub low_is : (k n : ℕ) → bytes_low_first 0 k n ≡ bytes_of k n
low_is k n = low_first 0 k n ∙ ap (bytes_of k) (div-one n)

length-bytes_of : (k n : ℕ) → length (bytes_of k n) ≡ k
length-bytes_of zero n = refl
length-bytes_of (suc k) n = ap suc (length-bytes_of k (n / 256))

-- a part of bytes whose front was written
pub part_set : (bs part new : List ℕ) (at : ℕ) → part ≡ new ++ drop (length new) (take (length bs - at) (drop at bs)) → put_mid at (length bs - at) bs part ≡ set_at bs at new
part_set bs part new at e =
    ap (λ ys. take at bs ++ (ys ++ drop (length bs - at) (drop at bs))) (e ∙ ap (λ ys. new ++ drop (length new) ys) (take_rest bs at) ∙ ap (λ ys. new ++ ys) (drop-drop (length new) at bs)) ∙ ap (λ ys. take at bs ++ ((new ++ drop (at + length new) bs) ++ ys)) (drop_all (length bs - at) (drop at bs) (omega (arith, length-drop at bs))) ∙ ap (λ ys. take at bs ++ ys) (append-nil (new ++ drop (at + length new) bs))

-- one more number behind the bytes written so far, in the m bytes that are left
pub then_put : (k n at m : ℕ) (s t part xs : List ℕ) → t ≡ xs ++ drop at s → length xs ≡ at → m ≡ length t - at → part ≡ bytes_low_first 0 k n ++ drop k (take m (drop at t)) → put_mid at m t part ≡ (xs ++ bytes_of k n) ++ drop (at + k) s
then_put k n at m s t part xs e l f p =
    let long : length (bytes_of k n) ≡ k = length-bytes_of k n in
    let ys = bytes_of k n in
    let q : part ≡ ys ++ drop (length ys) (take (length t - at) (drop at t)) = p ∙ (λ i. low_is k n i ++ drop (sym long i) (take (f i) (drop at t))) in
    let front : take at t ≡ xs = ap (take at) e ∙ take_at xs (drop at s) at l in
    let back : drop (at + length ys) t ≡ drop (at + k) s =
    sym (drop-drop (length ys) at t) ∙ ap (drop (length ys)) (ap (drop at) e ∙ drop_at xs (drop at s) at l) ∙ drop-drop (length ys) at s ∙ ap (λ j. drop (at + j) s) long in
    ap (λ j. put_mid at j t part) f ∙ part_set t part ys at q ∙ (λ i. front i ++ (ys ++ back i)) ∙ sym (append_assoc xs ys (drop (at + k) s))
