-- A run of visits, one after the other.
use Rattle.std.proofs.Common.{◌≡◌, ℕ, ◌+◌, ◌<◌, ◌≤◌, List, [], ◌∷◌, ◌++◌, length, get_or, take, drop, set, Some, sym, refl, ap, ◌∙◌, subst, append_assoc, append-nil, arith, length-set, drop-set-lt}
use Rattle.std.proofs.lemmas.List.{drop_more, drop_all, take_all, take_more_set}
use Rattle.recording.specs.declared.Cell.{Cell}
use Rattle.records.specs.Records.{Meaning, Laws}
use Rattle.index.specs.declared.Index.{Index}
use Rattle.indexfile.specs.declared.row.Row.{Row}
use Rattle.listing.specs.declared.answer.Answer.{Answer}
use Rattle.listing.specs.declared.answer.Visit.{Visit}
use Rattle.listing.specs.Progress.{Progress}
use Rattle.index.specs.Indexes.{Stores, Kinds, cells_of, meaning_of, progress}
use Rattle.listing.specs.Visits.{after, called, visited, answered, buffered, unused}
use Rattle.listing.specs.Promise.{Used}
use Rattle.index.specs.Calls.{Made, Ran, Opened, Serves}
use Rattle.listing.proofs.Walks.{used}
use Rattle.std.proofs.lemmas.Grind.{common_steps}

-- x has come to y with i of the visits made: what is noted so far is followed by what the others will answer
pub record Sofar {S K : Type 0} (s : Stores S) (k : Kinds K) (vs : List Visit) (x : Index S K s k) (table : List Row) (buffer : List ℕ) (i : ℕ) (noted : List Visit) (y : Index S K s k) (left : List Row) (filled : List ℕ) : Type 0 where
  pub store : y.store ≡ x.store
  pub kind : y.kind ≡ x.kind
  pub size : length noted ≡ length vs
  pub others : drop i noted ≡ drop i vs
  pub answers : take i noted ++ answered (meaning_of k x) (cells_of s x) (drop i vs) filled (progress y left) ≡ answered (meaning_of k x) (cells_of s x) vs buffer (progress x table)
  pub bytes : buffered (meaning_of k x) (cells_of s x) (drop i vs) filled (progress y left) ≡ buffered (meaning_of k x) (cells_of s x) vs buffer (progress x table)
  pub moved : visited (meaning_of k x) (cells_of s x) (drop i vs) (progress y left) ≡ visited (meaning_of k x) (cells_of s x) vs (progress x table)

module _ {S K : Type 0} {s : Stores S} {k : Kinds K} {vs : List Visit} {x : Index S K s k} {table : List Row} {buffer : List ℕ} where
  pub start_of : Sofar s k vs x table buffer 0 vs x table buffer
  start_of = record { store = refl; kind = refl; size = refl; others = refl; answers = refl; bytes = refl; moved = refl }

  module _ {i : ℕ} {noted : List Visit} {y : Index S K s k} {left : List Row} {filled : List ℕ} (sofar : Sofar s k vs x table buffer i noted y left filled) where
    module _ {r : Answer} {z : Index S K s k} {last : List Row} {bytes : List ℕ} (d : Visit) (l : i < length vs) (one : Made s k (get_or noted i d).call y left filled r z last bytes) where
      abbrev m : Meaning
      m = meaning_of k x

      abbrev cs : List Cell
      cs = cells_of s x

      abbrev made : Visit
      made = record { call = (get_or noted i d).call; answer = Some r }

      in_noted : i < length noted
      in_noted = omega (arith, sofar.size)

      next : drop i vs ≡ get_or vs i d ∷ drop (i + 1) vs
      next = drop_more vs i d l

      both : get_or noted i d ∷ drop (i + 1) noted ≡ get_or vs i d ∷ drop (i + 1) vs
      both = sym (drop_more noted i d in_noted) ∙ sofar.others ∙ next

      call : (get_or noted i d).call ≡ (get_or vs i d).call
      call = ap (λ (u : List Visit). (get_or u 0 d).call) both

      answer : (r, bytes) ≡ called m cs (get_or vs i d).call filled (progress y left)
      answer = grind (arith, common_steps, call)

      moves : progress z last ≡ after m cs (get_or vs i d).call (progress y left)
      moves = grind (arith, common_steps, call)

      pub one_more : Sofar s k vs x table buffer (i + 1) (set noted i made) z last bytes
      one_more = record {
        store = one.store ∙ sofar.store;
        kind = one.kind ∙ sofar.kind;
        size = length-set noted i made ∙ sofar.size;
        others = drop-set-lt (i + 1) noted i made (omega arith) ∙ ap (drop 1) both;
        answers =
            ap (λ u. u ++ answered m cs (drop (i + 1) vs) bytes (progress z last)) (take_more_set noted i made in_noted)
            ∙ append_assoc (take i noted) (made ∷ []) (answered m cs (drop (i + 1) vs) bytes (progress z last))
            ∙ ap (λ u. take i noted ++ u) (λ j. record { call = call j; answer = Some (answer j).0 } ∷ answered m cs (drop (i + 1) vs) (answer j).1 (moves j))
            ∙ sym (ap (λ u. take i noted ++ answered m cs u filled (progress y left)) next) ∙ sofar.answers;
        bytes = (λ j. buffered m cs (drop (i + 1) vs) (answer j).1 (moves j)) ∙ sym (ap (λ u. buffered m cs u filled (progress y left)) next) ∙ sofar.bytes;
        moved = ap (visited m cs (drop (i + 1) vs)) moves ∙ sym (ap (λ u. visited m cs u (progress y left)) next) ∙ sofar.moved;
      }

    pub all_made : length vs ≤ i → Ran s k vs x table buffer noted y left filled
    all_made l =
        let none = drop_all i vs l in
        let all : take i noted ≡ noted = take_all i noted (omega (arith, sofar.size)) in
        record {
          store = sofar.store;
          kind = sofar.kind;
          answers = sym (append-nil noted) ∙ ap (λ u. u ++ []) (sym all) ∙ sym (ap (λ u. take i noted ++ answered (meaning_of k x) (cells_of s x) u filled (progress y left)) none) ∙ sofar.answers;
          bytes = sym (ap (λ u. buffered (meaning_of k x) (cells_of s x) u filled (progress y left)) none) ∙ sofar.bytes;
          moved = sym (ap (λ u. visited (meaning_of k x) (cells_of s x) u (progress y left)) none) ∙ sofar.moved;
        }

visits_join : (m : Meaning) (es : List Cell) (vs ws : List Visit) (s : Progress) → visited m es (vs ++ ws) s ≡ visited m es ws (visited m es vs s)
visits_join m es [] ws s = refl
visits_join m es (v ∷ vs) ws s = visits_join m es vs ws (after m es v.call s)

pub serves : {S K : Type 0} (s : Stores S) (k : Kinds K) → ((a : K) → Laws k.longest (k.stands a)) → {vs : List Visit} {x : Index S K s k} {table : List Row} {buffer : List ℕ} {noted : List Visit} {y : Index S K s k} {left : List Row} {filled : List ℕ}
    → Ran s k vs x table buffer noted y left filled → (start : List Row) → Opened s k start x table → Serves s k start y left
serves s k laws {vs} {x} {table} {buffer} {noted} {y} {left} {filled} r start v = record { opened = (ws, is); used = subst (Used (meaning_of k y) (cells_of s y) start) (sym is) (used (laws y.kind) (cells_of s y) start ws) }
  where
    ws : List Visit
    ws = v.0 ++ vs

    is : progress y left ≡ visited (meaning_of k y) (cells_of s y) ws (unused start)
    is = r.moved ∙ ap (visited (meaning_of k x) (cells_of s x) vs) v.1 ∙ sym (visits_join (meaning_of k x) (cells_of s x) v.0 vs (unused start))
        ∙ (λ j. visited (k.stands (sym r.kind j)) (s.cells (sym r.store j)) ws (unused start))
