use Rattle.std.proofs.Common.{◌≡◌, ◌+◌, ◌-◌, eqb, map, length, take, drop, ap, ◌∙◌, arith, take-take, w8}
use lib.Lanes.{chunk, mask_l}
use Rattle.std.proofs.lemmas.Simd.{bitmask_splat}
use Rattle.records.specs.Searching.{lanes}
use Rattle.records.proofs.Searches.{compared_long}
use Rattle.records.proofs.search.Pair.found.Goals as goal

pub returns : goal.returns
returns c =
    let run = c.args.run.now in
    let at = c.args.at in
    let here : chunk 0 32 (take (at + 32 - at) (drop at run)) ≡ chunk at 32 run = take-take 32 _ (drop at run) (omega arith) in
    let next : chunk 0 32 (take (at + 1 + 32 - (at + 1)) (drop (at + 1) run)) ≡ chunk (at + 1) 32 run = take-take 32 _ (drop (at + 1) run) (omega arith) in
    let both : lanes c.args.self.now (chunk 0 32 (take (at + 32 - at) (drop at run))) (chunk 0 32 (take (at + 1 + 32 - (at + 1)) (drop (at + 1) run))) ≡ lanes c.args.self.now (chunk at 32 run) (chunk (at + 1) 32 run) = λ i. lanes c.args.self.now (here i) (next i) in
    bitmask_splat w8 eqb _ 32 0 (ap length both ∙ compared_long c.args.self.now run at c.requires) (omega arith) ∙ ap (λ xs. mask_l (map (λ x. eqb x 0) xs)) both
