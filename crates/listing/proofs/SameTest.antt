-- A record's test looks at nothing before its place.
use Rattle.std.proofs.Common.{◌≡◌, ℕ, ◌+◌, List, take, drop, Some, None, Option, sym, refl, ap, ◌∙◌, drop-drop}
use Rattle.recording.specs.declared.Cell.{Cell}
use Rattle.records.specs.declared.kind.Record.{Record}
use Rattle.records.specs.Records.{Meaning, Laws, run}

module _ {M : ℕ} {m : Meaning} (laws : Laws M m) where
  -- where the same cells follow, the same record stands, or none
  pub same_test : (cs ds : List Cell) (b c d : ℕ) → drop b cs ≡ drop c ds → m cs (b + d) ≡ m ds (c + d)
  same_test cs ds b c d e = go (m cs (b + d)) refl (m ds (c + d)) refl
    where
      same : (n : ℕ) → run ds (c + d) n ≡ run cs (b + d) n
      same n = ap (take n) (sym (drop-drop d c ds) ∙ ap (drop d) (sym e) ∙ drop-drop d b cs)

      go : (x : Option Record) → m cs (b + d) ≡ x → (y : Option Record) → m ds (c + d) ≡ y → m cs (b + d) ≡ m ds (c + d)
      go (Some x) p y q = p ∙ sym (laws.moves cs (b + d) x p ds (c + d) (same x.length))
      go None p (Some y) q = laws.moves ds (c + d) y q cs (b + d) (sym (same y.length)) ∙ sym q
      go None p None q = p ∙ sym q
