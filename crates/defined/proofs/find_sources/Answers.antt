use mathlib.Core.Path.{◌≡◌, ◌∙◌}
use native.Mathlib.Omega.{arith}
use lib.ListN.{length, length-append}
use Rattle.std.proofs.lemmas.List.{length-drop}
use Rattle.three.proofs.Loops.{front_length}
use Rattle.defined.proofs.Knowing.{sourced_next, sourced_last}
use Rattle.defined.proofs.find_sources.Goals as goal

pub loop-i-preserved : goal.loop-i-preserved
loop-i-preserved c = λ d few e. sourced_next _ _ _ _ _ _ (c.loop-i.invariant d few e) (omega arith) (c.source_at.ensures d few e)

pub returns : goal.returns
returns c =
    let pre = c.requires in
    let long : length c.loop-i.source-items ≡ c.args.count = c.loop-i.auto.source-items ∙ front_length _ _ (omega arith) in (
      simp (length-append, length-drop) (omega arith),
      λ d few e. sourced_last _ _ _ _ _ _ _ (c.loop-i.invariant d few e) (omega arith) (omega arith),
    )
