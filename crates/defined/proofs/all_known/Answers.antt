-- `defined::all_known` meets its contract: each literal is asked in turn. Assumes nothing.
use mathlib.Core.Path.{◌≡◌}
use mathlib.Core.Bool.{true, false}
use Prim.Native.Nat.{ℕ, ◌+◌, ◌*◌}
use native.Mathlib.Omega.{arith}
use lib.ListN.{get_or}
use Rattle.std.proofs.Common.{rules}
use Rattle.std.proofs.lemmas.Iterator.{cases_from_all, YieldsList-from_range}
use Rattle.drawn.specs.Drawing.{defined}
use Rattle.defined.proofs.Defining.{all_of_range}
use Rattle.defined.proofs.all_known.Goals as goal

pub returns : goal.returns
returns c =
    λ d e.
    let known = λ (i : ℕ). defined d (get_or c.args.words.now (c.args.at + c.args.step * i) 0) in
    all_of_range _ known _
    (cases_from_all _ _ _ (λ i. known i ≡ true) (λ i. known i ≡ false) c.all.ensures.ran (YieldsList-from_range 0 c.args.count c.args.count (cc) (omega arith)) (λ x q k. search rules) (λ x q k. search rules))
