-- `reasons::same_fields` meets its contract: field after field is tried. Assumes nothing.
use mathlib.Core.Path.{◌≡◌}
use mathlib.Core.Bool.{true, false}
use Prim.Native.Nat.{ℕ}
use native.Mathlib.Omega.{arith}
use borrow.Author.Tests.{tests}
use lib.Dec.{eqb}
use Rattle.std.proofs.Common.{rules}
use Rattle.std.proofs.lemmas.Iterator.{cases_from_all, YieldsList-from_range}
use Rattle.three.specs.Record.{pair_at}
use Rattle.reasons.proofs.Groups.{all_of_range}
use Rattle.reasons.proofs.same_fields.Goals as goal

pub returns : goal.returns
returns c =
    let same = λ (i : ℕ). eqb (pair_at c.args.a.now i) (pair_at c.args.b.now i) in
    all_of_range _ same _
    (cases_from_all _ _ _ (λ i. same i ≡ true) (λ i. same i ≡ false) c.all.ensures.ran (YieldsList-from_range 0 c.args.count c.args.count (cc) (omega arith)) (λ x q k. search (rules, tests)) (λ x q k. search (rules, tests)))
