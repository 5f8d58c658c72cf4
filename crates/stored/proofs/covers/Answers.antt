-- `stored::covers` meets its contract: byte after byte is tried. Assumes nothing.
use mathlib.Core.Path.{◌≡◌}
use mathlib.Core.Bool.{true, false}
use borrow.Author.Tests.{tests}
use Rattle.std.proofs.Common.{rules}
use Rattle.std.proofs.lemmas.Iterator.{cases_from_all, YieldsList-from_slice, YieldsList-from_zip}
use Rattle.stored.proofs.Bytewise.{within, all_within}
use Rattle.stored.proofs.covers.Goals as goal

pub returns : goal.returns
returns c =
    all_within _ _ _ _ c.requires.0 c.requires.1 _
    (cases_from_all c.all.new.self _ _ (λ p. within p ≡ true) (λ p. within p ≡ false) c.all.ensures.ran (YieldsList-from_zip (YieldsList-from_slice _ cc) (YieldsList-from_slice _ cc)) (λ x q k. search (rules, tests)) (λ x q k. search (rules, tests)))
