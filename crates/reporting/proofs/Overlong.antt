-- A text over 60,000 bytes is refused whatever follows it, so a program may answer before it has read the rest. Assumes nothing.
use mathlib.Core.Path.{◌≡◌, sym, ap, ◌∙◌}
use mathlib.Core.List.{List, ◌++◌}
use Prim.Native.Nat.{ℕ, ◌<◌}
use native.Mathlib.Omega.{arith}
use lib.ListN.{length, length-append}
use Rattle.text.proofs.Steps.{text_long}
use Rattle.reporting.specs.Reporting.{Saying, of_text}
use Rattle.reporting.specs.ReportingInCode.{of_outcome}

pub overlong : (say : Saying) (text rest : List ℕ) → 60000 < length text → of_text say (text ++ rest) ≡ of_text say text
unfolding of_text
overlong say text rest long = ap (of_outcome say) (text_long (text ++ rest) (rw length-append (omega arith)) ∙ sym (text_long text long))
