-- `judged::write_results` meets its contract: what was read is copied, and the latches are settled. Assumes nothing.
use mathlib.Core.Path.{ap, ◌∙◌}
use mathlib.Core.List.{List, ◌++◌}
use Prim.Native.Nat.{ℕ}
use lib.ListN.{take, drop}
use Rattle.three.specs.Record.{bytes_for}
use Rattle.judged.proofs.write_results.Goals as goal

pub returns : goal.returns
returns c =
    let long = c.record_length-len.ensures ∙ ap bytes_for c.verdicts.ensures in
    record {
      copies =
          ap (λ (front : List ℕ). front ++ drop c.record_length-len.result c.args.verdict.now) c.copy_from_slice.ensures.after
          ∙ ap (λ (len : ℕ). take len c.args.watched.now ++ drop len c.args.verdict.now) long;
      settles = c.settle.ensures.0;
      counts = c.settle.ensures.1;
    }
