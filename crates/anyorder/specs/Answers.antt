-- What the reader for any order answers beside the number, as the documents have it: zeros beside a refusal (specification, 4.15). Assumes nothing.
use Rattle.std.specs.Prelude.{ℕ, Result, Ok, Err}
use Rattle.circuit.specs.declared.Counts.{Counts}
use Rattle.circuit.specs.declared.Refusal.{Refusal}
use Rattle.text.specs.Calls.{zeros}
use Rattle.anyorder.specs.declared.Drawn.{Drawn}

abbrev pub drawn_counts : Result Drawn Refusal → Counts
drawn_counts (Ok d) = d.counts
drawn_counts (Err r) = zeros

abbrev pub drawn_variables : Result Drawn Refusal → ℕ
drawn_variables (Ok d) = d.variables
drawn_variables (Err r) = 0
