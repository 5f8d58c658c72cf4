-- The kinds of line as the code has them, without the own literal; nothing here has to be believed. Assumes nothing.
use Rattle.std.specs.Prelude.{ℕ}
use Rattle.circuit.specs.Table.{Kind, input, latch, literal, gate}
use Rattle.text.specs.declared.LineKind.{LineKind}
use Rattle.text.specs.declared.LineKind.TheVariants.{Input, Latch, Lamp, Gate}

-- a kind of line with its own literal
unfoldable pub coded : LineKind → ℕ → Kind
coded Input own = input own
coded Latch own = latch own
coded Lamp own = literal
coded Gate own = gate own
