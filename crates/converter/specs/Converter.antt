-- A circuit in the binary form as plain text (specification, 6.2): what is printed for the bytes on standard input. Assumes nothing.
use Rattle.std.specs.Prelude.{◌≡◌, List, ℕ, ◌≤◌, length}
use Rattle.three.specs.Lists.{over}
use Rattle.text.specs.Outcome.{accepted, refused}
use Rattle.text.specs.Text.{write_text}
use Rattle.binary.specs.Binary.{read_binary}
use Rattle.reporting.specs.Reporting.{refusing}

-- what `write` writes of what `read_binary` reads; on a refusal its only line
unfoldable pub converted : List ℕ → List ℕ
converted binary = elim (read_binary binary) [ accepted c ↦ write_text c.counts c.words | refused n ↦ refusing n ]

-- The contract: how many bytes there are, and the buffer at exit; the bytes beyond stay.
pub record Converted (binary buffer : List ℕ) (bytes : ℕ) (buffer' : List ℕ) : Type 0 where
  pub returns : bytes ≡ length (converted binary)
  pub fills : buffer' ≡ over (converted binary) buffer
  pub fits : bytes ≤ length buffer'
