-- What every `put` does: bytes into a buffer at a position; nothing here has to be believed. Assumes nothing.
use Rattle.std.specs.Prelude.{◌≡◌, List, ℕ, ◌+◌, length}
use Rattle.std.proofs.lemmas.List.Edits.{sets}

-- a buffer with these bytes put in at a position, and the position behind them; the other bytes stay
pub record Put (buffer : List ℕ) (at : ℕ) (bytes buffer' : List ℕ) (behind : ℕ) : Type 0 where
  pub same : buffer' ≡ sets buffer at bytes
  pub after : behind ≡ at + length bytes
  pub long : length buffer' ≡ length buffer
