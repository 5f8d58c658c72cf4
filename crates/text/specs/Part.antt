-- What a part of a text is read as. Assumes nothing.
use Rattle.std.specs.Prelude.{List, ℕ}

-- a value and the text after it, or ill-formed
pub data Part (A : Type 0) : Type 0 where
  got : A → List ℕ → Part A
  ill : Part A
