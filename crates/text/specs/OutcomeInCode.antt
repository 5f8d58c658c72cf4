-- An outcome behind a number that the code has; nothing here has to be believed. Assumes nothing.
use Rattle.std.specs.Prelude.{ℕ, zero, suc}
use Rattle.text.specs.Outcome.{Outcome, refused}

-- 0 leaves the outcome as it is
abbrev pub after : {A : Type 0} → ℕ → Outcome A → Outcome A
after number o = elim number [ zero ↦ o | suc n ↦ refused (suc n) ]
