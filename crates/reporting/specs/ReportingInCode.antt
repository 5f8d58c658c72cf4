-- What is said once a text is read; nothing here has to be believed. Assumes nothing.
use Rattle.std.specs.Prelude.{List, ℕ}
use Rattle.text.specs.Outcome.{Outcome, accepted, refused}
use Rattle.text.specs.Text.{Content}
use Rattle.reporting.specs.Reporting.{Saying, refusing, of_run}

abbrev pub of_outcome : Saying → Outcome Content → List ℕ
of_outcome say o = elim o [ accepted t ↦ of_run say t | refused n ↦ refusing n ]
