-- The tests of cubes that are given, before they are looked into; nothing here has to be believed. Assumes nothing.
use Rattle.std.specs.Prelude.{List, ◌++◌, ℕ}
use Rattle.circuit.specs.declared.Counts.{Counts}
use Rattle.circuit.specs.Refusal.{Test}
use Rattle.circuit.specs.Table.{board_tests}
use Rattle.cubes.specs.Given.{cube_tests}

abbrev pub given_tests : Counts → List ℕ → List ℕ → ℕ → List Test
given_tests c table cubes n = board_tests c table ++ cube_tests c cubes n
