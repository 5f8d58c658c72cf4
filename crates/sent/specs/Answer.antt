-- What the call cover answers, as the documents and C have it: a number, the cube beside 18, and 0 beside any other (specification, 7.3). Assumes nothing.
use Rattle.std.specs.Prelude.{Result, Ok, Err}
use Rattle.circuit.specs.Answer.{number_of}
use Rattle.sent.specs.declared.CoverRefusal.{CoverRefusal}
use Rattle.sent.specs.declared.CoverRefusal.TheVariants.{Refused, NextNotCovered}
use Rattle.sent.specs.declared.CoverAnswer.{CoverAnswer}

abbrev pub cover_answer : Result (Unit {0}) CoverRefusal → CoverAnswer
cover_answer (Ok done) = record { number = 0; cube = 0 }
cover_answer (Err (Refused r)) = record { number = number_of r; cube = 0 }
cover_answer (Err (NextNotCovered k)) = record { number = 18; cube = k }
