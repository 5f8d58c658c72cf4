-- What the calls over cubes answer, as the documents and C have it: a number, and zeros beside a refusal, but for 15, which has n (specification, 7.3). Assumes nothing.
use Rattle.std.specs.Prelude.{ℕ, Result, Ok, Err}
use Rattle.circuit.specs.declared.Refusal.{Refusal}
use Rattle.circuit.specs.Answer.{number_of, answered, answer_or}
use Rattle.cubes.specs.declared.Chain.{Chain}
use Rattle.cubes.specs.declared.ChainRefusal.{ChainRefusal}
use Rattle.cubes.specs.declared.ChainRefusal.TheVariants.{Refused, Full}
use Rattle.cubes.specs.declared.ChainAnswer.{ChainAnswer}
use Rattle.cubes.specs.declared.JudgeAnswer.{JudgeAnswer}

abbrev pub chain_answer : Result Chain ChainRefusal → ChainAnswer
chain_answer (Ok c) = record { number = 0; cubes = c.cubes; back = c.back }
chain_answer (Err (Refused r)) = record { number = number_of r; cubes = 0; back = 0 }
chain_answer (Err (Full n)) = record { number = 15; cubes = n.cubes; back = 0 }

-- the same where there is room for every cube
abbrev pub roomy_answer : Result Chain Refusal → ChainAnswer
roomy_answer (Ok c) = record { number = 0; cubes = c.cubes; back = c.back }
roomy_answer (Err r) = record { number = number_of r; cubes = 0; back = 0 }

abbrev pub judge_answer : Result ℕ Refusal → JudgeAnswer
judge_answer r = record { number = answered r; settled = answer_or 0 r }
