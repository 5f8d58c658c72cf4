-- The promises of the judge speak of every start that the resets allow. On the circuit of `Unstarted` the lamp is dark for ever from one allowed start and
-- lights from the other, so no chain that passes may call it never; with a start value of 0 it would be. Assumes nothing.
use mathlib.Core.Path.{◌≡◌, refl, sym, ap, ◌∙◌}
use mathlib.Core.Bool.{Bool, true, false, true≢false}
use mathlib.Core.List.{List, [], ◌∷◌}
use Prim.Native.Nat.{ℕ, zero, suc}
use lib.ListN.{get_or}
use Rattle.three.specs.Lists.{tabulate}
use Rattle.three.specs.Value.{boolean, unknown, known}
use Rattle.three.specs.Record.{unpack}
use Rattle.circuit.specs.Circuit.{signed, value, pass, settle, readings}
use Rattle.circuit.specs.Table.{circuit_of}
use Rattle.cubes.specs.Execution.{settings, state_after, read_after, lamps_after}
use Rattle.cubes.specs.declared.JudgeAnswer.{JudgeAnswer}
use Rattle.cubes.specs.Judge.{circuit_in}
use Rattle.cubes.specs.Promise.{Promises}
use Rattle.witness.specs.Unstarted.{given, from}

pub lit_from_one : lamps_after (from true) 1 ≡ true ∷ []
unfolding read_after state_after settings readings settle pass value signed boolean circuit_of tabulate from
lit_from_one = refl

dark_later : (t : ℕ) → state_after (from false) t ≡ false ∷ false ∷ []
unfolding state_after settings readings settle pass value signed boolean circuit_of tabulate from
dark_later zero = refl
dark_later (suc t) = rw (dark_later t) refl

pub dark_from_zero : (t : ℕ) → lamps_after (from false) t ≡ false ∷ []
unfolding read_after settings readings settle pass value signed boolean circuit_of tabulate
dark_from_zero t = rw (dark_later t) refl

pub not_never : {cubes : List ℕ} {n j : ℕ} {verdict₀ settled₀ : List ℕ} {r : JudgeAnswer} {verdict settled : List ℕ}
    → Promises (given cubes n j verdict₀ settled₀) verdict settled r → r.number ≡ 0 → get_or (unpack 1 verdict) 0 unknown ≡ known false → ⊥
unfolding circuit_in
not_never promises done e = true≢false (ap (λ (l : List Bool). get_or l 0 false) (sym lit_from_one) ∙ (promises.covers done refl (from true)).judged 0 false e 1)
