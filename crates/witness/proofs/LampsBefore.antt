-- "Lamps are read .. before the tick": on circuit T, whose lamp is its latch, the lamp shows the state that was given and not the next. Assumes nothing.
use mathlib.Core.Path.{◌≡◌, sym, ◌∙◌}
use mathlib.Core.List.{List, [], ◌∷◌}
use Prim.Native.Nat.{ℕ}
use Rattle.three.specs.Lists.{every}
use Rattle.three.specs.Record.{bad, leftover, pairs, sound, unpack, pair_at}
use Rattle.three.specs.Value.{decode}
use Rattle.circuit.proofs.Refusals.{accepted_new}
use Rattle.circuit.specs.Table.{plain_counts}
use Rattle.tick.specs.Tick.{record_tests, tick_result_tests, tick_tests, next_fields, lamp_fields, TickGiven, Ticked}
use Rattle.witness.specs.Computed.{computed}

-- T with its latch at 0, over result buffers of one byte each
abbrev given : ℕ → ℕ → TickGiven
given a b = record {
  counts = plain_counts 0 1 1 0;
  table = 3 ∷ 0 ∷ 2 ∷ [];
  state = 0x40 ∷ [];
  switches = 0x00 ∷ [];
  next = a ∷ [];
  lamps = b ∷ [];
}

module _ (a b : ℕ) {number : ℕ} {next lamps : List ℕ} (ticked : Ticked (given a b) number next lamps) where
  taken : number ≡ 0
  unfolding computed tick_tests record_tests tick_result_tests sound every bad pairs leftover
  taken = ticked.answers

  pub next_state : next ≡ 0x80 ∷ []
  unfolding computed next_fields unpack pair_at pairs decode
  next_state = ticked.fills_next ∙ sym (accepted_new number _ _ taken)

  pub lamp_before_the_tick : lamps ≡ 0x40 ∷ []
  unfolding computed lamp_fields unpack pair_at pairs decode
  lamp_before_the_tick = ticked.fills_lamps ∙ sym (accepted_new number _ _ taken)
