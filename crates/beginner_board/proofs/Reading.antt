-- From the reader's two passes to the beginners' reader: the words of a board are judged before one of them is stored. Assumes nothing.
use mathlib.Core.Path.{◌≡◌, ap, ◌∙◌}
use mathlib.Core.List.{List}
use Prim.Native.Nat.{ℕ, ◌<◌, ◌≤◌}
use native.Mathlib.Omega.{arith}
use lib.ListN.{length, drop, length-append}
use Rattle.three.specs.Lists.{over}
use Rattle.circuit.specs.declared.Counts.{Counts}
use Rattle.circuit.specs.Refusal.{refusal}
use Rattle.circuit.specs.Table.{table_length, kinds}
use Rattle.text.specs.Outcome.{accepted}
use Rattle.text.specs.Text.{magic, circuit_lines, ending_of}
use Rattle.text.specs.Calls.{read_into, zeros}
use Rattle.text.proofs.Answers.{read_stops, read_short, read_fits}
use Rattle.lines.specs.LinesInCode.{from}
use Rattle.std.specs.Prelude.{Err}
use Rattle.circuit.specs.declared.Refusal.{Refusal}
use Rattle.circuit.specs.Answer.{number_of}
use Rattle.circuit.proofs.Answering.{numbered}
use Rattle.reader.specs.ReaderInCode.{BodyAt, TextJudged, body_words, stand, Fillable}
use Rattle.reader.proofs.Answering.{judged_read, body_read, body_long, body_fillable}
use Rattle.beginners.specs.Rules.{small_tests, feed_tests}
use Rattle.beginners.specs.Calls.{ReadingBeginners}
use Rattle.beginners.proofs.Rules.{is_small, large_refused, feed_decides, feed_over}
use Rattle.beginners.proofs.Reading.{beginners_stops, beginners_outside, beginners_accepted}

-- ---- the words of a small board, in a table of the function's own

module _ {ending : List ℕ} (text : List ℕ) (decided : ending_of text ≡ ending) {c : Counts} {at : ℕ} (here : BodyAt magic ending (circuit_lines ending) text c at) (own : List ℕ) where
  abbrev words : List ℕ
  words = body_words (circuit_lines ending c) (kinds c) (from text at)

  pub own_fillable : length own ≡ 88 → 0 ≡ refusal (small_tests c) → Fillable (circuit_lines ending c) text (stand (kinds c) at 0 own)
  own_fillable long none =
      let s = is_small c none in
      let fits : table_length c ≤ length own = omega (arith, s.latches, s.lamps, s.gates, s.bads, s.constraints) in
      body_fillable text decided here own fits

  module _ {filled : List ℕ} (f : filled ≡ over words own) where
    pub own_covers : table_length c ≤ length filled
    unfolding over
    own_covers = rw f (omega (arith, length-append words (drop (length words) own), body_long text decided here))

    own_feed : {k : ℕ} → k ≡ refusal (feed_tests c filled) → k ≡ refusal (feed_tests c words)
    own_feed e = e ∙ ap (λ (l : List ℕ). refusal (feed_tests c l)) f ∙ ap refusal (feed_over c words own (omega (arith, body_long text decided here)))

-- ---- the answers, in the order of the refusals

module _ {ending : List ℕ} (text table : List ℕ) (decided : ending_of text ≡ ending) where
  pub judged_refused : (r : Refusal) → TextJudged magic ending (circuit_lines ending) text (Err r) → ReadingBeginners text table (number_of r) zeros table
  judged_refused r t = beginners_stops text table (read_stops table (judged_read text decided r t))

  module _ {c : Counts} {at : ℕ} (here : BodyAt magic ending (circuit_lines ending) text c at) where
    pub table_refused : length table < table_length c → ReadingBeginners text table 10 zeros table
    table_refused s = beginners_stops text table (read_short table (body_read text decided here) s)

    module _ (room : table_length c ≤ length table) where
      into : read_into text table ≡ accepted (record { counts = c; words = body_words (circuit_lines ending c) (kinds c) (from text at) })
      into = read_fits table (body_read text decided here) room

      pub large_board : (r : Refusal) → number_of r ≡ refusal (small_tests c) → ReadingBeginners text table (number_of r) zeros table
      large_board r e = beginners_outside text table into (number_of r) (large_refused c _ e (numbered r)) (numbered r)

      module _ (small : 0 ≡ refusal (small_tests c)) (own : List ℕ) {filled : List ℕ} (f : filled ≡ over (body_words (circuit_lines ending c) (kinds c) (from text at)) own) where
        pub badly_fed : (r : Refusal) → number_of r ≡ refusal (feed_tests c filled) → ReadingBeginners text table (number_of r) zeros table
        badly_fed r e = beginners_outside text table into (number_of r) (feed_decides c _ small (own_feed text decided here own f e)) (numbered r)

        pub board_read : 0 ≡ refusal (feed_tests c filled) → {table' : List ℕ} → table' ≡ over (body_words (circuit_lines ending c) (kinds c) (from text at)) table → ReadingBeginners text table 0 c table'
        board_read z g = rw g (beginners_accepted text table into (feed_decides c _ small (own_feed text decided here own f z)))
