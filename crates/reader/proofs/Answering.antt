-- From the two passes to the contract of the reader. Assumes nothing.
use mathlib.Core.Path.{◌≡◌, refl, sym, ◌∙◌, ap}
use mathlib.Core.Bool.{Bool, true, false}
use mathlib.Core.List.{List, []}
use Prim.Native.Nat.{ℕ, zero, suc, ◌≤◌, ◌<◌}
use native.Mathlib.Omega.{arith}
use borrow.Author.Tests.{ltb-true, ltb-false}
use lib.Dec.{ltb}
use lib.ListN.{length}
use Rattle.three.specs.Lists.{over}
use Rattle.three.proofs.Lists.{by_test}
use Rattle.circuit.specs.declared.Counts.{Counts}
use Rattle.circuit.specs.Refusal.{refusal}
use Rattle.circuit.specs.Table.{ceiling_tests, table_length, kinds}
use Rattle.circuit.specs.RulesInCode.{Bounded}
use Rattle.text.specs.Part.{got}
use Rattle.text.specs.Outcome.{Outcome, accepted, refused, onward, leaves}
use Rattle.text.specs.OutcomeInCode.{after}
use Rattle.text.specs.Text.{magic, ends, Lines, read_lines, first_line, counts_of, count_tests, header_tests, Content, read_opened, circuit_lines, read_ended, ending_of, read_text}
use Rattle.text.proofs.Steps.{then_ends, header_ill, header_stops, header_fits, lines_stop, end_stops, end_fits, opened_long}
use Rattle.text.specs.Calls.{into_table, zeros, ReadBy}
use Rattle.lines.specs.declared.read_line.ReadLine.{ReadLine}
use Rattle.std.specs.Prelude.{Result, Ok, Err}
use Rattle.circuit.specs.declared.Refusal.{Refusal}
use Rattle.circuit.specs.declared.Refusal.TheVariants.{TextTooLong, Trailing}
use Rattle.circuit.specs.Answer.{number_of, answered, answer_or}
use Rattle.circuit.proofs.Answering.{numbered}
use Rattle.lines.specs.LinesInCode.{from, numbers_of, LineFound}
use Rattle.reader.specs.ReaderInCode.{Reads, left, LinesJudged, kinds_then, lines_of, BodyAt, TextJudged, body_words, stand, Fillable}
use Rattle.circuit.proofs.Refusals.{passes}
use Rattle.text.proofs.Heads.{head_bounded}
use Rattle.text.proofs.Outcomes.{accepted_same}
use Rattle.text.proofs.Endings.{describes}
use Rattle.text.proofs.Answers.{read_stops, read_short, read_fits, reading_refused, reading_accepted}
use Rattle.reader.proofs.FirstLine.{header_missing}
use Rattle.reader.proofs.Bodies.{refused_left, accepted_left, after_refused}
use Rattle.lines.proofs.Finding.{line_got, line_ill_formed}

-- ---- the first pass

module _ (opening ending text : List ℕ) {l : ReadLine} (f : LineFound text (first_line opening ending text) l) (e : 0 ≡ refusal (header_tests (numbers_of l))) where
  header_got : first_line opening ending text ≡ got (numbers_of l) (from text l.next)
  header_got = by_test (ltb 0 l.count)
      (λ b. line_got l f (ltb-true 0 l.count b))
      (λ b. absurd (omega (arith, header_missing l (omega (arith, ltb-false 0 l.count b)))))

  pub judged_bounded : {c : Counts} → c ≡ counts_of (numbers_of l) → Bounded c
  unfolding header_tests count_tests ceiling_tests
  judged_bounded k = rw k (head_bounded (numbers_of l) (passes (header_tests (numbers_of l)) (omega arith) e))

module _ (opening ending : List ℕ) (read : Counts → Reads) (text : List ℕ) where
  pub judged_long : 60000 < length text → TextJudged opening ending read text (Err TextTooLong)
  judged_long h = opened_long opening ending read text h

  module _ (short : length text ≤ 60000) {l : ReadLine} (f : LineFound text (first_line opening ending text) l) where
    pub judged_header : (r : Refusal) → number_of r ≡ refusal (header_tests (numbers_of l)) → TextJudged opening ending read text (Err r)
    judged_header r e = by_test (ltb 0 l.count)
        (λ b. go (number_of r) e (numbered r) (line_got l f (ltb-true 0 l.count b)))
        (λ b. let z : l.count ≡ 0 = omega (arith, ltb-false 0 l.count b) in
        let two : number_of r ≡ 2 = e ∙ sym (header_missing l z) in
        rw two (header_ill opening ending read text short (line_ill_formed l f z)))
      where
        go : (m : ℕ) → m ≡ refusal (header_tests (numbers_of l)) → (m ≡ 0 → ⊥) → first_line opening ending text ≡ got (numbers_of l) (from text l.next) → read_opened opening ending read text ≡ refused m
        go zero p x g = absurd (x refl)
        go (suc m) p x g = header_stops opening ending read text short g p

    module _ (e : 0 ≡ refusal (header_tests (numbers_of l))) {c : Counts} (k : c ≡ counts_of (numbers_of l)) where
      goes_on : read_opened opening ending read text ≡ onward (λ l. record { counts = c; words = l.words }) (then_ends ending (read c (kinds c) (from text l.next)))
      goes_on = rw k (header_fits opening ending read text short (header_got opening ending text f e) e)

      stopped : {m : ℕ} → then_ends ending (read c (kinds c) (from text l.next)) ≡ refused m → read_opened opening ending read text ≡ refused m
      unfolding onward
      stopped q = goes_on ∙ rw q

      -- where nothing else is read as nothing
      module _ (nothing : (d : Counts) (t : List ℕ) → left (read d [] t) ≡ accepted t) where
        body_left : {j : Result ℕ Refusal} → LinesJudged (read c) text l.next (kinds_then c) j → left (read c (kinds c) (from text l.next)) ≡ after (answered j) (accepted (from text (answer_or 0 j)))
        unfolding kinds
        body_left {j} v = v.says [] ∙ ap (after (answered j)) (nothing c _)

        pub judged_stops : {r : Refusal} → LinesJudged (read c) text l.next (kinds_then c) (Err r) → TextJudged opening ending read text (Err r)
        judged_stops {r} v = stopped (lines_stop ending (refused_left _ (body_left v ∙ after_refused _ _ (numbered r))))

        module _ {end : ℕ} (v : LinesJudged (read c) text l.next (kinds_then c) (Ok end)) {b : Bool} (d : b ≡ ends ending (from text end)) where
          accepts : read c (kinds c) (from text l.next) ≡ accepted (lines_of (read c) (kinds c) (from text l.next))
          unfolding lines_of leaves
          accepts = let a = accepted_left _ (body_left v) in a.1 ∙ ap accepted (sym (ap (leaves (λ (l : Lines). l) _) a.1))

          behind : b ≡ ends ending (lines_of (read c) (kinds c) (from text l.next)).rest
          unfolding left onward
          behind = d ∙ ap (ends ending) (sym (accepted_same (sym (ap left accepts) ∙ body_left v)))

          pub judged_open : b ≡ false → TextJudged opening ending read text (Err Trailing)
          judged_open f = stopped (end_stops ending accepts (sym behind ∙ f))

          pub judged_body : b ≡ true → TextJudged opening ending read text (Ok (record { counts = c; at = l.next }))
          unfolding onward
          judged_body t = record { bounded = judged_bounded opening ending text f e k; within = f.within; accepts = accepts; reads = goes_on ∙ rw (end_fits ending accepts (sym behind ∙ t)) }

pub no_lines : (ending : List ℕ) (c : Counts) (t : List ℕ) → left (circuit_lines ending c [] t) ≡ accepted t
unfolding read_lines left onward
no_lines ending c t = refl

-- ---- the reader

pub read_so : (text : List ℕ) {ending : List ℕ} → ending_of text ≡ ending → read_text text ≡ read_ended ending text
unfolding read_text
read_so text decided = ap (λ (e : List ℕ). read_ended e text) decided

pub read_whole : (text : List ℕ) (c : Content) → read_text text ≡ accepted c → length c.words ≡ table_length c.counts
read_whole text c e = (describes text e).whole

-- a body whose words fill a table of the circuit, where there is room for one
body_fits : {opening ending : List ℕ} {read : Counts → Reads} {text : List ℕ} {c : Counts} {at : ℕ} → BodyAt opening ending read text c at
    → length (body_words (read c) (kinds c) (from text at)) ≡ table_length c → (table : List ℕ) → table_length c ≤ length table → Fillable (read c) text (stand (kinds c) at 0 table)
body_fits here long table s = record { within = here.within; accepts = here.accepts; room = omega (arith, long) }

module _ {ending : List ℕ} (text : List ℕ) (decided : ending_of text ≡ ending) where
  pub judged_read : (r : Refusal) → TextJudged magic ending (circuit_lines ending) text (Err r) → read_text text ≡ refused (number_of r)
  judged_read r t = read_so text decided ∙ t

  module _ {c : Counts} {at : ℕ} (here : BodyAt magic ending (circuit_lines ending) text c at) where
    pub body_read : read_text text ≡ accepted (record { counts = c; words = body_words (circuit_lines ending c) (kinds c) (from text at) })
    body_read = read_so text decided ∙ here.reads

    pub body_long : length (body_words (circuit_lines ending c) (kinds c) (from text at)) ≡ table_length c
    body_long = read_whole text _ body_read

    pub body_fillable : (table : List ℕ) → table_length c ≤ length table → Fillable (circuit_lines ending c) text (stand (kinds c) at 0 table)
    body_fillable = body_fits here body_long

module _ (opening ending : List ℕ) (read : Counts → Reads) (text table : List ℕ) {o : Outcome Content} (said : o ≡ read_opened opening ending read text) where
  pub answers_refused : (r : Refusal) → TextJudged opening ending read text (Err r) → ReadBy (into_table table o) table (number_of r) zeros table
  answers_refused r t = reading_refused table (read_stops table (said ∙ t))

  module _ {c : Counts} {at : ℕ} (here : BodyAt opening ending read text c at) where
    text_read : o ≡ accepted (record { counts = c; words = body_words (read c) (kinds c) (from text at) })
    text_read = said ∙ here.reads

    pub answers_short : length table < table_length c → ReadBy (into_table table o) table 10 zeros table
    answers_short s = reading_refused table (read_short table text_read s)

    module _ (s : table_length c ≤ length table) where
      pub fillable : ((d : Content) → o ≡ accepted d → length d.words ≡ table_length d.counts) → Fillable (read c) text (stand (kinds c) at 0 table)
      fillable whole = body_fits here (whole _ text_read) table s

      pub answers_filled : {table' : List ℕ} → table' ≡ over (body_words (read c) (kinds c) (from text at)) table → ReadBy (into_table table o) table 0 c table'
      answers_filled q = rw q (reading_accepted table (read_fits table text_read s))
