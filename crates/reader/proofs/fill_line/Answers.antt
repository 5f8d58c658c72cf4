-- `reader::fill_line` meets its contract: one word for a lamp, two for a latch or a gate. Assumes nothing.
use mathlib.Core.Path.{◌∙◌}
use native.Mathlib.Numerals.{add-one}
use native.Mathlib.Omega.{arith}
use borrow.Author.Rules.{rules}
use Rattle.text.proofs.Coding.{input_words, lamp_words, latch_words_lem, gate_words_lem}
use Rattle.reader.proofs.fill_line.Goals as goal

pub returns-in-Input : goal.returns-in-Input
returns-in-Input c = rw (input_words _ c.in-Input.is) (search rules, omega arith)

pub fill_word-requires : goal.fill_word-requires
fill_word-requires c =
    let fits = rw (lamp_words _ c.in-Lamp.is) at c.requires in
    (omega (arith, fits.small 0), omega arith)

pub returns-in-Lamp : goal.returns-in-Lamp
returns-in-Lamp c = rw (lamp_words _ c.in-Lamp.is, ← c.entry.ensures) c.fill_word.ensures

pub fill_word-second-requires : goal.fill_word-second-requires
fill_word-second-requires c =
    let fits = rw (latch_words_lem _ c.in-Latch.is) at c.requires in
    (omega (arith, fits.small 0), omega arith)

pub fill_word-requires-in-Latch : goal.fill_word-requires-in-Latch
fill_word-requires-in-Latch c =
    let fits = rw (latch_words_lem _ c.in-Latch.is) at c.requires in
    (omega (arith, fits.small 1), omega arith)

pub returns-in-Latch : goal.returns-in-Latch
returns-in-Latch c =
    rw (latch_words_lem _ c.in-Latch.is, ← c.reset_word.ensures, ← c.entry-in-Latch.ensures) (c.fill_word-in-Latch.ensures.0 ∙ rw (c.fill_word-second.ensures.0, c.fill_word-second.ensures.1, add-one), omega arith)

pub fill_word-second-requires-in-Gate : goal.fill_word-second-requires-in-Gate
fill_word-second-requires-in-Gate c =
    let fits = rw (gate_words_lem _ c.in-Gate.is) at c.requires in
    (omega (arith, fits.small 0), omega arith)

pub fill_word-requires-in-Gate : goal.fill_word-requires-in-Gate
fill_word-requires-in-Gate c =
    let fits = rw (gate_words_lem _ c.in-Gate.is) at c.requires in
    (omega (arith, fits.small 1), omega arith)

pub returns-in-Gate : goal.returns-in-Gate
returns-in-Gate c =
    rw (gate_words_lem _ c.in-Gate.is, ← c.entry-in-Gate.ensures, ← c.entry-in-Gate-2.ensures) (c.fill_word-in-Gate.ensures.0 ∙ rw (c.fill_word-second-in-Gate.ensures.0, c.fill_word-second-in-Gate.ensures.1, add-one), omega arith)
