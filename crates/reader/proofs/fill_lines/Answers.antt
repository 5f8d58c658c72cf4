use mathlib.Core.Path.{refl}
use Rattle.text.proofs.Coding.{words_alike}
use Rattle.reader.proofs.Filling.{line_turn, filling_fits, filling_next, filling_last}
use Rattle.reader.proofs.fill_lines.Goals as goal

pub fill_line-word-requires : goal.fill_line-word-requires
fill_line-word-requires g c =
    let f = c.requires.2 in
    filling_fits (c.loop-i.invariant f) c.loop-i-test.true (line_turn f.counts _ _ f.bounded c.line-found.ensures (words_alike _ _ _))

pub loop-i-preserved : goal.loop-i-preserved
loop-i-preserved g c =
    let words = c.fill_line-word.ensures in
    λ f. filling_next (c.loop-i.invariant f) c.loop-i-test.true (line_turn f.counts _ _ f.bounded c.line-found.ensures (words_alike _ _ _)) words.0 words.1

pub returns : goal.returns
returns g c = λ f. filling_last (c.loop-i.invariant f) c.loop-i-test.false refl
