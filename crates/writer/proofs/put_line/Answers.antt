-- `writer::put_line` meets its contract: its numbers are put one behind the other. Assumes nothing.
use Rattle.putting.proofs.Putting.{put_then}
use Rattle.writer.proofs.WrittenLine.{one_line, one_length, one_small, two_line, two_length, two_small, three_line, three_length, three_small}
use native.Mathlib.Omega.{arith}
use Rattle.writer.proofs.put_line.Goals as goal

pub put_word-requires : goal.put_word-requires
put_word-requires c =
    (one_small c.in-One.is c.requires.0, omega (arith, one_length c.in-One.is))

pub returns-in-One : goal.returns-in-One
returns-in-One c = rw (one_line c.in-One.is) c.put_word.ensures.0

pub put_word-behind-requires : goal.put_word-behind-requires
put_word-behind-requires c =
    ((two_small c.in-Two.is c.requires.0).0, omega (arith, two_length c.in-Two.is))

pub put_word-requires-in-Two : goal.put_word-requires-in-Two
put_word-requires-in-Two c =
    ((two_small c.in-Two.is c.requires.0).1, omega (arith, two_length c.in-Two.is))

pub returns-in-Two : goal.returns-in-Two
returns-in-Two c =
    rw (two_line c.in-Two.is) (put_then c.put_word-behind.ensures.0 c.put_word-in-Two.ensures.0)

pub put_word-behind-requires-in-Three : goal.put_word-behind-requires-in-Three
put_word-behind-requires-in-Three c =
    ((three_small c.in-Three.is c.requires.0).0, omega (arith, three_length c.in-Three.is))

pub put_word-last-requires : goal.put_word-last-requires
put_word-last-requires c =
    ((three_small c.in-Three.is c.requires.0).1, omega (arith, three_length c.in-Three.is))

pub put_word-requires-in-Three : goal.put_word-requires-in-Three
put_word-requires-in-Three c =
    ((three_small c.in-Three.is c.requires.0).2, omega (arith, three_length c.in-Three.is))

pub returns-in-Three : goal.returns-in-Three
returns-in-Three c =
    rw (three_line c.in-Three.is) (put_then (put_then c.put_word-behind-in-Three.ensures.0 c.put_word-last.ensures.0) c.put_word-in-Three.ensures.0)
