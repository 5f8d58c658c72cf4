-- `putting::put_word` meets its contract: the number, and then the byte. Assumes nothing.
use native.Mathlib.Omega.{arith}
use Rattle.putting.proofs.Putting.{put_then}
use Rattle.putting.proofs.put_word.Goals as goal

pub returns : goal.returns
returns c = (put_then c.put_number-end.ensures c.put_byte.ensures, omega arith)
