-- `three::byte_of` meets its contract: the two bits of each value are that value's code. Assumes nothing.
use native.Mathlib.Omega.{arith}
use Rattle.three.specs.Record.{byte_of}
use Rattle.three.proofs.Bytes.{code_decode}
use Rattle.three.proofs.byte_of.Goals as goal

pub returns : goal.returns
unfolding byte_of
returns c =
    let code_of_a = code_decode _ c.requires.0 in
    let code_of_b = code_decode _ c.requires.1 in
    let code_of_c = code_decode _ c.requires.2 in
    let code_of_d = code_decode _ c.requires.3 in
    omega arith
