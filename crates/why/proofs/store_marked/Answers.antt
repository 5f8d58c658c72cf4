-- `why::store_marked` meets its contract: each field is kept where its variable is marked. Assumes nothing.
use mathlib.Core.Path.{◌≡◌, refl}
use mathlib.Core.Bool.{not}
use Prim.Native.Nat.{◌+◌, ◌*◌, ◌<◌}
use lib.ListN.{length}
use native.Mathlib.Omega.{arith}
use borrow.Author.Rules.{rules}
use Rattle.three.specs.Value.{code, decode}
use Rattle.three.specs.Cube.{blank}
use Rattle.three.specs.Record.{pair_at}
use Rattle.three.proofs.Filling.{is_small}
use Rattle.pass.proofs.WorkingTable.{field_small}
use Rattle.why.specs.MarksInCode.{marked, marked_fields}
use Rattle.why.proofs.Keeping.{length_marked, field_given}
use Rattle.why.proofs.store_marked.Goals as goal

pub store_fields-requires : goal.store_fields-requires
store_fields-requires c = (
  record {
    calls = λ i h.
        let small : pair_at c.args.state.now i < 3 = field_small _ _ i c.requires.0 h refl in
        let there : i < 4 * length c.args.state.now = omega (arith, c.requires.0.fits) in
        search (rules, small, there);
    codes = λ i r h e. let is : r ≡ code (blank (decode (pair_at c.args.state.now i)) (not (marked c.args.marks.now (c.args.first + i)))) = search rules in is_small _ is;
  },
  omega (arith, c.requires.1),
  c.requires.2,
)

pub returns : goal.returns
returns c =
    c.store_fields.ensures (marked_fields c.args.marks.now c.args.state.now c.args.first c.args.count) (record {
      sized = length_marked _ _ _ _;
      gives = λ i r h e.
          let is : r ≡ code (blank (decode (pair_at c.args.state.now i)) (not (marked c.args.marks.now (c.args.first + i)))) = search rules in
          field_given _ _ _ _ h is;
    })
