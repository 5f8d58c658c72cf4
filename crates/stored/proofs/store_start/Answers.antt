-- `stored::store_start` meets its contract: each field is a reset's. Assumes nothing.
use mathlib.Core.Path.{◌≡◌}
use Prim.Native.Nat.{◌+◌, ◌*◌}
use lib.ListN.{get_or}
use native.Mathlib.Omega.{arith}
use borrow.Author.Rules.{rules}
use Rattle.three.specs.Value.{code}
use Rattle.three.proofs.Filling.{is_small}
use Rattle.cubes.specs.Run.{start_field}
use Rattle.stored.specs.CubesInCode.{start_fields}
use Rattle.stored.proofs.Starting.{start_sized, start_given}
use Rattle.stored.proofs.store_start.Goals as goal

pub store_fields-requires : goal.store_fields-requires
store_fields-requires c = (
  record {
    calls = λ i h. search rules;
    codes = λ i r h e. let is : r ≡ code (start_field (get_or c.args.table.now (2 * i + 1) 0)) = search rules in is_small _ is;
  },
  omega arith,
  c.requires.2,
)

pub returns : goal.returns
returns c =
    c.store_fields.ensures (start_fields c.args.table.now c.args.count) (record {
      sized = start_sized _ _;
      gives = λ i r h e. let is : r ≡ code (start_field (get_or c.args.table.now (2 * i + 1) 0)) = search rules in start_given _ _ h is;
    })
