-- `pass::store` meets its contract: each field is a literal's value. Assumes nothing.
use mathlib.Core.Path.{◌≡◌, ap, ◌∙◌}
use Prim.Native.Nat.{◌+◌, ◌*◌}
use lib.ListN.{get_or}
use borrow.Author.Rules.{rules}
use Rattle.three.specs.Value.{code, ternary}
use Rattle.three.proofs.Filling.{is_small}
use Rattle.circuit.specs.Circuit.{value}
use Rattle.pass.specs.ValuesInCode.{values_of}
use Rattle.pass.proofs.WorkingTable.{length_literals, literal_within}
use Rattle.pass.proofs.store.Goals as goal

pub store_fields-requires : goal.store_fields-requires
store_fields-requires c = (
  record {
    calls = λ i h. let long = c.requires.0.long i h in let small = c.requires.0.small i h in search (rules, long, small);
    codes = λ i r h e. let is : r ≡ code (value ternary (values_of c.args.values.now.bytes) (get_or c.args.table.now (c.args.at + c.args.step * i) 0)) = search rules in is_small _ is;
  },
  c.requires.1,
  c.requires.2,
)

pub returns : goal.returns
returns c =
    c.store_fields.ensures _ (record {
      sized = length_literals _ _ _ _ _;
      gives = λ i r h e.
          let is : r ≡ code (value ternary (values_of c.args.values.now.bytes) (get_or c.args.table.now (c.args.at + c.args.step * i) 0)) = search rules in
          is ∙ ap code (literal_within _ _ _ _ _ _ h);
    })
