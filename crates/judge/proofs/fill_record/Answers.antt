-- `judge::fill_record` meets its contract: each field is given the value. Assumes nothing.
use mathlib.Core.Path.{◌≡◌}
use lib.ListN.{replicate, length-replicate}
use native.Mathlib.Omega.{arith}
use borrow.Author.Rules.{rules}
use Rattle.three.specs.Value.{decode}
use Rattle.judge.proofs.Constant.{filled}
use Rattle.judge.proofs.fill_record.Goals as goal

pub store_fields-requires : goal.store_fields-requires
store_fields-requires c = (
  record {
    calls = λ i h. search rules;
    codes = λ i r h e. let is : r ≡ c.args.value = search rules in omega arith;
  },
  omega arith,
  c.requires.2,
)

pub returns : goal.returns
returns c =
    c.store_fields.ensures (replicate c.args.fields (decode c.args.value)) (record {
      sized = length-replicate _ _;
      gives = λ i r h e. let is : r ≡ c.args.value = search rules in filled _ _ _ c.requires.0 h is;
    })
