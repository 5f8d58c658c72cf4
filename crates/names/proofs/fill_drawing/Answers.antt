-- `names::fill_drawing` meets its contract: the numbers, then the table and the list. Assumes nothing.
use Prim.Native.Nat.{ℕ}
use lib.ListN.{length-replicate}
use Rattle.defined.proofs.Judging.{zeros_at}
use Rattle.names.proofs.Drawn.{judged_proper, of_drawing, followed, tabled, table_left, list_left}
use Rattle.names.proofs.fill_drawing.Goals as goal

pub name_lines-requires : goal.name_lines-requires
name_lines-requires c =
    let pre = c.requires in
    (followed _ _ _ _ _ pre.0 pre.1 pre.2 pre.3, length-replicate {A = ℕ} 4096 0, zeros_at 4096)

pub fill_table-requires : goal.fill_table-requires
fill_table-requires c =
    let pre = c.requires in
    let names = c.name_lines.ensures in
    (tabled _ _ _ _ _ pre.0 pre.1 pre.2 pre.3 _ names.0 (names.1 _ (judged_proper _ _ _ _ _ pre.0) (of_drawing _ _ _ _ _ pre.0)), pre.4)

pub returns : goal.returns
returns c =
    let pre = c.requires in
    let names = c.name_lines.ensures in
    let all = names.1 _ (judged_proper _ _ _ _ _ pre.0) (of_drawing _ _ _ _ _ pre.0) in (
      table_left _ _ _ _ _ pre.0 pre.1 pre.2 pre.3 _ names.0 all _ c.fill_table.ensures,
      list_left _ _ _ _ _ pre.0 pre.1 pre.2 pre.3 c.name_lines.new.names names.0 all _ c.store_names.ensures,
    )
