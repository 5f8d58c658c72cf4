-- `names::word_at` meets its contract: a word of each kind. Assumes nothing.
use mathlib.Core.Path.{refl, ◌∙◌}
use native.Mathlib.Omega.{arith}
use Rattle.names.proofs.Tabling.{word_reset, word_next, word_lamp, gate_at_lem, gate_within}
use Rattle.names.proofs.word_at.Goals as goal

pub returns-then-k-eq1 : goal.returns-then-k-eq1
returns-then-k-eq1 c = word_reset _ _ _ _ _ (omega arith) c.if-k-eq1.true

pub renamed-requires : goal.renamed-requires
renamed-requires c =
    let pre = c.requires in
    (pre.0.literals _ pre.1, pre.0.numbers)

pub returns-then-k-literals_at : goal.returns-then-k-literals_at
returns-then-k-literals_at c = c.renamed.ensures ∙ word_next _ _ _ _ _ (omega arith) c.if-k-eq1.false

pub renamed-requires-then-k-gates : goal.renamed-requires-then-k-gates
renamed-requires-then-k-gates c =
    let pre = c.requires in
    (pre.0.literals _ pre.1, pre.0.numbers)

pub returns-then-k-gates : goal.returns-then-k-gates
returns-then-k-gates c = c.renamed-then-k-gates.ensures ∙ word_lamp _ _ _ _ _ (omega arith) (omega arith)

pub overflow_mul-i : goal.overflow_mul-i
overflow_mul-i c =
    let pre = c.requires in
    omega (arith, pre.0.long, gate_within _ _ _ _ _ c.gates_at-gates.ensures _ _ c.if-k-gates.false pre.1 refl pre.0)

pub overflow_add-gates : goal.overflow_add-gates
overflow_add-gates c =
    let pre = c.requires in
    omega (arith, pre.0.long, gate_within _ _ _ _ _ c.gates_at-gates.ensures _ _ c.if-k-gates.false pre.1 refl pre.0)

pub overflow_add-gates-2 : goal.overflow_add-gates-2
overflow_add-gates-2 c =
    let pre = c.requires in
    omega (arith, pre.0.long, gate_within _ _ _ _ _ c.gates_at-gates.ensures _ _ c.if-k-gates.false pre.1 refl pre.0)

pub offset_bounds-words-gates : goal.offset_bounds-words-gates
offset_bounds-words-gates c =
    let pre = c.requires in
    omega (arith, pre.0.long, gate_within _ _ _ _ _ c.gates_at-gates.ensures _ _ c.if-k-gates.false pre.1 refl pre.0)

pub bounds-words-gates : goal.bounds-words-gates
bounds-words-gates c =
    let pre = c.requires in
    omega (arith, pre.0.long, gate_within _ _ _ _ _ c.gates_at-gates.ensures _ _ c.if-k-gates.false pre.1 refl pre.0)

pub renamed-requires-2 : goal.renamed-requires-2
renamed-requires-2 c =
    let pre = c.requires in
    (pre.0.literals _ (gate_within _ _ _ _ _ c.gates_at-gates.ensures _ _ c.if-k-gates.false pre.1 refl pre.0), pre.0.numbers)

pub returns : goal.returns
returns c =
    let pre = c.requires in
    c.renamed-2.ensures ∙ gate_at_lem _ _ _ _ _ c.gates_at-gates.ensures _ _ c.if-k-gates.false pre.1 refl
