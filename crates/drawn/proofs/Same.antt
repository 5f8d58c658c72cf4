-- The entries of the table are the one solution of the text's lines, and so it has the text's next state, lamps, bad states and constraints. Assumes nothing.
use mathlib.Core.Path.{◌≡◌, refl, sym, ap, ap₂, ◌∙◌}
use mathlib.Core.Bool.{Bool, false, ◌&&◌}
use mathlib.Core.List.{List, ◌∷◌, ◌++◌, map}
use Prim.Native.Nat.{ℕ, zero, suc, ◌+◌, ◌*◌, ◌-◌, ◌/◌, ◌%◌, ◌<◌, ◌≤◌}
use native.Mathlib.Nat.{not-suc-le-zero}
use native.Mathlib.Omega.{arith}
use native.Mathlib.Decide.{dec_lt}
use lib.ListN.{length, get_or, length-append, get_or-append}
use Rattle.three.specs.Lists.{tabulate}
use Rattle.three.specs.Value.{boolean}
use Rattle.three.proofs.Lists.{length_tabulate, get_or_tabulate, map_tabulate, tabulate_ext}
use Rattle.circuit.specs.Circuit.{Circuit, Latch, Gate, signed, value, pass, readings, settle, next}
use Rattle.circuit.specs.Table.{circuit_of, literals, verdicts}
use Rattle.drawn.specs.Drawing.{Drawing, leaves, lines, own, next_literal, single, left, right, gate_at, line_at, name, rename, table}
use Rattle.drawn.specs.Meaning.{literal, Solves, next_under, Shown, shown_by, singles_under, shown_under}
use Rattle.drawn.proofs.Proper.{Defined, Proper}
use Rattle.drawn.proofs.Naming.{gates_sorted, gate_small, line_leaf, line_gate, Numbered, of_leaf, of_gate, numbered, name_line, name_zero, old, named, left_named, right_named}
use Rattle.circuit.proofs.Fixed.{Falling, falling, entry_front, pass_at}
use Rattle.drawn.proofs.Tables.{renamed_singles, drawn_circuit, table_circuit}
use Rattle.drawn.proofs.Picking.{get_or_behind}

pub same_shown : {a a' b b' c c' : List Bool} → a ≡ a' → b ≡ b' → c ≡ c' → ◌≡◌ {A = Shown} (record { lamps = a; bads = b; constraints = c }) (record { lamps = a'; bads = b'; constraints = c' })
same_shown p q r = cc

module _ (d : Drawing) (p : Proper d) (r s : List Bool) (inputs_long : length r ≡ d.counts.inputs) (latches_long : length s ≡ d.counts.latches) where
  abbrev gate_list : List Gate
  gate_list = tabulate d.counts.gates (λ q. record { left = rename d (left d (gate_at d q)); right = rename d (right d (gate_at d q)) })

  abbrev front : List Bool
  front = false ∷ (r ++ s)

  abbrev values : List Bool
  values = pass boolean front gate_list

  front_long : length front ≡ 1 + leaves d
  front_long = omega (arith, length-append r s, inputs_long, latches_long)

  gates_fall : Falling (1 + leaves d) gate_list
  gates_fall = falling (1 + leaves d) d.counts.gates _ (λ q h. (below (left d (gate_at d q)) q (left_named d p q h), below (right d (gate_at d q)) q (right_named d p q h)))
    where
      below : (x q : ℕ) → name d (x / 2) ≤ leaves d + q → rename d x < 2 * (1 + leaves d + q)
      below x q h = unfold rename in omega (arith, h)

  -- ---- the entries

  entry_zero : get_or values 0 false ≡ false
  entry_zero = entry_front boolean front gate_list 0 false (omega (arith, front_long))

  entry_input : (i : ℕ) → i < d.counts.inputs → get_or values (suc i) false ≡ get_or r i false
  entry_input i h = entry_front boolean front gate_list (suc i) false (omega (arith, front_long)) ∙ get_or-append r s false i (omega (arith, inputs_long))

  entry_latch : (i : ℕ) → i < d.counts.latches → get_or values (suc (d.counts.inputs + i)) false ≡ get_or s i false
  entry_latch i h =
      entry_front boolean front gate_list (suc (d.counts.inputs + i)) false (omega (arith, front_long))
      ∙ rw (← inputs_long) (get_or_behind r s i false)

  entry_gate : (q : ℕ) → q < d.counts.gates
      → get_or values (suc (leaves d + q)) false ≡ (value boolean values (rename d (left d (gate_at d q))) && value boolean values (rename d (right d (gate_at d q))))
  unfolding boolean
  entry_gate q h =
      let g₀ : Gate = record { left = 0; right = 0 } in
      let place : length front + q ≡ suc (leaves d + q) = omega (arith, front_long) in
      let long : length gate_list ≡ d.counts.gates = length_tabulate d.counts.gates _ in
      ap (λ (n : ℕ). get_or values n false) (sym place)
      ∙ pass_at boolean front gate_list q g₀ false (rw front_long gates_fall) (rw long h)
      ∙ ap (λ (g : Gate). value boolean values g.left && value boolean values g.right) (get_or_tabulate d.counts.gates _ q g₀ h)

  -- a renamed literal reads what the literal reads, if its variable does
  pub renamed : (v : ℕ → Bool) (x : ℕ) → get_or values (name d (x / 2)) false ≡ v (x / 2) → value boolean values (rename d x) ≡ literal v x
  unfolding value boolean rename literal
  renamed v x e =
      let sign : (2 * name d (x / 2) + x % 2) % 2 ≡ x % 2 = omega arith in
      let place : (2 * name d (x / 2) + x % 2) / 2 ≡ name d (x / 2) = omega arith in
      ap₂ (signed boolean) sign (ap (λ (n : ℕ). get_or values n false) place ∙ e)

  -- ---- every solution is the entries

  module _ (v : ℕ → Bool) (solves : Solves d r s v) where
    entry_leaf : (k : ℕ) → k < leaves d → get_or values (suc k) false ≡ v (own d k / 2)
    entry_leaf k h = go (dec_lt k d.counts.inputs)
      where
        go : Dec (k < d.counts.inputs) → get_or values (suc k) false ≡ v (own d k / 2)
        go (yes l) = entry_input k l ∙ sym (solves.inputs k l)
        go (no l) =
            let e : d.counts.inputs + (k - d.counts.inputs) ≡ k = omega arith in
            rw (← e) (entry_latch (k - d.counts.inputs) (omega arith) ∙ sym (solves.latches (k - d.counts.inputs) (omega arith)))

    -- an operand's value, from the entries with smaller numbers
    operand_same : (n x : ℕ) → Defined d x → ((m : ℕ) → m < n → m ≤ lines d → get_or values m false ≡ v (old d p m)) → name d (x / 2) < n → value boolean values (rename d x) ≡ literal v x
    operand_same n x x_is below h =
        let a = named d p x x_is in
        renamed v x (below (name d (x / 2)) h a.few ∙ ap v a.back)

    entry_at : (m : ℕ) → m ≤ lines d → ((k : ℕ) → k < m → k ≤ lines d → get_or values k false ≡ v (old d p k)) → get_or values m false ≡ v (old d p m)
    unfolding old
    entry_at zero k below = entry_zero ∙ sym solves.constant
    entry_at (suc m) k below = go (numbered d p m k)
      where
        go : Numbered d p m → get_or values (suc m) false ≡ v (own d (line_at d m) / 2)
        go (of_leaf l e) = entry_leaf m l ∙ ap (λ (k : ℕ). v (own d k / 2)) (sym e)
        go (of_gate q e l f) =
            let i = gate_at d q in
            let few = gate_small d p q l in
            ap (λ (m : ℕ). get_or values (suc m) false) e ∙ entry_gate q l
            ∙ ap₂ (λ (a b : Bool). a && b)
            (operand_same (suc m) (left d i) (p.lefts i few) below (omega (arith, left_named d p q l, e)))
            (operand_same (suc m) (right d i) (p.rights i few) below (omega (arith, right_named d p q l, e)))
            ∙ sym (solves.gates i few)
            ∙ ap (λ (k : ℕ). v (own d k / 2)) (sym f)

    entries : (n m : ℕ) → m < n → m ≤ lines d → get_or values m false ≡ v (old d p m)
    entries zero m h k = absurd (not-suc-le-zero h)
    entries (suc n) m h k = entry_at m k (λ j l. entries n j (omega arith))

    pub literal_same : (x : ℕ) → Defined d x → value boolean values (rename d x) ≡ literal v x
    literal_same x x_is = operand_same (suc (lines d)) x x_is (entries (suc (lines d))) (omega (arith, (named d p x x_is).few))

    pub next_same : next boolean (circuit_of d.counts (table d)) r s ≡ next_under d v
    unfolding readings settle drawn_circuit next_under boolean
    next_same =
        ap (λ (c : Circuit). next boolean c r s) (table_circuit d)
        ∙ ap (map (value boolean values)) (map_tabulate (λ (l : Latch). l.next) d.counts.latches _)
        ∙ map_tabulate (value boolean values) d.counts.latches _
        ∙ tabulate_ext d.counts.latches _ _ (λ i h. literal_same (next_literal d i) (p.next i h))

    singles_same : (k n : ℕ) → k + n ≤ literals d.counts → readings boolean (drawn_circuit d) (renamed_singles d k n) r s ≡ singles_under d v k n
    unfolding readings settle drawn_circuit singles_under boolean
    singles_same k n l = map_tabulate (value boolean values) n _ ∙ tabulate_ext n _ _ (λ i h. literal_same (single d (k + i)) (p.singles (k + i) (omega arith)))

    pub shown_same : shown_by (circuit_of d.counts (table d)) r s ≡ shown_under d v
    unfolding drawn_circuit shown_by shown_under
    shown_same = ap (λ (c : Circuit). shown_by c r s) (table_circuit d) ∙ same_shown
        (singles_same 0 d.counts.lamps (omega arith))
        (singles_same d.counts.lamps d.counts.bads (omega arith))
        (singles_same (verdicts d.counts) d.counts.constraints (omega arith))

  -- so all solutions agree on the variables that are defined
  pub one_solution : (v v' : ℕ → Bool) → Solves d r s v → Solves d r s v' → (x : ℕ) → Defined d x → v (x / 2) ≡ v' (x / 2)
  one_solution v v' a b x x_is =
      let n = named d p x x_is in
      let few : name d (x / 2) < suc (lines d) = omega (arith, n.few) in
      ap v (sym n.back) ∙ sym (entries v a (suc (lines d)) (name d (x / 2)) few n.few) ∙ entries v' b (suc (lines d)) (name d (x / 2)) few n.few ∙ ap v' n.back

  -- ---- and the entries are a solution

  pub solution : ℕ → Bool
  solution x = get_or values (name d x) false

  half : (k : ℕ) → k < lines d → own d k ≡ 2 * (own d k / 2)
  half k h = p.owned.even k h

  name_leaf : (k : ℕ) → k < leaves d → name d (own d k / 2) ≡ suc k
  name_leaf k h = name_line d p (own d k / 2) k (omega arith) (ap (own d) (line_leaf d p k h) ∙ half k (omega arith))

  gate_solved : (i : ℕ) → i < d.counts.gates → solution (own d (leaves d + i) / 2) ≡ (literal solution (left d i) && literal solution (right d i))
  unfolding solution
  gate_solved i h =
      let t = (gates_sorted d p).stands i h in
      let few : t.at < d.counts.gates = omega (arith, t.within, (gates_sorted d p).long) in
      let n : name d (own d (leaves d + i) / 2) ≡ suc (leaves d + t.at) = name_line d p (own d (leaves d + i) / 2) (leaves d + t.at) (omega (arith, few)) (ap (own d) (line_gate d p t.at ∙ ap (λ (k : ℕ). leaves d + k) t.is) ∙ half (leaves d + i) (omega arith)) in
      ap (λ (n : ℕ). get_or values n false) n ∙ entry_gate t.at few
      ∙ ap (λ (k : ℕ). value boolean values (rename d (left d k)) && value boolean values (rename d (right d k))) t.is
      ∙ ap₂ (λ (a b : Bool). a && b) (renamed solution (left d i) refl) (renamed solution (right d i) refl)

  pub solution_solves : Solves d r s solution
  unfolding solution
  solution_solves = record {
    constant = ap (λ (n : ℕ). get_or values n false) (name_zero d p) ∙ entry_zero;
    inputs = λ i h. ap (λ (n : ℕ). get_or values n false) (name_leaf i (omega arith)) ∙ entry_input i h;
    latches = λ i h. ap (λ (n : ℕ). get_or values n false) (name_leaf (d.counts.inputs + i) (omega arith)) ∙ entry_latch i h;
    gates = λ i h. gate_solved i h;
  }
