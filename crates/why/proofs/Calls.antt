-- The calls that `why_zero` and `why_one` make: that each may be made, and what the caller then leaves. Assumes nothing.
use mathlib.Core.Path.{◌≡◌, sym, ap, ◌∙◌}
use mathlib.Core.Bool.{Bool, true, false, not}
use mathlib.Core.List.{List, [], ◌∷◌}
use Prim.Native.Nat.{ℕ, suc, ◌+◌, ◌*◌, ◌-◌, ◌/◌, ◌%◌, ◌<◌, ◌≤◌}
use native.Mathlib.Omega.{arith}
use borrow.Author.Tests.{not-true, not-false}
use lib.ListN.{length, get_or, length-set}
use Rattle.three.specs.Value.{Three, low, high}
use Rattle.pass.specs.ValuesInCode.{values_of}
use Rattle.circuit.proofs.LiteralValue.{upright}
use Rattle.asked.specs.AskedInCode.{gate_in}
use Rattle.asked.proofs.Leading.{nothing_followed}
use Rattle.why.specs.MarksInCode.{marked, Ready, FollowedMarks, followed_in, Askable, Begun}
use Rattle.why.proofs.Following.{Marks, marks_closed, closed_below, call_closed, ends_one, ends_two}
use Rattle.why.proofs.Asking.{askable_small, turned_low, turned_high, left_below, right_below, cause_asked, both_followed, left_asked, right_asked, begun_marks, begun_gate, begun_done}

module _ (words : List ℕ) (at first : ℕ) (values : List ℕ) (x : ℕ) where
  abbrev follows : ℕ → List ℕ
  follows = followed_in words at first values

  -- ---- an inverted literal

  module _ (odd : x % 2 ≡ 1) (marks : List Bool) (ready : Ready follows (x / 2) marks) where
    turned_ready : Ready follows ((x - 1) / 2) marks
    turned_ready = record { long = ready.long; closed = closed_below follows (suc ((x - 1) / 2)) (omega arith) ready.closed }

    pub low_turned : Askable words at first values x low → Askable words at first values (x - 1) high × Ready follows ((x - 1) / 2) marks
    low_turned k = (turned_low words at first values x odd k, turned_ready)

    pub high_turned : Askable words at first values x high → Askable words at first values (x - 1) low × Ready follows ((x - 1) / 2) marks
    high_turned k = (turned_high words at first values x odd k, turned_ready)

    pub turned_left : {marks' : List Bool} → FollowedMarks follows marks marks' ((x - 1) / 2) → FollowedMarks follows marks marks' (x / 2)
    turned_left f = rw (← upright x odd) f

  -- ---- a variable is marked

  module _ (a : Three) (k : Askable words at first values x a) (marks marks' : List Bool) (ready : Ready follows (x / 2) marks)
      {r : Bool} (b : Begun first (x / 2) marks marks' r) where
    within : x / 2 < length marks
    within = omega (arith, askable_small words at first values x a k, ready.long)

    still_long : length marks' ≡ 4096
    still_long = rw (b.sets, length-set) ready.long

    pub nothing_left : not r ≡ true → FollowedMarks follows marks marks' (x / 2)
    nothing_left t = record {
      long = still_long;
      followed_from = begun_done first (x / 2) marks marks' within b follows (nothing_followed first (gate_in words at) (values_of values) (x / 2)) (not-true r t) ready.closed;
    }

    module _ (g : not r ≡ false) where
      pub is_gate : first ≤ x / 2
      is_gate = begun_gate first (x / 2) marks marks' within b (not-false r g)

      -- both operands are in the table
      pub operands_there : at + 2 * (x / 2 - first) + 1 < length words
      operands_there = omega (arith, is_gate, k.gates.long)

      marking : Marks (marked marks) (marked marks') (x / 2)
      marking = begun_marks first (x / 2) marks marks' within b

      -- what lies below x can be asked about, now and after another call
      module _ (even : x % 2 ≡ 0) (y : ℕ) (l : y < x) where
        below_ready : Ready follows (y / 2) marks'
        below_ready = record { long = still_long; closed = closed_below follows (suc (y / 2)) (omega arith) (marks_closed follows marking ready.closed) }

        again_ready : (z : ℕ) → z < x → (marks₂ : List Bool) → FollowedMarks follows marks' marks₂ (z / 2) → Ready follows (y / 2) marks₂
        again_ready z h marks₂ f = record {
          long = f.long;
          closed = closed_below follows (suc (y / 2)) (omega arith) (call_closed follows (omega arith) (marks_closed follows marking ready.closed) f.followed_from);
        }

-- ---- a gate at 0

module _ (words : List ℕ) (at first : ℕ) (values : List ℕ) (x : ℕ) (k : Askable words at first values x low)
    (marks marks' : List Bool) (ready : Ready (followed_in words at first values) (x / 2) marks)
    {t : Bool} (b : Begun first (x / 2) marks marks' t) (g : not t ≡ false) (even : x % 2 ≡ 0)
    (r : ℕ) (e : followed_in words at first values (x / 2) ≡ r ∷ []) where
  pub cause_call : (r < x) × (Askable words at first values r low × Ready (followed_in words at first values) (r / 2) marks')
  cause_call =
      let asked = cause_asked words at first values x even (is_gate words at first values x low k marks marks' ready b g) k r e in
      (asked.0, (asked.1, below_ready words at first values x low k marks marks' ready b g even r asked.0))

  pub cause_left : {marks₂ : List Bool} → FollowedMarks (followed_in words at first values) marks' marks₂ (r / 2) → FollowedMarks (followed_in words at first values) marks marks₂ (x / 2)
  cause_left f = record {
    long = f.long;
    followed_from = ends_one (followed_in words at first values) ready.closed (marking words at first values x low k marks marks' ready b g) r e (omega (arith, cause_call.0)) f.followed_from;
  }

-- ---- a gate at 1, its operands as the code reads them

module _ (words : List ℕ) (at first : ℕ) (values : List ℕ) (x : ℕ) (k : Askable words at first values x high)
    (marks marks' : List Bool) (ready : Ready (followed_in words at first values) (x / 2) marks)
    {t : Bool} (b : Begun first (x / 2) marks marks' t) (g : not t ≡ false) (even : x % 2 ≡ 0)
    (l : ℕ) (read : l ≡ get_or words (at + 2 * (x / 2 - first)) 0) where
  gate : first ≤ x / 2
  gate = is_gate words at first values x high k marks marks' ready b g

  is_left : get_or words (at + 2 * (x / 2 - first)) 0 ≡ l
  is_left = sym read

  pub left_call : (l < x) × (Askable words at first values l high × Ready (followed_in words at first values) (l / 2) marks')
  left_call =
      let below : l < x = rw (← is_left) (left_below words at first values x even gate high k) in
      (below, (rw (← is_left) (left_asked words at first values x even gate k), below_ready words at first values x high k marks marks' ready b g even l below))

  module _ (marks₂ : List Bool) (f : FollowedMarks (followed_in words at first values) marks' marks₂ (l / 2)) (r : ℕ) (read' : r ≡ get_or words (at + 2 * (x / 2 - first) + 1) 0) where
    pub right_call : (r < x) × (Askable words at first values r high × Ready (followed_in words at first values) (r / 2) marks₂)
    right_call =
        let below : r < x = rw read' (right_below words at first values x even gate high k) in
        (below, (rw read' (right_asked words at first values x even gate k), again_ready words at first values x high k marks marks' ready b g even r below l left_call.0 marks₂ f))

    pub both_left : {marks₃ : List Bool} → FollowedMarks (followed_in words at first values) marks₂ marks₃ (r / 2) → FollowedMarks (followed_in words at first values) marks marks₃ (x / 2)
    both_left f' =
        let two : followed_in words at first values (x / 2) ≡ l ∷ r ∷ [] =
        both_followed words at first values x even gate k ∙ ap (λ n. n ∷ get_or words (at + 2 * (x / 2 - first) + 1) 0 ∷ []) is_left ∙ ap (λ n. l ∷ n ∷ []) (sym read') in
        record {
          long = f'.long;
          followed_from = ends_two (followed_in words at first values) ready.closed (marking words at first values x high k marks marks' ready b g) l r two (omega (arith, left_call.0)) (omega (arith, right_call.0)) f.followed_from f'.followed_from;
        }
