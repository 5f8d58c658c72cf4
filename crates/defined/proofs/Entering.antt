-- Laws of entering lines one by one, and of what the entries say when all are entered. Assumes nothing.
use mathlib.Core.Path.{◌≡◌, refl, sym, ap, ◌∙◌}
use mathlib.Core.Bool.{Bool, true, false, not, ◌&&◌, true≢false, false≢true}
use mathlib.Core.List.{List}
use Prim.Native.Nat.{ℕ, zero, suc, ◌+◌, ◌*◌, ◌/◌, ◌%◌, ◌<◌, ◌≤◌}
use native.Mathlib.Nat.{not-suc-le-zero}
use native.Mathlib.Omega.{arith}
use native.Mathlib.Decide.{dec_lt, ℕ_discrete}
use borrow.Author.Tests.{eq-eqb, ne_eqb, le-leb, lt-leb}
use lib.Dec.{leb, eqb}
use lib.ListN.{length, get_or, set, length-set}
use lib.Seq.{get_or-set_same, get_or-set_other}
use Rattle.three.specs.Lists.{every}
use Rattle.three.proofs.Lists.{every_all, every_fails}
use Rattle.drawn.specs.Drawing.{Drawing, lines, own, once}
use Rattle.defined.specs.Places.{Entered, Distinct, Entering}

module _ (d : Drawing) where
  -- ---- one line

  once_good : (k : ℕ) → own d k % 2 ≡ 0 → 2 ≤ own d k → own d k ≤ 2 * d.most + 1 → ((j : ℕ) → j < k → own d j ≡ own d k → ⊥) → once d k ≡ true
  unfolding once
  once_good k even large small apart =
      let others : every k (λ j. not (eqb (own d j) (own d k))) ≡ true = every_all k (λ j. not (eqb (own d j) (own d k))) (λ j h. ap not (ne_eqb (own d j) (own d k) (apart j h))) in
      rw (eq-eqb (own d k % 2) 0 even, le-leb 2 (own d k) large, le-leb (own d k) (2 * d.most + 1) small) others

  once_odd : (k : ℕ) → (own d k % 2 ≡ 0 → ⊥) → once d k ≡ false
  unfolding once
  once_odd k h = rw (ne_eqb (own d k % 2) 0 h)

  and_false : (a b : Bool) → b ≡ false → (a && b) ≡ false
  and_false true b e = e
  and_false false b e = refl

  once_low : (k : ℕ) → own d k < 2 → once d k ≡ false
  unfolding once
  once_low k h = and_false (eqb (own d k % 2) 0) _ (rw (lt-leb 2 (own d k) h))

  once_high : (k : ℕ) → 2 * d.most + 1 < own d k → once d k ≡ false
  unfolding once
  once_high k h = and_false (eqb (own d k % 2) 0) _ (and_false (leb 2 (own d k)) _ (rw (lt-leb (own d k) (2 * d.most + 1) h)))

  once_twice : (k j : ℕ) → j < k → own d j ≡ own d k → once d k ≡ false
  unfolding once
  once_twice k j h e =
      let twice : every k (λ j. not (eqb (own d j) (own d k))) ≡ false = every_fails k (λ j. not (eqb (own d j) (own d k))) j h (ap not (eq-eqb (own d j) (own d k) e)) in
      and_false (eqb (own d k % 2) 0) _ (and_false (leb 2 (own d k)) _ (and_false (leb (own d k) (2 * d.most + 1)) _ twice))

  -- ---- the loop

  pub entered_first : (places : List ℕ) → length places ≡ 4096 → ((v : ℕ) → get_or places v 0 ≡ 0) → Entered d 0 places
  entered_first places long z = record {
    within = omega arith;
    long = long;
    none = λ v e j h. absurd (not-suc-le-zero h);
    some = λ v j e. absurd (omega (arith, z v, e));
    good = λ j h. absurd (not-suc-le-zero h);
  }

  module _ (k : ℕ) (places : List ℕ) (e : Entered d k places) (h : k < lines d) where
    refuses : once d k ≡ false → Distinct d false places
    refuses b = record { answers = sym (every_fails (lines d) (once d) k h b); enters = λ z. absurd (false≢true z) }

    pub odd_refused : (x : ℕ) → x ≡ own d k → (x % 2 ≡ 0 → ⊥) → Distinct d false places
    odd_refused x is b = refuses (once_odd k (λ z. b (ap (λ (n : ℕ). n % 2) is ∙ z)))

    pub low_refused : (x : ℕ) → x ≡ own d k → x < 2 → Distinct d false places
    low_refused x is b = refuses (once_low k (omega (arith, is, b)))

    pub high_refused : (x : ℕ) → x ≡ own d k → 2 * d.most + 1 < x → Distinct d false places
    high_refused x is b = refuses (once_high k (omega (arith, is, b)))

    pub twice_refused : (x : ℕ) → x ≡ own d k → x % 2 ≡ 0 → (get_or places (x / 2) 0 ≡ 0 → ⊥) → Distinct d false places
    twice_refused x is even b = go (get_or places (x / 2) 0) refl
      where
        go : (n : ℕ) → get_or places (x / 2) 0 ≡ n → Distinct d false places
        go zero z = absurd (b z)
        go (suc j) z = let s = e.some (x / 2) j z in refuses (once_twice k j s.0 (omega (arith, s.1, is, even)))

    pub entered_next : (x : ℕ) → x ≡ own d k → x % 2 ≡ 0 → 2 ≤ x → x ≤ 2 * d.most + 1 → d.most ≤ 4095 → get_or places (x / 2) 0 ≡ 0 → Entered d (k + 1) (set places (x / 2) (k + 1))
    entered_next x is even large small few blank =
        let room : x / 2 < length places = omega (arith, e.long, small, few) in
        let good : once d k ≡ true = once_good k (ap (λ (n : ℕ). n % 2) (sym is) ∙ even) (omega (arith, is, large)) (omega (arith, is, small))
        (λ j l q. e.none (x / 2) blank j l (omega (arith, q, is, even))) in
        record {
          within = omega arith;
          long = length-set places (x / 2) (k + 1) ∙ e.long;
          none = λ v z j l q. none_next v (ℕ_discrete v (x / 2)) z j l q room;
          some = λ v j z. some_next v (ℕ_discrete v (x / 2)) j z room;
          good = λ j l. good_next j (dec_lt j k) l good;
        }
      where
        none_next : (v : ℕ) → Dec (v ≡ x / 2) → get_or (set places (x / 2) (k + 1)) v 0 ≡ 0 → (j : ℕ) → j < k + 1 → own d j ≡ 2 * v → x / 2 < length places → ⊥
        none_next v (yes s) z j l q room =
            let new : get_or (set places (x / 2) (k + 1)) v 0 ≡ k + 1 = ap (λ (n : ℕ). get_or (set places (x / 2) (k + 1)) n 0) s ∙ get_or-set_same places (x / 2) (k + 1) 0 room in
            omega (arith, new, z)
        none_next v (no s) z j l q room = older (dec_lt j k)
          where
            older : Dec (j < k) → ⊥
            older (yes m) = e.none v (sym (get_or-set_other places (x / 2) v (k + 1) 0 s) ∙ z) j m q
            older (no m) = let same : j ≡ k = omega arith in s (omega (arith, is, q, even, ap (own d) same))

        some_next : (v : ℕ) → Dec (v ≡ x / 2) → (j : ℕ) → get_or (set places (x / 2) (k + 1)) v 0 ≡ suc j → x / 2 < length places → (j < k + 1) × (own d j ≡ 2 * v)
        some_next v (yes s) j z room =
            let new : get_or (set places (x / 2) (k + 1)) v 0 ≡ k + 1 = ap (λ (n : ℕ). get_or (set places (x / 2) (k + 1)) n 0) s ∙ get_or-set_same places (x / 2) (k + 1) 0 room in
            let same : j ≡ k = omega (arith, new, z) in
            (omega (arith, same), ap (own d) same ∙ omega (arith, is, even, s))
        some_next v (no s) j z room =
            let old = e.some v j (sym (get_or-set_other places (x / 2) v (k + 1) 0 s) ∙ z) in (omega (arith, old.0), old.1)

        good_next : (j : ℕ) → Dec (j < k) → j < k + 1 → once d k ≡ true → once d j ≡ true
        good_next j (yes m) l good = e.good j m
        good_next j (no m) l good = let same : j ≡ k = omega arith in rw same good

  pub entered_last : (k : ℕ) (places : List ℕ) → Entered d k places → lines d ≤ k → Distinct d true places
  entered_last k places e h =
      let same : k ≡ lines d = omega (arith, e.within) in
      let all : Entered d (lines d) places = rw (← same) e in
      record { answers = sym (every_all (lines d) (once d) all.good); enters = λ z. all }

  -- ---- a line's answer

  pub line_stops : {k : ℕ} {places : List ℕ} → Distinct d false places → Entering d k false places
  line_stops s = record { goes = λ z. absurd (false≢true z); stops = λ z. s }

  pub line_goes : {k : ℕ} {places : List ℕ} → Entered d (k + 1) places → Entering d k true places
  line_goes s = record { goes = λ z. s; stops = λ z. absurd (true≢false z) }
