-- Laws of following with marks, by the numbers that fall: what a call leaves, from what the calls that it makes leave. Assumes nothing.
use mathlib.Core.Path.{◌≡◌, refl, sym, ◌∙◌}
use mathlib.Core.Bool.{Bool, true, false, false≢true}
use mathlib.Core.Logic.{◌⊎◌, inl, inr}
use mathlib.Core.List.{List, [], ◌∷◌}
use Prim.Native.Nat.{ℕ, suc, ◌/◌, ◌<◌, ◌≤◌}
use native.Mathlib.Omega.{arith}
use native.Mathlib.Decide.{dec_lt}
use borrow.Author.Tests.{eqb-true, eqb-false}
use lib.Dec.{eqb}
use lib.ListN.{length, set}
use lib.Seq.{get_or-set_same, get_or-set_other}
use Rattle.three.proofs.Lists.{iff, by_test}
use Rattle.asked.specs.AskedInCode.{Leads, Asked, here, on}
use Rattle.asked.proofs.Leading.{leads_none, leads_one, leads_two, leads_only, leads_first, leads_second}
use Rattle.why.specs.MarksInCode.{marked, Closed, Followed}

-- ---- marking one variable

pub record Marks (m m₁ : ℕ → Bool) (x : ℕ) : Type 0 where
  pub keeps : (u : ℕ) → m u ≡ true → m₁ u ≡ true
  pub above : (u : ℕ) → x < u → m₁ u ≡ m u
  pub has : m₁ x ≡ true
  pub only : (u : ℕ) → m₁ u ≡ true → (m u ≡ true) ⊎ (x ≡ u)

module _ (l : List Bool) (x : ℕ) (h : x < length l) where
  same_mark : marked (set l x true) x ≡ true
  unfolding marked
  same_mark = rw (get_or-set_same l x true false h)

  other_mark : (u : ℕ) → (u ≡ x → ⊥) → marked (set l x true) u ≡ marked l u
  unfolding marked
  other_mark u d = get_or-set_other l x u true false d

  pub set_marks : Marks (marked l) (marked (set l x true)) x
  set_marks = record {
    keeps = λ u e. by_test (eqb u x) (λ t. rw (eqb-true u x t) same_mark) (λ t. other_mark u (eqb-false u x t) ∙ e);
    above = λ u g. other_mark u (λ e. omega arith);
    has = same_mark;
    only = λ u e. by_test (eqb u x) (λ t. inr (sym (eqb-true u x t))) (λ t. inl (sym (other_mark u (eqb-false u x t)) ∙ e));
  }

-- ---- what is followed from x, and what that leaves

module _ (follows : ℕ → List ℕ) where
  module _ {m m₁ : ℕ → Bool} {x : ℕ} (k : Marks m m₁ x) where
    -- what is closed up to x stays closed below x when x is marked
    pub marks_closed : Closed follows (suc x) m → Closed follows x m₁
    marks_closed c v w l e f = go (k.only v e)
      where
        go : (m v ≡ true) ⊎ (x ≡ v) → m₁ w ≡ true
        go (inl a) = k.keeps w (c v w (omega arith) a f)
        go (inr a) = absurd (omega arith)

  -- a smaller bound
  pub closed_below : {m : ℕ → Bool} {b : ℕ} (y : ℕ) → y ≤ b → Closed follows b m → Closed follows y m
  closed_below y h c v w l = c v w (omega arith)

  -- a call about y keeps what is closed up to a bound above y closed
  pub call_closed : {m m' : ℕ → Bool} {b y : ℕ} → y < b → Closed follows b m → Followed follows m m' y → Closed follows b m'
  call_closed {m} {m'} {b} {y} h c f v w l e g = go (dec_lt y v)
    where
      go : Dec (y < v) → m' w ≡ true
      go (yes p) = f.keeps w (c v w l (sym (f.above v p) ∙ e) g)
      go (no p) = f.closed v w (omega arith) e g

  -- the end of a call about x: what x leads to is marked in m₂, and m₂ is closed below x
  module _ {m m₁ m₂ : ℕ → Bool} {x : ℕ} (k : Marks m m₁ x) where
    pub finished : ((u : ℕ) → m₁ u ≡ true → m₂ u ≡ true) → ((u : ℕ) → x < u → m₂ u ≡ m₁ u) → Closed follows x m₂
        → ((w : ℕ) → Leads follows x w → m₂ w ≡ true) → ((u : ℕ) → m₂ u ≡ true → (m₁ u ≡ true) ⊎ Asked follows x u) → Followed follows m m₂ x
    finished keeps above lower own only = record {
      keeps = λ u e. keeps u (k.keeps u e);
      above = λ u l. above u l ∙ k.above u l;
      has = keeps x k.has;
      closed = λ v w l e f. upto v w l e f (dec_lt v x);
      only = λ u e. from u (only u e);
    }
      where
        upto : (v w : ℕ) → v < suc x → m₂ v ≡ true → Leads follows v w → Dec (v < x) → m₂ w ≡ true
        upto v w l e f (yes h) = lower v w h e f
        upto v w l e f (no h) = let same : v ≡ x = omega arith in own w (rw same at f)

        old : (u : ℕ) → (m u ≡ true) ⊎ (x ≡ u) → (m u ≡ true) ⊎ Asked follows x u
        old u (inl a) = inl a
        old u (inr a) = inr (rw (← a) here)

        from : (u : ℕ) → (m₁ u ≡ true) ⊎ Asked follows x u → (m u ≡ true) ⊎ Asked follows x u
        from u (inl a) = old u (k.only u a)
        from u (inr a) = inr a

  -- ---- the ends: x was followed before, nothing is followed from it, one literal is, two are

  -- what a call about w marks is asked from x, which leads to w
  further : {P : Type 0} {x w : ℕ} → Leads follows x w → (u : ℕ) → P ⊎ Asked follows w u → P ⊎ Asked follows x u
  further l u (inl h) = inl h
  further l u (inr a) = inr (on l a)

  module _ {m m₁ : ℕ → Bool} {x : ℕ} (c : Closed follows (suc x) m) (k : Marks m m₁ x) where
    -- x was marked before
    pub ends_marked : m x ≡ true → Followed follows m m₁ x
    ends_marked h = finished k (λ u e. e) (λ u l. refl) (marks_closed k c) (λ w l. k.keeps w (c x w (omega arith) h l)) (λ u e. inl e)

    pub ends_none : follows x ≡ [] → Followed follows m m₁ x
    ends_none e = finished k (λ u h. h) (λ u l. refl) (marks_closed k c) (λ w l. absurd (leads_none follows x w e l)) (λ u h. inl h)

    pub ends_one : {m₂ : ℕ → Bool} (a : ℕ) → follows x ≡ a ∷ [] → a / 2 < x → Followed follows m₁ m₂ (a / 2) → Followed follows m m₂ x
    ends_one a e below f =
        finished k f.keeps (λ u l. f.above u (omega arith)) (call_closed below (marks_closed k c) f)
        (λ w l. rw (← leads_one follows x w a e l) f.has)
        (λ u h. further (leads_only follows x a e) u (f.only u h))

    pub ends_two : {m₂ m₃ : ℕ → Bool} (a b : ℕ) → follows x ≡ a ∷ b ∷ [] → a / 2 < x → b / 2 < x
        → Followed follows m₁ m₂ (a / 2) → Followed follows m₂ m₃ (b / 2) → Followed follows m m₃ x
    ends_two {m₂} {m₃} a b e below below' f g =
        finished k (λ u h. g.keeps u (f.keeps u h)) (λ u l. g.above u (omega arith) ∙ f.above u (omega arith))
        (call_closed below' (call_closed below (marks_closed k c) f) g)
        (λ w l. own w (leads_two follows x w a b e l))
        (λ u h. from u (g.only u h))
      where
        own : (w : ℕ) → (a / 2 ≡ w) ⊎ (b / 2 ≡ w) → m₃ w ≡ true
        own w (inl h) = g.keeps w (rw (← h) f.has)
        own w (inr h) = rw (← h) g.has

        from : (u : ℕ) → (m₂ u ≡ true) ⊎ Asked follows (b / 2) u → (m₁ u ≡ true) ⊎ Asked follows x u
        from u (inl h) = further (leads_first follows x a b e) u (f.only u h)
        from u (inr h) = inr (on (leads_second follows x a b e) h)

  -- ---- from no marks at all: exactly what is asked is marked

  module _ {m m' : ℕ → Bool} {x : ℕ} (falls : (v w : ℕ) → v < suc x → Leads follows v w → w < v) (f : Followed follows m m' x) where
    asked_marked : {v u : ℕ} → v < suc x → m' v ≡ true → Asked follows v u → m' u ≡ true
    asked_marked h e here = e
    asked_marked {v} h e (on {w = w} l a) = asked_marked (omega (arith, falls v w h l)) (f.closed v w h e l) a

    pub exactly : ((u : ℕ) → m u ≡ false) → (u : ℕ) (t : Bool) → (t ≡ true → Asked follows x u) → (Asked follows x u → t ≡ true) → m' u ≡ t
    exactly blank u t to from = iff (m' u) t (λ e. from (asked (f.only u e))) (λ e. asked_marked (omega arith) f.has (to e))
      where
        asked : (m u ≡ true) ⊎ Asked follows x u → Asked follows x u
        asked (inl h) = absurd (false≢true (sym (blank u) ∙ h))
        asked (inr a) = a
