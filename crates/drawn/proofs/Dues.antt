-- The own literals that are due on the lines of a plain text (specification, 4.5). Assumes nothing.
use mathlib.Core.Path.{◌≡◌, refl, ap, ◌∙◌}
use mathlib.Core.List.{List, [], ◌∷◌, ◌++◌, append-nil}
use Prim.Native.Nat.{ℕ, zero, suc, ◌+◌, ◌*◌, ◌<◌}
use native.Mathlib.Nat.{le_of_suc-le-suc, not-suc-le-zero}
use native.Mathlib.Omega.{arith}
use lib.ListN.{get_or}
use Rattle.circuit.specs.declared.Counts.{Counts}
use Rattle.circuit.specs.Table.{variables, literals, Kind, input, latch, literal, gate, several, kinds}

-- the own literals that are due on lines
unfoldable pub dues : List Kind → List ℕ
dues [] = []
dues (input own ∷ ks) = own ∷ dues ks
dues (latch own ∷ ks) = own ∷ dues ks
dues (literal ∷ ks) = dues ks
dues (gate own ∷ ks) = own ∷ dues ks

-- n even literals from own on
evens : ℕ → ℕ → List ℕ
evens own zero = []
evens own (suc n) = own ∷ evens (own + 2) n

evens_at : (own n i : ℕ) → i < n → get_or (evens own n) i 0 ≡ own + 2 * i
unfolding evens
evens_at own zero i h = absurd (not-suc-le-zero h)
evens_at own (suc n) zero h = omega arith
evens_at own (suc n) (suc i) h = evens_at (own + 2) n i (le_of_suc-le-suc h) ∙ omega arith

dues_several : (kind : ℕ → Kind) → ((own : ℕ) (ks : List Kind) → dues (kind own ∷ ks) ≡ own ∷ dues ks) → (own n : ℕ) (ks : List Kind) → dues (several kind own n ks) ≡ evens own n ++ dues ks
unfolding several evens
dues_several kind one own zero ks = refl
dues_several kind one own (suc n) ks = one own _ ∙ ap (λ l. own ∷ l) (dues_several kind one (own + 2) n ks)

dues_literals : (own n : ℕ) (ks : List Kind) → dues (several (λ own. literal) own n ks) ≡ dues ks
unfolding several dues
dues_literals own zero ks = refl
dues_literals own (suc n) ks = dues_literals (own + 2) n ks

evens_append : (own m n : ℕ) → evens own m ++ evens (own + 2 * m) n ≡ evens own (m + n)
unfolding evens
evens_append own zero n = let a : own + 2 * 0 ≡ own = omega arith in let b : 0 + n ≡ n = omega arith in rw (a, b)
evens_append own (suc m) n =
    let a : own + 2 * suc m ≡ own + 2 + 2 * m = omega arith in
    let b : suc m + n ≡ suc (m + n) = omega arith in
    rw (a, b) (ap (λ l. own ∷ l) (evens_append (own + 2) m n))

dues_kinds : (c : Counts) → dues (kinds c) ≡ evens 2 (variables c)
unfolding kinds dues
dues_kinds c =
    let i : ℕ = c.inputs in
    let l : ℕ = c.latches in
    dues_several input (λ own ks. refl) 2 i _
    ∙ ap (λ ls. evens 2 i ++ ls) (dues_several latch (λ own ks. refl) (2 + 2 * i) l _
    ∙ ap (λ ls. evens (2 + 2 * i) l ++ ls) (dues_literals 0 (literals c) _ ∙ dues_several gate (λ own ks. refl) (2 + 2 * i + 2 * l) c.gates [] ∙ append-nil _))
    ∙ ap (λ ls. evens 2 i ++ ls) (evens_append (2 + 2 * i) l c.gates)
    ∙ evens_append 2 i (l + c.gates)
    ∙ (let e : i + (l + c.gates) ≡ variables c = omega arith in rw e)

-- line k of those that show an own literal is due the literal of variable k + 1
pub due_at : (c : Counts) (k : ℕ) → k < variables c → get_or (dues (kinds c)) k 0 ≡ 2 + 2 * k
due_at c k h = rw (dues_kinds c) (evens_at 2 (variables c) k h)
