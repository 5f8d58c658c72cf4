-- Laws of one field: a law of them is a test, which antt computes at each of the three values. Assumes nothing.
use mathlib.Core.Path.{◌≡◌, refl, sym, ap, ◌∙◌}
use mathlib.Core.Bool.{Bool, true, ◌&&◌, cond}
use borrow.Author.Tests.{eqb-true}
use Rattle.three.specs.Value.{Three, unknown, low, high, code, decode}
use Rattle.three.specs.Cube.{alike, allows, blank, agree}
use Rattle.three.proofs.Lists.{and_parts}
use Rattle.three.proofs.Bytes.{decode_code}

abbrev pub at_each : (Three → Bool) → Bool
at_each p = p unknown && (p low && p high)

pub of_one : (p : Three → Bool) → at_each p ≡ true → (v : Three) → p v ≡ true
of_one p e unknown = (and_parts (p unknown) _ e).0
of_one p e low = (and_parts (p low) _ (and_parts (p unknown) _ e).1).0
of_one p e high = (and_parts (p low) _ (and_parts (p unknown) _ e).1).1

pub of_two : (p : Three → Three → Bool) → at_each (λ a. at_each (p a)) ≡ true → (a b : Three) → p a b ≡ true
of_two p e a = of_one (p a) (of_one (λ v. at_each (p v)) e a)

pub of_three : (p : Three → Three → Three → Bool) → at_each (λ a. at_each (λ b. at_each (p a b))) ≡ true → (a b c : Three) → p a b c ≡ true
of_three p e a = of_two (p a) (of_one (λ v. at_each (λ b. at_each (p v b))) e a)

pub alike_same : (a b : Three) → alike a b ≡ true → a ≡ b
unfolding alike
alike_same a b e = sym (decode_code a) ∙ ap decode (eqb-true _ _ e) ∙ decode_code b

pub agree_order : (a b : Three) → agree a b ≡ agree b a
unfolding alike agree blank code
agree_order a b = alike_same _ _ (of_two (λ a b. alike (agree a b) (agree b a)) refl a b)

pub agree_grouping : (a b c : Three) → agree (agree a b) c ≡ agree a (agree b c)
unfolding alike agree blank code
agree_grouping a b c = alike_same _ _ (of_three (λ a b c. alike (agree (agree a b) c) (agree a (agree b c))) refl a b c)

pub agree_same : (v : Three) → agree v v ≡ v
unfolding alike agree blank code
agree_same v = alike_same _ _ (of_one (λ v. alike (agree v v) v) refl v)

pub agree_unknown : (v : Three) → agree unknown v ≡ unknown
unfolding alike agree blank code
agree_unknown v = alike_same _ _ (of_one (λ v. alike (agree unknown v) unknown) refl v)

pub allows_agree : (a b : Three) → allows (agree a b) a ≡ true
unfolding allows alike agree blank code
allows_agree a b = of_two (λ a b. allows (agree a b) a) refl a b

pub allows_self : (v : Three) → allows v v ≡ true
unfolding allows alike code
allows_self v = of_one (λ v. allows v v) refl v

-- a stored field that allows b is what it has in common with b
pub allows_keeps : (c b : Three) → allows c b ≡ true → agree c b ≡ c
unfolding allows alike agree blank code
allows_keeps c b e = alike_same _ _ (rw e at (of_two (λ c b. alike (cond (allows c b) (agree c b) c) c) refl c b))
