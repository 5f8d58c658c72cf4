-- A const table holds a rule's answers in order: antt computes those, and compares them with the table's entries. Assumes nothing.
use mathlib.Core.Path.{◌≡◌, ◌∙◌, ap, sym}
use mathlib.Core.List.{[]}
use Prim.Native.Nat.{ℕ, ◌<◌}
use lib.ListN.{get_or}
use Rattle.three.specs.Lists.{tabulate}
use Rattle.three.proofs.Lists.{get_or_tabulate}

module _ {A : Type 0} (d : A) where
  pub entry : (rule : ℕ → A) (n k : ℕ) → k < n → get_or (tabulate n rule) k d ≡ rule k
  entry rule n k h = get_or_tabulate n rule k d h

  -- a table of rows
  pub entry_of_row : (rule : ℕ → ℕ → A) (m n i j : ℕ) → i < m → j < n → get_or (get_or (tabulate m (λ k. tabulate n (rule k))) i []) j d ≡ rule i j
  entry_of_row rule m n i j h k = ap (λ row. get_or row j d) (get_or_tabulate m (λ r. tabulate n (rule r)) i [] h) ∙ entry (rule i) n j k

  -- two rules with the same answers
  pub same_answers : (f g : ℕ → A) (n k : ℕ) → tabulate n f ≡ tabulate n g → k < n → f k ≡ g k
  same_answers f g n k e h = sym (entry f n k h) ∙ ap (λ l. get_or l k d) e ∙ entry g n k h
