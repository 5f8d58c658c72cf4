-- Laws of the kinds of line as the code has them: the kind, how many words it has, and its words. Assumes nothing.
use mathlib.Core.Path.{◌≡◌, refl}
use mathlib.Core.List.{List, [], ◌∷◌}
use Prim.Native.Nat.{ℕ}
use lib.ListN.{get_or}
use Rattle.circuit.specs.Table.{input, latch, literal, gate, width}
use Rattle.text.specs.declared.LineKind.{LineKind}
use Rattle.text.specs.declared.LineKind.TheVariants.{Input, Latch, Lamp, Gate}
use Rattle.text.specs.Text.{reset_word, words}
use Rattle.text.specs.KindsInCode.{coded}

-- a kind's words are as many for each of its lines
pub width_alike : (k : LineKind) (own : ℕ) → width (coded k own) ≡ width (coded k 0)
unfolding coded width
width_alike Input own = refl
width_alike Latch own = refl
width_alike Lamp own = refl
width_alike Gate own = refl

module _ {k : LineKind} (own : ℕ) where
  pub coded_input : k ≡ Input → coded k own ≡ input own
  unfolding coded
  coded_input e = rw e

  pub coded_latch : k ≡ Latch → coded k own ≡ latch own
  unfolding coded
  coded_latch e = rw e

  pub coded_lamp : k ≡ Lamp → coded k own ≡ literal
  unfolding coded
  coded_lamp e = rw e

  pub coded_gate : k ≡ Gate → coded k own ≡ gate own
  unfolding coded
  coded_gate e = rw e

-- ---- how many words

module _ {k : LineKind} (own : ℕ) where
  pub width_latch : k ≡ Latch → width (coded k own) ≡ 2
  unfolding coded width
  width_latch e = rw e

  pub width_lamp : k ≡ Lamp → width (coded k own) ≡ 1
  unfolding coded width
  width_lamp e = rw e

  pub width_gate : k ≡ Gate → width (coded k own) ≡ 2
  unfolding coded width
  width_gate e = rw e

-- ---- the words of a line

module _ {k : LineKind} (ns : List ℕ) where
  pub input_words : k ≡ Input → words (coded k 0) ns ≡ []
  unfolding coded words
  input_words e = rw e

  pub latch_words_lem : k ≡ Latch → words (coded k 0) ns ≡ get_or ns 1 0 ∷ reset_word (get_or ns 0 0) (get_or ns 2 0) ∷ []
  unfolding coded words
  latch_words_lem e = rw e

  pub lamp_words : k ≡ Lamp → words (coded k 0) ns ≡ get_or ns 0 0 ∷ []
  unfolding coded words
  lamp_words e = rw e

  pub gate_words_lem : k ≡ Gate → words (coded k 0) ns ≡ get_or ns 1 0 ∷ get_or ns 2 0 ∷ []
  unfolding coded words
  gate_words_lem e = rw e

-- the own literal is no word
pub words_alike : (k : LineKind) (own : ℕ) (ns : List ℕ) → words (coded k 0) ns ≡ words (coded k own) ns
unfolding coded words
words_alike Input own ns = refl
words_alike Latch own ns = refl
words_alike Lamp own ns = refl
words_alike Gate own ns = refl
