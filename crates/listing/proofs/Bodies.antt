-- The four kinds of line one behind the other, from the first line's counts. Assumes nothing.
use mathlib.Core.Path.{◌≡◌, refl, sym, ap, ◌∙◌}
use mathlib.Core.List.{List, [], append-nil}
use Prim.Native.Nat.{ℕ, ◌+◌, ◌*◌, ◌≤◌, ◌<◌}
use native.Mathlib.Omega.{arith}
use lib.ListN.{length}
use Rattle.std.specs.Prelude.{Result, IsErrAnd}
use Rattle.circuit.specs.declared.Counts.{Counts}
use Rattle.circuit.specs.declared.Refusal.{Refusal}
use Rattle.circuit.specs.Answer.{number_of, answered}
use Rattle.circuit.specs.RulesInCode.{Bounded}
use Rattle.circuit.specs.Table.{variables, table_length, literals, Kind, several, kinds, width}
use Rattle.text.specs.Outcome.{Outcome, accepted, refused, onward}
use Rattle.text.specs.OutcomeInCode.{after}
use Rattle.text.specs.Text.{Lines, shown_own, read_lines}
use Rattle.text.specs.declared.LineKind.{LineKind}
use Rattle.text.specs.declared.LineKind.TheVariants.{Input, Latch, Lamp, Gate}
use Rattle.text.specs.KindsInCode.{coded}
use Rattle.reader.proofs.Bodies.{after_refused, after_none, returned}
use Rattle.listing.specs.declared.Progress.{Progress}
use Rattle.listing.specs.ListingInCode.{shown_by, worded, Stand, stand, behind, whole, reached, Listable, Listed, BodyListed}

-- ---- lines, and others behind them; the first refusal decides

module _ {ending text : List ℕ} {most : ℕ} {lines : List Kind → List Kind} {a b number : ℕ} {s t : Stand} (f : Listed ending text most lines a b number s t) where
  pub listed_stop : (others : List Kind → List Kind) (a' b' : ℕ) → (number ≡ 0 → ⊥) → Listed ending text most (λ ks. lines (others ks)) a' b' number s t
  listed_stop others a' b' z = record {
    says = λ ks. f.says _ ∙ after_refused _ _ z ∙ sym (after_refused _ _ z);
    within = f.within;
    owns_long = f.owns_long;
    words_long = f.words_long;
    line = λ y. absurd (z y);
    word = λ y. absurd (z y);
  }

  module _ (z : number ≡ 0) where
    pub listed_then : {others : List Kind → List Kind} {a' b' n : ℕ} {u : Stand} → Listed ending text most others a' b' n t u → Listed ending text most (λ ks. lines (others ks)) (a + a') (b + b') n s u
    listed_then g = record {
      says = λ ks. f.says _ ∙ after_none _ z ∙ g.says ks;
      within = g.within;
      owns_long = g.owns_long ∙ f.owns_long;
      words_long = g.words_long ∙ f.words_long;
      line = λ y. omega (arith, g.line y, f.line z);
      word = λ y. omega (arith, g.word y, f.word z);
    }

    pub room_behind : (a' b' : ℕ) → most < 8192 → s.line + (a + a') ≤ length s.owns → s.word + (b + b') ≤ length s.words → Listable text most a' b' t
    room_behind a' b' low o w = record {
      within = f.within;
      low = low;
      owns_room = omega (arith, f.line z, f.owns_long, o);
      words_room = omega (arith, f.word z, f.words_long, w);
    }

-- what `?` answers of lines that are refused
pub handed_on : {ending text : List ℕ} {most : ℕ} {lines : List Kind → List Kind} {a b : ℕ} {s : Stand} {owns words : List ℕ} (r : Result Progress Refusal) (e : Refusal) → IsErrAnd r (λ x. x ≡ e)
    → Listed ending text most lines a b (number_of e) s (stand 0 0 0 owns words) → Listed ending text most lines a b (answered r) s (reached r owns words)
handed_on r e made f = rw (returned r e made) f

-- ---- a circuit's lines

front_whole : (o : Outcome Lines) → onward (behind [] []) o ≡ o
unfolding onward
front_whole (accepted l) = refl
front_whole (refused n) = refl

module _ (c : Counts) where
  -- the own literals and the words of the lines up to each kind
  abbrev pub owns_to : LineKind → ℕ
  owns_to Input = c.inputs * shown_by (coded Input 0)
  owns_to Latch = c.inputs * shown_by (coded Input 0) + c.latches * shown_by (coded Latch 0)
  owns_to Lamp = c.inputs * shown_by (coded Input 0) + c.latches * shown_by (coded Latch 0) + literals c * shown_by (coded Lamp 0)
  owns_to Gate = c.inputs * shown_by (coded Input 0) + c.latches * shown_by (coded Latch 0) + literals c * shown_by (coded Lamp 0) + c.gates * shown_by (coded Gate 0)

  abbrev pub words_to : LineKind → ℕ
  words_to Input = c.inputs * worded (coded Input 0)
  words_to Latch = c.inputs * worded (coded Input 0) + c.latches * worded (coded Latch 0)
  words_to Lamp = c.inputs * worded (coded Input 0) + c.latches * worded (coded Latch 0) + literals c * worded (coded Lamp 0)
  words_to Gate = c.inputs * worded (coded Input 0) + c.latches * worded (coded Latch 0) + literals c * worded (coded Lamp 0) + c.gates * worded (coded Gate 0)

  pub owns_all : owns_to Gate ≡ variables c
  unfolding shown_by shown_own coded
  owns_all = omega arith

  pub words_all : words_to Gate ≡ table_length c
  unfolding worded width coded
  words_all = omega arith

  pub owns_room : Bounded c → (k : LineKind) (m : ℕ) → 4095 ≤ m → 0 + owns_to k ≤ m
  unfolding shown_by shown_own coded
  owns_room b Input m h = omega (arith, b)
  owns_room b Latch m h = omega (arith, b)
  owns_room b Lamp m h = omega (arith, b)
  owns_room b Gate m h = omega (arith, b)

  pub words_room : Bounded c → (k : LineKind) (m : ℕ) → 7870 ≤ m → 0 + words_to k ≤ m
  unfolding worded width coded
  words_room b Input m h = omega (arith, b)
  words_room b Latch m h = omega (arith, b)
  words_room b Lamp m h = omega (arith, b)
  words_room b Gate m h = omega (arith, b)

  -- the lines of a circuit in front of any others, by the code's kinds
  abbrev pub gates_then : List Kind → List Kind
  gates_then ks = several (coded Gate) (2 + 2 * c.inputs + 2 * c.latches) c.gates ks

  abbrev pub lamps_then : List Kind → List Kind
  lamps_then ks = several (coded Lamp) 0 (literals c) (gates_then ks)

  abbrev pub latches_then : List Kind → List Kind
  latches_then ks = several (coded Latch) (2 + 2 * c.inputs) c.latches (lamps_then ks)

  abbrev pub all_then : List Kind → List Kind
  all_then ks = several (coded Input) 2 c.inputs (latches_then ks)

  module _ {ending text : List ℕ} {at most : ℕ} {owns words owns' words' : List ℕ} (r : Result Progress Refusal) where
    pub body_listed : Listed ending text most all_then (variables c) (table_length c) (answered r) (stand at 0 0 owns words) (reached r owns' words')
        → BodyListed ending text at c most owns words r owns' words'
    unfolding whole coded kinds onward read_lines
    body_listed f = record {
      says = sym (front_whole _) ∙ f.says [] ∙ ap (λ o. after (answered r) o) (rw (append-nil, append-nil));
      within = f.within;
      owns_long = f.owns_long;
      words_long = f.words_long;
      line = λ z. omega (arith, f.line z);
      word = λ z. omega (arith, f.word z);
    }

    pub body_whole : Listed ending text most all_then (owns_to Gate) (words_to Gate) (answered r) (stand at 0 0 owns words) (reached r owns' words')
        → BodyListed ending text at c most owns words r owns' words'
    body_whole f = body_listed (rw (owns_all, words_all) at f)
