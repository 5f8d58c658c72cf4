-- Lines of one kind in turn, and the four kinds one behind the other. Assumes nothing.
use mathlib.Core.Path.{◌≡◌, refl, sym, ap, ◌∙◌}
use mathlib.Core.List.{List, ◌∷◌}
use Prim.Native.Nat.{ℕ, suc, ◌+◌, ◌*◌, ◌≤◌, ◌<◌}
use native.Mathlib.Nat.{add-zero, zero-mul, suc-mul, mul-le-mul_right}
use native.Mathlib.Numerals.{add-one}
use native.Mathlib.Omega.{arith}
use lib.ListN.{length}
use Rattle.circuit.specs.Table.{Kind, several}
use Rattle.text.specs.OutcomeInCode.{after}
use Rattle.text.proofs.Tables.{lines_from, lines_first, lines_next, lines_last}
use Rattle.reader.proofs.Bodies.{after_refused, after_none}
use Rattle.listing.specs.ListingInCode.{Stand, whole, Listable, Listed}

-- i times a and one more a are at most n times a
times_room : (i n a : ℕ) → i < n → i * a + a ≤ n * a
times_room i n a h = let m = mul-le-mul_right {m = suc i} {n = n} a h in omega (arith, m, suc-mul i a)

-- ---- of n lines of one kind i are listed

module _ (ending text : List ℕ) (most : ℕ) (kind : ℕ → Kind) (a b n : ℕ) (s : Stand) where
  pub record Turns (t : Stand) (i : ℕ) : Type 0 where
    pub few : i ≤ n
    pub within : t.at ≤ length text
    pub same : (own : ℕ) (ks : List Kind) → whole ending text most (several kind own n ks) s ≡ whole ending text most (lines_from kind own n ks i) t
    pub owns_long : length t.owns ≡ length s.owns
    pub words_long : length t.words ≡ length s.words
    pub line : t.line ≡ s.line + i * a
    pub word : t.word ≡ s.word + i * b

  pub turns_first : s.at ≤ length text → Turns s 0
  turns_first h = record {
    few = omega arith;
    within = h;
    same = λ own ks. ap (λ l. whole ending text most l s) (lines_first kind own n ks);
    owns_long = refl;
    words_long = refl;
    line = rw (zero-mul, add-zero);
    word = rw (zero-mul, add-zero);
  }

  module _ {t : Stand} {i : ℕ} (g : Turns t i) where
    module _ (h : i < n) where
      pub turns_room : Listable text most (n * a) (n * b) s → Listable text most a b t
      turns_room r = record {
        within = g.within;
        low = r.low;
        owns_room = omega (arith, g.line, g.owns_long, r.owns_room, times_room i n a h);
        words_room = omega (arith, g.word, g.words_long, r.words_room, times_room i n b h);
      }

      module _ {number : ℕ} {u : Stand} (f : (own : ℕ) → Listed ending text most (λ ks. kind own ∷ ks) a b number t u) where
        says : (own : ℕ) (ks : List Kind) → whole ending text most (several kind own n ks) s ≡ after number (whole ending text most (lines_from kind own n ks (i + 1)) u)
        says own ks = g.same own ks ∙ rw (lines_next kind own n ks i h) ((f (own + 2 * i)).says _)

        pub turns_stop : (number ≡ 0 → ⊥) → (own : ℕ) → Listed ending text most (several kind own n) (n * a) (n * b) number s u
        turns_stop z own = record {
          says = λ ks. says own ks ∙ after_refused _ _ z ∙ sym (after_refused _ _ z);
          within = (f 0).within;
          owns_long = (f 0).owns_long ∙ g.owns_long;
          words_long = (f 0).words_long ∙ g.words_long;
          line = λ y. absurd (z y);
          word = λ y. absurd (z y);
        }

        pub turns_next : number ≡ 0 → Turns u (i + 1)
        turns_next z = record {
          few = omega arith;
          within = (f 0).within;
          same = λ own ks. says own ks ∙ after_none _ z;
          owns_long = (f 0).owns_long ∙ g.owns_long;
          words_long = (f 0).words_long ∙ g.words_long;
          line = (f 0).line z ∙ rw (g.line, add-one, suc-mul) (omega arith);
          word = (f 0).word z ∙ rw (g.word, add-one, suc-mul) (omega arith);
        }

    pub turns_last : n ≤ i → (own : ℕ) → Listed ending text most (several kind own n) (n * a) (n * b) 0 s t
    turns_last h own =
        let e : i ≡ n = omega (arith, g.few) in
        record {
          says = λ ks. g.same own ks ∙ ap (λ l. whole ending text most l t) (lines_last kind own n ks i h);
          within = g.within;
          owns_long = g.owns_long;
          words_long = g.words_long;
          line = λ y. rw (← e) g.line;
          word = λ y. rw (← e) g.word;
        }
