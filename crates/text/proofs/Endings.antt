-- The first line's ending is that of all lines: which texts are accepted, and as what they are read (specification, 4.8). Assumes nothing.
use mathlib.Core.Path.{◌≡◌, refl, ◌∙◌}
use mathlib.Core.List.{List, [], ◌∷◌, ◌++◌, append_assoc}
use mathlib.Core.Logic.{◌↔◌}
use Prim.Native.Nat.{ℕ, zero, suc, ◌<◌}
use native.Mathlib.Omega.{arith}
use lib.ListN.{length}
use Rattle.text.specs.Part.{got, ill}
use Rattle.text.specs.Decimal.{is_digit}
use Rattle.text.specs.Line.{newline, office_newline, space, strip, prepend, split_line, ended_line}
use Rattle.text.specs.Outcome.{accepted}
use Rattle.text.specs.Text.{first_line, header, ending_of, Content, read_text}
use Rattle.text.proofs.Parts.{by_part}
use Rattle.text.proofs.Numerals.{no_digit, decimal_read}
use Rattle.text.proofs.Lines.{Short, Proper, newline_proper, number_more, number_other, strip_front}
use Rattle.text.proofs.Tables.{taken}
use Rattle.text.proofs.Heads.{heads_fit}
use Rattle.text.proofs.Grammar.{Describes, described_header, described_read, read_describes}

-- byte 10, or bytes 13 and 10
pub data LineEnding : List ℕ → Type 0 where
  by_newline : LineEnding newline
  by_office : LineEnding office_newline

ending_proper : {ending : List ℕ} → LineEnding ending → Proper ending
unfolding no_digit is_digit strip
ending_proper by_newline = newline_proper
ending_proper by_office = record { breaks = λ t. refl; apart = λ t. refl }

-- ---- a first line has one ending

-- what ends in 13 and 10 does not end in 10
line_apart : (most : ℕ) (ns t : List ℕ) → 0 < length ns → Short ns → split_line newline most (ended_line office_newline ns ++ t) ≡ ill
unfolding split_line ended_line prepend no_digit is_digit strip
line_apart zero ns t p s = refl
line_apart (suc most) [] t p s = absurd (omega arith)
line_apart (suc most) (n ∷ []) t p s = rw append_assoc (number_other newline most _ (decimal_read n (office_newline ++ t) s.0 refl) refl refl)
line_apart (suc most) (n ∷ m ∷ ns) t p s =
    simp append_assoc (number_more newline most _ (decimal_read n (space ++ (ended_line office_newline (m ∷ ns) ++ t)) s.0 refl) refl (strip_front space _)
    ∙ rw (line_apart most (m ∷ ns) t (omega arith) s.1))

pub ending_plain : (t : List ℕ) {ns r : List ℕ} → header newline t ≡ got ns r → ending_of t ≡ newline
unfolding ending_of
ending_plain t e = rw (ending_of, e)

pub ending_office : (t : List ℕ) → header newline t ≡ ill → ending_of t ≡ office_newline
unfolding ending_of
ending_office t e = rw (ending_of, e)

pub ending_is : (t : List ℕ) → LineEnding (ending_of t)
ending_is t = by_part (header newline t) (λ ns r e. rw (ending_plain t e) by_newline) (λ e. rw (ending_office t e) by_office)

pub ending_described : {ending t : List ℕ} {c : Content} → LineEnding ending → Describes ending t c → ending_of t ≡ ending
unfolding first_line strip
ending_described {t = t} by_newline d = ending_plain t (described_header newline_proper d)
ending_described {t = t} {c = c} by_office d =
    let f = heads_fit d.heads (taken c.counts c.words d.legal).bounded in
    ending_office t (rw d.text (line_apart 9 d.head d.body f.some f.short))

-- ---- accepted exactly when so written, with one ending throughout

pub described : {ending t : List ℕ} {c : Content} → LineEnding ending → Describes ending t c → read_text t ≡ accepted c
unfolding read_text
described e d = rw (ending_described e d) (described_read (ending_proper e) d)

pub describes : (t : List ℕ) {c : Content} → read_text t ≡ accepted c → Describes (ending_of t) t c
unfolding read_text
describes t a = read_describes (ending_of t) t a

-- A text of a circuit
pub record Written (t : List ℕ) (c : Content) : Type 0 where
  pub ending : List ℕ
  pub line_ending : LineEnding ending
  pub so : Describes ending t c

pub grammar : (t : List ℕ) (c : Content) → (read_text t ≡ accepted c) ↔ Written t c
grammar t c = (λ a. record { ending = ending_of t; line_ending = ending_is t; so = describes t a }, λ w. described w.line_ending w.so)
