-- A line of another form is too long, or is not read; and a line of the form has one wording.
use Prim.Native.Nat.{ℕ, ◌≤◌}
use mathlib.Core.Path.{◌≡◌, refl}
use mathlib.Core.List.{List}
use mathlib.Core.Option.{Option, none, some}
use lib.ListN.{length}
use borrow.Author.Tests.{leb-true}
use Rattle.willow.specs.declared.Refusal.TheVariants.{BadKind}
use Rattle.willow.specs.Refusals.{refused}
use Rattle.keyform.proofs.CaseLaws.{by_test}
use Rattle.keyform.proofs.WordingLaws.{line_written, one_wording}
use Rattle.keyform.specs.Answering.{read_outcome, line_outcome}
use Rattle.keyform.specs.Reading.{Read, read_line}
use Rattle.keyform.specs.Wording.{max_line, Wording, OfForm}

pub other_form_lem : (line : List ℕ) → ((w : Wording) → OfForm line w → ⊥) → line_outcome line ≡ refused BadKind
unfolding line_outcome
other_form_lem line n = by_test (λ o. o ≡ refused BadKind) _
    (λ e. unread (read_line line) refl (leb-true _ _ e))
    (λ e. refl)
  where
    unread : (o : Option Read) → read_line line ≡ o → length line ≤ max_line → read_outcome o ≡ refused BadKind
    unread none e h = refl
    unread (some r) e h = let t = line_written line r e h in absurd (n t.0 t.1)

pub one_reading : (line : List ℕ) (v w : Wording) → OfForm line v → OfForm line w → v ≡ w
one_reading line v w f g = one_wording.one_reading line v w f g
