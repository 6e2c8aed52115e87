-- The table of a key line. A line of the form is worded in one way, so what a row asks of a wording is asked of that one; the limits come
-- first, and then the path that it names is judged as `from_slices` judges it, while what is asked of a path refuses nothing. What is
-- printed for a refusal is printed for nothing else, since every path that is answered is made of bytes.
use Prim.Native.Nat.{ℕ, ◌<◌}
use mathlib.Core.Path.{◌≡◌, refl, sym, ap, subst}
use mathlib.Core.Logic.{inl, inr, ◌↔◌}
use mathlib.Core.List.{List, [], ◌∷◌}
use mathlib.Core.Option.{Option, none, some}
use lib.Dec.{ltb}
use lib.ListN.{length}
use Rattle.willow.specs.declared.Limits.{Limits}
use Rattle.willow.specs.declared.Refusal.{Refusal}
use Rattle.willow.specs.declared.Refusal.TheVariants.{BadKind, PathTooLong, TooManyComponents, ComponentTooLong}
use Rattle.willow.specs.Answers.{unless, limits_refusal}
use Rattle.willow.specs.Construction.{admitted, SomeTooLong}
use Rattle.willow.specs.LeastPaths.{Least, GreaterNotPrefixed, GreaterPath, next_greater, successor, greatest}
use Rattle.willow.specs.Lists.{All, any}
use Rattle.willow.specs.Numbers.{Bytes}
use Rattle.willow.specs.Paths.{Path, path_length, Valid, ValidComponent}
use Rattle.willow.specs.Refusals.{Outcome, refused, absent, value}
use Rattle.tables.specs.TableRows.{LimitsOver}
use Rattle.tables.specs.Tables.{Row, ◌when◌, refusal_of}
use Rattle.willow.proofs.ConstructionLaws.{admission, some_too_long}
use Rattle.willow.proofs.LeastPathLaws.{least_paths}
use Rattle.tables.proofs.Rows.{First, gives, passes, no_row, row, below, same, same_condition, behind, answered}
use Rattle.construction.specs.Making.{under_limits}
use Rattle.least_writing.specs.Written.{path_or}
use Rattle.least.specs.Places as least
use Rattle.keyform.proofs.AnsweringLaws.{form_outcome}
use Rattle.keyform.proofs.ShownLaws.{shown}
use Rattle.keyform.proofs.WordingLaws.{form_decided}
use Rattle.keyform.specs.Answering.{on_made, question_outcome, line_outcome, refused_text, outcome_text, answer_text}
use Rattle.keyform.specs.KeyTheorem.{Names}
use Rattle.refusal_law.specs.LineTable.{Worded, line_rows, LineTable}
use Rattle.keyform.specs.Wording.{Question, successor_of, next_greater_of, greatest_path, BytesAsked, Wording, limits_worded, OfForm}
use Rattle.tables.proofs.LentLaws.{limits_row, unless_chain}
use Rattle.refusal_law.proofs.FormLaws.{other_form_lem, one_reading}

-- 7, 8, 9, OF A PATH.
abbrev path_rows : Limits → Path → List Row
path_rows L p =
    PathTooLong when (L.mpl < path_length p)
    ∷ TooManyComponents when (L.mcc < length p)
    ∷ ComponentTooLong when SomeTooLong L p
    ∷ []

path_rows_lem : (L : Limits) (p : Path) → First (path_rows L p) (refusal_of (admitted L p))
unfolding admitted
path_rows_lem L p =
    row refusal_of (ltb L.mpl (path_length p)) PathTooLong (refused PathTooLong) _ refl (below L.mpl (path_length p)) (λ short.
    row refusal_of (ltb L.mcc (length p)) TooManyComponents (refused TooManyComponents) _ refl (below L.mcc (length p)) (λ few.
    row refusal_of (any (λ c. ltb L.mcl (length c)) p) ComponentTooLong (refused ComponentTooLong) (value p) refl (some_too_long L p) (λ narrow.
    no_row refl)))

-- OF THE PATH THAT A QUESTION NAMES, if it names one.
abbrev named_rows : Limits → Question → List Row
named_rows L q =
    PathTooLong when ((p : Path) × Names q p × (L.mpl < path_length p))
    ∷ TooManyComponents when ((p : Path) × Names q p × (L.mcc < length p))
    ∷ ComponentTooLong when ((p : Path) × Names q p × SomeTooLong L p)
    ∷ []

named : (P : Path → Type 0) (x : Path) → P x ↔ ((p : Path) × (x ≡ p) × P p)
named P x = (λ h. (x, refl, h), λ t. subst P (sym t.1) t.2)

found_fine : (o : Option Path) → refusal_of (path_or o) ≡ none
found_fine none = refl
found_fine (some q) = refl

made_refusal : (o : Outcome Path) (f : Path → Outcome Path) → ((p : Path) → refusal_of (f p) ≡ none) → refusal_of (on_made o f) ≡ refusal_of o
made_refusal (refused r) f h = refl
made_refusal absent f h = refl
made_refusal (value p) f h = h p

asked_rows : (L : Limits) (x : Path) (f : Path → Outcome Path) → ((p : Path) → refusal_of (f p) ≡ none)
    → First (named_rows L (successor_of x)) (refusal_of (on_made (admitted L x) f))
asked_rows L x f h = rw (made_refusal (admitted L x) f h) (
    same (refl, (named (λ p. L.mpl < path_length p) x, (refl, (named (λ p. L.mcc < length p) x, (refl, (named (SomeTooLong L) x, tt)))))) (path_rows_lem L x))

named_rows_lem : (L : Limits) (q : Question) → First (named_rows L q) (refusal_of (question_outcome L q))
named_rows_lem L (successor_of x) = asked_rows L x (least.successor_of L) (λ p. found_fine (successor L p))
named_rows_lem L (next_greater_of x) = asked_rows L x (least.next_greater_of L) (λ p. found_fine (next_greater L p))
named_rows_lem L greatest_path = passes (λ t. t.1) (passes (λ t. t.1) (passes (λ t. t.1) (no_row refl)))

-- A LINE OF THE FORM.
module _ (line : List ℕ) (w : Wording) (f : OfForm line w) where
  worded : (P : Wording → Type 0) → P w ↔ Worded line P
  worded P = (λ h. (w, f, h), λ t. subst P (one_reading line t.0 w t.1 f) t.2)

  form_rows : First (line_rows line) (refusal_of (line_outcome line))
  unfolding under_limits
  form_rows =
      rw (form_outcome line w f, unless_chain refusal_of (λ r. refl) (limits_refusal (limits_worded w)) (question_outcome (limits_worded w) w.asked))
      (behind (same_condition (worded (λ v. LimitsOver (limits_worded v))) (limits_row (limits_worded w))) (λ e p.
      passes (λ n. n (w, f, tt))
      (same (refl, (worded _, (refl, (worded _, (refl, (worded _, tt)))))) (named_rows_lem (limits_worded w) w.asked))))

line_rows_lem : (line : List ℕ) → First (line_rows line) (refusal_of (line_outcome line))
line_rows_lem line = elim (form_decided line) [
  | inl f ↦ form_rows line f.0 f.1
  | inr n ↦ rw (other_form_lem line n) (passes (λ t. n t.0 t.1) (gives (λ t. n t.0 t.1) refl))
]

-- WHAT IS PRINTED tells a refusal from all else, of an outcome whose path, if it has one, is made of bytes.
abbrev Telling : Outcome Path → Type 0
Telling o = (r : Refusal) → outcome_text o ≡ refused_text r → o ≡ refused r

refused_tells : (q : Refusal) → Telling (refused q)
refused_tells q r e = ap refused (shown.refusals_differ q r e)

none_tells : Telling absent
none_tells r e = absurd (shown.none_not_refused r e)

valid_bytes : (L : Limits) (p : Path) → All (ValidComponent L) p → All Bytes p
valid_bytes L [] h = tt
valid_bytes L (c ∷ cs) h = (h.0.1, valid_bytes L cs h.1)

valid_tells : (L : Limits) (p : Path) → Valid L p → Telling (value p)
valid_tells L p v r e = absurd (shown.path_not_refused p r (valid_bytes L p v.each) e)

found_tells : (L : Limits) (P : Path → Type 0) (o : Option Path) → ((q : Path) → P q → Valid L q) → Least P o → Telling (path_or o)
found_tells L P none v l = none_tells
found_tells L P (some q) v l = valid_tells L q (v q l.0)

made_tells : (L : Limits) (p : Path) (f : Path → Outcome Path) (o : Outcome Path) → admitted L p ≡ o → All Bytes p
    → (Valid L p → Telling (f p)) → Telling (on_made o f)
made_tells L p f (refused r) e b h = refused_tells r
made_tells L p f absent e b h = none_tells
made_tells L p f (value q) e b h = let t = ((admission L p b).valid q).0 e in rw t.0 (h t.1)

question_tells : (L : Limits) (q : Question) → BytesAsked q → Telling (question_outcome L q)
question_tells L (successor_of p) b = made_tells L p (least.successor_of L) (admitted L p) refl b
    (λ v. found_tells L (GreaterPath L p) (successor L p) (λ q g. g.0) ((least_paths L).least_successor p v))
question_tells L (next_greater_of p) b = made_tells L p (least.next_greater_of L) (admitted L p) refl b
    (λ v. found_tells L (GreaterNotPrefixed L p) (next_greater L p) (λ q g. g.0) ((least_paths L).next_greater_lem p v))
question_tells L greatest_path b = valid_tells L (greatest L) (least_paths L).greatest_valid

unless_tells : (t : Option Refusal) (o : Outcome Path) → Telling o → Telling (unless t o)
unless_tells (some r) o h = refused_tells r
unless_tells none o h = h

line_tells : (line : List ℕ) → Telling (line_outcome line)
unfolding under_limits
line_tells line = elim (form_decided line) [
  | inl f ↦
      let L = limits_worded f.0 in
      rw (form_outcome line f.0 f.1) (unless_tells (limits_refusal L) (question_outcome L f.0.asked) (question_tells L f.0.asked f.1.asked_bytes))
  | inr n ↦ rw (other_form_lem line n) (refused_tells BadKind)
]

pub line_table : LineTable
unfolding answer_text
line_table = record {
  refusals = λ line. answered refl (line_rows_lem line);
  printed_so = λ line r. (line_tells line r, λ e. ap outcome_text e);
}
