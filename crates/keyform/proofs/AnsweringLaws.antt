-- A line of the form is answered by the question that it words, under the limits that it words; the answers of construction and
-- of the least paths are those of their theorems. Every other line gets 3.
use Prim.Native.Nat.{ℕ, ◌+◌, ◌/◌, ◌%◌, ◌≤◌}
use mathlib.Core.Path.{◌≡◌, refl, ◌∙◌, ap}
use mathlib.Core.Logic.{◌⊎◌, inl, inr}
use mathlib.Core.List.{List, [], ◌∷◌}
use mathlib.Core.Option.{Option, none, some}
use mathlib.Core.Bool.{Bool, true, false, cond}
use native.Mathlib.Omega.{arith}
use lib.Dec.{leb, ltb}
use lib.ListN.{length}
use borrow.Author.Tests.{leb-true, le-leb}
use Rattle.willow.specs.declared.Limits.{Limits}
use Rattle.willow.specs.declared.Refusal.{Refusal}
use Rattle.willow.specs.declared.Refusal.TheVariants.{BadLimits, BadKind}
use Rattle.willow.specs.Answers.{limits_refusal}
use Rattle.willow.specs.Construction.{admitted, Admission}
use Rattle.willow.specs.LeastPaths.{Least, GreaterNotPrefixed, GreaterPath, next_greater, successor, greatest}
use Rattle.willow.specs.Limits.{Accepted, accepted_limits}
use Rattle.willow.specs.Lists.{All}
use Rattle.willow.specs.Numbers.{Bytes}
use Rattle.willow.specs.Paths.{Path, Valid}
use Rattle.willow.specs.Refusals.{Outcome, refused, absent, value, refusal_number}
use Rattle.willow.proofs.Bools.{decided, decided_false}
use Rattle.willow.proofs.ConstructionLaws.{admission, valid_admitted}
use Rattle.willow.proofs.LeastPathLaws.{least_paths}
use Rattle.willow.proofs.LimitLaws.{limit_laws}
use Rattle.construction.specs.Making.{under_limits}
use Rattle.least_writing.specs.Written.{path_or}
use Rattle.least.specs.Places as least
use Rattle.keyform.proofs.CaseLaws.{by_test}
use Rattle.keyform.proofs.PathTextLaws.{path_text_length}
use Rattle.keyform.proofs.WordingLaws.{line_read_lem, line_written, form_decided}
use Rattle.keyform.specs.Answering.{on_made, question_outcome, read_outcome, line_outcome, refused_text, outcome_text, answer_text, max_answer}
use Rattle.keyform.specs.KeyTheorem.{found_text, Names, LineAnswers, Answered}
use Rattle.keyform.specs.Reading.{Read, read_line}
use Rattle.keyform.specs.Texts.{digit_zero, decimal_digits, decimal_text, path_text}
use Rattle.keyform.specs.Wording.{max_line, Question, successor_of, next_greater_of, greatest_path, BytesAsked, Wording, limits_worded, OfForm}

-- LIMITS that are accepted let the outcome pass; others are refused.
module _ (L : Limits) (o : Outcome Path) where
  pub under_refused_limits : (Accepted L → ⊥) → under_limits L o ≡ refused BadLimits
  unfolding under_limits limits_refusal
  under_refused_limits n = rw ((decided_false (accepted_limits L) (limit_laws.limits_means L)).1 n)

  pub under_accepted_limits : Accepted L → under_limits L o ≡ o
  unfolding under_limits limits_refusal
  under_accepted_limits a = rw ((limit_laws.limits_means L).1 a)

-- A LINE OF THE FORM is within its bound.
if_within : {A : Type 0} (n m : ℕ) (x y : A) {z : A} → n ≤ m → x ≡ z → cond (leb n m) x y ≡ z
if_within n m x y h e = rw (le-leb n m h) e

pub form_outcome : (line : List ℕ) (w : Wording) → OfForm line w → line_outcome line ≡ under_limits (limits_worded w) (question_outcome (limits_worded w) w.asked)
unfolding line_outcome
form_outcome line w f = if_within (length line) _ _ _ (let h = f.within in omega arith) (ap read_outcome (line_read_lem line w f))

-- A refusal of the path that a question names is the question's.
named_refused : (L : Limits) (q : Question) (p : Path) (r : Refusal) → Names q p → admitted L p ≡ refused r → question_outcome L q ≡ refused r
named_refused L (successor_of x) p r n e = rw (n, e)
named_refused L (next_greater_of x) p r n e = rw (n, e)
named_refused L greatest_path p r n e = absurd n

named_bytes : (q : Question) (p : Path) → Names q p → BytesAsked q → All Bytes p
named_bytes (successor_of x) p n a = rw (← n) a
named_bytes (next_greater_of x) p n a = rw (← n) a
named_bytes greatest_path p n a = absurd n

found_text_lem : (o : Option Path) → outcome_text (path_or o) ≡ found_text o
found_text_lem none = refl
found_text_lem (some q) = refl

module _ (line : List ℕ) (w : Wording) (f : OfForm line w) where
  abbrev L : Limits
  L = limits_worded w

  refused_limits : (Accepted L → ⊥) → answer_text line ≡ refused_text BadLimits
  unfolding answer_text
  refused_limits n = ap outcome_text (form_outcome line w f ∙ under_refused_limits L (question_outcome L w.asked) n)

  question_answered : (o : Outcome Path) → Accepted L → question_outcome L w.asked ≡ o → answer_text line ≡ outcome_text o
  unfolding answer_text
  question_answered o a e = ap outcome_text (form_outcome line w f ∙ under_accepted_limits L (question_outcome L w.asked) a ∙ e)

  judged : (p : Path) → Names w.asked p → Admission L p
  judged p n = admission L p (named_bytes w.asked p n f.asked_bytes)

  path_refused : (p : Path) (r : Refusal) → Accepted L → Names w.asked p → admitted L p ≡ refused r → answer_text line ≡ refused_text r
  path_refused p r a n e = question_answered (refused r) a (named_refused L w.asked p r n e)

  successor_answered : (p : Path) → Accepted L → w.asked ≡ successor_of p → Valid L p
      → (o : Option Path) × Least (GreaterPath L p) o × (answer_text line ≡ found_text o)
  successor_answered p a e v = (
    successor L p,
    (least_paths L).least_successor p v,
    question_answered (path_or (successor L p)) a (ap (question_outcome L) e ∙ ap (λ o. on_made o (least.successor_of L)) (valid_admitted L p v)) ∙ found_text_lem (successor L p),
  )

  next_answered : (p : Path) → Accepted L → w.asked ≡ next_greater_of p → Valid L p
      → (o : Option Path) × Least (GreaterNotPrefixed L p) o × (answer_text line ≡ found_text o)
  next_answered p a e v = (
    next_greater L p,
    (least_paths L).next_greater_lem p v,
    question_answered (path_or (next_greater L p)) a (ap (question_outcome L) e ∙ ap (λ o. on_made o (least.next_greater_of L)) (valid_admitted L p v)) ∙ found_text_lem (next_greater L p),
  )

  line_answers : LineAnswers line w
  line_answers = record {
    bad_limits_lem = refused_limits;
    path_too_long_lem = λ a p n h. path_refused p _ a n ((judged p n).path_too_long_lem.1 h);
    too_many_components_lem = λ a p n h k. path_refused p _ a n ((judged p n).too_many_components_lem.1 (h, k));
    component_too_long_lem = λ a p n h k t. path_refused p _ a n ((judged p n).component_too_long_lem.1 (h, k, t));
    successor = λ a p e v. successor_answered p a e v;
    next_greater_lem = λ a p e v. next_answered p a e v;
    greatest = λ a e. (
      greatest L,
      (least_paths L).greatest_valid,
      (least_paths L).greatest_above,
      question_answered (value (greatest L)) a (ap (question_outcome L) e),
    );
  }

-- A LINE OF ANOTHER FORM is too long, or is not read.
pub other_form_lem : (line : List ℕ) → ((w : Wording) → OfForm line w → ⊥) → line_outcome line ≡ refused BadKind
unfolding line_outcome
other_form_lem line n = by_test (λ o. o ≡ refused BadKind) _
    (λ e. unread (read_line line) refl (leb-true _ _ e))
    (λ e. refl)
  where
    unread : (o : Option Read) → read_line line ≡ o → length line ≤ max_line → read_outcome o ≡ refused BadKind
    unread none e h = refl
    unread (some r) e h = let t = line_written line r e h in absurd (n t.0 t.1)

-- Both kinds of line.
pub answered : Answered
unfolding answer_text
answered = record {
  of_form = line_answers;
  of_another_form = λ line n. ap outcome_text (other_form_lem line n);
}

-- HOW LONG AN ANSWER IS.
decimal_length : (n : ℕ) → length (decimal_text n) ≤ 2
unfolding decimal_text
decimal_length n = one_or_two (ltb n decimal_digits) (digit_zero + n) (digit_zero + n / decimal_digits) (digit_zero + n % decimal_digits)
  where
    one_or_two : (t : Bool) (a b c : ℕ) → length (cond t (a ∷ []) (b ∷ c ∷ [])) ≤ 2
    one_or_two true a b c = omega arith
    one_or_two false a b c = omega arith

pub refused_length : (r : Refusal) → length (refused_text r) ≤ 10
refused_length r = let h = decimal_length (refusal_number r) in omega arith

pub valid_length : (L : Limits) (p : Path) → Accepted L → Valid L p → length (path_text p) ≤ max_answer
valid_length L [] a v = omega arith
valid_length L (c ∷ cs) a v =
    let h = path_text_length (c ∷ cs) (omega arith) in
    let count = v.count in
    let total = v.total in
    let few = a.mcc_within in
    let short = a.mpl_within in
    omega arith

-- A path that is found, if there is one, is valid.
found_length : (L : Limits) (P : Path → Type 0) (o : Option Path) → Accepted L → ((q : Path) → P q → Valid L q) → Least P o
    → length (outcome_text (path_or o)) ≤ max_answer
found_length L P none a v l = omega arith
found_length L P (some q) a v l = valid_length L q a (v q l.0)

made_length : (L : Limits) (p : Path) (f : Path → Outcome Path) (o : Outcome Path) → admitted L p ≡ o → All Bytes p
    → (Valid L p → length (outcome_text (f p)) ≤ max_answer) → length (outcome_text (on_made o f)) ≤ max_answer
made_length L p f (refused r) e b h = let k = refused_length r in omega arith
made_length L p f absent e b h = omega arith
made_length L p f (value q) e b h = let t = ((admission L p b).valid q).0 e in rw t.0 (h t.1)

question_length : (L : Limits) (q : Question) → Accepted L → BytesAsked q → length (outcome_text (question_outcome L q)) ≤ max_answer
question_length L (successor_of p) a b =
    made_length L p (least.successor_of L) (admitted L p) refl b
    (λ v. found_length L (GreaterPath L p) (successor L p) a (λ q g. g.0) ((least_paths L).least_successor p v))
question_length L (next_greater_of p) a b =
    made_length L p (least.next_greater_of L) (admitted L p) refl b
    (λ v. found_length L (GreaterNotPrefixed L p) (next_greater L p) a (λ q g. g.0) ((least_paths L).next_greater_lem p v))
question_length L greatest_path a b = valid_length L (greatest L) a (least_paths L).greatest_valid

form_length : (line : List ℕ) (w : Wording) → OfForm line w → length (outcome_text (line_outcome line)) ≤ max_answer
form_length line w f = rw (form_outcome line w f) (go (decided (accepted_limits (limits_worded w)) (limit_laws.limits_means (limits_worded w))))
  where
    go : Accepted (limits_worded w) ⊎ (Accepted (limits_worded w) → ⊥)
        → length (outcome_text (under_limits (limits_worded w) (question_outcome (limits_worded w) w.asked))) ≤ max_answer
    go (inl a) = rw (under_accepted_limits (limits_worded w) (question_outcome (limits_worded w) w.asked) a) (question_length (limits_worded w) w.asked a f.asked_bytes)
    go (inr n) = rw (under_refused_limits (limits_worded w) (question_outcome (limits_worded w) w.asked) n) (omega (arith, refused_length BadLimits))

pub answer_bound : (line : List ℕ) → length (answer_text line) ≤ max_answer
unfolding answer_text
answer_bound line = elim (form_decided line) [
  | inl f ↦ form_length line f.0 f.1
  | inr n ↦ rw (other_form_lem line n) (omega (arith, refused_length BadKind))
]
