-- Answers in a lent buffer: each kind of answer by itself; of a value, the one test decides between 15 and writing it.
use Prim.Native.Nat.{ℕ, ◌≤◌, ◌<◌}
use mathlib.Core.Path.{◌≡◌, refl, sym, ap}
use mathlib.Core.Logic.{◌↔◌}
use mathlib.Core.List.{List, ◌++◌}
use mathlib.Core.Option.{none, some}
use mathlib.Core.Bool.{Bool, true, false, cond}
use native.Mathlib.Omega.{arith}
use lib.Dec.{leb}
use lib.ListN.{length, drop}
use lib.Seq.{take-append_seam, drop-append_seam}
use borrow.Author.Tests.{leb-true, leb-false, le-leb}
use Rattle.willow.specs.declared.Refusal.{Refusal}
use Rattle.willow.specs.declared.Refusal.TheVariants.{OutTooSmall}
use Rattle.willow.specs.Answers.{written_length, written_buffer}
use Rattle.tables.specs.BufferAnswers.{InBuffer, BufferAnswers}
use Rattle.willow.specs.Refusals.{Outcome, refused, absent, value}
use Rattle.tables.specs.Tables.{refusal_of}

-- The three kinds of outcome are different.
abbrev kind : {A : Type 0} → Outcome A → ℕ
kind (refused r) = 0
kind absent = 1
kind (value x) = 2

pub apart : {A B : Type 0} (o p : Outcome A) → o ≡ p → (kind o ≡ kind p → ⊥) → B
apart o p e n = absurd (n (ap kind e))

refusal_same : {A : Type 0} (r s : Refusal) → ◌≡◌ {A = Outcome A} (refused r) (refused s) → r ≡ s
refusal_same r s e = cc

pub value_same : (v w : List ℕ) → ◌≡◌ {A = Outcome (List ℕ)} (value v) (value w) → v ≡ w
value_same v w e = cc

none≢some : (r : Refusal) → none ≡ some r → ⊥
none≢some r e = let z : ◌≡◌ {A = ℕ} 0 1 = cc in omega arith

-- A REFUSAL that is handed on, and NONE.
refused_left : (r : Refusal) (out : List ℕ) → (◌≡◌ {A = Outcome (List ℕ)} (refused r) (refused OutTooSmall) → ⊥)
    → InBuffer (refused r) out (some r) out
refused_left r out n = record {
  too_small = (λ e. absurd (n (ap refused (let s : r ≡ OutTooSmall = cc in s))), λ t. apart (refused r) (value t.0) t.1 (λ h. omega arith));
  refused_so = λ s e. ap some (refusal_same r s e);
  refused_kept = λ s e. refl;
  none_kept = λ e. apart (refused r) absent e (λ h. omega arith);
  written = λ v e l. apart (refused r) (value v) e (λ h. omega arith);
}

absent_left : (out : List ℕ) → InBuffer absent out none out
absent_left out = record {
  too_small = (λ e. absurd (none≢some OutTooSmall e), λ t. apart absent (value t.0) t.1 (λ h. omega arith));
  refused_so = λ s e. apart absent (refused s) e (λ h. omega arith);
  refused_kept = λ s e. refl;
  none_kept = λ e. (refl, refl);
  written = λ v e l. apart absent (value v) e (λ h. omega arith);
}

-- A VALUE.
module _ (v out : List ℕ) where
  abbrev Left : Bool → Type 0
  Left t = InBuffer (value v) out (refusal_of (cond t (value (length v)) (refused OutTooSmall))) (cond t (v ++ drop (length v) out) out)

  fits : length v ≤ length out → Left true
  fits l = record {
    too_small = (λ e. absurd (none≢some OutTooSmall e), λ t. let s = ap length (value_same v t.0 t.1) in let k = t.2 in absurd (omega arith));
    refused_so = λ s e. apart (value v) (refused s) e (λ h. omega arith);
    refused_kept = λ s e. absurd (none≢some s e);
    none_kept = λ e. apart (value v) absent e (λ h. omega arith);
    written = λ w e k. rw (← (value_same v w e)) (refl, take-append_seam v (drop (length v) out), drop-append_seam v (drop (length v) out));
  }

  short : length out < length v → Left false
  short l = record {
    too_small = (λ e. (v, refl, l), λ t. refl);
    refused_so = λ s e. apart (value v) (refused s) e (λ h. omega arith);
    refused_kept = λ s e. refl;
    none_kept = λ e. apart (value v) absent e (λ h. omega arith);
    written = λ w e k. let s = ap length (value_same v w e) in absurd (omega arith);
  }

  value_left : (t : Bool) → leb (length v) (length out) ≡ t → Left t
  value_left true e = fits (leb-true (length v) (length out) e)
  value_left false e = short (leb-false (length v) (length out) e)

  value_number : (n : ℕ) → (written_length (value v) out ≡ value n) ↔ ((w : List ℕ) × (value v ≡ value w) × (length w ≤ length out) × (n ≡ length w))
  value_number n = (
    λ e. to (leb (length v) (length out)) refl e,
    λ t.
        let s = ap length (value_same v t.0 t.1) in
        let k = t.2 in
        let l : length v ≤ length out = omega arith in
        let m = t.3 in
        let i : length v ≡ n = omega arith in
        rw (le-leb (length v) (length out) l) (ap value i),
  )
    where
      to : (t : Bool) → leb (length v) (length out) ≡ t → cond t (value (length v)) (refused OutTooSmall) ≡ value n
          → (w : List ℕ) × (value v ≡ value w) × (length w ≤ length out) × (n ≡ length w)
      to true e h = (v, refl, leb-true (length v) (length out) e, let s : length v ≡ n = cc in sym s)
      to false e h = apart (refused OutTooSmall) (value n) h (λ k. omega arith)

  value_given : written_length (value v) out ≡ absent → ⊥
  value_given e = to (leb (length v) (length out)) e
    where
      to : (t : Bool) → cond t (value (length v)) (refused OutTooSmall) ≡ absent → ⊥
      to true h = apart (value (length v)) absent h (λ k. omega arith)
      to false h = apart (refused OutTooSmall) absent h (λ k. omega arith)

left : (o : Outcome (List ℕ)) (out : List ℕ) → (o ≡ refused OutTooSmall → ⊥)
    → InBuffer o out (refusal_of (written_length o out)) (written_buffer o out)
left (refused r) out n = refused_left r out n
left absent out n = absent_left out
left (value v) out n = value_left v out (leb (length v) (length out)) refl

number : (o : Outcome (List ℕ)) (out : List ℕ) (n : ℕ)
    → (written_length o out ≡ value n) ↔ ((v : List ℕ) × (o ≡ value v) × (length v ≤ length out) × (n ≡ length v))
number (refused r) out n = (
  λ e. apart (refused r) (value n) e (λ h. omega arith),
  λ t. apart (refused r) (value t.0) t.1 (λ h. omega arith),
)
number absent out n = (
  λ e. apart absent (value n) e (λ h. omega arith),
  λ t. apart absent (value t.0) t.1 (λ h. omega arith),
)
number (value v) out n = value_number v out n

none_given : (o : Outcome (List ℕ)) (out : List ℕ) → (written_length o out ≡ absent) ↔ (o ≡ absent)
none_given (refused r) out = (
  λ e. apart (refused r) absent e (λ h. omega arith),
  λ e. apart (refused r) absent e (λ h. omega arith),
)
none_given absent out = (λ e. refl, λ e. refl)
none_given (value v) out = (λ e. absurd (value_given v out e), λ e. apart (value v) absent e (λ h. omega arith))

pub buffer_answers : BufferAnswers
buffer_answers = record { left = left; number = number; none_given = none_given }
