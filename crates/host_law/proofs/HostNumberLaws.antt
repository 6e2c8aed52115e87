-- Numbers towards a host. A refusal's number is its place in the order of the tests, from 1 on: so it is neither 0 nor 255, and no two
-- have the same; all else is by cases.
use Prim.Native.Nat.{ℕ, ◌≤◌}
use mathlib.Core.Path.{◌≡◌, refl, sym, ◌∙◌, ap}
use mathlib.Core.Logic.{◌↔◌}
use mathlib.Core.Bool.{Bool, true, false}
use mathlib.Core.Option.{Option, none, some}
use native.Mathlib.Omega.{arith}
use Rattle.std.specs.declared.cmp.Ordering.{Ordering}
use Rattle.std.specs.declared.cmp.Ordering.TheVariants.{Less, Equal, Greater}
use Rattle.willow.specs.declared.Refusal.{Refusal}
use Rattle.willow.specs.declared.Refusal.TheVariants.{BadLimits, BadSheet, BadKind, WrongNamespace, BadPath, BadLengths, PathTooLong, TooManyComponents, ComponentTooLong, NoSuchPrefix, Overfilled, Unfinished, TotalFull, NoRoom, OutTooSmall}
use Rattle.willow.specs.Orders.{order_number}
use Rattle.willow.specs.Refusals.{refusal_number, Outcome, refused, absent, value}
use Rattle.willow.specs.Store.{Answer, outdated, repeated, taken}
use Rattle.willow.specs.Store as store
use Rattle.tables.proofs.Rows.{placed, one_place}
use Rattle.convention.specs.Exports.{answered_status, none_status, given, yes_number, refusal_status}
use Rattle.host_law.specs.HostNumbers.{offer_number, StatusTells, HostNumbers}
use Rattle.host_store.specs.StoreExports.{outdated_number, repeat_number}

-- THE NUMBERS OF REFUSALS.
refusal_bounds : (r : Refusal) → (1 ≤ refusal_number r) × (refusal_number r ≤ 63)
refusal_bounds BadLimits = (omega arith, omega arith)
refusal_bounds BadSheet = (omega arith, omega arith)
refusal_bounds BadKind = (omega arith, omega arith)
refusal_bounds WrongNamespace = (omega arith, omega arith)
refusal_bounds BadPath = (omega arith, omega arith)
refusal_bounds BadLengths = (omega arith, omega arith)
refusal_bounds PathTooLong = (omega arith, omega arith)
refusal_bounds TooManyComponents = (omega arith, omega arith)
refusal_bounds ComponentTooLong = (omega arith, omega arith)
refusal_bounds NoSuchPrefix = (omega arith, omega arith)
refusal_bounds Overfilled = (omega arith, omega arith)
refusal_bounds Unfinished = (omega arith, omega arith)
refusal_bounds TotalFull = (omega arith, omega arith)
refusal_bounds NoRoom = (omega arith, omega arith)
refusal_bounds OutTooSmall = (omega arith, omega arith)

refusals_apart : (r s : Refusal) → refusal_number r ≡ refusal_number s → r ≡ s
refusals_apart r s e = one_place r s (let p = (placed r).1 in let q = (placed s).1 in omega arith)

-- A STATUS that is made so tells what it is of.
abbrev kind : {A : Type 0} → Outcome A → ℕ
kind (refused r) = 0
kind absent = 1
kind (value x) = 2

abbrev tells : {A : Type 0} → Outcome A → ℕ
tells (refused r) = refusal_number r
tells absent = none_status
tells (value x) = answered_status

module _ {A : Type 0} where
  answered : (o : Outcome A) → (tells o ≡ answered_status) ↔ ((x : A) × (o ≡ value x))
  answered (refused r) = (
    λ e. let b = (refusal_bounds r).0 in absurd (omega arith),
    λ t. let k : ◌≡◌ {A = ℕ} 0 2 = ap kind t.1 in absurd (omega arith),
  )
  answered absent = (λ e. absurd (omega arith), λ t. let k : ◌≡◌ {A = ℕ} 1 2 = ap kind t.1 in absurd (omega arith))
  answered (value x) = (λ e. (x, refl), λ t. refl)

  nothing : (o : Outcome A) → (tells o ≡ none_status) ↔ (o ≡ absent)
  nothing (refused r) = (
    λ e. let b = (refusal_bounds r).1 in absurd (omega arith),
    λ h. let k : ◌≡◌ {A = ℕ} 0 1 = ap kind h in absurd (omega arith),
  )
  nothing absent = (λ e. refl, λ h. refl)
  nothing (value x) = (λ e. absurd (omega arith), λ h. let k : ◌≡◌ {A = ℕ} 2 1 = ap kind h in absurd (omega arith))

  refused_so : (o : Outcome A) (r : Refusal) → (tells o ≡ refusal_number r) ↔ (o ≡ refused r)
  refused_so (refused s) r = (λ e. ap refused (refusals_apart s r e), λ h. let e : s ≡ r = cc in ap refusal_number e)
  refused_so absent r = (
    λ e. let b = (refusal_bounds r).1 in absurd (omega arith),
    λ h. let k : ◌≡◌ {A = ℕ} 1 0 = ap kind h in absurd (omega arith),
  )
  refused_so (value x) r = (
    λ e. let b = (refusal_bounds r).0 in absurd (omega arith),
    λ h. let k : ◌≡◌ {A = ℕ} 2 0 = ap kind h in absurd (omega arith),
  )

  -- whatever answer it is the first number of
  pub status_tells : (status : Outcome A → ℕ) → ((r : Refusal) → status (refused r) ≡ refusal_number r) → status absent ≡ none_status
      → ((x : A) → status (value x) ≡ answered_status) → StatusTells status
  status_tells status e f g = record {
    answered = λ o. (λ h. (answered o).0 (sym (same o) ∙ h), λ h. same o ∙ (answered o).1 h);
    nothing = λ o. (λ h. (nothing o).0 (sym (same o) ∙ h), λ h. same o ∙ (nothing o).1 h);
    refused_so = λ o r. (λ h. (refused_so o r).0 (sym (same o) ∙ h), λ h. same o ∙ (refused_so o r).1 h);
  }
    where
      same : (o : Outcome A) → status o ≡ tells o
      same (refused r) = e r
      same absent = f
      same (value x) = g x

zero_else : {A : Type 0} (number : A → ℕ) (o : Outcome A) → ((given number o).status ≡ answered_status → ⊥) → (given number o).value ≡ 0
zero_else number (refused r) n = refl
zero_else number absent n = refl
zero_else number (value x) n = absurd (n refl)

-- A TEST, YES AND NO, AN ORDER.
test_passed : (t : Option Refusal) → (refusal_status t ≡ answered_status) ↔ (t ≡ none)
test_passed none = (λ e. refl, λ h. refl)
test_passed (some r) = (
  λ e. let b = (refusal_bounds r).0 in absurd (omega arith),
  λ h. let z : ◌≡◌ {A = ℕ} 0 1 = cc in absurd (omega arith),
)

test_refused : (t : Option Refusal) (r : Refusal) → (refusal_status t ≡ refusal_number r) ↔ (t ≡ some r)
test_refused none r = (
  λ e. let b = (refusal_bounds r).0 in absurd (omega arith),
  λ h. let z : ◌≡◌ {A = ℕ} 0 1 = cc in absurd (omega arith),
)
test_refused (some s) r = (λ e. ap some (refusals_apart s r e), λ h. let e : s ≡ r = cc in ap refusal_number e)

abbrev bit : Bool → ℕ
bit true = 1
bit false = 0

yes_told : (b : Bool) → (yes_number b ≡ 1) ↔ (b ≡ true)
yes_told true = (λ e. refl, λ h. refl)
yes_told false = (λ e. absurd (omega arith), λ h. let z : ◌≡◌ {A = ℕ} 0 1 = ap bit h in absurd (omega arith))

no_told : (b : Bool) → (yes_number b ≡ 0) ↔ (b ≡ false)
no_told true = (λ e. absurd (omega arith), λ h. let z : ◌≡◌ {A = ℕ} 1 0 = ap bit h in absurd (omega arith))
no_told false = (λ e. refl, λ h. refl)

orders_apart : (o p : Ordering) → order_number o ≡ order_number p → o ≡ p
orders_apart Less Less e = refl
orders_apart Less Equal e = absurd (omega arith)
orders_apart Less Greater e = absurd (omega arith)
orders_apart Equal Less e = absurd (omega arith)
orders_apart Equal Equal e = refl
orders_apart Equal Greater e = absurd (omega arith)
orders_apart Greater Less e = absurd (omega arith)
orders_apart Greater Equal e = absurd (omega arith)
orders_apart Greater Greater e = refl

-- AN OFFER.
abbrev place : Answer → ℕ
place (store.refused r) = 0
place outdated = 1
place repeated = 2
place (taken k) = 3

outdated_told : (a : Answer) → (offer_number a ≡ outdated_number) ↔ (a ≡ outdated)
outdated_told (store.refused r) = (λ e. absurd (omega arith), λ h. let z : ◌≡◌ {A = ℕ} 0 1 = ap place h in absurd (omega arith))
outdated_told outdated = (λ e. refl, λ h. refl)
outdated_told repeated = (λ e. absurd (omega arith), λ h. let z : ◌≡◌ {A = ℕ} 2 1 = ap place h in absurd (omega arith))
outdated_told (taken k) = (λ e. absurd (omega arith), λ h. let z : ◌≡◌ {A = ℕ} 3 1 = ap place h in absurd (omega arith))

repeat_told : (a : Answer) → (offer_number a ≡ repeat_number) ↔ (a ≡ repeated)
repeat_told (store.refused r) = (λ e. absurd (omega arith), λ h. let z : ◌≡◌ {A = ℕ} 0 2 = ap place h in absurd (omega arith))
repeat_told outdated = (λ e. absurd (omega arith), λ h. let z : ◌≡◌ {A = ℕ} 1 2 = ap place h in absurd (omega arith))
repeat_told repeated = (λ e. refl, λ h. refl)
repeat_told (taken k) = (λ e. absurd (omega arith), λ h. let z : ◌≡◌ {A = ℕ} 3 2 = ap place h in absurd (omega arith))

pub host_numbers : HostNumbers
host_numbers = record {
  status = λ number. status_tells (λ o. (given number o).status) (λ r. refl) refl (λ x. refl);
  value_given = λ number x. refl;
  zero_else = zero_else;
  test_passed = test_passed;
  test_refused = test_refused;
  refusal_bounds = refusal_bounds;
  refusals_apart = refusals_apart;
  yes_told = yes_told;
  no_told = no_told;
  orders_apart = orders_apart;
  outdated_told = outdated_told;
  repeat_told = repeat_told;
  taken_told = λ k. refl;
}
