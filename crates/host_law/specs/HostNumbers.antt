-- What the numbers towards a host tell: that no two cases of an answer have the same, and what each of them says.
use Rattle.std.specs.Prelude.{ℕ, ◌≤◌, ◌≡◌, ◌↔◌, Bool, true, false}
use Rattle.std.proofs.Math.Option.{Option, none, some}
use Rattle.std.specs.declared.cmp.Ordering.{Ordering}
use Rattle.willow.specs.declared.Refusal.{Refusal}
use Rattle.willow.specs.Orders.{order_number}
use Rattle.willow.specs.Refusals.{refusal_number, Outcome, refused, absent, value}
use Rattle.willow.specs.Store.{Answer, outdated, repeated, taken}
use Rattle.willow.specs.Store as store
use Rattle.host_store.specs.StoreExports.{taken_number, outdated_number, repeat_number}
use Rattle.convention.specs.Exports.{answered_status, none_status, given, yes_number, refusal_status}

-- The number of an unrefused answer; 0 stands where it was refused, and is not read.
abbrev pub offer_number : Answer → ℕ
offer_number (store.refused r) = 0
offer_number outdated = outdated_number
offer_number repeated = repeat_number
offer_number (taken k) = taken_number

-- A STATUS TELLS what an outcome is: 0 exactly if there is an answer, 255 exactly if there is none, and a refusal's number exactly if the
-- call was refused so.
pub record StatusTells {A : Type 0} (status : Outcome A → ℕ) : Type 0 where
  pub answered : (o : Outcome A) → (status o ≡ answered_status) ↔ ((x : A) × (o ≡ value x))
  pub nothing : (o : Outcome A) → (status o ≡ none_status) ↔ (o ≡ absent)
  pub refused_so : (o : Outcome A) (r : Refusal) → (status o ≡ refusal_number r) ↔ (o ≡ refused r)

-- There are no premises.
pub record HostNumbers : Type 1 where
  -- the status of an answer of one number, and its value: "0 unless there is an answer"
  pub status : {A : Type 0} (number : A → ℕ) → StatusTells (λ o. (given number o).status)
  pub value_given : {A : Type 0} (number : A → ℕ) (x : A) → (given number (value x)).value ≡ number x
  pub zero_else : {A : Type 0} (number : A → ℕ) (o : Outcome A) → ((given number o).status ≡ answered_status → ⊥) → (given number o).value ≡ 0
  -- the status of a test
  pub test_passed : (t : Option Refusal) → (refusal_status t ≡ answered_status) ↔ (t ≡ none)
  pub test_refused : (t : Option Refusal) (r : Refusal) → (refusal_status t ≡ refusal_number r) ↔ (t ≡ some r)
  -- "the number of a refusal (1 to 63)", each its own
  pub refusal_bounds : (r : Refusal) → (1 ≤ refusal_number r) × (refusal_number r ≤ 63)
  pub refusals_apart : (r s : Refusal) → refusal_number r ≡ refusal_number s → r ≡ s
  -- no is 0 and yes is 1; orders have each its own number
  pub yes_told : (b : Bool) → (yes_number b ≡ 1) ↔ (b ≡ true)
  pub no_told : (b : Bool) → (yes_number b ≡ 0) ↔ (b ≡ false)
  pub orders_apart : (o p : Ordering) → order_number o ≡ order_number p → o ≡ p
  -- what an unrefused offer was answered
  pub outdated_told : (a : Answer) → (offer_number a ≡ outdated_number) ↔ (a ≡ outdated)
  pub repeat_told : (a : Answer) → (offer_number a ≡ repeat_number) ↔ (a ≡ repeated)
  pub taken_told : (k : ℕ) → offer_number (taken k) ≡ taken_number
