-- Which refusals the definitions give on bytes: the answer of a state is never 2, so 2 is given exactly where the test says so; and a
-- fresh store's 1 is that of its two tests.
use Prim.Native.Nat.{ℕ, ◌+◌, ◌≤◌}
use mathlib.Core.Path.{◌≡◌, refl, ap}
use mathlib.Core.List.{List}
use mathlib.Core.Option.{Option, none, some}
use mathlib.Core.Bool.{Bool, true, false, cond, false≢true}
use native.Mathlib.Omega.{arith}
use lib.Dec.{ltb, eqb}
use lib.ListN.{length}
use Rattle.willow.specs.declared.Refusal.TheVariants.{BadLimits, BadSheet, WrongNamespace}
use Rattle.willow.specs.Answers.{or_else, unless, limits_refusal}
use Rattle.willow.specs.Entries.{Entry, prunes, same_entry}
use Rattle.willow.specs.Limits.{Accepted, max_capacity, max_word, accepted_limits, accepted_capacity}
use Rattle.willow.specs.Lists.{any}
use Rattle.willow.specs.Refusals as outcome
use Rattle.willow.specs.Store.{Sizes, State, fresh, Call, offer, Answer, refused, outdated, repeated, taken, offered, pruned_by, left_by, answer_by, answer_entry, answer_offered, answer}
use Rattle.willow.proofs.LimitLaws.{limit_laws}
use Rattle.store_form.specs.Stores.{IsStore, store_layout}
use Rattle.store_form.specs.StoreTest.{is_store}
use Rattle.store_form.proofs.ReadingLaws.{store_reading}
use Rattle.store_law.specs.Demand3Bytes.{RefusedAsNoStore, FreshRefused}
use Rattle.store_law.specs.Offers.{fresh_store, answer_in}

none_some : {A : Type 0} (x : A) → none ≡ some x → ⊥
none_some {A} x e = false≢true (ap there e)
  where
    there : Option A → Bool
    there none = false
    there (some y) = true

-- An answer's refusal number, 0 where it is none.
abbrev number : Answer → ℕ
number (refused r) = outcome.refusal_number r
number outdated = 0
number repeated = 0
number (taken k) = 0

never_by : (full out same crowded : Bool) (k : ℕ) → answer_by full out same crowded k ≡ refused BadSheet → ⊥
never_by true o s c k e = let h : ◌≡◌ {A = ℕ} 13 2 = ap number e in absurd (omega arith)
never_by false true s c k e = let h : ◌≡◌ {A = ℕ} 0 2 = ap number e in absurd (omega arith)
never_by false false true c k e = let h : ◌≡◌ {A = ℕ} 0 2 = ap number e in absurd (omega arith)
never_by false false false true k e = let h : ◌≡◌ {A = ℕ} 14 2 = ap number e in absurd (omega arith)
never_by false false false false k e = let h : ◌≡◌ {A = ℕ} 0 2 = ap number e in absurd (omega arith)

never_offered : (z : Sizes) (t : State) (m : Option Entry) → answer_offered z t m ≡ refused BadSheet → ⊥
unfolding answer_entry
never_offered z t none e = let h : ◌≡◌ {A = ℕ} 5 2 = ap number e in absurd (omega arith)
never_offered z t (some x) e =
    never_by
    (ltb max_word (t.held + t.let_go + x.payload_length))
    (any (λ h. prunes h x) t.entries)
    (any (λ h. same_entry h x) t.entries)
    (eqb (length (left_by x t.entries)) z.capacity)
    (length (pruned_by x t.entries))
    e

never : (z : Sizes) (t : State) (c : Call) → answer z t c ≡ refused BadSheet → ⊥
unfolding answer
never z t (offer o) e = go (eqb o.namespace z.namespace) e
  where
    go : (b : Bool) → cond b (answer_offered z t (offered z o)) (refused WrongNamespace) ≡ refused BadSheet → ⊥
    go true h = never_offered z t (offered z o) h
    go false h = let k : ◌≡◌ {A = ℕ} 4 2 = ap number h in absurd (omega arith)

pub refused_as_no_store : RefusedAsNoStore
unfolding answer_in
refused_as_no_store s c b = (there, back)
  where
    missing : (t : Bool) (a : Answer) → (a ≡ refused BadSheet → ⊥) → cond t a (refused BadSheet) ≡ refused BadSheet
        → cond t none (some BadSheet) ≡ some BadSheet
    missing true a other e = absurd (other e)
    missing false a other e = refl

    told : (t : Bool) (a : Answer) → cond t none (some BadSheet) ≡ some BadSheet → cond t a (refused BadSheet) ≡ refused BadSheet
    told true a e = absurd (none_some BadSheet e)
    told false a e = refl

    there : answer_in s c ≡ refused BadSheet → (z : Sizes) (t : State) → IsStore s z t → ⊥
    there e = (store_reading.refused_exactly s b).0 (missing (is_store s) _ (never _ _ c) e)

    back : ((z : Sizes) (t : State) → IsStore s z t → ⊥) → answer_in s c ≡ refused BadSheet
    back h = told (is_store s) _ ((store_reading.refused_exactly s b).1 h)

not_refused : {A : Type 0} (v : A) → outcome.value v ≡ outcome.refused BadLimits → ⊥
not_refused {A} v e = false≢true (ap is_one e)
  where
    is_one : outcome.Outcome A → Bool
    is_one (outcome.refused r) = true
    is_one outcome.absent = false
    is_one (outcome.value x) = false

-- A FRESH STORE: refused by one of its tests, or made.
pub fresh_refused : FreshRefused
unfolding fresh_store limits_refusal
fresh_refused z = (there, back)
  where
    unmade : (a b : Bool) (v : List ℕ) → unless (or_else (cond a none (some BadLimits)) (cond b none (some BadLimits))) (outcome.value v) ≡ outcome.refused BadLimits
        → a ≡ true → b ≡ true → ⊥
    unmade true true v e p q = not_refused v e
    unmade true false v e p q = false≢true q
    unmade false b v e p q = false≢true p

    made : (a b : Bool) (v : List ℕ) → ((a ≡ true) × (b ≡ true) → ⊥)
        → unless (or_else (cond a none (some BadLimits)) (cond b none (some BadLimits))) (outcome.value v) ≡ outcome.refused BadLimits
    made true true v other = absurd (other (refl, refl))
    made true false v other = refl
    made false b v other = refl

    there : fresh_store z ≡ outcome.refused BadLimits → Accepted z.limits × (z.capacity ≤ max_capacity) → ⊥
    there e h = unmade (accepted_limits z.limits) (accepted_capacity z.capacity) (store_layout z fresh) e
        ((limit_laws.limits_means z.limits).1 h.0) ((limit_laws.capacity_means z.capacity).1 h.1)

    back : (Accepted z.limits × (z.capacity ≤ max_capacity) → ⊥) → fresh_store z ≡ outcome.refused BadLimits
    back other = made (accepted_limits z.limits) (accepted_capacity z.capacity) (store_layout z fresh)
        (λ h. other ((limit_laws.limits_means z.limits).0 h.0, (limit_laws.capacity_means z.capacity).0 h.1))
