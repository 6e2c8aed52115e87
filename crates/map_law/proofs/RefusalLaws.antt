-- Which refusals the definitions give on bytes. The tests behind the sheet's never give 2, so 2 is given exactly where that one says so;
-- a fresh map's 1 is that of its two tests; and what is left is chosen by the refusal that is answered.
use Prim.Native.Nat.{ℕ, ◌≤◌}
use mathlib.Core.Path.{◌≡◌, refl, ap}
use mathlib.Core.List.{List, []}
use mathlib.Core.Option.{Option, none, some}
use mathlib.Core.Bool.{Bool, true, false, cond, false≢true}
use native.Mathlib.Omega.{arith}
use lib.Dec.{eqb}
use Rattle.willow.specs.declared.Refusal.{Refusal}
use Rattle.willow.specs.declared.Refusal.TheVariants.{BadLimits, BadSheet, NoRoom}
use Rattle.willow.specs.Answers.{or_else, unless, limits_refusal, path_missing, lent_refusal}
use Rattle.willow.specs.Limits.{Accepted, max_capacity, accepted_limits, accepted_capacity}
use Rattle.willow.specs.Packed.{lent}
use Rattle.willow.specs.Paths.{Path}
use Rattle.willow.specs.Refusals.{Outcome, refused, absent, value, refusal_number}
use Rattle.willow.proofs.LimitLaws.{limit_laws}
use Rattle.area_kinds.specs.AreaKinds.{Parts}
use Rattle.map_form.specs.Maps.{MapSizes, Rule, map_layout, IsMap, sizes_in, count_in}
use Rattle.map_form.specs.MapTest.{is_map}
use Rattle.map_form.proofs.MapProofs.{map_reading}
use Rattle.map_law.specs.Insertions.{fresh_map, parts_in, kinds_missing, area_refusal, insert_refusal, insert_answer, leaves_for, insert_leaves}
use Rattle.map_law.specs.MapTheorem.{FreshMapRefused, RefusedAsNoMap, InsertionRefusedUnchanged}

-- An answer's refusal number, 0 where it is none.
abbrev number : {A : Type 0} → Outcome A → ℕ
number (refused r) = refusal_number r
number absent = 0
number (value v) = 0

-- 2: the answer by its tests, that of the sheet first.
abbrev answer_by : Bool → Option Parts → Option Path → Bool → ℕ → Outcome ℕ
answer_by sheet a p full n =
    unless (or_else (or_else (cond sheet none (some BadSheet)) (or_else (kinds_missing a) (path_missing p))) (cond full (some NoRoom) none)) (value n)

never : (a : Option Parts) (p : Option Path) (full : Bool) (n : ℕ) → answer_by true a p full n ≡ refused BadSheet → ⊥
never none p full n e = let h : ◌≡◌ {A = ℕ} 3 2 = ap number e in absurd (omega arith)
never (some a) none full n e = let h : ◌≡◌ {A = ℕ} 5 2 = ap number e in absurd (omega arith)
never (some a) (some p) true n e = let h : ◌≡◌ {A = ℕ} 14 2 = ap number e in absurd (omega arith)
never (some a) (some p) false n e = let h : ◌≡◌ {A = ℕ} 0 2 = ap number e in absurd (omega arith)

none_some : {A : Type 0} (x : A) → none ≡ some x → ⊥
none_some {A} x e = false≢true (ap there e)
  where
    there : Option A → Bool
    there none = false
    there (some y) = true

pub refused_as_no_map : RefusedAsNoMap
unfolding insert_answer insert_refusal area_refusal lent_refusal
refused_as_no_map s x b = (there, back)
  where
    missing : (t : Bool) (a : Option Parts) (p : Option Path) (full : Bool) (n : ℕ) → answer_by t a p full n ≡ refused BadSheet
        → cond t none (some BadSheet) ≡ some BadSheet
    missing true a p full n e = absurd (never a p full n e)
    missing false a p full n e = refl

    told : (t : Bool) (a : Option Parts) (p : Option Path) (full : Bool) (n : ℕ) → cond t none (some BadSheet) ≡ some BadSheet
        → answer_by t a p full n ≡ refused BadSheet
    told true a p full n e = absurd (none_some BadSheet e)
    told false a p full n e = refl

    there : insert_answer s x ≡ refused BadSheet → (z : MapSizes) (rules : List Rule) → IsMap s z rules → ⊥
    there e = (map_reading.refused_exactly s b).0
        (missing (is_map s) (parts_in x.area) (lent (sizes_in s).limits x.area.buffer x.area.count) (eqb (count_in s) (sizes_in s).capacity) (count_in s) e)

    back : ((z : MapSizes) (rules : List Rule) → IsMap s z rules → ⊥) → insert_answer s x ≡ refused BadSheet
    back h =
        told (is_map s) (parts_in x.area) (lent (sizes_in s).limits x.area.buffer x.area.count) (eqb (count_in s) (sizes_in s).capacity) (count_in s)
        ((map_reading.refused_exactly s b).1 h)

-- A REFUSED INSERTION.
pub insertion_refused_unchanged : InsertionRefusedUnchanged
unfolding insert_answer insert_leaves
insertion_refused_unchanged s x r = go (insert_refusal s x) (parts_in x.area)
  where
    go : (o : Option Refusal) (a : Option Parts) → unless o (value (count_in s)) ≡ refused r → leaves_for s x o a ≡ s
    go (some q) a e = refl
    go none a e = absurd (false≢true (ap is_one e))
      where
        is_one : Outcome ℕ → Bool
        is_one (refused q) = true
        is_one absent = false
        is_one (value n) = false

-- A FRESH MAP: refused by one of its tests, or made.
pub fresh_map_refused : FreshMapRefused
unfolding fresh_map limits_refusal
fresh_map_refused L N = (there, back)
  where
    unmade : (a b : Bool) (v : List ℕ) → unless (or_else (cond a none (some BadLimits)) (cond b none (some BadLimits))) (value v) ≡ refused BadLimits
        → a ≡ true → b ≡ true → ⊥
    unmade true true v e p q = let h : ◌≡◌ {A = ℕ} 0 1 = ap number e in absurd (omega arith)
    unmade true false v e p q = false≢true q
    unmade false b v e p q = false≢true p

    made : (a b : Bool) (v : List ℕ) → ((a ≡ true) × (b ≡ true) → ⊥)
        → unless (or_else (cond a none (some BadLimits)) (cond b none (some BadLimits))) (value v) ≡ refused BadLimits
    made true true v other = absurd (other (refl, refl))
    made true false v other = refl
    made false b v other = refl

    there : fresh_map L N ≡ refused BadLimits → Accepted L × (N ≤ max_capacity) → ⊥
    there e h = unmade (accepted_limits L) (accepted_capacity N) (map_layout (record { limits = L; capacity = N }) []) e
        ((limit_laws.limits_means L).1 h.0) ((limit_laws.capacity_means N).1 h.1)

    back : (Accepted L × (N ≤ max_capacity) → ⊥) → fresh_map L N ≡ refused BadLimits
    back other = made (accepted_limits L) (accepted_capacity N) (map_layout (record { limits = L; capacity = N }) [])
        (λ h. other ((limit_laws.limits_means L).0 h.0, (limit_laws.capacity_means N).0 h.1))
