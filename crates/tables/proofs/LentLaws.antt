-- The tests of limits and of lent paths, each as a row: and so the tests of a question are answered by its table.
use Prim.Native.Nat.{ℕ, ◌<◌}
use mathlib.Core.Path.{◌≡◌, refl, subst}
use mathlib.Core.Logic.{◌⊎◌, inl, inr, ⊎_elim, ◌↔◌}
use mathlib.Core.List.{List, [], ◌∷◌}
use mathlib.Core.Option.{Option, none, some}
use mathlib.Core.Bool.{Bool, true, false, cond}
use native.Mathlib.Omega.{arith}
use lib.Dec.{leb}
use lib.ListN.{length}
use borrow.Author.Tests.{leb-true, leb-false}
use Rattle.willow.specs.declared.Limits.{Limits}
use Rattle.willow.specs.declared.Refusal.{Refusal}
use Rattle.willow.specs.declared.Refusal.TheVariants.{BadLimits, BadPath, OutTooSmall}
use Rattle.willow.specs.Answers.{or_else, unless, limits_refusal, capacity_refusal, path_missing, lent_refusal, path_refusal, paths_refusal, on_path, on_paths, written_length}
use Rattle.willow.specs.Limits.{Accepted, max_capacity, accepted_limits, accepted_capacity}
use Rattle.willow.specs.Lists.{In}
use Rattle.willow.specs.Numbers.{Bytes}
use Rattle.willow.specs.Packed.{lent}
use Rattle.willow.specs.Paths.{Path}
use Rattle.willow.specs.Refusals.{Outcome, refused, value}
use Rattle.willow.proofs.AnswerLaws.{accepted_words, limits_passed}
use Rattle.willow.proofs.Bools.{decided_false}
use Rattle.willow.proofs.LimitLaws.{limit_laws}
use Rattle.willow.proofs.PackedLaws.{packed_form}
use Rattle.tables.specs.LentTables.{LentTables}
use Rattle.tables.specs.TableRows.{LentPath, NoneLent, bad_limits, bad_sizes, bad_path, among, lent_rows}
use Rattle.tables.specs.Tables.{◌when◌, refusal_of}
use Rattle.tables.proofs.Rows.{First, gives, passes, no_row, tested_not, same_condition, either, behind, answered}

-- THE ROWS of the tests. 1
pub limits_row : (L : Limits) → First (bad_limits L ∷ []) (limits_refusal L)
unfolding limits_refusal
limits_row L = tested_not (accepted_limits L) BadLimits (limit_laws.limits_means L)

-- .. and of a capacity beside them
pub sizes_row : (L : Limits) (N : ℕ) → First (bad_sizes L N ∷ []) (or_else (limits_refusal L) (capacity_refusal N))
unfolding accepted_capacity
sizes_row L N = either (limits_row L) (λ e.
    same_condition (λ h. let l = decided_false (leb N max_capacity) (limit_laws.capacity_means N) in leb-false N max_capacity (l.1 h), λ h l. omega arith)
    (tested_not (accepted_capacity N) BadLimits (limit_laws.capacity_means N)))

-- 5, of a path under accepted limits
pub none_lent_row : (L : Limits) (x : LentPath) → Accepted L → Bytes x.0 → First (BadPath when NoneLent L x ∷ []) (lent_refusal L x.0 x.1)
unfolding lent_refusal
none_lent_row L x a h = go (lent L x.0 x.1) refl
  where
    go : (o : Option Path) → lent L x.0 x.1 ≡ o → First (BadPath when NoneLent L x ∷ []) (path_missing o)
    go none e = gives ((packed_form.lent_none L x.0 x.1 (accepted_words L a) h).0 e) refl
    go (some p) e = passes (λ n. n p ((packed_form.lent_some L x.0 x.1 (accepted_words L a) h p).0 e)) (no_row refl)

-- An element of a list that has P is the first or one of the others.
pub in_one : {A : Type 0} (P : A → Type 0) (x : A) → P x ↔ ((y : A) × In y (x ∷ []) × P y)
in_one {A} P x = (λ h. (x, inl refl, h), λ t. ⊎_elim (λ e. subst P e t.2) absurd t.1)

pub in_either : {A : Type 0} (P : A → Type 0) (x : A) (xs : List A)
    → (P x ⊎ ((y : A) × In y xs × P y)) ↔ ((y : A) × In y (x ∷ xs) × P y)
in_either {A} P x xs = (
  ⊎_elim (λ h. (x, inl refl, h)) (λ t. (t.0, inr t.1, t.2)),
  λ t. ⊎_elim (λ e. inl (subst P e t.2)) (λ i. inr (t.0, i, t.2)) t.1,
)

-- 5, of one, and of one or more
pub lent_row : (L : Limits) (x : LentPath) → Accepted L → Bytes x.0 → First (bad_path L (among (x ∷ [])) ∷ []) (lent_refusal L x.0 x.1)
lent_row L x a h = same_condition (in_one (NoneLent L) x) (none_lent_row L x a h)

pub lent_more : (L : Limits) (x : LentPath) (xs : List LentPath) (others : Option Refusal) → Accepted L → Bytes x.0
    → First (bad_path L (among xs) ∷ []) others → First (bad_path L (among (x ∷ xs)) ∷ []) (or_else (lent_refusal L x.0 x.1) others)
lent_more L x xs others a h f = same_condition (in_either (NoneLent L) x xs) (either (none_lent_row L x a h) (λ e. f))

-- 1, then 5
pub one_rows : (L : Limits) (b : List ℕ) (k : ℕ) → Bytes b → First (lent_rows L ((b, k) ∷ [])) (path_refusal L b k)
unfolding path_refusal
one_rows L b k h = behind (limits_row L) (λ e p. lent_row L (b, k) (limits_passed L e) h)

pub two_rows : (L : Limits) (a : List ℕ) (j : ℕ) (b : List ℕ) (k : ℕ) → Bytes a → Bytes b
    → First (lent_rows L ((a, j) ∷ (b, k) ∷ [])) (paths_refusal L a j b k)
unfolding paths_refusal
two_rows L a j b k g h =
    behind (limits_row L) (λ e p.
    let c = limits_passed L e in
    lent_more L (a, j) ((b, k) ∷ []) (lent_refusal L b k) c g (lent_row L (b, k) c h))

-- what is tested before a question decides, where the question itself refuses nothing
pub unless_refused : {A : Type 0} (a : Option Refusal) (o : Outcome A) → refusal_of o ≡ none → refusal_of (unless a o) ≡ a
unless_refused (some r) o e = refl
unless_refused none o e = e

pub lent_tables : LentTables
unfolding on_path on_paths path_refusal paths_refusal
lent_tables = record {
  one_tested = λ L b k h. answered refl (one_rows L b k h);
  one_refused = λ L b k f r e. rw e;
  two_tested = λ L a j b k g h. answered refl (two_rows L a j b k g h);
  two_refused = λ L a j b k f r e. rw e;
}

-- AN OUTCOME behind tests is tests one behind the other, for each f that finds the refusal in it.
pub unless_chain : {A : Type 0} (f : Outcome A → Option Refusal) → ((r : Refusal) → f (refused r) ≡ some r) → (a : Option Refusal) (o : Outcome A)
    → f (unless a o) ≡ or_else a (f o)
unless_chain f e (some r) o = e r
unless_chain f e none o = refl

-- 15, of the bytes that are answered
pub written_row : (v out : List ℕ) → First (OutTooSmall when (length out < length v) ∷ []) (refusal_of (written_length (value v) out))
written_row v out = go (leb (length v) (length out)) refl
  where
    go : (t : Bool) → leb (length v) (length out) ≡ t
        → First (OutTooSmall when (length out < length v) ∷ []) (refusal_of (cond t (value (length v)) (refused OutTooSmall)))
    go true e = let l = leb-true (length v) (length out) e in passes (λ h. omega arith) (no_row refl)
    go false e = gives (leb-false (length v) (length out) e) refl
