-- Questions on lent paths: what the tests that passed say of the buffers, and what the questions mean.
use Prim.Native.Nat.{ℕ, ◌≤◌}
use mathlib.Core.Path.{◌≡◌, refl, ◌∙◌, ap}
use mathlib.Core.List.{List}
use mathlib.Core.Option.{Option, none, some}
use mathlib.Core.Bool.{Bool, true, false, ◌&&◌, cond}
use native.Mathlib.Omega.{arith}
use lib.Dec.{leb}
use lib.ListN.{take}
use borrow.Author.Tests.{leb-true}
use Rattle.willow.specs.declared.Limits.{Limits}
use Rattle.willow.specs.declared.Refusal.{Refusal}
use Rattle.willow.specs.declared.Refusal.TheVariants.{BadLimits, BadPath}
use Rattle.willow.specs.Answers.{or_else, limits_refusal, path_missing, lent_refusal, path_in, path_refusal, paths_refusal, on_path, on_paths, written_length, written_buffer, packed_outcome, PathQuestions}
use Rattle.willow.specs.Limits.{Accepted, accepted_limits, Words}
use Rattle.willow.specs.Numbers.{Bytes}
use Rattle.willow.specs.Packed.{packed_count, unpack, well_formed, widest, Packed, lent, Lent}
use Rattle.willow.specs.Paths.{Path}
use Rattle.willow.specs.Refusals.{Outcome}
use Rattle.willow.proofs.Bools.{both_true, decided_false}
use Rattle.willow.proofs.LimitLaws.{limit_laws}
use Rattle.willow.proofs.PackedLaws.{packed_form}
use Rattle.willow.proofs.PackedPlaces.{well_formed_wider}

-- Accepted limits are numbers of 64 bits.
pub accepted_words : (L : Limits) → Accepted L → Words L
accepted_words L a = record {
  mcl_word = let h = a.mcl_within in omega arith;
  mcc_word = let h = a.mcc_within in omega arith;
  mpl_word = let h = a.mpl_within in omega arith;
}

-- WHAT PASSED TESTS SAY. Of limits:
pub limits_passed : (L : Limits) → limits_refusal L ≡ none → Accepted L
unfolding limits_refusal
limits_passed L e = (limit_laws.limits_means L).0 (go (accepted_limits L) e)
  where
    go : (b : Bool) → cond b none (some BadLimits) ≡ none → b ≡ true
    go true e = refl
    go false e = let z : ◌≡◌ {A = ℕ} 0 1 = cc in absurd (omega arith)

-- Of a buffer with a count: it is well formed under the limits and so packed, and it has as many components.
pub record PathPassed (L : Limits) (b : List ℕ) (k : ℕ) : Type 0 where
  pub formed : well_formed L b ≡ true
  pub within : k ≤ packed_count b
  pub path : lent L b k ≡ some (path_in b k)

pub lent_passed : (L : Limits) (b : List ℕ) (k : ℕ) → lent_refusal L b k ≡ none → PathPassed L b k
unfolding lent_refusal lent path_in
lent_passed L b k e = go (well_formed L b && leb k (packed_count b)) refl e
  where
    go : (t : Bool) → well_formed L b && leb k (packed_count b) ≡ t → path_missing (cond t (some (take k (unpack b))) none) ≡ none → PathPassed L b k
    go true f e =
        let h = both_true (well_formed L b) (leb k (packed_count b)) f in
        record { formed = h.0; within = leb-true k (packed_count b) h.1; path = rw f }
    go false f e = let z : ◌≡◌ {A = ℕ} 0 1 = cc in absurd (omega arith)

-- The tests one behind the other.
pub or_else_none : (a b : Option Refusal) → or_else a b ≡ none → (a ≡ none) × (b ≡ none)
or_else_none (some r) b e = let z : ◌≡◌ {A = ℕ} 0 1 = cc in absurd (omega arith)
or_else_none none b e = (refl, e)

pub path_passed : (L : Limits) (b : List ℕ) (k : ℕ) → path_refusal L b k ≡ none → Accepted L × PathPassed L b k
unfolding path_refusal
path_passed L b k e = let h = or_else_none (limits_refusal L) (lent_refusal L b k) e in (limits_passed L h.0, lent_passed L b k h.1)

pub paths_passed : (L : Limits) (a : List ℕ) (j : ℕ) (b : List ℕ) (k : ℕ) → paths_refusal L a j b k ≡ none → Accepted L × PathPassed L a j × PathPassed L b k
unfolding paths_refusal
paths_passed L a j b k e =
    let h = or_else_none (limits_refusal L) (or_else (lent_refusal L a j) (lent_refusal L b k)) e in
    let g = or_else_none (lent_refusal L a j) (lent_refusal L b k) h.1 in
    (limits_passed L h.0, lent_passed L a j g.0, lent_passed L b k g.1)

-- What is well formed under limits of 64 bits is packed.
pub passed_packed : (L : Limits) (b : List ℕ) → Words L → well_formed L b ≡ true → Packed b
passed_packed L b w h = well_formed_wider L widest b w.mcl_word w.mcc_word w.mpl_word h

-- WHAT THE QUESTIONS MEAN.
pub limits_refused : (L : Limits) → (Accepted L → ⊥) → limits_refusal L ≡ some BadLimits
unfolding limits_refusal
limits_refused L n = rw ((decided_false (accepted_limits L) (limit_laws.limits_means L)).1 n)

pub limits_fine : (L : Limits) → Accepted L → limits_refusal L ≡ none
unfolding limits_refusal
limits_fine L a = rw ((limit_laws.limits_means L).1 a)

lent-refused : (L : Limits) (b : List ℕ) (k : ℕ) → Bytes b → Accepted L → ((p : Path) → Lent L b k p → ⊥) → lent_refusal L b k ≡ some BadPath
unfolding lent_refusal
lent-refused L b k h a n = rw ((packed_form.lent_none L b k (accepted_words L a) h).1 n)

lent_fine : (L : Limits) (b : List ℕ) (k : ℕ) → Bytes b → Accepted L → (p : Path) → Lent L b k p → (lent_refusal L b k ≡ none) × (path_in b k ≡ p)
unfolding lent_refusal
lent_fine L b k h a p l =
    let e : lent L b k ≡ some p = (packed_form.lent_some L b k (accepted_words L a) h p).1 l in
    let f = fine e in
    let g = (lent_passed L b k f).path in
    (f, cc)
  where
    fine : lent L b k ≡ some p → lent_refusal L b k ≡ none
    fine e = rw e

-- the second path is judged only where the first is one, and either way 5 is given
second-refused : (L : Limits) (a : List ℕ) (j : ℕ) → or_else (lent_refusal L a j) (some BadPath) ≡ some BadPath
unfolding lent_refusal
second-refused L a j = go (lent L a j)
  where
    go : (m : Option Path) → or_else (path_missing m) (some BadPath) ≡ some BadPath
    go none = refl
    go (some p) = refl

pub path_questions : PathQuestions
unfolding on_path on_paths path_refusal paths_refusal
path_questions = record {
  one_limits = λ L b k f n. rw (limits_refused L n);
  one_path = λ L b k f h a n. rw (limits_fine L a, lent-refused L b k h a n);
  one_asked = λ L b k f h a p l. let r = lent_fine L b k h a p l in rw (limits_fine L a, r.0) (ap f r.1);
  two_limits = λ L a j b k f n. rw (limits_refused L n);
  two_first = λ L a j b k f h c n. rw (limits_fine L c, lent-refused L a j h c n);
  two_second = λ L a j b k f h g c n. rw (limits_fine L c, lent-refused L b k g c n, second-refused L a j);
  two_asked = λ L a j b k f h g c p q l m.
      let r = lent_fine L a j h c p l in
      let s = lent_fine L b k g c q m in
      rw (limits_fine L c, r.0, s.0, r.1, s.1);
}

-- WHAT IS WRITTEN for an outcome is written for an equal one; and for a path that is made, its packed form.
pub written_as : (o p : Outcome (List ℕ)) → o ≡ p → (r : Outcome ℕ) (before behind : List ℕ)
    → (r ≡ written_length o before) × (behind ≡ written_buffer o before) → (r ≡ written_length p before) × (behind ≡ written_buffer p before)
written_as o p e r before behind w = (w.0 ∙ ap (λ x. written_length x before) e, w.1 ∙ ap (λ x. written_buffer x before) e)

pub made_as : (o p : Outcome Path) → o ≡ p → (r : Outcome ℕ) (before behind : List ℕ)
    → (r ≡ written_length (packed_outcome o) before) × (behind ≡ written_buffer (packed_outcome o) before)
    → (r ≡ written_length (packed_outcome p) before) × (behind ≡ written_buffer (packed_outcome p) before)
made_as o p e = written_as (packed_outcome o) (packed_outcome p) (ap packed_outcome e)
