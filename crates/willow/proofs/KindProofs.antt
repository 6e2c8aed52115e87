-- A kind says something exactly if it is 0 or 1: by the two tests, one after the other.
use Prim.Native.Nat.{ℕ}
use mathlib.Core.Path.{◌≡◌, refl}
use mathlib.Core.Logic.{inl, inr}
use mathlib.Core.Option.{none, some}
use mathlib.Core.Bool.{Bool, true, false, cond}
use native.Mathlib.Omega.{arith}
use lib.Dec.{eqb}
use borrow.Author.Tests.{eqb-true}
use Rattle.willow.specs.Kinds.{of_kind, Says, GoodKind, KindLaws}

module _ {A : Type 0} (kind : ℕ) (x y : A) where
  kind_says : (v : A) → of_kind kind x y ≡ some v → Says kind x y v
  kind_says v e = go (eqb kind 0) refl e
    where
      next : (t : Bool) → eqb kind 1 ≡ t → cond t (some y) none ≡ some v → Says kind x y v
      next true f g = inr (eqb-true kind 1 f, cc)
      next false f g = absurd (let z : ◌≡◌ {A = ℕ} 0 1 = cc in omega arith)

      go : (t : Bool) → eqb kind 0 ≡ t → cond t (some x) (cond (eqb kind 1) (some y) none) ≡ some v → Says kind x y v
      go true f g = inl (eqb-true kind 0 f, cc)
      go false f g = next (eqb kind 1) refl g

  said : (v : A) → Says kind x y v → of_kind kind x y ≡ some v
  said v (inl (e, f)) = rw (e, f) refl
  said v (inr (e, f)) = rw (e, f) refl

  good_says : GoodKind kind → of_kind kind x y ≡ none → ⊥
  good_says (inl e) f = let z : ◌≡◌ {A = ℕ} 0 1 = (let g = rw e at f in cc) in omega arith
  good_says (inr e) f = let z : ◌≡◌ {A = ℕ} 0 1 = (let g = rw e at f in cc) in omega arith

  good_or_none : (GoodKind kind → ⊥) → of_kind kind x y ≡ none
  good_or_none n = go (eqb kind 0) (eqb kind 1) refl refl
    where
      go : (s t : Bool) → eqb kind 0 ≡ s → eqb kind 1 ≡ t → cond s (some x) (cond t (some y) none) ≡ none
      go true t f g = absurd (n (inl (eqb-true kind 0 f)))
      go false true f g = absurd (n (inr (eqb-true kind 1 g)))
      go false false f g = refl

-- A kind that says something is a good one.
pub says_good : {A : Type 0} (kind : ℕ) (x y v : A) → Says kind x y v → GoodKind kind
says_good kind x y v (inl e) = inl e.0
says_good kind x y v (inr e) = inr e.0

pub kind_laws : KindLaws
kind_laws = record {
  says = λ kind x y v. (kind_says kind x y v, said kind x y v);
  bad = λ kind x y. ((λ e g. good_says kind x y g e), good_or_none kind x y);
}
