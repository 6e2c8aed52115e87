-- Ends beside values: a closed end is compared by its own value, so each answer means what the comparison decides; an open end is
-- above all.
use Prim.Native.Nat.{ℕ, ◌<◌}
use mathlib.Core.Path.{◌≡◌, refl, sym, ap}
use mathlib.Core.Logic.{◌↔◌}
use mathlib.Core.Bool.{true, false≢true}
use native.Mathlib.Omega.{arith}
use Rattle.std.specs.declared.cmp.Ordering.{Ordering}
use Rattle.std.specs.declared.cmp.Ordering.TheVariants.{Less, Equal, Greater}
use Rattle.willow.specs.Orders.{is_equal, is_greater, Total, Decides, compare_numbers}
use Rattle.willow.specs.Paths.{PathBelow, compare_paths}
use Rattle.willow.specs.Ranges.{End, closed, endless, BeforeEnd, end_above}
use Rattle.willow.proofs.OrderLaws.{less≢equal, less≢greater, equal≢greater, numbers_total, numbers_decided}
use Rattle.willow.proofs.PathLaws.{path_order}
use Rattle.range_law.specs.EndLaws.{PastEnd, EndLaws, Ends}
use Rattle.range_end.specs.EndValues.{compare_end_value, compare_value_end, is_end_value}

-- A closed end is no open one, and is known by its value.
abbrev is_closed : {A : Type 0} → End A → ℕ
is_closed (closed e) = 1
is_closed endless = 0

open≢closed : {A : Type 0} (x : A) → endless ≡ closed x → ⊥
open≢closed {A} x e = let n : ◌≡◌ {A = ℕ} 0 1 = ap is_closed e in omega arith

closed_same : {A : Type 0} (d x : A) → closed d ≡ closed x → d ≡ x
closed_same d x e = cc

is_equal_lem : (o : Ordering) → (is_equal o ≡ true) ↔ (o ≡ Equal)
is_equal_lem Less = (λ h. absurd (false≢true h), λ h. absurd (less≢equal h))
is_equal_lem Equal = (λ h. refl, λ h. refl)
is_equal_lem Greater = (λ h. absurd (false≢true h), λ h. absurd (equal≢greater (sym h)))

greater_means : {P : Type 0} (o : Ordering) → (o ≡ Greater) ↔ P → (is_greater o ≡ true) ↔ P
greater_means Less m = (λ h. absurd (false≢true h), λ h. absurd (less≢greater (m.1 h)))
greater_means Equal m = (λ h. absurd (false≢true h), λ h. absurd (equal≢greater (m.1 h)))
greater_means Greater m = (λ h. m.0 refl, λ h. refl)

module _ {A : Type 0} (compare : A → A → Ordering) (Below : A → A → Type 0) (t : Total compare) (d : Decides compare Below) where
  value_before : (x : A) (e : End A) → (compare_value_end compare x e ≡ Less) ↔ BeforeEnd Below x e
  value_before x (closed e) = d.less x e
  value_before x endless = (λ h. tt, λ h. refl)

  value_there : (x : A) (e : End A) → (compare_value_end compare x e ≡ Equal) ↔ (e ≡ closed x)
  value_there x (closed e) = (λ h. ap closed (sym ((d.equal x e).0 h)), λ h. (d.equal x e).1 (sym (closed_same e x h)))
  value_there x endless = (λ h. absurd (less≢equal h), λ h. absurd (open≢closed x h))

  value_past : (x : A) (e : End A) → (compare_value_end compare x e ≡ Greater) ↔ PastEnd Below x e
  value_past x (closed e) = d.greater x e
  value_past x endless = (λ h. less≢greater h, λ h. absurd h)

  end_above_lem : (e : End A) (x : A) → (compare_end_value compare e x ≡ Greater) ↔ BeforeEnd Below x e
  end_above_lem (closed e) x = d.greater e x
  end_above_lem endless x = (λ h. tt, λ h. refl)

  end_there : (e : End A) (x : A) → (compare_end_value compare e x ≡ Equal) ↔ (e ≡ closed x)
  end_there (closed e) x = (λ h. ap closed ((d.equal e x).0 h), λ h. (d.equal e x).1 (closed_same e x h))
  end_there endless x = (λ h. absurd (equal≢greater (sym h)), λ h. absurd (open≢closed x h))

  end_below : (e : End A) (x : A) → (compare_end_value compare e x ≡ Less) ↔ PastEnd Below x e
  end_below (closed e) x = d.less e x
  end_below endless x = (λ h. less≢greater (sym h), λ h. absurd h)

  above_means : (e : End A) (x : A) → (end_above compare e x ≡ true) ↔ BeforeEnd Below x e
  above_means (closed e) x = greater_means (compare e x) (d.greater e x)
  above_means endless x = (λ h. tt, λ h. refl)

  equals_means : (e : End A) (x : A) → (is_end_value compare e x ≡ true) ↔ (e ≡ closed x)
  equals_means (closed e) x = (
    λ h. ap closed ((d.equal e x).0 ((is_equal_lem (compare e x)).0 h)),
    λ h. (is_equal_lem (compare e x)).1 ((d.equal e x).1 (closed_same e x h)),
  )
  equals_means endless x = (λ h. absurd (false≢true h), λ h. absurd (open≢closed x h))

  end_laws : EndLaws compare Below
  end_laws = record {
    value_before = value_before;
    value_there = value_there;
    value_past = value_past;
    end_above_lem = end_above_lem;
    end_there = end_there;
    end_below = end_below;
    above_means = above_means;
    equals_means = equals_means;
  }

pub ends : Ends
ends = record {
  of_numbers = end_laws compare_numbers ◌<◌ numbers_total numbers_decided;
  of_paths = end_laws compare_paths PathBelow path_order.total path_order.means;
}
