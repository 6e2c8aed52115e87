-- WHAT THE ANSWERS OF AN END BESIDE A VALUE MEAN (of crate range_end, and of willow `end_above`).
use Rattle.std.specs.Prelude.{◌<◌, ◌≡◌, ◌↔◌, true}
use Rattle.std.specs.declared.cmp.Ordering.{Ordering}
use Rattle.std.specs.declared.cmp.Ordering.TheVariants.{Less, Equal, Greater}
use Rattle.willow.specs.Orders.{compare_numbers}
use Rattle.willow.specs.Paths.{PathBelow, compare_paths}
use Rattle.willow.specs.Ranges.{End, closed, endless, BeforeEnd, end_above}
use Rattle.range_end.specs.EndValues.{compare_end_value, compare_value_end, is_end_value}

-- A value is before an end (`BeforeEnd`), or is the end, or is past it:
abbrev pub PastEnd : {A : Type 0} → (A → A → Type 0) → A → End A → Type 0
PastEnd Below x (closed e) = Below e x
PastEnd Below x endless = ⊥

-- Each answer exactly if it is so, for every end and every value of a total order that the comparison decides.
pub record EndLaws {A : Type 0} (compare : A → A → Ordering) (Below : A → A → Type 0) : Type 0 where
  pub value_before : (x : A) (e : End A) → (compare_value_end compare x e ≡ Less) ↔ BeforeEnd Below x e
  pub value_there : (x : A) (e : End A) → (compare_value_end compare x e ≡ Equal) ↔ (e ≡ closed x)
  pub value_past : (x : A) (e : End A) → (compare_value_end compare x e ≡ Greater) ↔ PastEnd Below x e
  pub end_above_lem : (e : End A) (x : A) → (compare_end_value compare e x ≡ Greater) ↔ BeforeEnd Below x e
  pub end_there : (e : End A) (x : A) → (compare_end_value compare e x ≡ Equal) ↔ (e ≡ closed x)
  pub end_below : (e : End A) (x : A) → (compare_end_value compare e x ≡ Less) ↔ PastEnd Below x e
  -- `gt_val` and `end == value`
  pub above_means : (e : End A) (x : A) → (end_above compare e x ≡ true) ↔ BeforeEnd Below x e
  pub equals_means : (e : End A) (x : A) → (is_end_value compare e x ≡ true) ↔ (e ≡ closed x)

-- For the two orders that ranges have here.
pub record Ends : Type 0 where
  pub of_numbers : EndLaws compare_numbers ◌<◌
  pub of_paths : EndLaws compare_paths PathBelow
