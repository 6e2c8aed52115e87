-- A range's parts: each kind of end by itself; and no path is below the empty one, which prefixes all.
use Prim.Native.Nat.{ℕ}
use mathlib.Core.Path.{◌≡◌, refl, ap}
use mathlib.Core.Logic.{◌↔◌}
use mathlib.Core.Bool.{true, false≢true}
use mathlib.Core.List.{[]}
use native.Mathlib.Omega.{arith}
use Rattle.std.specs.Prelude.{Some, None}
use Rattle.willow.specs.Ranges.{End, closed, endless}
use Rattle.willow.proofs.OrderLaws.{at_most_number}
use Rattle.willow.proofs.PathLaws.{prefix_at_most}
use Rattle.range.specs.NumberRanges.{end_value_of, is_open}
use Rattle.range_law.specs.RangeParts.{RangeParts}

open_means : {A : Type 0} (e : End A) → (is_open e ≡ true) ↔ (e ≡ endless)
open_means (closed x) = (λ h. absurd (false≢true h), λ h. let z : ◌≡◌ {A = ℕ} 0 1 = cc in absurd (omega arith))
open_means endless = (λ h. refl, λ h. refl)

end_got : {A : Type 0} (e : End A) (x : A) → (end_value_of e ≡ Some x) ↔ (e ≡ closed x)
end_got (closed y) x = (λ h. let s : y ≡ x = cc in ap closed s, λ h. let s : y ≡ x = cc in ap Some s)
end_got endless x = (
  λ h. let z : ◌≡◌ {A = ℕ} 0 1 = cc in absurd (omega arith),
  λ h. let z : ◌≡◌ {A = ℕ} 0 1 = cc in absurd (omega arith),
)

none_got : {A : Type 0} (e : End A) → (end_value_of e ≡ None) ↔ (e ≡ endless)
none_got (closed y) = (
  λ h. let z : ◌≡◌ {A = ℕ} 0 1 = cc in absurd (omega arith),
  λ h. let z : ◌≡◌ {A = ℕ} 0 1 = cc in absurd (omega arith),
)
none_got endless = (λ h. refl, λ h. refl)

pub range_parts : RangeParts
range_parts = record {
  open_means = open_means;
  end_got = end_got;
  none_got = none_got;
  all_numbers = λ n. ((at_most_number 0 n).1 (omega arith), tt);
  all_paths = λ p. (prefix_at_most [] p (p, refl), tt);
}
