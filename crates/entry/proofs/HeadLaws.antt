-- Newer, as the code asks it.
use Rattle.std.proofs.Common.{◌≡◌, ◌∙◌, ap, refl}
use Rattle.std.specs.Ordering.{is_gt}
use Rattle.std.specs.declared.cmp.Ordering.{Ordering}
use Rattle.std.specs.declared.cmp.Ordering.TheVariants.{Less, Equal, Greater}
use Rattle.willow.specs.Entries.{Entry, compare_ages, is_newer}
use Rattle.willow.specs.Orders.{is_greater}

greater : (o : Ordering) → is_gt o ≡ is_greater o
greater Less = refl
greater Equal = refl
greater Greater = refl

pub newer_by : (a b : Entry) (o : Ordering) → o ≡ compare_ages a b → is_gt o ≡ is_newer a b
unfolding is_newer
newer_by a b o e = greater o ∙ ap is_greater e
