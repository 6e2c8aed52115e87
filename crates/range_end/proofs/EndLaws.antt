-- The tests of an order, by the project's words and by std's.
use Rattle.std.proofs.Common.{◌≡◌, refl}
use Rattle.std.specs.Ordering.{is_eq, is_gt, is_lt, nat_cmp}
use Rattle.std.specs.declared.cmp.Ordering.{Ordering}
use Rattle.std.specs.declared.cmp.Ordering.TheVariants.{Less, Equal, Greater}
use Rattle.willow.specs.Orders.{compare_numbers, is_equal, is_greater, is_less}

pub greater : (o : Ordering) → is_gt o ≡ is_greater o
greater Less = refl
greater Equal = refl
greater Greater = refl

pub equal : (o : Ordering) → is_eq o ≡ is_equal o
equal Less = refl
equal Equal = refl
equal Greater = refl

pub less : (o : Ordering) → is_lt o ≡ is_less o
less Less = refl
less Equal = refl
less Greater = refl

-- numbers are compared as std compares them
pub numbers : nat_cmp ≡ compare_numbers
unfolding compare_numbers
numbers = refl
