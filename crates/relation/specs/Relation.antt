-- What the calls on two paths answer, each as a question on the paths that were lent.
use Rattle.std.specs.Prelude.{ℕ, Bool}
use Rattle.std.specs.declared.cmp.Ordering.{Ordering}
use Rattle.willow.specs.Orders.{is_equal}
use Rattle.willow.specs.Paths.{Path, compare_paths, is_prefix_of, is_related, common_count}
use Rattle.willow.specs.Refusals.{Outcome, value}

abbrev pub order_of : Path → Path → Outcome Ordering
order_of p q = value (compare_paths p q)

abbrev pub equality_of : Path → Path → Outcome Bool
equality_of p q = value (is_equal (compare_paths p q))

abbrev pub prefix_test_of : Path → Path → Outcome Bool
prefix_test_of p q = value (is_prefix_of p q)

abbrev pub prefixed_test_of : Path → Path → Outcome Bool
prefixed_test_of p q = value (is_prefix_of q p)

abbrev pub relatedness_of : Path → Path → Outcome Bool
relatedness_of p q = value (is_related p q)

abbrev pub common_count_of : Path → Path → Outcome ℕ
common_count_of p q = value (common_count p q)
