-- The order of entries as the laws of `Ord` ask for it, on lent entries by what they stand for.
use Rattle.std.specs.Cmp.{IsEquivalence, IsPartialEquivalence, IsPartialOrder, IsTotalOrder, eq_by_cmp_equiv, on_total, partial_equiv_from_equiv, partial_order_from_total}
use Rattle.std.specs.Ordering.{as_partial_cmp, eq_by_cmp}
use Rattle.willow.proofs.EntryLaws.{entries_total}
use Rattle.packed.specs.LentOrders.{ordered}
use Rattle.entry.specs.LentEntries.{compare_lent, entry_of}

pub lent_total : IsTotalOrder compare_lent
lent_total = on_total entry_of (ordered entries_total)

pub lent_equivalence : IsEquivalence (eq_by_cmp compare_lent)
lent_equivalence = eq_by_cmp_equiv lent_total

pub lent_partial_equivalence : IsPartialEquivalence (eq_by_cmp compare_lent)
lent_partial_equivalence = partial_equiv_from_equiv lent_equivalence

pub lent_partial_order : IsPartialOrder (eq_by_cmp compare_lent) (as_partial_cmp compare_lent)
lent_partial_order = partial_order_from_total lent_total
