-- The order of paths as the laws of `Ord` ask for it, on lent paths by what they stand for.
use Rattle.std.proofs.Common.{◌≡◌, ◌∙◌, ap, refl}
use Rattle.std.specs.Cmp.{IsEquivalence, IsPartialEquivalence, IsPartialOrder, IsTotalOrder, eq_by_cmp_equiv, on_total, partial_equiv_from_equiv, partial_order_from_total}
use Rattle.std.specs.Ordering.{as_partial_cmp, eq_by_cmp, ordering_reverse}
use Rattle.std.specs.declared.cmp.Ordering.{Ordering}
use Rattle.std.specs.declared.cmp.Ordering.TheVariants.{Less, Equal, Greater}
use Rattle.willow.specs.Orders.{Total, reverse}
use Rattle.willow.proofs.PathLaws.{paths_total}
use Rattle.packed.specs.LentPaths.{compare_lent, path_of}

reversed : (o : Ordering) → reverse o ≡ ordering_reverse o
reversed Less = refl
reversed Equal = refl
reversed Greater = refl

-- a total order by the project's words is one by std's
pub ordered : {A : Type 0} {compare : A → A → Ordering} → Total compare → IsTotalOrder compare
ordered {A} {compare} t = record {
  antisymm = λ x y. t.flip y x ∙ reversed (compare y x);
  trans = t.trans;
  congr = λ x y z e. ap (λ w. compare w z) (t.same x y e);
}

pub lent_total : IsTotalOrder compare_lent
lent_total = on_total path_of (ordered paths_total)

pub lent_equivalence : IsEquivalence (eq_by_cmp compare_lent)
lent_equivalence = eq_by_cmp_equiv lent_total

pub lent_partial_equivalence : IsPartialEquivalence (eq_by_cmp compare_lent)
lent_partial_equivalence = partial_equiv_from_equiv lent_equivalence

pub lent_partial_order : IsPartialOrder (eq_by_cmp compare_lent) (as_partial_cmp compare_lent)
lent_partial_order = partial_order_from_total lent_total
