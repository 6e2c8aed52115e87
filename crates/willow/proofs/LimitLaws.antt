-- The bounds of refusal 1, test by test.
use mathlib.Core.Path.{◌≡◌}
use mathlib.Core.Bool.{true, ◌&&◌}
use lib.Dec.{leb}
use borrow.Author.Tests.{leb-true, le-leb}
use Rattle.willow.specs.declared.Limits.{Limits}
use Rattle.willow.specs.Limits.{max_mcl, max_mcc, max_mpl, max_capacity, Accepted, accepted_limits, accepted_capacity, LimitLaws}
use Rattle.willow.proofs.Bools.{both_true}

limits_to : (L : Limits) → accepted_limits L ≡ true → Accepted L
unfolding accepted_limits
limits_to L h =
    let a = both_true (leb L.mcl max_mcl) (leb L.mcc max_mcc && leb L.mpl max_mpl) h in
    let b = both_true (leb L.mcc max_mcc) (leb L.mpl max_mpl) a.1 in
    record {
      mcl_within = leb-true L.mcl max_mcl a.0;
      mcc_within = leb-true L.mcc max_mcc b.0;
      mpl_within = leb-true L.mpl max_mpl b.1;
    }

limits_from : (L : Limits) → Accepted L → accepted_limits L ≡ true
unfolding accepted_limits
limits_from L a = rw (le-leb L.mcl max_mcl a.mcl_within, le-leb L.mcc max_mcc a.mcc_within) (le-leb L.mpl max_mpl a.mpl_within)

pub limit_laws : LimitLaws
unfolding accepted_capacity
limit_laws = record {
  limits_means = λ L. (limits_to L, limits_from L);
  capacity_means = λ N. (leb-true N max_capacity, le-leb N max_capacity);
}
