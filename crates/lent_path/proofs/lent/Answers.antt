-- One law for each way out: the buffer is no path, or the count is above the one in it, or there is nothing to refuse.
use Rattle.std.proofs.Common.{sym, ◌∙◌, refl, arith}
use Rattle.willow.specs.Packed.{packed_count}
use Rattle.packed.proofs.FormLaws.{formed_long}
use Rattle.lent_path.proofs.TestLaws.{lent_malformed, lent_over, lent_fine, lent_readable}
use Rattle.lent_path.proofs.lent.Goals as goal
use Rattle.lent_path.proofs.lent.Goals.{else-well_formed-via-then-well_formed+else-count-read_u64, else-well_formed-via-else-well_formed}

pub read_u64-requires : goal.read_u64-requires
read_u64-requires c = omega (arith, formed_long _ _ (sym c.well_formed-2.ensures ∙ c.if-well_formed.true))

pub invariant_of-result : goal.invariant_of-result
unfolding packed_count
invariant_of-result c = record { readable = lent_readable _ _ _ c.requires (sym c.well_formed-2.ensures ∙ c.if-well_formed.true) (omega (arith, c.read_u64.ensures, c.if-count-read_u64.true)) }

pub returns-then-count-read_u64-clause-fine : goal.returns-then-count-read_u64-clause-fine
unfolding packed_count
returns-then-count-read_u64-clause-fine c = (lent_fine _ _ _ (sym c.well_formed-2.ensures ∙ c.if-well_formed.true) (omega (arith, c.read_u64.ensures, c.if-count-read_u64.true)), (refl, refl))

pub returns-else-well_formed-clause-bad : goal.returns-else-well_formed-clause-bad
unfolding packed_count
returns-else-well_formed-clause-bad c = elim c.else-well_formed.branch [
  | else-well_formed-via-then-well_formed+else-count-read_u64 w ↦ lent_over _ _ _ (sym c.well_formed-2.ensures ∙ w.if-well_formed.true) (omega (arith, w.read_u64.ensures, w.if-count-read_u64.false))
  | else-well_formed-via-else-well_formed w ↦ lent_malformed _ _ _ (sym c.well_formed-2.ensures ∙ w.if-well_formed.false)
]
