-- Six numbers of 8 bytes fill the head, and they are those of the rule.
use Rattle.map_putting.proofs.PutLaws.{six_numbers}
use Rattle.map_putting.proofs.inner.write_head.Goals as goal

pub returns : goal.returns
returns c =
    λ p. rw (← c.subspace_kind.ensures, ← c.subspace_value.ensures, ← c.end_kind.ensures, ← c.end_value.ensures)
    (six_numbers _ _ _ _ _ _ _ _ _ _ _ _ _ c.requires c.write_u64.ensures c.write_u64-2.ensures c.write_u64-3.ensures c.write_u64-4.ensures c.write_u64-5.ensures c.write_u64-6.ensures)
