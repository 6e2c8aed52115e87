-- The parts lie inside the buffer, and are those of its path.
use native.Mathlib.Omega.{arith}
use Rattle.willow.proofs.NumberLaws.{bytes_by_index}
use Rattle.packed.proofs.PrefixLaws.{Front, front}
use Rattle.extension.proofs.ExtendedLaws.{table_part_lem, bytes_part_lem}
use Rattle.extension.proofs.inner.parts.Goals as goal
use Rattle.extension.proofs.inner.parts.Goals.{Start}

facts : (c : Start) → Front c.args.b.now c.args.k
facts c = front c.args.b.now c.args.k c.requires

pub overflow_mul-base : goal.overflow_mul-base
overflow_mul-base c = omega (arith, facts (goal.at.overflow_mul-base c).Start)

pub overflow_add-base : goal.overflow_add-base
overflow_add-base c = omega (arith, facts (goal.at.overflow_add-base c).Start)

pub overflow_add-end : goal.overflow_add-end
overflow_add-end c = let e = c.path_length.ensures in omega (arith, facts (goal.at.overflow_add-end c).Start)

pub overflow_mul-result : goal.overflow_mul-result
overflow_mul-result c = omega (arith, facts (goal.at.overflow_mul-result c).Start)

pub overflow_add-result : goal.overflow_add-result
overflow_add-result c = omega (arith, facts (goal.at.overflow_add-result c).Start)

pub slice_bounds-result-end : goal.slice_bounds-result-end
slice_bounds-result-end c = omega (arith, facts (goal.at.slice_bounds-result-end c).Start)

pub slice_bounds-result-end-2 : goal.slice_bounds-result-end-2
slice_bounds-result-end-2 c = let e = c.path_length.ensures in omega (arith, facts (goal.at.slice_bounds-result-end-2 c).Start)

pub returns-clause-table : goal.returns-clause-table
returns-clause-table c = table_part_lem _ _ c.requires (bytes_by_index c.args.b.now (λ i. (c.type_inv.b i).fits))

pub returns-clause-bytes : goal.returns-clause-bytes
returns-clause-bytes c = bytes_part_lem _ _ c.requires (bytes_by_index c.args.b.now (λ i. (c.type_inv.b i).fits)) _ _ c.component_count.ensures c.path_length.ensures
