-- The answer of the next greater path decides: open, or closed at the path whose count is read back.
use Rattle.std.proofs.Common.{◌∙◌, ap, Ok}
use Rattle.willow.proofs.NumberLaws.{bytes_by_index}
use Rattle.range_3d_intersection.proofs.ConversionLaws.{convert_open, convert_closed, count_there}
use Rattle.range_3d_intersection.proofs.from_area.Goals as goal

pub read_u64-requires : goal.read_u64-requires
read_u64-requires c =
    let a = c.args in
    let b = bytes_by_index a.base.now (λ i. (c.type_inv.base i).fits) in
    count_there a.limits a.area a.base.now a.out.now _ b _ c.greater_but_not_prefixed.ensures.result_value c.greater_but_not_prefixed.ensures.out_after _ (c.in_ok-greater_but_not_prefixed.was ∙ ap Ok c.in-Some.is)

pub returns-in-None-clause-result_value : goal.returns-in-None-clause-result_value
returns-in-None-clause-result_value c =
    let a = c.args in
    let b = bytes_by_index a.base.now (λ i. (c.type_inv.base i).fits) in
    convert_open a.limits a.area a.base.now a.out.now _ b _ c.greater_but_not_prefixed.ensures.result_value c.greater_but_not_prefixed.ensures.out_after _ _ _ c.subspace_range-subspaces.ensures c.new.ensures (c.in_ok-greater_but_not_prefixed.was ∙ ap Ok c.in-None.is) c.new_open.ensures

pub returns-in-Some-clause-result_value : goal.returns-in-Some-clause-result_value
returns-in-Some-clause-result_value c =
    let a = c.args in
    let b = bytes_by_index a.base.now (λ i. (c.type_inv.base i).fits) in
    convert_closed a.limits a.area a.base.now a.out.now _ b _ c.greater_but_not_prefixed.ensures.result_value c.greater_but_not_prefixed.ensures.out_after _ _ _ c.subspace_range-subspaces.ensures c.new-in-Some-2.ensures _ _ (c.in_ok-greater_but_not_prefixed.was ∙ ap Ok c.in-Some.is) c.read_u64.ensures c.new-in-Some.ensures
