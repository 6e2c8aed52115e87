-- Where there is no room for a component the next greater path is the successor.
use Rattle.std.proofs.Common.{◌∙◌, ap, arith, sym}
use Rattle.willow.proofs.AnswerLaws.{made_as}
use Rattle.least_writing.specs.Written.{path_or}
use Rattle.least_writing.proofs.CallLaws.{successor_full}
use Rattle.least_writing.proofs.inner.write_successor.Goals as goal

pub returns : goal.returns
returns c =
    let p = made_as _ _ (ap path_or (sym c.search.ensures.path) ∙ successor_full _ _ (omega (arith, c.component_count.ensures, c.if-component_count-limits.false)))
    _ _ _ (c.write_place.ensures.result_value, c.write_place.ensures.out_after) in
    record { result_value = p.0; out_after = p.1 }
