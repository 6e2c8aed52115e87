-- One law for each way out: the path is refused, all rows are in use, or the rule stands in the first that is not.
use Rattle.std.proofs.lemmas.Result.{err_from_is_err_and}
use Rattle.willow.specs.Answers.{outcome}
use Rattle.willow.specs.Refusals.{refused}
use mathlib.Core.Path.{◌∙◌, ap}
use Rattle.willow.proofs.NumberLaws.{bytes_by_index}
use Rattle.area_kinds.specs.AreaKinds.{parts}
use Rattle.area_map.proofs.InsertLaws.{path_fits, path_refused, no_room_lem, taken}
use Rattle.area_map.proofs.inner.insert.Goals as goal

pub returns-in_err-path : goal.returns-in_err-path
returns-in_err-path c =
    let p = path_refused _ c.requires.0 _ c.requires.1 (parts c.args.area) c.args.base.now c.args.value _ c.in_err-path.ensures.err in
    let e = err_from_is_err_and _ c.from_residual.ensures.1 in
    record { result_value = ap outcome e.1 ∙ ap refused e.2 ∙ p.0; sheet_after = p.1 }

pub returns-then-n-sizes : goal.returns-then-n-sizes
returns-then-n-sizes c =
    let p = no_room_lem _ c.requires.0 _ c.requires.1 (parts c.args.area) c.args.base.now c.args.value c.in_ok-path.ensures.ok.0 _ c.read_u64-n.ensures c.if-n-sizes.true in
    record { result_value = p.0; sheet_after = p.1 }

pub put_rule-requires-clause-fits : goal.put_rule-requires-clause-fits
put_rule-requires-clause-fits c =
    let bytes = bytes_by_index c.args.base.now (λ i. (c.shared_slice_known-1.given i).fits) in
    let k = c.in_ok-path.ensures.ok in
    rw (k.1.0, k.1.1) (path_fits _ _ _ bytes k.0)

pub returns : goal.returns
returns c =
    let bytes = bytes_by_index c.args.sheet.now (λ i. (c.slice_known-1.given i).fits) in
    let path_bytes = bytes_by_index c.args.base.now (λ i. (c.shared_slice_known-1.given i).fits) in
    let k = c.in_ok-path.ensures.ok in
    let p = taken _ c.requires.0 _ c.requires.1 (parts c.args.area) c.args.base.now c.args.value k.0 _ c.read_u64-n.ensures c.if-n-sizes.false bytes path_bytes _ (rw (k.1.0, k.1.1) at c.put_rule.ensures) in
    record { result_value = p.0; sheet_after = p.1 }
