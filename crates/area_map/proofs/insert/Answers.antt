-- One law for each way out: a bad kind, or as the inner function answers for the parts that were read.
use Rattle.std.proofs.lemmas.Result.{err_from_is_err_and}
use Rattle.willow.specs.Answers.{outcome}
use Rattle.willow.specs.Refusals.{refused}
use mathlib.Core.Path.{◌≡◌, ◌∙◌, ap, subst}
use Rattle.map_form.specs.Maps.{sizes_in}
use Rattle.map_form.specs.MapTest.{MapPassed}
use Rattle.map_law.specs.Insertions.{Insertion, insertion}
use Rattle.area_map.proofs.InsertLaws.{kinds_refused, as_parts}
use Rattle.area_map.proofs.insert.Goals as goal
use Rattle.area_map.proofs.insert.Goals.{After-sizes-sizes, Start}

abbrev asked : Start → Insertion
asked c = let a = c.args in insertion a.kind a.id a.base.now a.count a.start a.end_kind a.end a.value

known : (c : After-sizes-sizes) → MapPassed c.args.sheet.now
known c = subst MapPassed c.in_ok-lend.ensures.ok.1 c.in_ok-lend.field-0.passed

same : (c : After-sizes-sizes) → c.sizes-sizes.result ≡ sizes_in c.args.sheet.now
same c = c.sizes-sizes.ensures ∙ ap sizes_in c.in_ok-lend.ensures.ok.1

pub insert-requires : goal.insert-requires
insert-requires c = (known (goal.at.insert-requires c).After-sizes-sizes, same (goal.at.insert-requires c).After-sizes-sizes)

pub returns-in_err-area : goal.returns-in_err-area
returns-in_err-area c =
    let s = (goal.at.returns-in_err-area c).After-sizes-sizes in
    let p = kinds_refused _ (asked (goal.at.returns-in_err-area c).Start) (known s) _ (same s) _ c.in_err-area.ensures.answer in
    let e = err_from_is_err_and _ c.from_residual-in_err-area.ensures.1 in
    record { result_value = ap outcome e.1 ∙ ap refused e.2 ∙ p.0; sheet_after = p.1 }

pub returns : goal.returns
returns c =
    let s = (goal.at.returns c).After-sizes-sizes in
    let p = as_parts _ (asked (goal.at.returns c).Start) (known s) _ (same s) _ c.in_ok-area.ensures.answer _ _ (c.insert.ensures.result_value, c.insert.ensures.sheet_after) in
    record { result_value = p.0; sheet_after = p.1 }
