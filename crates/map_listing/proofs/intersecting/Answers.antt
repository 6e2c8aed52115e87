-- A bad kind, a bad path, or the positions of the rules that meet the area.
use Rattle.std.proofs.lemmas.Result.{err_from_is_err_and}
use Rattle.willow.specs.Answers.{outcome}
use Rattle.willow.specs.Refusals.{refused}
use mathlib.Core.Path.{◌≡◌, refl, ◌∙◌, ap, subst}
use Rattle.willow.specs.Answers.{path_in}
use Rattle.willow.specs.Refusals.{value}
use Rattle.range.specs.NumberRanges.{range_of}
use Rattle.area.specs.LentAreas.{area_at}
use Rattle.map_listing.proofs.MeetsLaws.{lent_area}
use Rattle.map_form.specs.Maps.{rules_in, sizes_in}
use Rattle.map_form.specs.MapTest.{MapPassed}
use Rattle.map_law.specs.Insertions.{AreaArgument, argument}
use Rattle.listing_law.specs.Listings.{positions}
use Rattle.map_listing.proofs.ListCallLaws.{listing_kind, listing_path, listing_fine, listed_as}
use Rattle.map_listing.proofs.intersecting.Goals as goal
use Rattle.map_listing.proofs.intersecting.Goals.{After-sizes, Start}

abbrev asked : Start → AreaArgument
asked c = let a = c.args in argument a.kind a.id a.base.now a.count a.start a.end_kind a.end

known : (c : After-sizes) → MapPassed c.args.sheet.now
known c = subst MapPassed c.in_ok-map.ensures.ok.1 c.in_ok-map.map.passed

same : (c : After-sizes) → c.sizes.result.limits ≡ (sizes_in c.args.sheet.now).limits
same c = ap (λ z. z.limits) (c.sizes.ensures ∙ ap sizes_in c.in_ok-map.ensures.ok.1)

pub returns-in_err-area : goal.returns-in_err-area
returns-in_err-area c =
    let s = (goal.at.returns-in_err-area c).After-sizes in
    let e = err_from_is_err_and _ c.from_residual-in_err-area.ensures.1 in
    let p = listed_as _ _ (listing_kind _ (known s) (asked (goal.at.returns-in_err-area c).Start) _ (same s) _ c.in_err-area.ensures.answer) _ _ _ (ap outcome e.1 ∙ ap refused e.2, refl) in
    record { result_value = p.0; out_after = p.1 }

pub returns-in_err-path : goal.returns-in_err-path
returns-in_err-path c =
    let s = (goal.at.returns-in_err-path c).After-sizes in
    let e = err_from_is_err_and _ c.from_residual-in_err-path.ensures.1 in
    let p = listed_as _ _ (listing_path _ (known s) (asked (goal.at.returns-in_err-path c).Start) _ (same s) c.in_ok-area.area c.in_ok-area.ensures.answer _ c.in_err-path.ensures.err) _ _ _ (ap outcome e.1 ∙ ap refused e.2, refl) in
    record { result_value = p.0; out_after = p.1 }

pub returns : goal.returns
returns c =
    let s = (goal.at.returns c).After-sizes in
    let area = c.in_ok-area.area in
    let made = c.in_ok-path.ensures.ok in
    let lent = c.in_ok-map.ensures.ok in
    let fine = listing_fine _ (known s) (asked (goal.at.returns c).Start) _ (same s) area c.in_ok-area.ensures.answer made.0 in
    let whole = lent_area c.at.result (area_at area (path_in c.args.base.now area.count)) c.at.ensures.subspace (c.at.ensures.path ∙ (λ i. path_in (made.1.0 i) (made.1.1 i))) (ap range_of c.at.ensures.times) in
    let p = listed_as _ _ ((λ i. value (positions (whole i) (rules_in (lent.1 i)))) ∙ fine) _ _ _ (c.list.ensures.result_value, c.list.ensures.out_after) in
    record { result_value = p.0; out_after = p.1 }
