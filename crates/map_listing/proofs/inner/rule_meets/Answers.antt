-- The area that is read beside the path of row i's cell is the rule's, so the areas intersect exactly as the rule's and the other do.
use mathlib.Core.Path.{◌≡◌, ◌∙◌, ap}
use Rattle.willow.specs.Areas.{area_intersection}
use Rattle.willow.specs.Lists.{is_some}
use Rattle.range.specs.NumberRanges.{range_of}
use Rattle.area.specs.LentAreas.{area_of}
use Rattle.map_rules.specs.RulePlaces.{rule_at}
use Rattle.map_listing.proofs.MeetsLaws.{lent_area, met}
use Rattle.map_listing.proofs.inner.rule_meets.Goals as goal
use Rattle.map_listing.proofs.inner.rule_meets.Goals.{After-is_some}

whole : (c : After-is_some) → area_of c.at-rule.result ≡ (rule_at c.args.map.bytes.now c.args.i).area
whole c =
    let h = c.at-rule.ensures in
    lent_area c.at-rule.result (rule_at c.args.map.bytes.now c.args.i).area
    (h.subspace ∙ ap (λ x. x.0.subspace) c.rule.ensures)
    (h.path ∙ c.rule_path.ensures.path)
    (ap range_of h.times ∙ ap (λ x. x.0.times) c.rule.ensures)

pub returns : goal.returns
returns c =
    let e = whole (goal.at.returns c).After-is_some in
    c.is_some.ensures ∙ met _ _ _ c.intersection.ensures ∙ ap (λ x. is_some (area_intersection x (area_of c.args.area))) e
