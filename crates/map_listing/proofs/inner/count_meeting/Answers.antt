-- The numbers of the rules that meet are the positions.
use mathlib.Core.Path.{sym, ◌∙◌, ap}
use native.Mathlib.Omega.{arith}
use lib.ListN.{length}
use borrow.Author.Tests.{tests}
use Rattle.std.proofs.Common.{rules}
use Rattle.std.proofs.lemmas.Iterator.{YieldsList-from_range}
use Rattle.std.proofs.lemmas.Iterator.Consumers.{YieldsList-from_filter, count_from_yields_List}
use Rattle.area.specs.LentAreas.{area_of}
use Rattle.map_form.specs.Maps.{rules_in}
use Rattle.listing_law.specs.Listings.{meets}
use Rattle.map_rules.specs.RulePlaces.{rule_at}
use Rattle.map_listing.proofs.MeetingLaws.{positions_numbers}
use Rattle.map_listing.proofs.inner.count_meeting.Goals as goal

pub returns : goal.returns
returns c =
    let a = c.args in
    count_from_yields_List c.filter.result _ c.count-2.ensures.ran
    (YieldsList-from_filter _ (λ i. meets (area_of a.area) (rule_at a.map.bytes.now i)) (YieldsList-from_range 0 (length (rules_in a.map.bytes.now)) (length (rules_in a.map.bytes.now)) (let h = c.filter.ensures.source in let k = c.count.ensures.rules in cc) (omega arith)) (c.filter.ensures.closure) (λ x r q k. search (rules, tests)))
    ∙ ap length (sym (positions_numbers (area_of a.area) (rules_in a.map.bytes.now)))
