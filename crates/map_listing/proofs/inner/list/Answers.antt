-- The buffer is too short for 8 bytes for each position that was counted; or it has room for these, or for every rule and so for these,
-- and all of them are written.
use Prim.Native.Nat.{ℕ, ◌*◌, ◌≤◌}
use mathlib.Core.List.{List}
use native.Mathlib.Omega.{arith}
use lib.ListN.{length}
use Rattle.area.specs.LentAreas.{area_of}
use Rattle.map_form.specs.Maps.{rules_in}
use Rattle.listing_law.specs.Listings.{positions}
use Rattle.map_listing.proofs.MeetingLaws.{positions_few, listed_short, listed_all}
use Rattle.map_listing.proofs.inner.list.Goals as goal
use Rattle.map_listing.proofs.inner.list.Goals.{else-out-count-via-then-out-count+else-out-count_meeting, else-out-count-via-else-out-count}
use Rattle.map_listing.proofs.inner.list.Goals.{After-write_meeting, Start}

abbrev found : Start → List ℕ
found s = positions (area_of s.args.area) (rules_in s.args.map.bytes.now)

few : (s : Start) → length (positions (area_of s.args.area) (rules_in s.args.map.bytes.now)) ≤ length (rules_in s.args.map.bytes.now)
few s = positions_few (area_of s.args.area) (rules_in s.args.map.bytes.now)

pub overflow_mul-count_meeting : goal.overflow_mul-count_meeting
overflow_mul-count_meeting c =
    let n = few (goal.at.overflow_mul-count_meeting c).Start in
    let known = c.args.map.passed in
    omega arith

pub returns-then-out-count_meeting : goal.returns-then-out-count_meeting
returns-then-out-count_meeting c = let p = listed_short (found (goal.at.returns-then-out-count_meeting c).Start) _ _ c.count_meeting.ensures c.if-out-count_meeting.true in record { result_value = p.0; out_after = p.1 }

pub write_meeting-requires : goal.write_meeting-requires
write_meeting-requires c =
    let n = few (goal.at.write_meeting-requires c).Start in
    elim c.else-out-count.branch [
      | else-out-count-via-then-out-count+else-out-count_meeting w ↦ omega (arith, w.count_meeting.ensures, w.if-out-count_meeting.false)
      | else-out-count-via-else-out-count w ↦ omega (arith, w.if-out-count.false, c.count.ensures.rules)
    ]

room : (c : After-write_meeting) → 8 * length (positions (area_of c.args.area) (rules_in c.args.map.bytes.now)) ≤ length c.args.out.now
room c =
    let n = positions_few (area_of c.args.area) (rules_in c.args.map.bytes.now) in
    elim c.else-out-count.branch [
      | else-out-count-via-then-out-count+else-out-count_meeting w ↦ omega (arith, w.count_meeting.ensures, w.if-out-count_meeting.false)
      | else-out-count-via-else-out-count w ↦ omega (arith, w.if-out-count.false, c.count.ensures.rules)
    ]

pub returns : goal.returns
returns c =
    let r = room (goal.at.returns c).After-write_meeting in
    let p = listed_all (found (goal.at.returns c).Start) _ _ c.write_meeting.ensures.value (omega arith) _ c.write_meeting.ensures.out_after in
    record { result_value = p.0; out_after = p.1 }
