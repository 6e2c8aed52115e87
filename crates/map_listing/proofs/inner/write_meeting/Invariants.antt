-- What is left from rule i on, written from the place on that was reached, gives the whole listing: each turn takes one rule off, and
-- where it meets, the first 8 bytes of that write are made.
use Prim.Native.Nat.{◌*◌}
use Rattle.area.specs.LentAreas.{area_of}
use Rattle.map_form.specs.Maps.{rules_in}
use Rattle.map_listing.proofs.MeetingLaws.{Writing}
use Rattle.map_listing.proofs.inner.write_meeting.Given as goal

abbrev pub invariant-loop-i : goal.invariant-loop-i
invariant-loop-i l = Writing (area_of l.area) (rules_in l.map.bytes.now) l.initial.out l.out (8 * l.written) l.i
