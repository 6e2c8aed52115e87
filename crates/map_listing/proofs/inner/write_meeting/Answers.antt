use Prim.Native.Nat.{◌+◌, ◌*◌}
use mathlib.Core.Path.{◌≡◌, sym, ◌∙◌}
use native.Mathlib.Omega.{arith}
use Rattle.map_listing.proofs.MeetingLaws.{writing_starts, room_here, writes, writes_none, written_many, written_all}
use Rattle.map_listing.proofs.inner.write_meeting.Goals as goal
use Rattle.map_listing.proofs.inner.write_meeting.Goals.{then-rule_meets, else-rule_meets}

pub loop-i-init : goal.loop-i-init
loop-i-init c = writing_starts _ _ _ c.requires

pub write_u64-requires : goal.write_u64-requires
write_u64-requires c = room_here _ _ _ _ _ _ c.loop-i.invariant (omega arith) (sym c.rule_meets.ensures ∙ c.if-rule_meets.true)

pub loop-i-preserved : goal.loop-i-preserved
loop-i-preserved c =
    let next : 8 * c.loop-i.written + 8 ≡ 8 * (c.loop-i.written + 1) = omega arith in
    elim c.if-rule_meets.branch [
      | then-rule_meets w ↦ rw (w.out-is, w.written-is, ← next) (writes _ _ _ _ _ _ c.loop-i.invariant (omega arith) (sym c.rule_meets.ensures ∙ w.if-rule_meets.true) _ w.write_u64.ensures)
      | else-rule_meets w ↦ rw (w.out-is, w.written-is) (writes_none _ _ _ _ _ _ c.loop-i.invariant (omega arith) (sym c.rule_meets.ensures ∙ w.if-rule_meets.false))
    ]

pub returns : goal.returns
returns c = record {
  value = written_many _ _ _ _ _ _ c.loop-i.invariant (omega arith);
  out_after = written_all _ _ _ _ _ _ c.loop-i.invariant (omega arith);
}
