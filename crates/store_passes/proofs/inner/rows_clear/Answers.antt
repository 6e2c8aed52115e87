use Rattle.std.proofs.Common.{arith}
use Rattle.store_passes.proofs.CarryLaws.{Turn, carry_start, carry_end, turn_positions, turn_room, turn_stop, turn_next}
use Rattle.store_passes.proofs.inner.rows_clear.Goals as goal
use Rattle.store_passes.proofs.inner.rows_clear.Goals.{After-covering-depth}

-- the turn of row i, once those that cover it are found
turn : (c : After-covering-depth) → Turn c.args.rows c.loop-i.carried.items c.loop-i.i c.covering-depth.result
turn c = record {
  carrying = c.loop-i.invariant;
  more = c.loop-i-test.true;
  fewer = rw c.as_slice.ensures.value at c.covering-depth.ensures.0;
  covers_it = rw c.as_slice.ensures.value at c.covering-depth.ensures.1;
}

pub loop-i-init : goal.loop-i-init
loop-i-init c = carry_start c.args.rows _ c.new-carried.ensures

pub covering-depth-requires : goal.covering-depth-requires
covering-depth-requires c = (c.loop-i-test.true, rw c.as_slice.ensures.value c.loop-i.invariant.positions)

pub nearest_older-requires : goal.nearest_older-requires
nearest_older-requires c = (
  c.loop-i-test.true,
  rw (c.as_slice-in-loop-i.ensures.value, c.truncate.ensures.items) (turn_positions c.args.rows _ _ _ (turn (goal.at.nearest_older-requires c).After-covering-depth)),
)

pub push-requires : goal.push-requires
push-requires c = (omega arith, rw c.truncate.ensures.items (turn_room c.args.rows _ _ _ (turn (goal.at.push-requires c).After-covering-depth) c.requires))

pub loop-i-preserved : goal.loop-i-preserved
loop-i-preserved c =
    rw (c.push.ensures.items, c.truncate.ensures.items)
    (turn_next c.args.rows _ _ _ (turn (goal.at.loop-i-preserved c).After-covering-depth) _ (rw (c.as_slice-in-loop-i.ensures.value, c.truncate.ensures.items) at c.nearest_older.ensures) c.if-not-nearest_older.false)

pub returns-then-not-nearest_older : goal.returns-then-not-nearest_older
returns-then-not-nearest_older c =
    turn_stop c.args.rows _ _ _ (turn (goal.at.returns-then-not-nearest_older c).After-covering-depth) _ (rw (c.as_slice-in-loop-i.ensures.value, c.truncate.ensures.items) at c.nearest_older.ensures) c.if-not-nearest_older.true

pub returns : goal.returns
returns c = carry_end c.args.rows _ _ c.loop-i.invariant c.loop-i-test.false
