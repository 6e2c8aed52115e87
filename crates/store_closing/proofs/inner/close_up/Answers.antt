use Rattle.std.proofs.Common.{◌≡◌, ◌∙◌, ap, arith}
use Rattle.entry.specs.LentEntries.{entry_of}
use Rattle.store_closing.specs.Filing.{stays_by}
use Rattle.store_closing.proofs.PassLaws.{room_in, cleared_in, pass_begins, pass_on, pass_count, pass_cleared}
use Rattle.store_closing.proofs.inner.close_up.Goals as goal

pub loop-i-init : goal.loop-i-init
loop-i-init c = pass_begins _ _ _ _ _ c.requires

pub keep_row-k-requires : goal.keep_row-k-requires
keep_row-k-requires c = let d = c.loop-i.invariant in (d.readable, c.loop-i-test.true, d.low)

pub loop-i-preserved : goal.loop-i-preserved
loop-i-preserved c =
    let a = c.args in
    let l = c.loop-i in
    pass_on (stays_by (entry_of a.offered.now)) a.sizes.limits a.sizes.capacity a.n a.s.now l.s l.i l.k l.invariant c.loop-i-test.true _ _
    c.keep_row-k.ensures.value c.keep_row-k.ensures.s_after

pub shape-requires : goal.shape-requires
shape-requires c = c.loop-i.invariant.readable.limits_accepted

pub clear_rows-requires : goal.clear_rows-requires
clear_rows-requires c =
    let d = c.loop-i.invariant in
    let r = d.readable in
    let e : c.shape.result.capacity ≡ c.args.sizes.capacity = ap (λ z. z.capacity) c.shape.ensures in
    (room_in _ _ _ c.shape.ensures r.room, omega arith, omega (arith, r.count))

pub returns : goal.returns
returns c =
    let a = c.args in
    let l = c.loop-i in
    record {
      value = pass_count (stays_by (entry_of a.offered.now)) a.sizes.limits a.sizes.capacity a.n a.s.now l.s l.i l.k l.invariant c.loop-i-test.false;
      s_after =
          cleared_in _ _ _ _ _ _ c.shape.ensures c.clear_rows.ensures
          ∙ pass_cleared (stays_by (entry_of a.offered.now)) a.sizes.limits a.sizes.capacity a.n a.s.now l.s l.i l.k l.invariant c.loop-i-test.false;
    }
