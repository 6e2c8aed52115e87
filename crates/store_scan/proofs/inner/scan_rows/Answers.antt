use Rattle.std.proofs.Common.{◌≡◌}
use Rattle.store_scan.specs.Scans.{nothing_met}
use Rattle.store_rows.proofs.HeldLaws.{held_end, held_next}
use Rattle.store_scan.proofs.PassingLaws.{pass_starts, pass_ends, payload_room, pass_goes_on}
use Rattle.store_scan.proofs.inner.scan_rows.Goals as goal

pub loop-i-init : goal.loop-i-init
loop-i-init c =
    let h = c.default-found.ensures in
    let e : c.default-found.result ≡ nothing_met = λ t. record { outdated = h.0 t; repeat = h.1.0 t; pruned = h.1.1.0 t; freed = h.1.1.1.0 t; place = h.1.1.1.1 t } in
    rw e (pass_starts _ _ c.requires)

pub scan_row-found-requires : goal.scan_row-found-requires
scan_row-found-requires c =
    let v = c.loop-i.invariant in
    (c.loop-i-test.true, payload_room _ _ _ _ v _ (held_next c.args.rows _ c.loop-i-test.true), v.pruned_few, v.place_few)

pub loop-i-preserved : goal.loop-i-preserved
loop-i-preserved c = pass_goes_on _ _ _ _ c.loop-i.invariant _ (held_next c.args.rows _ c.loop-i-test.true) _ c.scan_row-found.ensures

pub returns : goal.returns
returns c = pass_ends _ _ _ _ c.loop-i.invariant (held_end c.args.rows _ c.loop-i-test.false)
