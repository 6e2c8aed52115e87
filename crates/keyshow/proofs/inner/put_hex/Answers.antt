use Rattle.std.proofs.Common.{◌≡◌, ◌+◌, ◌*◌, ◌≤◌, length, ◌∙◌, arith}
use lib.ListN.{length-set}
use Rattle.keyform.proofs.PathTextLaws.{hex_text_length}
use Rattle.keyshow.proofs.ShowLaws.{hex_turn, hex_end, nothing_left}
use Rattle.keyshow.proofs.inner.put_hex.Goals as goal

pub bounds-out-at-in-loop-i : goal.bounds-out-at-in-loop-i
bounds-out-at-in-loop-i c = simp length-set (omega (arith, hex_text_length c.args.c.now))

pub loop-i-preserved : goal.loop-i-preserved
loop-i-preserved c =
    let n = hex_text_length c.args.c.now in
    let at : c.args.to + 2 * c.loop-i.i + 2 ≤ length c.loop-i.out = omega arith in
    let next : c.args.to + 2 * (c.loop-i.i + 1) ≡ c.args.to + 2 * c.loop-i.i + 2 = omega arith in
    rw next (hex_turn c.args.c.now c.loop-i.out (c.args.to + 2 * c.loop-i.i) c.loop-i.i _ _ c.loop-i-test.true at c.hex_digit.ensures c.hex_digit-in-loop-i.ensures ∙ c.loop-i.invariant)

pub returns-clause-value : goal.returns-clause-value
returns-clause-value c = omega (arith, hex_text_length c.args.c.now)

pub returns-clause-out_after : goal.returns-clause-out_after
returns-clause-out_after c = nothing_left c.loop-i.out _ _ _ (hex_end c.args.c.now c.loop-i.i c.loop-i-test.false) c.loop-i.invariant
