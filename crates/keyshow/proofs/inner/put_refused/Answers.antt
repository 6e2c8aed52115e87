-- The digits of the number are written behind the word: together the refusal's text.
use native.Mathlib.Omega.{arith}
use lib.ListN.{length-set}
use Rattle.keyshow.proofs.ShowLaws.{one_length, one_written, two_length, two_written}
use Rattle.keyshow.proofs.inner.put_refused.Goals as goal

pub bounds-out-at : goal.bounds-out-at
bounds-out-at c =
    let l = one_length c.args.r _ c.refusal_number-n.ensures c.if-n-lt10.true in
    let k = c.put.auto in
    omega arith

pub returns-then-n-lt10 : goal.returns-then-n-lt10
returns-then-n-lt10 c =
    let a = c.args in
    let l = one_length a.r _ c.refusal_number-n.ensures c.if-n-lt10.true in
    let k = c.put.auto in
    record { value = omega arith; out_after = one_written a.r _ c.refusal_number-n.ensures c.if-n-lt10.true a.out.now c.put.new.s a.to (omega arith) (omega arith) c.put.ensures }

pub bounds-out-at-2 : goal.bounds-out-at-2
bounds-out-at-2 c =
    let l = two_length c.args.r _ c.refusal_number-n.ensures c.if-n-lt10.false in
    let k = c.put.auto in
    omega arith

pub bounds-out-at-3 : goal.bounds-out-at-3
bounds-out-at-3 c =
    let l = two_length c.args.r _ c.refusal_number-n.ensures c.if-n-lt10.false in
    let k = c.put.auto in
    simp length-set (omega arith)

pub returns : goal.returns
returns c =
    let a = c.args in
    let l = two_length a.r _ c.refusal_number-n.ensures c.if-n-lt10.false in
    let k = c.put.auto in
    record { value = omega arith; out_after = two_written a.r _ c.refusal_number-n.ensures c.if-n-lt10.false a.out.now c.put.new.s a.to (omega arith) (omega arith) c.put.ensures }
