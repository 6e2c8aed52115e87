-- Where nothing is held, nothing is written; else the answer lies inside.
use Rattle.std.proofs.Common.{◌≡◌, refl, sym, arith, length, take, rules}
use Rattle.number.proofs.OverwritingLaws.{overwrite_nil}
use Rattle.keyinput.specs.Held.{held_in}
use Rattle.keyinput.proofs.HeldLaws.{held_bound, none_ended}
use Rattle.keyinput.proofs.inner.Pending.finish.Goals as goal

pub returns-in-Some-eq0-clause-out_after : goal.returns-in-Some-eq0-clause-out_after
returns-in-Some-eq0-clause-out_after c =
    let n = c.in-Some-eq0.field-0 in
    let z : n ≡ 0 = search rules in
    let empty : length (take n c.args.self.now.bytes) ≡ 0 = rw z refl in
    rw (c.in-Some-eq0.is, none_ended _ empty) (sym (overwrite_nil c.args.out.now 0))

pub returns-in_default-clause-inside : goal.returns-in_default-clause-inside
returns-in_default-clause-inside c = let b = held_bound (held_in c.args.self.now) in let v = c.end_line.ensures.value in omega arith
