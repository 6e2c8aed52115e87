-- The first components of the first components.
use Rattle.std.proofs.Common.{sym, arith}
use Rattle.packed.proofs.PrefixLaws.{front, prefix_in}
use Rattle.packed.proofs.lent.LentPath.prefix.Goals as goal

pub returns-clause-path : goal.returns-clause-path
returns-clause-path c =
    let f = front _ _ c.args.self.readable in
    sym (prefix_in _ _ _ (omega (arith, c.requires)))

pub invariant_of-result : goal.invariant_of-result
invariant_of-result c =
    let r = c.args.self.readable in
    let f = front _ _ r in
    record { readable = record { packed = r.packed; within = omega (arith, c.requires, r.within) } }
