-- Component i of the whole is that of the first ones.
use Rattle.std.proofs.Common.{sym, ◌∙◌, arith}
use Rattle.packed.proofs.PrefixLaws.{front, front_component}
use Rattle.packed.proofs.lent.LentPath.component.Goals as goal

pub component-requires : goal.component-requires
component-requires c =
    let p = c.args.self in
    let f = front _ _ p.readable in
    (p.readable.packed, omega (arith, c.requires))

pub returns : goal.returns
returns c =
    let f = front _ _ c.args.self.readable in
    c.component.ensures ∙ sym (front_component _ _ _ (omega (arith, c.requires)))
