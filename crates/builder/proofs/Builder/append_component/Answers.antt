-- What passed the tests is a buffer that the component can be written into.
use Rattle.std.proofs.Common.{◌≡◌, arith, rules}
use Rattle.std.proofs.Math.Option.{none}
use Rattle.builder_law.proofs.CallLaws.{append_passed}
use Rattle.builder.specs.Calls.{append_refusal}
use Rattle.builder.proofs.Builder.append_component.Goals as goal

pub put_next-requires : goal.put_next-requires
put_next-requires c =
    let e : append_refusal c.args.self c.args.c.now c.args.out.now ≡ none = search rules in
    append_passed _ _ _ e

pub overflow_add-self : goal.overflow_add-self
overflow_add-self c =
    let e : append_refusal c.args.self c.args.c.now c.args.out.now ≡ none = search rules in
    let n = append_passed _ _ _ e in
    omega (arith, n)
