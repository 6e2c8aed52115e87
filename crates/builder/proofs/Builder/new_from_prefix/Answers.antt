-- A prefix that passed the tests is within the declared count, and has room.
use Rattle.std.proofs.Common.{sym, ap, arith}
use Rattle.std.proofs.lemmas.Result.{err_from_is_err_and}
use Rattle.willow.specs.Answers.{unless}
use Rattle.willow.specs.Refusals.{value}
use Rattle.packed.proofs.PrefixLaws.{front}
use Rattle.builder_law.proofs.CallLaws.{prefix_passed}
use Rattle.builder.specs.Calls.{state_of}
use Rattle.builder.proofs.Builder.new_from_prefix.Goals as goal

pub returns-in_err-prefix-clause-result_value : goal.returns-in_err-prefix-clause-result_value
returns-in_err-prefix-clause-result_value c =
    let e = rw c.with-start.ensures at c.in_err-prefix.ensures.err in
    let p = err_from_is_err_and c.from_residual.result c.from_residual.ensures.1 in
    rw (p.1, p.2) (sym (ap (λ r. unless r (value (state_of c.args.limits c.args.length c.args.count c.args.n))) e))

pub put_prefix-requires : goal.put_prefix-requires
put_prefix-requires c =
    let k = rw c.with-start.ensures at c.in_ok-prefix.ensures.ok in
    let f = prefix_passed _ _ _ _ _ _ _ k.0 in
    let n = (front _ _ f.0).count in
    rw k.1 (omega arith, f.2)
