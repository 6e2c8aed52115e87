-- Each row but the first was asked for being above the one before it, and all were answered yes, or one was answered no.
use Rattle.std.proofs.Common.{◌≡◌, ◌-◌, true, false, arith, rules}
use borrow.Author.Tests.{tests}
use Rattle.std.proofs.lemmas.Iterator.{YieldsList-from_range, cases_from_all}
use Rattle.store_passes.proofs.LeftLaws.{above, ascends_by_number}
use Rattle.store_passes.proofs.inner.rows_ascend.Goals as goal

pub returns : goal.returns
returns c =
    let r = c.args.rows in
    ascends_by_number r _
    (cases_from_all _ _ _ (λ k. above r k ≡ true) (λ k. above r k ≡ false) c.all.ensures.ran (YieldsList-from_range 1 r.count (r.count - 1) (search rules) (omega arith)) (λ x q k. search (rules, tests)) (λ x q k. search (rules, tests)))
