use Rattle.std.proofs.Common.{◌/◌, length, ◌∙◌, refl, rules, arith}
use borrow.Author.Tests.{tests}
use Rattle.std.proofs.lemmas.Iterator.{YieldsList-from_range}
use Rattle.std.proofs.lemmas.Iterator.Search.{all_from_yields_List}
use Rattle.extension.proofs.LengthLaws.{is_within, within_all}
use Rattle.extension.proofs.inner.lengths_within.Goals as goal

pub returns : goal.returns
returns c =
    let s = c.args.lengths.now in
    all_from_yields_List (is_within c.args.mcl s) _ _ c.all.result c.all.ensures.ran (YieldsList-from_range 0 (length s / 8) (length s / 8) refl (omega arith)) (λ x b q k. search (rules, tests))
    ∙ within_all c.args.mcl s
