use lib.Dec.{eqb}
use mathlib.Core.Path.{◌∙◌}
use borrow.Author.Tests.{tests}
use Rattle.std.proofs.Common.{rules}
use mathlib.Core.Bool.{true, ◌&&◌}
use Rattle.std.proofs.lemmas.Iterator.{YieldsList-from_slice}
use Rattle.std.proofs.lemmas.Iterator.Consumers.{fold_from_yields_List}
use Rattle.number.proofs.LibraryLaws.{tested}
use Rattle.number.proofs.is_zero.Goals as goal

pub returns : goal.returns
returns c =
    fold_from_yields_List _ (λ before b. before && eqb b 0) true c.fold.result c.fold.ensures.ran (YieldsList-from_slice c.args.s.now cc) (λ a x b q k. search (rules, tests))
    ∙ tested c.args.s.now
