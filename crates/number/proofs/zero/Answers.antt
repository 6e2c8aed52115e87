use Rattle.number.proofs.LibraryLaws.{part_cleared}
use Rattle.number.proofs.zero.Goals as goal

pub returns : goal.returns
returns c = let a = c.args in part_cleared a.s.now a.at a.n _ c.requires (c.fill.ensures.after (λ y h. h))
