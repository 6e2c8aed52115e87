-- The first is newer where the order of ages says greater.
use Rattle.std.proofs.Common.{◌∙◌}
use Rattle.entry.proofs.HeadLaws.{newer_by}
use Rattle.entry.proofs.Head.is_newer_than.Goals as goal

pub returns : goal.returns
returns c = λ m n p q. c.is_gt.ensures ∙ newer_by _ _ _ (c.compare_ages.ensures m n p q)
