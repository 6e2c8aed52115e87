-- The call's own equation for the heads that were made, turned into numbers.
use mathlib.Core.Path.{◌∙◌, ap}
use Rattle.willow.specs.Refusals.{value}
use Rattle.convention.specs.Exports.{given, yes_number}
use Rattle.host_entry.proofs.MadeHeads.{newer_heads}
use Rattle.host_entry.proofs.wotskrale_entry_is_newer_than.Goals as goal

pub returns : goal.returns
returns c = λ m n s u p q. c.answered.ensures ∙ ap (given yes_number) (c.is_newer_than.ensures m n p q ∙ ap value (newer_heads m n s u p q _ _ _ _ c.new-head.ensures c.new-head2.ensures))
