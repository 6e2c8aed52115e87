-- The call's own equation for the heads that were made, turned into numbers.
use mathlib.Core.Path.{◌∙◌, ap}
use Rattle.willow.specs.Entries.{prunes}
use Rattle.willow.specs.Refusals.{value}
use Rattle.convention.specs.Exports.{given, yes_number}
use Rattle.host_entry.proofs.MadeHeads.{on_heads}
use Rattle.host_entry.proofs.wotskrale_entry_is_pruned_by.Goals as goal

pub returns : goal.returns
returns c = c.answered.ensures ∙ ap (given yes_number) (c.is_pruned_by.ensures ∙ on_heads (λ x y. value (prunes y x)) _ _ _ _ _ _ _ _ _ _ _ c.new-head.ensures c.new-head2.ensures)
