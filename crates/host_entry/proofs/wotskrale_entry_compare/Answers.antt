-- The call's own equation for the heads that were made, turned into numbers.
use mathlib.Core.Path.{◌∙◌, ap}
use Rattle.willow.specs.Entries.{compare_entries}
use Rattle.willow.specs.Orders.{order_number}
use Rattle.willow.specs.Refusals.{value}
use Rattle.convention.specs.Exports.{given}
use Rattle.host_entry.proofs.MadeHeads.{on_heads}
use Rattle.host_entry.proofs.wotskrale_entry_compare.Goals as goal

pub returns : goal.returns
returns c = c.answered.ensures ∙ ap (given order_number) (c.compare.ensures ∙ on_heads (λ x y. value (compare_entries x y)) _ _ _ _ _ _ _ _ _ _ _ c.new-head.ensures c.new-head2.ensures)
