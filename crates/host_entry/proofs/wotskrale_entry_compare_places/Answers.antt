-- The call's own equation for the heads that were made, turned into numbers; what else a head or an entry has is computed away.
use mathlib.Core.Path.{◌∙◌, ap}
use Rattle.willow.specs.Entries.{compare_places}
use Rattle.willow.specs.Orders.{order_number}
use Rattle.willow.specs.Refusals.{value}
use Rattle.convention.specs.Exports.{given}
use Rattle.host_entry.proofs.MadeHeads.{on_heads}
use Rattle.host_entry.proofs.wotskrale_entry_compare_places.Goals as goal

pub returns : goal.returns
returns c = λ m n t u l k d e. c.answered.ensures ∙ ap (given order_number) (c.compare_places.ensures ∙ on_heads (λ x y. value (compare_places x y)) _ _ _ _ _ 0 0 _ _ _ _ c.new-head.ensures c.new-head2.ensures)
