use mathlib.Core.Path.{sym, ◌∙◌}
use Rattle.map_form.proofs.MapTestLaws.{map_known}
use Rattle.map_rules.proofs.lend.Goals as goal

pub invariant_of-result : goal.invariant_of-result
invariant_of-result c = record { passed = map_known _ (sym c.is_map.ensures ∙ c.if-is_map.true) }
