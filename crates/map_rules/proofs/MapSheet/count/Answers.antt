use mathlib.Core.Path.{sym, ◌∙◌}
use Rattle.map_rules.proofs.RuleAtLaws.{rules_many}
use Rattle.map_rules.proofs.MapSheet.count.Goals as goal

pub returns-clause-rules : goal.returns-clause-rules
returns-clause-rules c = c.read_u64.ensures ∙ sym (rules_many _ c.args.self.passed.tested)
