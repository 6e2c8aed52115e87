-- The limits and the capacity passed their tests.
use Rattle.std.proofs.Common.{sym, ◌∙◌, ap}
use Rattle.willow.specs.Answers.{refusal_of}
use Rattle.willow.proofs.AnswerLaws.{limits_passed}
use Rattle.willow.proofs.LimitLaws.{limit_laws}
use Rattle.sheet.proofs.front.test_sizes.Goals as goal

pub returns-then-capacity_accepted-clause-ok : goal.returns-then-capacity_accepted-clause-ok
returns-then-capacity_accepted-clause-ok c = (limits_passed _ (sym c.test_limits.ensures ∙ ap refusal_of c.in_ok-test_limits.was), (limit_laws.capacity_means _).0 (sym c.capacity_accepted.ensures ∙ c.if-capacity_accepted.true))
