-- A rule of a map towards a host: status first, and zeros unless there is one; "in an answer .. the number there is 0" beside kind 0.
use Rattle.std.specs.Prelude.{ℕ}
use Rattle.willow.specs.Areas.{subspace_kind, subspace_value}
use Rattle.willow.specs.Ranges.{end_kind, end_value}
use Rattle.willow.specs.Refusals.{refusal_number, Outcome, refused, absent, value}
use Rattle.convention.specs.Exports.{answered_status, none_status}
use Rattle.area_kinds.specs.AreaKinds.{Parts}
use Rattle.host_map_reading.specs.declared.RuleAnswer.{RuleAnswer}

abbrev pub rule_answer : Parts → ℕ → RuleAnswer
rule_answer a v = record {
  status = answered_status;
  subspace_kind = subspace_kind a.subspace;
  subspace = subspace_value a.subspace;
  count = a.count;
  start = a.times.start;
  end_kind = end_kind a.times.end;
  end = end_value a.times.end;
  value = v;
}

abbrev pub no_rule : ℕ → RuleAnswer
no_rule status = record {
  status = status;
  subspace_kind = 0;
  subspace = 0;
  count = 0;
  start = 0;
  end_kind = 0;
  end = 0;
  value = 0;
}

abbrev pub given_rule : Outcome (Parts × ℕ) → RuleAnswer
given_rule (refused r) = no_rule (refusal_number r)
given_rule absent = no_rule none_status
given_rule (value x) = rule_answer x.0 x.1
