-- An intersection of areas towards a host: status first, and zeros unless there is one; "in an answer .. the number there is 0"
-- beside kind 0.
use Rattle.std.specs.Prelude.{ℕ}
use Rattle.willow.specs.declared.AreaSubspace.{AreaSubspace}
use Rattle.willow.specs.Areas.{subspace_kind, subspace_value}
use Rattle.willow.specs.Ranges.{End, end_kind, end_value}
use Rattle.willow.specs.Refusals.{refusal_number, Outcome, refused, absent, value}
use Rattle.convention.specs.Exports.{answered_status, none_status}
use Rattle.area_intersection.specs.Standing.{Standing, whose_number}
use Rattle.host_area_intersection.specs.declared.AreaAnswer.{AreaAnswer}

abbrev pub parts_answer : ℕ → ℕ → AreaSubspace → End ℕ → ℕ → AreaAnswer
parts_answer whose count s e start = record {
  status = answered_status;
  whose = whose;
  count = count;
  subspace_kind = subspace_kind s;
  subspace = subspace_value s;
  start = start;
  end_kind = end_kind e;
  end = end_value e;
}

abbrev pub no_area : ℕ → AreaAnswer
no_area status = record {
  status = status;
  whose = 0;
  count = 0;
  subspace_kind = 0;
  subspace = 0;
  start = 0;
  end_kind = 0;
  end = 0;
}

abbrev pub given_area : Outcome Standing → AreaAnswer
given_area (refused r) = no_area (refusal_number r)
given_area absent = no_area none_status
given_area (value s) = parts_answer (whose_number s.whose) s.count s.subspace s.times.end s.times.start
