-- Areas of interest from and towards a host: an area by its kinds and numbers, with a count and a size behind it. In an answer
-- status first, and zeros unless there is one; "in an answer .. the number there is 0" beside kind 0.
use Rattle.std.specs.Prelude.{ℕ}
use Rattle.willow.specs.declared.AreaSubspace.{AreaSubspace}
use Rattle.willow.specs.Areas.{subspace_kind, subspace_value}
use Rattle.willow.specs.AreasOfInterest.{AreaOfInterest}
use Rattle.willow.specs.Paths.{Path}
use Rattle.willow.specs.Ranges.{End, end_kind, end_value}
use Rattle.willow.specs.Refusals.{refusal_number, Outcome, refused, absent, value}
use Rattle.convention.specs.Exports.{answered_status, none_status}
use Rattle.area_kinds.specs.AreaKinds.{Parts, area_with}
use Rattle.area_intersection.specs.Standing.{whose_number}
use Rattle.area_of_interest.specs.Interests.{StandingInterest}
use Rattle.host_area_of_interest.specs.declared.InterestAnswer.{InterestAnswer}

-- The parts of an area with its path, a count and a size.
abbrev pub interest_with : Parts → Path → ℕ → ℕ → AreaOfInterest
interest_with a p max_count max_size = record { area = area_with a p; max_count = max_count; max_size = max_size }

abbrev pub parts_answer : ℕ → ℕ → AreaSubspace → End ℕ → ℕ → ℕ → ℕ → InterestAnswer
parts_answer whose count s e start max_count max_size = record {
  status = answered_status;
  whose = whose;
  count = count;
  subspace_kind = subspace_kind s;
  subspace = subspace_value s;
  start = start;
  end_kind = end_kind e;
  end = end_value e;
  max_count = max_count;
  max_size = max_size;
}

abbrev pub no_interest : ℕ → InterestAnswer
no_interest status = record {
  status = status;
  whose = 0;
  count = 0;
  subspace_kind = 0;
  subspace = 0;
  start = 0;
  end_kind = 0;
  end = 0;
  max_count = 0;
  max_size = 0;
}

abbrev pub given_interest : Outcome StandingInterest → InterestAnswer
given_interest (refused r) = no_interest (refusal_number r)
given_interest absent = no_interest none_status
given_interest (value s) =
    parts_answer
    (whose_number s.area.whose)
    s.area.count
    s.area.subspace
    s.area.times.end
    s.area.times.start
    s.max_count
    s.max_size
