-- An area as a 3d range towards a host: status first, and zeros unless there is an answer; "in an answer .. the number there is 0"
-- beside kind 0. Of the paths their counts, and how many bytes were written.
use Rattle.std.specs.Prelude.{ℕ}
use Rattle.willow.specs.Ranges.{end_kind, end_value}
use Rattle.willow.specs.Refusals.{refusal_number, Outcome, refused, absent, value}
use Rattle.convention.specs.Exports.{answered_status, none_status}
use Rattle.range_3d_intersection.specs.Sides3d.{Counts3d}
use Rattle.host_range_3d_conversion.specs.declared.ConvertedAnswer.{ConvertedAnswer}

abbrev pub counts_answer : Counts3d → ℕ → ConvertedAnswer
counts_answer x written = record {
  status = answered_status;
  subspace_start = x.subspaces.start;
  subspace_end_kind = end_kind x.subspaces.end;
  subspace_end = end_value x.subspaces.end;
  start_count = x.start;
  path_end_kind = end_kind x.end;
  end_count = end_value x.end;
  written = written;
  time_start = x.times.start;
  time_end_kind = end_kind x.times.end;
  time_end = end_value x.times.end;
}

abbrev pub no_range : ℕ → ConvertedAnswer
no_range status = record {
  status = status;
  subspace_start = 0;
  subspace_end_kind = 0;
  subspace_end = 0;
  start_count = 0;
  path_end_kind = 0;
  end_count = 0;
  written = 0;
  time_start = 0;
  time_end_kind = 0;
  time_end = 0;
}

abbrev pub given_counts : Outcome (Counts3d × ℕ) → ConvertedAnswer
given_counts (refused r) = no_range (refusal_number r)
given_counts absent = no_range none_status
given_counts (value x) = counts_answer x.0 x.1
