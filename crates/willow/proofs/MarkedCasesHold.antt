-- Theorem 10: every row is computed.
use mathlib.Core.Path.{refl}
use Rattle.willow.specs.Answers.{limits_refusal}
use Rattle.willow.specs.Construction.{admitted, lengths_in, lengths_fit, from_slices}
use Rattle.willow.specs.Entries.{is_newer, prunes, same_entry}
use Rattle.willow.specs.LeastPaths.{next_greater, successor, greatest}
use Rattle.willow.specs.Limits.{accepted_limits}
use Rattle.willow.specs.MarkedCases.{MarkedCases}
use Rattle.willow.specs.Numbers.{le, unle, number_at}
use Rattle.willow.specs.Orders.{compare_numbers}
use Rattle.willow.specs.Packed.{pack, packed_count, unpack, well_formed, lent}
use Rattle.willow.specs.Ranges.{intersection}
use Rattle.willow.specs.Ranges3d.{range3d_from}
use Rattle.willow.specs.Store.{offered, answer_entry, answer, after}

pub marked_cases : MarkedCases
unfolding admitted lengths_in lengths_fit from_slices is_newer prunes same_entry next_greater successor greatest accepted_limits limits_refusal le unle number_at compare_numbers pack packed_count unpack well_formed lent intersection range3d_from offered answer_entry answer after
marked_cases = refl
