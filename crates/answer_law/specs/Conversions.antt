-- AN AREA TURNED INTO A 3D RANGE, read back from the two buffers: the struct that is answered, beside the area's own buffer and the bytes
-- that were written, is the 3d range of the area. So the call meets what `ConversionTheorem` (crate range_3d_intersection) asks.
use Rattle.std.specs.Prelude.{ℕ, ◌≡◌, List, take}
use Rattle.willow.specs.declared.Limits.{Limits}
use Rattle.willow.specs.Answers.{on_path, packed_outcome, written_length, written_buffer}
use Rattle.willow.specs.Numbers.{Bytes}
use Rattle.willow.specs.Ranges3d.{range3d_from}
use Rattle.willow.specs.Refusals.{value}
use Rattle.least.specs.Places.{next_greater_of}
use Rattle.area.specs.declared.Area as area
use Rattle.area.specs.LentAreas.{area_in}
use Rattle.range_3d.specs.declared.Range3d as code
use Rattle.range_3d.specs.LentRanges3d.{range3d_of}
use Rattle.range_3d_intersection.specs.Sides3d.{counts_at, converted_after, counts_of}

-- For every answer that is not refused, of n bytes written. The premise beside it is that the buffer of the area's path holds bytes.
abbrev pub ConversionReadBack : Type 0
ConversionReadBack = (L : Limits) (a : area.Area) (base out : List ℕ) (m : code.Range3d ℕ) (n : ℕ) → Bytes base
    → converted_after (written_length (packed_outcome (on_path L base a.count (next_greater_of L))) out) (counts_at (range3d_from L (area_in a base)))
    ≡ value (counts_of m, n)
    → range3d_of m base (take n (written_buffer (packed_outcome (on_path L base a.count (next_greater_of L))) out)) ≡ range3d_from L (area_in a base)
