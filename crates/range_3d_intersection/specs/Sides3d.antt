-- What the intersection of two lent 3d ranges answers, and an area turned into a 3d range.
use Rattle.std.specs.Prelude.{ℕ, ◌≤◌, ◌≡◌, List, length}
use Rattle.std.proofs.Math.Option.{Option, none, some}
use Rattle.willow.specs.Answers.{path_in}
use Rattle.willow.specs.Limits.{max_word}
use Rattle.willow.specs.Packed.{pack}
use Rattle.willow.specs.Paths.{Path, compare_paths, path_length}
use Rattle.willow.specs.Ranges.{End, closed, endless, Range, end_of}
use Rattle.willow.specs.Ranges3d.{Range3d, intersection3d}
use Rattle.willow.specs.Refusals.{Outcome, refused, absent, value}
use Rattle.range.specs.NumberRanges.{range_of}
use Rattle.path_range_intersection.specs.declared.Side.{Side}
use Rattle.path_range_intersection.specs.declared.Side.TheVariants.{Second}
use Rattle.path_range_intersection.specs.Sides.{start_at, end_at, later_side, second_end, end_side}
use Rattle.range_3d.specs.declared.Range3d as code
use Rattle.range_3d.specs.LentRanges3d.{range3d_of}

-- THE INTERSECTION: its ranges of numbers, and whose start and whose end its range of paths has.
pub record Standing3d : Type 0 where
  pub subspaces : Range ℕ
  pub paths : Range Side
  pub times : Range ℕ

abbrev pub sides_for3d : Range3d → Range3d → Option Range3d → Outcome Standing3d
sides_for3d r s none = absent
sides_for3d r s (some m) = value (record {
  subspaces = m.subspaces;
  paths = record {
    start = later_side compare_paths r.paths.start s.paths.start;
    end = end_side compare_paths r.paths.end s.paths.end;
  };
  times = m.times;
})

unfoldable pub sides_met3d : Range3d → Range3d → Outcome Standing3d
sides_met3d r s = sides_for3d r s (intersection3d r s)

-- The code's answer, as that.
abbrev pub standing3d_of : code.Range3d Side → Standing3d
standing3d_of m = record { subspaces = range_of m.subspaces; paths = range_of m.paths; times = range_of m.times }

-- What it means, of the intersection that `willow` defines: the sides stand for the start and the end of its range of paths; where
-- both inputs have the same one the second's is named, and an open end as open.
pub record Sides3dTheorem : Type 0 where
  pub none_met : (r s : Range3d) → intersection3d r s ≡ none → sides_met3d r s ≡ absent
  pub sides_met_lem : (r s m : Range3d) → intersection3d r s ≡ some m
      → (x : Standing3d) × (sides_met3d r s ≡ value x)
      × (x.subspaces ≡ m.subspaces) × (x.times ≡ m.times)
      × (start_at x.paths.start r.paths.start s.paths.start ≡ m.paths.start)
      × (end_at x.paths.end r.paths.end s.paths.end ≡ m.paths.end)
      × (r.paths.start ≡ s.paths.start → x.paths.start ≡ Second)
      × (r.paths.end ≡ s.paths.end → x.paths.end ≡ second_end s.paths.end)

-- AN AREA AS A 3D RANGE. A 3d range by the counts of its paths: the paths themselves stand in two buffers.
pub record Counts3d : Type 0 where
  pub subspaces : Range ℕ
  pub start : ℕ
  pub end : End ℕ
  pub times : Range ℕ

abbrev pub end_count : End Path → End ℕ
end_count (closed p) = closed (length p)
end_count endless = endless

abbrev pub counts_at : Range3d → Counts3d
counts_at r = record { subspaces = r.subspaces; start = length r.paths.start; end = end_count r.paths.end; times = r.times }

-- The answer, once the end's path was written, with how many bytes were written: 0 where there is none to write.
abbrev pub converted_after : Outcome ℕ → Counts3d → Outcome (Counts3d × ℕ)
converted_after (refused r) c = refused r
converted_after absent c = value (c, 0)
converted_after (value n) c = value (c, n)

-- The code's 3d range, by its counts; and the code's answer, as that.
abbrev pub counts_of : code.Range3d ℕ → Counts3d
counts_of m = record {
  subspaces = range_of m.subspaces;
  start = m.paths.start;
  end = end_of m.paths.end;
  times = range_of m.times;
}

abbrev pub converted : code.Range3d ℕ × ℕ → Counts3d × ℕ
converted x = (counts_of x.0, x.1)

-- What it means: where the counts are those of a 3d range whose start is the path lent in b and whose end, if it has one, is
-- packed in o, the struct beside the two buffers is that 3d range. The premises are met by the full one and empty buffers.
abbrev pub HoldsEnd : End Path → List ℕ → Type 0
HoldsEnd (closed p) o = (o ≡ pack p) × (length p ≤ max_word) × (path_length p ≤ max_word)
HoldsEnd endless o = Unit {0}

pub record ConversionTheorem : Type 0 where
  pub reads_back : (r : Range3d) (m : code.Range3d ℕ) (b o : List ℕ) → counts_of m ≡ counts_at r
      → path_in b (length r.paths.start) ≡ r.paths.start → HoldsEnd r.paths.end o → range3d_of m b o ≡ r
