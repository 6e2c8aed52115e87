-- Ends and ranges of paths as they are lent: ends and ranges of counts, and buffers beside them. The questions on ranges are defined in
-- `willow`, for the values of every order.
use Rattle.std.specs.Prelude.{ℕ, List, [], ◌∷◌}
use Rattle.willow.specs.Answers.{path_in}
use Rattle.willow.specs.Paths.{Path}
use Rattle.willow.specs.Ranges.{End, closed, endless, Range, end_of}
use Rattle.packed.specs.LentPaths.{path_of}
use Rattle.packed.specs.declared.lent.LentPath as tested
use Rattle.range.specs.declared.Range as code
use Rattle.range.specs.NumberRanges.{range_of}
use Rattle.range.specs.StandingFor.{end_by, range_by}
use Rattle.willow.specs.declared.RangeEnd.{RangeEnd}
use Rattle.path_bounds.specs.LentPaths.{LentPath}

-- An end beside a buffer, and a range beside the buffers of its start and its end.
abbrev pub path_end_of : End ℕ → List ℕ → End Path
path_end_of (closed k) e = closed (path_in e k)
path_end_of endless e = endless

abbrev pub path_range_of : Range ℕ → List ℕ → List ℕ → Range Path
path_range_of r s e = record { start = path_in s r.start; end = path_end_of r.end e }

-- The paths that are lent with them: "a .. path passed beside kind 0 is not read".
abbrev pub end_paths : End ℕ → List ℕ → List LentPath
end_paths (closed k) e = (e, k) ∷ []
end_paths endless e = []

abbrev pub range_paths : Range ℕ → List ℕ → List ℕ → List LentPath
range_paths r s e = (s, r.start) ∷ end_paths r.end e

-- What an end and a range of paths that were tested stand for.
abbrev pub end_of_paths : RangeEnd tested.LentPath → End Path
end_of_paths d = end_by path_of (end_of d)

abbrev pub range_of_paths : code.Range tested.LentPath → Range Path
range_of_paths r = range_by path_of (range_of r)
