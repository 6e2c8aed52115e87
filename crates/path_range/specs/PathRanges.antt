-- Ranges of paths. The questions on ranges are defined in `willow`, for the values of every order.
use Rattle.std.specs.Prelude.{[]}
use Rattle.willow.specs.Paths.{Path}
use Rattle.willow.specs.Ranges.{endless, Range}

-- The range of all paths.
abbrev pub full_paths : Range Path
full_paths = record { start = []; end = endless }
