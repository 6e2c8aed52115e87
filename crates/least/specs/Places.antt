-- What the calls answer: the least paths above a lent one, or none.
use Rattle.willow.specs.declared.Limits.{Limits}
use Rattle.willow.specs.LeastPaths.{next_greater, successor}
use Rattle.willow.specs.Paths.{Path}
use Rattle.willow.specs.Refusals.{Outcome}
use Rattle.least_writing.specs.Written.{path_or}

-- `greater_but_not_prefixed`, `successor` and the end of `singleton_range` (none where it is open), of a lent path.
abbrev pub next_greater_of : Limits → Path → Outcome Path
next_greater_of L p = path_or (next_greater L p)

abbrev pub successor_of : Limits → Path → Outcome Path
successor_of L p = path_or (successor L p)
