-- What joins the search and the writing to the successor: the empty component goes behind the last, where there is room for one.
use Rattle.std.proofs.Common.{◌≡◌, ◌<◌, ◌≤◌, [], ◌∷◌, ◌++◌, length}
use borrow.Author.Tests.{lt-ltb, le-ltb}
use Rattle.willow.specs.declared.Limits.{Limits}
use Rattle.willow.specs.LeastPaths.{next_greater, successor}
use Rattle.willow.specs.Paths.{Path}
use Rattle.willow.specs.Refusals.{value}
use Rattle.least_writing.specs.Written.{path_or}

pub successor_room : (L : Limits) (p : Path) → length p < L.mcc → value (p ++ ([] ∷ [])) ≡ path_or (successor L p)
unfolding successor
successor_room L p h = rw (lt-ltb (length p) L.mcc h)

pub successor_full : (L : Limits) (p : Path) → L.mcc ≤ length p → path_or (next_greater L p) ≡ path_or (successor L p)
unfolding successor
successor_full L p h = rw (le-ltb (length p) L.mcc h)
