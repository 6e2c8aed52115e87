-- Where a path is raised, and the path that comes of it.
use Rattle.std.specs.Prelude.{ℕ, ◌<◌, ◌≤◌, List, [], ◌∷◌, ◌++◌, length, take, get_or, IfSome}
use Rattle.std.specs.Prelude as code
use Rattle.std.proofs.Math.Option.{Option, none, some}
use Rattle.willow.specs.Paths.{Component, Path}
use Rattle.least_search.specs.declared.Place.{Place}

-- The first i components of p, and behind them a component of the first m bytes of component i with a tail.
unfoldable pub with_tail : Path → ℕ → ℕ → Component → Path
with_tail p i m tail = take i p ++ ((take m (get_or p i []) ++ tail) ∷ [])

-- The path that a place in p stands for: the component is cut after its bytes, and the last byte put behind them.
abbrev pub path_at : Path → Place → Path
path_at p s = with_tail p s.component s.bytes (s.last ∷ [])

-- The path that a place found in p stands for, if one was found.
abbrev pub placed : Path → code.Option Place → Option Path
placed p code.None = none
placed p (code.Some s) = some (path_at p s)

-- A place stands in the path: there is such a component, and it has as many bytes at least.
abbrev pub Within : Path → Place → Type 0
Within p s = (s.component < length p) × (s.bytes ≤ length (get_or p s.component []))

abbrev pub Found : Path → code.Option Place → Type 0
Found p o = IfSome o (Within p)
