-- A path as it is lent: "a path is read as a lent buffer with a count beside it; the count may be below the one in the buffer".
use Rattle.std.specs.Prelude.{ℕ, min, List, take}
use Rattle.willow.specs.declared.Limits.{Limits}
use Rattle.willow.specs.Packed.{Lent}
use Rattle.willow.specs.Paths.{Path}

-- The count of a prefix: the smaller of the count asked for and the view's own, so that a prefix never lengthens.
abbrev pub prefix_count : ℕ → ℕ → ℕ
prefix_count k own = min k own

-- WHAT A PREFIX OF A VIEW IS: where a view lends a path, the view with the smaller count lends the first k components of that path,
-- and all of it where it has no more than k. Eight zero bytes with the count 0 lend the empty path.
abbrev pub ViewPrefix : Type 0
ViewPrefix = (L : Limits) (b : List ℕ) (own k : ℕ) (p : Path) → Lent L b own p → Lent L b (prefix_count k own) (take k p)
