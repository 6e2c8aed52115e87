-- What the writing calls write: a prefix, and the longest common prefix. (A component is `component_of`.)
use Rattle.std.specs.Prelude.{ℕ, cond, leb, length, take}
use Rattle.willow.specs.Paths.{Path, common_prefix}
use Rattle.willow.specs.Refusals.{Outcome, absent, value}

-- None if there are fewer components.
abbrev pub prefix_of : ℕ → Path → Outcome Path
prefix_of n p = cond (leb n (length p)) (value (take n p)) absent

abbrev pub common_prefix_of : Path → Path → Outcome Path
common_prefix_of p q = value (common_prefix p q)
