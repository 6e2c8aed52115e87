-- The test of a table of accumulated lengths alone, whatever stands behind it: a packed path's, or a builder's that is not whole.
use Rattle.std.specs.Prelude.{ℕ, zero, suc, ◌+◌, ◌-◌, Bool, ◌&&◌, List, nat_le}
use Rattle.willow.specs.Numbers.{number_at}

-- COMPUTED. The r accumulated lengths from `at` on step up from `from` by at most mcl, and the last is at most `most`:
abbrev pub steps_within : ℕ → ℕ → List ℕ → ℕ → ℕ → ℕ → Bool
steps_within mcl most b zero at from = nat_le from most
steps_within mcl most b (suc r) at from =
    nat_le from (number_at b at) && (nat_le (number_at b at - from) mcl && steps_within mcl most b r (at + 8) (number_at b at))
