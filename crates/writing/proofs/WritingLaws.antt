-- What two paths have in common is a prefix of the first.
use Prim.Native.Nat.{◌≤◌}
use lib.ListN.{length}
use Rattle.willow.specs.Paths.{Path, common_count}
use Rattle.willow.proofs.PathLaws.{common_means}

pub common_within : (p q : Path) → common_count p q ≤ length p
common_within p q = (common_means p q).of_first
