-- What a lent path stands for once it was tested.
use Rattle.std.specs.Ordering.{on}
use Rattle.std.specs.declared.cmp.Ordering.{Ordering}
use Rattle.willow.specs.Answers.{path_in}
use Rattle.willow.specs.Paths.{Path, compare_paths}
use Rattle.packed.specs.declared.lent.LentPath.{LentPath}

-- "A path is read as a lent buffer with a count beside it": the first components of the path in the buffer.
abbrev pub path_of : LentPath → Path
path_of p = path_in p.bytes.now p.count

-- The order of lent paths: that of the paths.
abbrev pub compare_lent : LentPath → LentPath → Ordering
compare_lent = on path_of compare_paths
