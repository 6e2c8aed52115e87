-- What a path with slices behind it stands for, and what its admission gives.
use Rattle.std.specs.Prelude.{◌++◌, Result, Ok, Err}
use Rattle.willow.specs.declared.Refusal.{Refusal}
use Rattle.packed.specs.LentPaths.{path_of}
use Rattle.willow.specs.Construction.{cut, lengths_in}
use Rattle.willow.specs.Paths.{Path}
use Rattle.willow.specs.Refusals.{Outcome, refused, value}
use Rattle.extension.specs.declared.extended.Extended.{Extended}

abbrev pub whole_path : Extended → Path
whole_path x = path_of x.path ++ cut (lengths_in x.lengths.now) x.bytes.now

abbrev pub extended_outcome : Result Extended Refusal → Outcome Path
extended_outcome (Err r) = refused r
extended_outcome (Ok x) = value (whole_path x)
