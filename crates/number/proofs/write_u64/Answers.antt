use mathlib.Core.Path.{◌∙◌, ap}
use Rattle.number.specs.Overwriting.{overwrite}
use Rattle.number.proofs.LibraryLaws.{bytes_written}
use Rattle.number.proofs.write_u64.Goals as goal

pub returns : goal.returns
returns c = let a = c.args in c.put.ensures ∙ ap (overwrite a.s.now a.at) (c.to_le_bytes.ensures ∙ bytes_written a.x)
