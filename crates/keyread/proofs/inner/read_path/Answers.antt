-- The empty path; of another text the check finds the definition's way.
use Rattle.std.proofs.Common.{[], refl, sym, arith}
use Rattle.number.proofs.OverwritingLaws.{overwrite_nil}
use Rattle.keyread.proofs.PieceLaws.{path_unit}
use Rattle.keyread.proofs.inner.read_path.Goals as goal

pub returns-in-40 : goal.returns-in-40
returns-in-40 c = ([], path_unit c.args.text.now (omega arith) (omega arith) (omega arith), sym (overwrite_nil _ 0), sym (overwrite_nil _ 0), refl, refl, omega arith, omega arith)
