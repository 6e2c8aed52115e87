-- What passed the tests has room for the count and the zeros.
use Rattle.std.proofs.Common.{sym}
use Rattle.builder_law.proofs.CallLaws.{start_passed}
use Rattle.builder.proofs.Builder.new.Goals as goal

pub put_start-requires : goal.put_start-requires
put_start-requires c = let e = rw c.with-start.ensures at c.in_ok-start_test.ensures in start_passed _ _ _ _ (sym e)
