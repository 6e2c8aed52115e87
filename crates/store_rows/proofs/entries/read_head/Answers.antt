-- Three numbers, and the bytes behind them to the end: the head has no more.
use mathlib.Core.Path.{◌∙◌}
use native.Mathlib.Omega.{arith}
use lib.ListN.{drop, length-drop}
use lib.Seq.{take_all}
use Rattle.store_rows.proofs.entries.read_head.Goals as goal

pub returns : goal.returns
returns c =
    let l = length-drop 24 c.args.head.now in
    let k = c.requires in
    let read = rw c.unwrap.ensures at c.try_into.ensures in
    (c.read_u64.ensures, c.read_u64-2.ensures, c.read_u64-3.ensures, read.1.same ∙ take_all 32 (drop 24 c.args.head.now) (omega arith))
