-- Four writes, each behind the one before: together they fill the head.
use borrow.Author.Rules.{rules}
use Rattle.store_filing.proofs.PuttingLaws.{head_written}
use Rattle.store_filing.proofs.inner.write_head.Goals as goal

pub returns : goal.returns
returns c =
    head_written c.args.out.now _ _ _ _ c.args.head.now c.requires (search rules)
    c.write_u64.ensures c.write_u64-2.ensures c.write_u64-3.ensures c.put.ensures
