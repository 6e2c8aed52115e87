-- The fields that are read from the head of row i are those of the row's entry.
use Rattle.store_rows.proofs.RowEntryLaws.{head_entry}
use Rattle.store_rows.proofs.rows.StoreRows.head.Goals as goal

pub returns : goal.returns
returns c = head_entry _ _ _ _ _ c.args.self.readable c.requires _ c.head_bytes.ensures.part _ c.read_head.ensures
