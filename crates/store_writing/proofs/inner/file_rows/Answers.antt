-- The rows closed up, and then the offer's put in.
use Rattle.entry.specs.LentEntries.{entry_of}
use Rattle.store_writing.proofs.FiledLaws.{rows_filed}
use Rattle.store_writing.proofs.inner.file_rows.Goals as goal

pub returns : goal.returns
returns c =
    let a = c.args in
    rows_filed a.sizes.limits a.sizes.capacity a.n a.at (entry_of a.offered.now) a.sheet.now _ _ _
    c.requires.rows_readable.0.room c.requires.rows_readable.0.count c.close_up-left.ensures.value c.close_up-left.ensures.s_after c.put_row.ensures
