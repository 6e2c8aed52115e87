-- What a lent entry stands for.
use Rattle.std.specs.Ordering.{on}
use Rattle.std.specs.declared.cmp.Ordering.{Ordering}
use Rattle.willow.specs.Entries.{Entry, compare_entries}
use Rattle.packed.specs.LentPaths.{path_of}
use Rattle.entry.specs.declared.LentEntry.{LentEntry}
use Rattle.entry.specs.Heads.{entry_at}

-- Its namespace, what its head has, and the path that is lent.
abbrev pub entry_of : LentEntry → Entry
entry_of e = entry_at e.namespace e.head (path_of e.path)

-- The order of lent entries: that of the entries.
abbrev pub compare_lent : LentEntry → LentEntry → Ordering
compare_lent = on entry_of compare_entries
