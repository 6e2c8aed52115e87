-- Entries as the code has them.
use Rattle.std.specs.Prelude.{ℕ}
use Rattle.willow.specs.Entries.{Entry}
use Rattle.willow.specs.Paths.{Path}
use Rattle.entry.specs.declared.Head.{Head}

-- The entry of a namespace, a head and a path.
abbrev pub entry_at : ℕ → Head → Path → Entry
entry_at n h p = record {
  namespace = n;
  subspace = h.subspace;
  path = p;
  timestamp = h.timestamp;
  payload_length = h.payload_length;
  digest = h.digest;
}
