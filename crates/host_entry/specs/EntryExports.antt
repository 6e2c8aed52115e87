-- Entries as a host passes them: their numbers, a path, and the bytes of their digests.
use Rattle.std.specs.Prelude.{ℕ, List}
use Rattle.willow.specs.Entries.{Entry}
use Rattle.willow.specs.Paths.{Path}

-- Namespace, subspace, path, timestamp, payload length, digest.
abbrev pub entry_of : ℕ → ℕ → Path → ℕ → ℕ → List ℕ → Entry
entry_of n s p t l d = record {
  namespace = n;
  subspace = s;
  path = p;
  timestamp = t;
  payload_length = l;
  digest = d;
}
