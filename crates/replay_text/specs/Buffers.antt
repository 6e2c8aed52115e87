-- What a buffer of a case holds.
use Rattle.std.specs.Prelude.{ℕ, List, take}
use Rattle.replay_text.specs.declared.inner.buffers.Buffer.{Buffer}

abbrev pub held_in : Buffer → List ℕ
held_in b = take b.len b.bytes
