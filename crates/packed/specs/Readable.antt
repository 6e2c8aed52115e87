-- What the functions on packed paths take for granted.
use Rattle.std.specs.Prelude.{ℕ, ◌≤◌, List}
use Rattle.willow.specs.Packed.{packed_count, Packed}

-- What an inner function may take for granted of a buffer with a count: it is packed, and has as many components.
pub record Readable (b : List ℕ) (k : ℕ) : Type 0 where
  pub packed : Packed b
  pub within : k ≤ packed_count b
