-- How long a buffer of a case may be.
use Rattle.std.specs.Prelude.{ℕ}

abbrev pub max_buffer : ℕ
max_buffer = 1024
