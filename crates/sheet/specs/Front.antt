-- The front of both sheets: "MCL, MCC, MPL, N", then how many rows are in use, each a number of 8 bytes.
use Rattle.std.specs.Prelude.{ℕ, List}
use Rattle.willow.specs.declared.Limits.{Limits}
use Rattle.willow.specs.Numbers.{number_at}

-- The limits by their places, whatever the bytes are.
abbrev pub limits_in : List ℕ → Limits
limits_in s = record { mcl = number_at s 0; mcc = number_at s 8; mpl = number_at s 16 }
