-- What a read brings.
use Rattle.std.specs.Prelude.{List, [], Result, Ok, Err, ℕ, min, length, take}

-- The bytes that a read brought: as many at the front of its buffer as it answers, and none where it failed.
abbrev pub brought_in : {E : Type 0} → Result ℕ E → List ℕ → List ℕ
brought_in (Ok got) buffer = take (min got (length buffer)) buffer
brought_in (Err e) buffer = []
