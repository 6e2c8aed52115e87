-- How much of a line is held.
use Rattle.std.specs.Prelude.{ℕ, ◌≤◌, Option}
use Rattle.std.specs.Option.{ForSome}
use Rattle.keyform.specs.Wording.{max_line}

-- There are no more bytes than a line may have.
abbrev pub Within : Option ℕ → Type 0
Within held = ForSome held (λ n. n ≤ max_line)
