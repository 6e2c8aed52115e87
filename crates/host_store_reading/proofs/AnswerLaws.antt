-- An entry is answered by its count and its head.
use Rattle.std.proofs.Common.{◌≡◌, refl}
use Rattle.willow.specs.Entries.{Entry}
use Rattle.willow.specs.Refusals.{Outcome, refused, absent, value}
use Rattle.store_reading.specs.Held.{components_of, head_or, held_with}
use Rattle.host_store_reading.specs.ReadingExports.{given_entry, given_held}

pub entry_given : (o : Outcome Entry) → given_held (held_with (head_or o) (components_of o)) ≡ given_entry o
entry_given (refused r) = refl
entry_given absent = refl
entry_given (value e) = refl
