-- The struct and its state have the same numbers.
use Rattle.std.proofs.Common.{refl}
use Rattle.builder.specs.Calls.{StatesAgree}

pub states_agree : StatesAgree
states_agree = record { at_the_start = λ L length count appended. refl; after_an_append = λ s. refl }
