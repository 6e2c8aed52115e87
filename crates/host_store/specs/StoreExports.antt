-- What an offer is answered towards a host: status first, then which answer, then how many entries a taken offer pruned; zeros unless
-- there is an answer.
use Rattle.std.specs.Prelude.{ℕ}
use Rattle.willow.specs.Refusals.{refusal_number}
use Rattle.willow.specs.Store.{Answer, refused, outdated, repeated, taken}
use Rattle.convention.specs.Exports.{answered_status}
use Rattle.host_store.specs.declared.OfferAnswer.{OfferAnswer}

-- Taken is 0, outdated 1, repeat 2.
abbrev pub taken_number : ℕ
taken_number = 0

abbrev pub outdated_number : ℕ
outdated_number = 1

abbrev pub repeat_number : ℕ
repeat_number = 2

abbrev pub no_offer : ℕ → OfferAnswer
no_offer status = record { status = status; answer = 0; pruned = 0 }

abbrev pub given_offer : Answer → OfferAnswer
given_offer (refused r) = no_offer (refusal_number r)
given_offer outdated = record { status = answered_status; answer = outdated_number; pruned = 0 }
given_offer repeated = record { status = answered_status; answer = repeat_number; pruned = 0 }
given_offer (taken k) = record { status = answered_status; answer = taken_number; pruned = k }
