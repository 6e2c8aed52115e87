-- The store's calls as the code has them: an offer's arguments, and what the cases of its answer mean.
use Rattle.std.specs.Prelude.{ℕ, List, Result, Ok, Err}
use Rattle.willow.specs.declared.Refusal.{Refusal}
use Rattle.willow.specs.Store.{Offer, Answer, refused, outdated, repeated, taken}
use Rattle.entry.specs.declared.Head.{Head}
use Rattle.store_answers.specs.declared.Offered.{Offered}
use Rattle.store_answers.specs.declared.Offered.TheVariants as offered

-- A namespace, a head by value, and a path as a buffer with a count.
abbrev pub offer_of : ℕ → Head → List ℕ → ℕ → Offer
offer_of n h b k = record {
  namespace = n;
  subspace = h.subspace;
  timestamp = h.timestamp;
  payload_length = h.payload_length;
  digest = h.digest;
  buffer = b;
  count = k;
}

abbrev pub answer_of : Result Offered Refusal → Answer
answer_of (Err r) = refused r
answer_of (Ok offered.Outdated) = outdated
answer_of (Ok offered.Repeat) = repeated
answer_of (Ok (offered.Taken k)) = taken k
