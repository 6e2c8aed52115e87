-- What is read of a store towards a host: status first, and zeros unless there is an answer.
use Rattle.std.specs.Prelude.{ℕ, length, replicate}
use Rattle.willow.specs.Entries.{Entry}
use Rattle.willow.specs.Refusals.{refusal_number, Outcome, refused, absent, value}
use Rattle.convention.specs.Exports.{answered_status, none_status}
use Rattle.store_reading.specs.declared.HeldEntry.{HeldEntry}
use Rattle.store_reading.specs.declared.StoreNumbers.{StoreNumbers}
use Rattle.host_store_reading.specs.declared.StoreAnswer.{StoreAnswer}
use Rattle.host_store_reading.specs.declared.EntryAnswer.{EntryAnswer}

-- The numbers of a store.
abbrev pub store_answer : StoreNumbers → StoreAnswer
store_answer n = record {
  status = answered_status;
  mcl = n.limits.mcl;
  mcc = n.limits.mcc;
  mpl = n.limits.mpl;
  capacity = n.capacity;
  count = n.count;
  namespace = n.namespace;
  held = n.held;
  let_go = n.let_go;
}

abbrev pub no_store : ℕ → StoreAnswer
no_store status = record {
  status = status;
  mcl = 0;
  mcc = 0;
  mpl = 0;
  capacity = 0;
  count = 0;
  namespace = 0;
  held = 0;
  let_go = 0;
}

abbrev pub given_numbers : Outcome StoreNumbers → StoreAnswer
given_numbers (refused r) = no_store (refusal_number r)
given_numbers absent = no_store none_status
given_numbers (value n) = store_answer n

-- An entry but for its namespace, which is the store's, and its path, of which it has the count.
abbrev pub entry_answer : Entry → EntryAnswer
entry_answer e = record {
  status = answered_status;
  subspace = e.subspace;
  timestamp = e.timestamp;
  payload_length = e.payload_length;
  count = length e.path;
  digest = e.digest;
}

abbrev pub no_entry : ℕ → EntryAnswer
no_entry status = record {
  status = status;
  subspace = 0;
  timestamp = 0;
  payload_length = 0;
  count = 0;
  digest = replicate 32 0;
}

abbrev pub given_entry : Outcome Entry → EntryAnswer
given_entry (refused r) = no_entry (refusal_number r)
given_entry absent = no_entry none_status
given_entry (value e) = entry_answer e

-- The same from what the code answers of an entry: how many components its path has, and its head.
abbrev pub held_answer : HeldEntry → EntryAnswer
held_answer e = record {
  status = answered_status;
  subspace = e.head.subspace;
  timestamp = e.head.timestamp;
  payload_length = e.head.payload_length;
  count = e.count;
  digest = e.head.digest;
}

abbrev pub given_held : Outcome HeldEntry → EntryAnswer
given_held (refused r) = no_entry (refusal_number r)
given_held absent = no_entry none_status
given_held (value e) = held_answer e
