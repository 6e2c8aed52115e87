-- DEMAND 3's WORDS LEAVE NO CHOICE, and what is computed is what is meant.
use Rattle.std.specs.Prelude.{ℕ, ◌≡◌, List, []}
use Rattle.willow.specs.Demand3.{history, given, GivenBy}
use Rattle.willow.specs.Entries.{Entry}
use Rattle.willow.specs.Lists.{In}
use Rattle.willow.specs.Store.{Sizes, State, fresh, Call, run, answers}

-- For a history, and the bytes that had been let go before it, there is one state of which demand 3's words hold, so "what demand 3 gives"
-- is one thing.
abbrev pub OneGiven : Type 0
OneGiven = (base : ℕ) (h : List Entry) (s t : State) → GivenBy base h s → GivenBy base h t → s ≡ t

-- WHAT IS COMPUTED IS WHAT IS MEANT. Where a history is of one namespace, as a store's is, there is such a state, and it is the computed
-- one; and at the end of every list from a fresh store the state is the one computed from that history. The premise is met by the empty
-- history.
pub record Computed : Type 0 where
  pub state : (ns base : ℕ) (h : List Entry) → ((x : Entry) → In x h → x.namespace ≡ ns) → GivenBy base h (given base h)
  pub run_given : (z : Sizes) (cs : List Call) → run z fresh cs ≡ given 0 (history z [] cs (answers z fresh cs))
