-- DEMAND 3, on states: what every list of calls to a fresh store leaves, and what each of them is answered.
use Rattle.std.specs.Prelude.{ℕ, ◌+◌, ◌-◌, ◌≤◌, ◌<◌, ◌≡◌, ◌⊎◌, ◌↔◌, List, [], ◌∷◌, ◌++◌, Bool, ◌||◌, not, cond, length}
use Rattle.std.proofs.Math.Option.{Option, none, some}
use Rattle.willow.specs.declared.Refusal.{Refusal}
use Rattle.willow.specs.declared.Refusal.TheVariants.{WrongNamespace, BadPath, TotalFull, NoRoom}
use Rattle.willow.specs.Entries.{Entry, Prunes, PlaceBelow, prunes, same_entry}
use Rattle.willow.specs.Limits.{max_word, Words}
use Rattle.willow.specs.Lists.{In, All, Ascending, Sum, Number, any, filter}
use Rattle.willow.specs.Packed.{Lent}
use Rattle.willow.specs.Paths.{Path}
use Rattle.willow.specs.Store.{Sizes, State, fresh, Offer, Passed, Call, offer, Answer, refused, outdated, repeated, taken, is_refused, entry_with, offered, payloads, file, run, answers}

-- THE HISTORY. "The history is the unrefused offers in list order, taken from what was passed to them." The entry of a call
-- that was answered so, behind a history:
abbrev pub with_entry : List Entry → Option Entry → List Entry
with_entry h none = h
with_entry h (some e) = h ++ (e ∷ [])

-- "An offer is refused exactly if it was answered with a refusal number."
abbrev pub grown : Sizes → List Entry → Call → Answer → List Entry
grown z h (offer o) a = cond (is_refused a) h (with_entry h (offered z o))

-- The history that grows from h on by calls and their answers.
abbrev pub history : Sizes → List Entry → List Call → List Answer → List Entry
history z h [] as' = h
history z h (c ∷ cs) [] = h
history z h (c ∷ cs) (a ∷ as') = history z (grown z h c a) cs as'

-- WHAT DEMAND 3 GIVES for a history, computed. Some entry of the history prunes e:
abbrev pub pruned : List Entry → Entry → Bool
pruned h e = any (λ o. prunes o e) h

abbrev pub file_all : List Entry → List Entry → List Entry
file_all l [] = l
file_all l (e ∷ es) = file_all (file e l) es

-- "The entries of the unrefused offers that no other such entry prunes, each one time, by subspace and then path."
unfoldable pub kept : List Entry → List Entry
kept h = file_all [] (filter (λ e. not (pruned h e)) h)

-- "The payload bytes of every unrefused offer that repeats an earlier unrefused one or is pruned by another, earlier or later,
-- each such offer counted once, even if both are true of it."
abbrev pub lost : List Entry → List Entry → List Entry → ℕ
lost h earlier [] = 0
lost h earlier (e ∷ es) = cond (pruned h e || any (λ o. same_entry o e) earlier) e.payload_length 0 + lost h (e ∷ earlier) es

-- The state that the history gives, if `base` bytes had been let go before it began.
unfoldable pub given : ℕ → List Entry → State
given base h = record { entries = kept h; held = payloads (kept h); let_go = base + lost h [] h }

-- WHAT DEMAND 3 MEANS. An entry of the history stays if none of the history prunes it.
abbrev pub Stays : List Entry → Entry → Type 0
Stays h e = In e h × ((o : Entry) → In o h → Prunes o e → ⊥)

-- An offer's payload is let go if it repeats an earlier one or another one prunes it.
abbrev pub Goes : List Entry → List Entry → Entry → Type 0
Goes h earlier e = In e earlier ⊎ ((o : Entry) × In o h × Prunes o e)

-- A state is the one that demand 3 gives for the history h, in the demand's own words.
pub record GivenBy (base : ℕ) (h : List Entry) (s : State) : Type 0 where
  -- "by subspace and then path", and so "each one time"
  pub ascending : Ascending PlaceBelow s.entries
  -- "holds exactly the entries of the unrefused offers that no other such entry prunes"
  pub entries : (e : Entry) → In e s.entries ↔ Stays h e
  -- "Held bytes = the payload bytes of these entries"
  pub held : s.held ≡ payloads s.entries
  -- "Let-go bytes = the payload bytes of every unrefused offer that repeats an earlier unrefused one or is pruned by another"
  pub let_go : (n : ℕ) × (s.let_go ≡ base + n) × Sum (λ e. e.payload_length) (Goes h) [] h n
  -- "Held + let-go = the payload bytes of all unrefused offers"
  pub whole : s.held + s.let_go ≡ base + payloads h

-- THE TABLE BY MEANING: what its rows ask of an offer o, or of the entry e that it makes, to a store of sizes z in the
-- state t. 4: "an offered entry's namespace is not the store's".
abbrev pub OtherNamespace : Sizes → Offer → Type 0
OtherNamespace z o = o.namespace ≡ z.namespace → ⊥

-- 5: "a lent packed path is not well formed", or its count is above the one in the buffer.
abbrev pub NoPath : Sizes → Offer → Type 0
NoPath z o = (p : Path) → Lent z.limits o.buffer o.count p → ⊥

-- Neither: the offer makes the entry e.
abbrev pub Makes : Sizes → Offer → Entry → Type 0
Makes z o e = (o.namespace ≡ z.namespace) × ((p : Path) × Lent z.limits o.buffer o.count p × (e ≡ entry_with o p))

-- 13: "held bytes plus let-go bytes plus the offered payload length pass 2^64 − 1".
abbrev pub Full : State → Entry → Type 0
Full t e = max_word < t.held + t.let_go + e.payload_length

-- "Outdated if a held entry prunes the offer."
abbrev pub Outdated : State → Entry → Type 0
Outdated t e = (h : Entry) × In h t.entries × Prunes h e

-- "Repeat if one equals it in every field."
abbrev pub Repeat : State → Entry → Type 0
Repeat t e = In e t.entries

-- 14: "held, less the entries that the offer prunes, is N".
abbrev pub Crowded : Sizes → State → Entry → Type 0
Crowded z t e = (k : ℕ) × Number (Prunes e) t.entries k × (length t.entries - k ≡ z.capacity)

-- THE HISTORY BY MEANING. "Taken from what was passed to them: namespace, subspace, path by its components, timestamp, payload
-- length, digest. These make an offer's entry." What an offer that was answered so adds to it: its entry, unless it was refused.
abbrev pub AddsItsEntry : Sizes → Offer → List Entry → Type 0
AddsItsEntry z o new = (e : Entry) × Makes z o e × (new ≡ e ∷ [])

abbrev pub Adds : Sizes → Call → Answer → List Entry → Type 0
Adds z (offer o) (refused r) new = new ≡ []
Adds z (offer o) outdated new = AddsItsEntry z o new
Adds z (offer o) repeated new = AddsItsEntry z o new
Adds z (offer o) (taken k) new = AddsItsEntry z o new

-- "The unrefused offers in list order": calls with their answers lead from a history to a history.
abbrev pub HistoryOf : Sizes → List Entry → List Call → List Answer → List Entry → Type 0
HistoryOf z h [] [] last = last ≡ h
HistoryOf z h [] (a ∷ as') last = ⊥
HistoryOf z h (c ∷ cs) [] last = ⊥
HistoryOf z h (c ∷ cs) (a ∷ as') last = (new : List Entry) × Adds z c a new × HistoryOf z (h ++ new) cs as' last

-- Each answer is given exactly if its own row's condition holds and none that is tested before it, and no other is given.
pub record ByTable (z : Sizes) (t : State) (o : Offer) (a : Answer) : Type 0 where
  pub wrong_namespace_lem : (a ≡ refused WrongNamespace) ↔ OtherNamespace z o
  pub bad_path_lem : (a ≡ refused BadPath) ↔ ((o.namespace ≡ z.namespace) × NoPath z o)
  pub total-full : (a ≡ refused TotalFull) ↔ ((e : Entry) × Makes z o e × Full t e)
  pub is-outdated : (a ≡ outdated) ↔ ((e : Entry) × Makes z o e × (Full t e → ⊥) × Outdated t e)
  pub is-repeat : (a ≡ repeated) ↔ ((e : Entry) × Makes z o e × (Full t e → ⊥) × (Outdated t e → ⊥) × Repeat t e)
  pub no_room_lem : (a ≡ refused NoRoom)
      ↔ ((e : Entry) × Makes z o e × (Full t e → ⊥) × (Outdated t e → ⊥) × (Repeat t e → ⊥) × Crowded z t e)
  pub is-taken : (k : ℕ) → (a ≡ taken k)
      ↔ ((e : Entry) × Makes z o e × (Full t e → ⊥) × (Outdated t e → ⊥) × (Repeat t e → ⊥) × (Crowded z t e → ⊥) × Number (Prunes e) t.entries k)
  pub no_other : (r : Refusal) → a ≡ refused r
      → (r ≡ WrongNamespace) ⊎ ((r ≡ BadPath) ⊎ ((r ≡ TotalFull) ⊎ (r ≡ NoRoom)))

-- The answers are those of the table, each "for the entries and totals that demand 3 gives just before it".
abbrev pub Answered : Sizes → ℕ → List Entry → List Call → List Answer → Type 0
Answered z base h [] [] = Unit {0}
Answered z base h [] (a ∷ as') = ⊥
Answered z base h (c ∷ cs) [] = ⊥
Answered z base h (offer o ∷ cs) (a ∷ as') =
    ByTable z (given base h) o a × Answered z base (grown z h (offer o) a) cs as'

-- What the types of the arguments of a call say.
abbrev pub CallPassed : Call → Type 0
CallPassed (offer o) = Passed o

-- The bounds of a sheet: "n (in both sheets at most N)", and "the two totals do not pass 2^64 − 1 together".
pub record Within (z : Sizes) (s : State) : Type 0 where
  pub count : length s.entries ≤ z.capacity
  pub totals : s.held + s.let_go ≤ max_word

-- THEOREM 9, on states. Calls are made one after the other, from the state s on, behind a history h before which `base` bytes
-- had been let go. Then, wherever the list of calls ends:
pub record Demand3 (z : Sizes) (base : ℕ) (h : List Entry) (s : State) (cs : List Call) : Type 0 where
  -- the state is the one that is computed from the history,
  pub state : run z s cs ≡ given base (history z h cs (answers z s cs))
  -- that history is what was passed to the unrefused offers,
  pub passed : HistoryOf z h cs (answers z s cs) (history z h cs (answers z s cs))
  -- each call was answered as the table says, for what demand 3 gives just before it,
  pub table : Answered z base h cs (answers z s cs)
  -- the state is the one of demand 3's words,
  pub means : GivenBy base (history z h cs (answers z s cs)) (run z s cs)
  -- and it is within the bounds of a sheet.
  pub within : Within z (run z s cs)

-- Demand 3: from a fresh store, with an empty history and nothing let go before it. Its premises are limits that are numbers of
-- 64 bits, as 0, and calls whose arguments are what their types say, as none at all.
abbrev pub Demand3OnStates : Type 0
Demand3OnStates = (z : Sizes) (cs : List Call) → Words z.limits → All CallPassed cs → Demand3 z 0 [] fresh cs
