-- The store without its bytes: its state, what an offer is answered, and the state that it leaves.
use Rattle.std.specs.Prelude.{ℕ, ◌+◌, ◌-◌, ◌≤◌, ◌≡◌, List, [], ◌∷◌, Bool, true, false, not, cond, eqb, ltb, length}
use Rattle.std.proofs.Math.Option.{Option, none, some}
use Rattle.willow.specs.declared.Limits.{Limits}
use Rattle.std.specs.declared.cmp.Ordering.{Ordering}
use Rattle.std.specs.declared.cmp.Ordering.TheVariants.{Less, Equal, Greater}
use Rattle.willow.specs.declared.Refusal.{Refusal}
use Rattle.willow.specs.declared.Refusal.TheVariants.{WrongNamespace, BadPath, TotalFull, NoRoom}
use Rattle.willow.specs.Entries.{Entry, digest_length, prunes, same_entry, compare_places}
use Rattle.willow.specs.Limits.{max_word}
use Rattle.willow.specs.Lists.{any, filter}
use Rattle.willow.specs.Numbers.{Bytes}
use Rattle.willow.specs.Packed.{lent}
use Rattle.willow.specs.Paths.{Path}

-- What a store was made with: the limits of its paths, its capacity N, and its namespace.
pub record Sizes : Type 0 where
  pub limits : Limits
  pub capacity : ℕ
  pub namespace : ℕ

-- What a store holds: its entries, and the two totals "held bytes" and "let-go bytes".
pub record State : Type 0 where
  pub entries : List Entry
  pub held : ℕ
  pub let_go : ℕ

-- "A fresh store has n and both totals zero."
abbrev pub fresh : State
fresh = record { entries = []; held = 0; let_go = 0 }

-- What an offer is passed: a namespace, the head of an entry, and a path lent as a buffer with a count.
pub record Offer : Type 0 where
  pub namespace : ℕ
  pub subspace : ℕ
  pub timestamp : ℕ
  pub payload_length : ℕ
  pub digest : List ℕ
  pub buffer : List ℕ
  pub count : ℕ

-- What the types of these arguments say.
pub record Passed (o : Offer) : Type 0 where
  pub namespace_word : o.namespace ≤ max_word
  pub subspace_word : o.subspace ≤ max_word
  pub timestamp_word : o.timestamp ≤ max_word
  pub payload_word : o.payload_length ≤ max_word
  pub digest_size : length o.digest ≡ digest_length
  pub digest_bytes : Bytes o.digest
  pub buffer_bytes : Bytes o.buffer

-- A call that may change a store.
pub data Call : Type 0 where
  offer : Offer → Call

-- "Offering answers outdated if a held entry prunes the offer, repeat if one equals it in every field, else taken, with how
-- many it pruned"; or it is refused.
pub data Answer : Type 0 where
  refused : Refusal → Answer
  outdated : Answer
  repeated : Answer
  taken : ℕ → Answer

abbrev pub is_refused : Answer → Bool
is_refused (refused r) = true
is_refused outdated = false
is_refused repeated = false
is_refused (taken k) = false

-- The entry that an offer makes with the path p, and the one that it makes with what its buffer holds, if that is a path.
abbrev pub entry_with : Offer → Path → Entry
entry_with o p = record {
  namespace = o.namespace;
  subspace = o.subspace;
  path = p;
  timestamp = o.timestamp;
  payload_length = o.payload_length;
  digest = o.digest;
}

abbrev pub entry_from : Offer → Option Path → Option Entry
entry_from o none = none
entry_from o (some p) = some (entry_with o p)

unfoldable pub offered : Sizes → Offer → Option Entry
offered z o = entry_from o (lent z.limits o.buffer o.count)

-- Payload bytes "are the payload lengths, added up as whole numbers".
abbrev pub payloads : List Entry → ℕ
payloads [] = 0
payloads (e ∷ es) = e.payload_length + payloads es

-- The entries that e prunes, and those that it leaves.
abbrev pub pruned_by : Entry → List Entry → List Entry
pruned_by e l = filter (λ h. prunes e h) l

abbrev pub left_by : Entry → List Entry → List Entry
left_by e l = filter (λ h. not (prunes e h)) l

-- e put at its place into a list that ascends by place; what stood at that place goes.
abbrev pub put_before : Ordering → Entry → Entry → List Entry → List Entry → List Entry
put_before Less e x xs rest = e ∷ (x ∷ xs)
put_before Equal e x xs rest = e ∷ xs
put_before Greater e x xs rest = x ∷ rest

abbrev pub file : Entry → List Entry → List Entry
file e [] = e ∷ []
file e (x ∷ xs) = put_before (compare_places e x) e x xs (file e xs)

-- THE ANSWER to an entry of the store's namespace, by its tests in their order: refusal 13, outdated, repeat, refusal 14.
abbrev pub answer_by : Bool → Bool → Bool → Bool → ℕ → Answer
answer_by full out same crowded k =
    cond full (refused TotalFull) (cond out outdated (cond same repeated (cond crowded (refused NoRoom) (taken k))))

unfoldable pub answer_entry : Sizes → State → Entry → Answer
answer_entry z s e = answer_by
    (ltb max_word (s.held + s.let_go + e.payload_length))
    (any (λ h. prunes h e) s.entries)
    (any (λ h. same_entry h e) s.entries)
    (eqb (length (left_by e s.entries)) z.capacity)
    (length (pruned_by e s.entries))

abbrev pub answer_offered : Sizes → State → Option Entry → Answer
answer_offered z s none = refused BadPath
answer_offered z s (some e) = answer_entry z s e

-- THE ANSWER to a call: refusal 4, then 5, then the answer to the entry.
unfoldable pub answer : Sizes → State → Call → Answer
answer z s (offer o) = cond (eqb o.namespace z.namespace) (answer_offered z s (offered z o)) (refused WrongNamespace)

-- THE STATE AFTERWARDS. "The payload bytes of an outdated offer, of a repeat and of each pruned entry go to let-go."
abbrev pub after_answer : State → Entry → Answer → State
after_answer s e (refused r) = s
after_answer s e outdated = record { entries = s.entries; held = s.held; let_go = s.let_go + e.payload_length }
after_answer s e repeated = record { entries = s.entries; held = s.held; let_go = s.let_go + e.payload_length }
after_answer s e (taken k) = record {
  entries = file e (left_by e s.entries);
  held = s.held + e.payload_length - payloads (pruned_by e s.entries);
  let_go = s.let_go + payloads (pruned_by e s.entries);
}

abbrev pub after_offered : State → Option Entry → Answer → State
after_offered s none a = s
after_offered s (some e) a = after_answer s e a

unfoldable pub after : Sizes → State → Call → State
after z s (offer o) = after_offered s (offered z o) (answer z s (offer o))

-- A list of calls, "each given the sheet as the one before left it": the state at its end, and the answers.
abbrev pub run : Sizes → State → List Call → State
run z s [] = s
run z s (c ∷ cs) = run z (after z s c) cs

abbrev pub answers : Sizes → State → List Call → List Answer
answers z s [] = []
answers z s (c ∷ cs) = answer z s c ∷ answers z (after z s c) cs
