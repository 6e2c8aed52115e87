-- What the functions that answer an input hold and write, in the words of crate `keyform`.
use Rattle.std.specs.Prelude.{ℕ, ◌+◌, ◌≤◌, List, [], ◌∷◌, ◌⊎◌, ◌≡◌, Option, None, Some, length, take}
use Rattle.number.specs.Overwriting.{overwrite}
use Rattle.keyform.specs.Answering.{max_answer, Held, kept, overlong, longer, held_after, printed_by}
use Rattle.keyinput.specs.declared.inner.Fed.{Fed}
use Rattle.keyinput.specs.declared.inner.Pending.{Pending}

-- What is held of a line: so many bytes of the buffer, or that it is too long.
abbrev pub held_as : List ℕ → Option ℕ → Held
held_as bytes None = overlong
held_as bytes (Some n) = kept (take n bytes)

abbrev pub held_in : Pending → Held
held_in p = held_as p.bytes p.held

-- What is held of a line when bytes of it have come, none of them its newline.
abbrev pub longer_by : Held → List ℕ → Held
longer_by h [] = h
longer_by h (b ∷ bs) = longer_by (longer h b) bs

-- What taking bytes has done: their answers are written from a place on, and what they leave of a line is held.
pub record Takes (h : Held) (taken out : List ℕ) (to : ℕ) (h' : Held) (place : ℕ) (out' : List ℕ) : Type 0 where
  pub holds : h' ≡ held_after h taken
  pub behind : place ≡ to + length (printed_by h taken)
  pub printed : out' ≡ overwrite out to (printed_by h taken)
  pub inside : place ≤ length out

-- What feeding a chunk has done: the same for the bytes of it that it says it took; and it stopped at the chunk's end, or where
-- another answer might not have fitted.
pub record Feeds (h : Held) (chunk out : List ℕ) (r : Fed) (h' : Held) (out' : List ℕ) : Type 0 where
  pub within : r.used ≤ length chunk
  pub taken : Takes h (take r.used chunk) out 0 h' r.written out'
  pub goes_on : (r.used ≡ length chunk) ⊎ (length out ≤ r.written + max_answer)
