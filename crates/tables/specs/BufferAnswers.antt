-- ANSWERS IN A LENT BUFFER: what it is that a call leaves there, whatever it answers.
use Rattle.std.specs.Prelude.{ℕ, ◌≤◌, ◌<◌, ◌≡◌, ◌↔◌, List, length, take, drop}
use Rattle.std.proofs.Math.Option.{Option, none, some}
use Rattle.willow.specs.declared.Refusal.{Refusal}
use Rattle.willow.specs.declared.Refusal.TheVariants.{OutTooSmall}
use Rattle.willow.specs.Answers.{written_length, written_buffer}
use Rattle.willow.specs.Refusals.{Outcome, refused, absent, value}
use Rattle.tables.specs.Tables.{refusal_of}

-- A call whose answer is o was lent the buffer `out`, gave this refusal or none, and left the buffer as `end`.
pub record InBuffer (o : Outcome (List ℕ)) (out : List ℕ) (given : Option Refusal) (end : List ℕ) : Type 0 where
  -- "15 OutTooSmall: the buffer for the answer is too short": exactly if there is an answer and the buffer is shorter
  pub too_small : (given ≡ some OutTooSmall) ↔ ((v : List ℕ) × (o ≡ value v) × (length out < length v))
  -- what is refused before that is refused
  pub refused_so : (r : Refusal) → o ≡ refused r → given ≡ some r
  -- "a refusal leaves all lent memory byte for byte as found", 15 too
  pub refused_kept : (r : Refusal) → given ≡ some r → end ≡ out
  -- none "is no refusal; it writes nothing and is given with a buffer of any length"
  pub none_kept : o ≡ absent → (given ≡ none) × (end ≡ out)
  -- else the answer stands at the front, and behind it what stood there
  pub written : (v : List ℕ) → o ≡ value v → length v ≤ length out
      → (given ≡ none) × (take (length v) end ≡ v) × (drop (length v) end ≡ drop (length v) out)

-- The two definitions that the contracts of such calls cite leave this, of every answer that is not itself refused with 15, as an
-- absent one; and the number that is answered is the length of what was written.
pub record BufferAnswers : Type 0 where
  pub left : (o : Outcome (List ℕ)) (out : List ℕ) → (o ≡ refused OutTooSmall → ⊥)
      → InBuffer o out (refusal_of (written_length o out)) (written_buffer o out)
  pub number : (o : Outcome (List ℕ)) (out : List ℕ) (n : ℕ)
      → (written_length o out ≡ value n) ↔ ((v : List ℕ) × (o ≡ value v) × (length v ≤ length out) × (n ≡ length v))
  pub none_given : (o : Outcome (List ℕ)) (out : List ℕ) → (written_length o out ≡ absent) ↔ (o ≡ absent)
