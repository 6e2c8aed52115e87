-- What the builder's definitions mean, and whole runs of it.
use Rattle.std.specs.Prelude.{ℕ, ◌≤◌, ◌≡◌, ◌↔◌, List, [], ◌∷◌, ◌++◌, true, length, take, drop}
use Rattle.std.proofs.Math.Option.{none}
use Rattle.willow.specs.declared.Limits.{Limits}
use Rattle.willow.specs.Answers.{written_buffer, packed_outcome}
use Rattle.willow.specs.Construction.{Slices}
use Rattle.willow.specs.Limits.{Accepted, max_word}
use Rattle.willow.specs.Numbers.{Bytes}
use Rattle.willow.specs.Packed.{pack, Lent}
use Rattle.willow.specs.Paths.{Path, path_length, Valid}
use Rattle.construction.specs.Making.{slices_outcome}
use Rattle.builder_law.specs.Building.{State, declared_size, Holds, agrees, appended_path, state_of, new_refusal, new_buffer, prefix_refusal, prefix_buffer, append_refusal, grown, grown_buffer, build_refusal}

-- A state of 64-bit numbers, as every state that is passed.
pub record Words (s : State) : Type 0 where
  pub length_word : s.length ≤ max_word
  pub count_word : s.count ≤ max_word

-- A RUN: the components appended in order, none of them refused, lead from one state and buffer to another.
abbrev pub Runs : State → List ℕ → Path → State → List ℕ → Type 0
Runs s out [] t end = (t ≡ s) × (end ≡ out)
Runs s out (c ∷ cs) t end = (append_refusal s c out ≡ none) × Runs (grown s) (grown_buffer s c out) cs t end

-- A build that is not refused, with the packed form of p at the front of the buffer and all behind it as in `out`.
pub record Builds (p : Path) (out : List ℕ) (s : State) (end : List ℕ) : Type 0 where
  pub not_refused : build_refusal s end ≡ none
  pub size : declared_size s ≡ length (pack p)
  pub packed : end ≡ pack p ++ drop (length (pack p)) out

-- THE BUILDER'S THEOREM. A buffer of bytes that is long enough agrees with a state exactly if it holds some components as the
-- state says, and these are the ones that are read from it. And a valid path, declared by its length and count and built from
-- its components in order, from the start or from a prefix of a lent reference, is never refused in a buffer that it fits
-- into, and stands there in its packed form; `from_slices` leaves the same bytes. Premises are what types and acceptance say:
-- the limits 0 0 0, the empty path and a buffer of 8 bytes meet all of them.
pub record BuilderTheorem : Type 0 where
  pub agrees_means : (s : State) (out : List ℕ) → Words s → Bytes out → declared_size s ≤ length out
      → (agrees s out ≡ true) ↔ ((q : Path) × Holds s out q)
  pub holds_read : (s : State) (out : List ℕ) (q : Path) → Words s → Holds s out q → appended_path s out ≡ q
  pub built : (L : Limits) (p : Path) (out : List ℕ) → Accepted L → Valid L p → length (pack p) ≤ length out
      → (new_refusal L (path_length p) (length p) out ≡ none)
      × ((s : State) × (end : List ℕ)
      × Runs (state_of L (path_length p) (length p) 0) (new_buffer (length p) out) p s end × Builds p out s end)
  pub built_from_prefix : (L : Limits) (p : Path) (out : List ℕ) (b : List ℕ) (k n : ℕ) (r : Path) → Accepted L → Valid L p
      → length (pack p) ≤ length out → Bytes b → Lent L b k r → n ≤ k → n ≤ length p → take n r ≡ take n p
      → (prefix_refusal L (path_length p) (length p) b k n out ≡ none)
      × ((s : State) × (end : List ℕ)
      × Runs (state_of L (path_length p) (length p) n) (prefix_buffer (length p) b n out) (drop n p) s end × Builds p out s end)
  pub as_from_slices : (L : Limits) (p : Path) (out lengths bytes : List ℕ) → Accepted L → Valid L p → length (pack p) ≤ length out
      → Slices lengths bytes p
      → written_buffer (packed_outcome (slices_outcome L lengths bytes)) out ≡ pack p ++ drop (length (pack p)) out
