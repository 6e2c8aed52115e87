-- What the builder's calls accept, said by what stands in the buffer and not by their tests. So no definition of a test can
-- let through what document 01 refuses.
use Rattle.std.specs.Prelude.{ℕ, ◌+◌, ◌≤◌, ◌<◌, ◌≡◌, ◌↔◌, List, [], ◌∷◌, ◌++◌, length, take}
use Rattle.std.proofs.Math.Option.{none}
use Rattle.willow.specs.declared.Limits.{Limits}
use Rattle.willow.specs.Limits.{Accepted}
use Rattle.willow.specs.Numbers.{Bytes}
use Rattle.willow.specs.Packed.{pack, Lent}
use Rattle.willow.specs.Paths.{Component, Path, path_length, Valid}
use Rattle.builder_law.specs.Building.{State, limits_of, declared_size, Holds, state_of, new_refusal, prefix_refusal, append_refusal, grown, grown_buffer, build_refusal}

-- Accepted limits, declared sizes within them, and a buffer that is long enough for the declared path.
pub record Declared (s : State) (out : List ℕ) : Type 0 where
  pub limits : Accepted (limits_of s)
  pub short : s.length ≤ s.mpl
  pub few : s.count ≤ s.mcc
  pub room : declared_size s ≤ length out

-- A prefix of n components of a lent reference, no more of them and of their bytes than declared.
pub record Begun (s : State) (b : List ℕ) (k n : ℕ) : Type 0 where
  pub reference : Path
  pub lent : Lent (limits_of s) b k reference
  pub there : n ≤ k
  pub few : n ≤ s.count
  pub short : path_length (take n reference) ≤ s.length

-- A component that goes behind what the buffer holds.
pub record Follows (s : State) (c : Component) (out : List ℕ) : Type 0 where
  pub held : Path
  pub holds : Holds s out held
  pub narrow : length c ≤ s.mcl
  pub few : length held < s.count
  pub short : path_length held + length c ≤ s.length

-- A whole path of the declared length and count, in its packed form at the front of the buffer.
pub record Whole (s : State) (out : List ℕ) : Type 0 where
  pub path : Path
  pub valid : Valid (limits_of s) path
  pub count : length path ≡ s.count
  pub bytes : path_length path ≡ s.length
  pub begins : take (length (pack path)) out ≡ pack path

-- Each call is not refused exactly if this is so; and behind an append the buffer holds the component with those before it.
-- The premises are that buffers hold bytes, as empty ones do.
pub record BuilderAcceptance : Type 0 where
  pub new_accepts : (L : Limits) (bytes count : ℕ) (out : List ℕ) → (new_refusal L bytes count out ≡ none) ↔ Declared (state_of L bytes count 0) out
  pub prefix_accepts : (L : Limits) (bytes count : ℕ) (b : List ℕ) (k n : ℕ) (out : List ℕ) → Bytes b
      → (prefix_refusal L bytes count b k n out ≡ none) ↔ (Declared (state_of L bytes count n) out × Begun (state_of L bytes count n) b k n)
  pub append_accepts : (s : State) (c : Component) (out : List ℕ) → Bytes out
      → (append_refusal s c out ≡ none) ↔ (Declared s out × Follows s c out)
  pub append_holds : (s : State) (c : Component) (out : List ℕ) (q : Path) → Bytes c → append_refusal s c out ≡ none → Holds s out q
      → Holds (grown s) (grown_buffer s c out) (q ++ (c ∷ []))
  pub build_accepts : (s : State) (out : List ℕ) → Bytes out
      → (build_refusal s out ≡ none) ↔ (Accepted (limits_of s) × (s.appended ≡ s.count) × Whole s out)
