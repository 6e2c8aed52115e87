-- What is known of a path whose test passed: a question on it is the question on the path in the buffer, it has as many components as
-- counted, and a prefix of it is read with the smaller count.
use Prim.Native.Nat.{ℕ, ◌≤◌}
use mathlib.Core.Path.{◌≡◌}
use mathlib.Core.List.{List}
use mathlib.Core.Option.{none}
use native.Mathlib.Omega.{arith}
use lib.ListN.{length, take}
use lib.Seq.{take-take}
use Rattle.willow.specs.declared.Limits.{Limits}
use Rattle.willow.specs.Answers.{path_in, path_refusal, on_path}
use Rattle.willow.specs.Packed.{unpack}
use Rattle.willow.specs.Paths.{Path}
use Rattle.willow.specs.Refusals.{Outcome}
use Rattle.packed.specs.Readable.{Readable}
use Rattle.packed.proofs.PrefixLaws.{front}
use Rattle.lent_path.proofs.TestLaws.{readable}

pub prefix_in : (b : List ℕ) (k n : ℕ) → n ≤ k → take n (path_in b k) ≡ path_in b n
unfolding path_in
prefix_in b k n h = take-take n k (unpack b) h

pub readable_prefix : (b : List ℕ) (k n : ℕ) → Readable b k → n ≤ k → Readable b n
readable_prefix b k n r h = record { packed = r.packed; within = let w = r.within in omega arith }

module _ (L : Limits) (b : List ℕ) (k : ℕ) (fine : path_refusal L b k ≡ none) where
  pub asked : {A : Type 0} (f : Path → Outcome A) → f (path_in b k) ≡ on_path L b k f
  unfolding on_path
  asked f = rw fine

  pub counted : length (path_in b k) ≡ k
  counted = (front b k (readable L b k fine)).count
