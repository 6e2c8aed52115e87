-- The tests of lent paths, and the questions behind them: a question on paths whose test said `Fine` is the question on the
-- paths in the buffers, and else it is refused as the test was.
use Prim.Native.Nat.{ℕ, ◌<◌, ◌≤◌}
use mathlib.Core.Path.{◌≡◌, sym, ◌∙◌, ap}
use mathlib.Core.List.{List}
use mathlib.Core.Option.{none, some}
use mathlib.Core.Bool.{true, false}
use borrow.Author.Tests.{le-leb, lt-leb}
use Rattle.willow.specs.declared.Limits.{Limits}
use Rattle.willow.specs.declared.Refusal.{Refusal}
use Rattle.willow.specs.declared.Refusal.TheVariants.{BadPath}
use Rattle.std.specs.Prelude.{Result, Ok, Err, ⊤}
use Rattle.willow.specs.Answers.{refusal_of, lent_refusal, path_in, path_refusal, paths_refusal, on_path, on_paths}
use Rattle.willow.specs.Limits.{accepted_limits}
use Rattle.willow.specs.Packed.{packed_count, well_formed, lent}
use Rattle.willow.specs.Paths.{Path}
use Rattle.willow.specs.Refusals.{Outcome, refused}
use Rattle.willow.proofs.LimitLaws.{limit_laws}
use Rattle.willow.proofs.AnswerLaws.{accepted_words, path_passed, passed_packed}
use Rattle.packed.specs.Readable.{Readable}

-- A LENT PATH, way by way.
module _ (L : Limits) (b : List ℕ) (k : ℕ) where
  pub lent_malformed : well_formed L b ≡ false → lent_refusal L b k ≡ some BadPath
  unfolding lent_refusal lent
  lent_malformed h = rw h

  pub lent_over : well_formed L b ≡ true → packed_count b < k → lent_refusal L b k ≡ some BadPath
  unfolding lent_refusal lent
  lent_over h n = rw (h, lt-leb k (packed_count b) n)

  pub lent_fine : well_formed L b ≡ true → k ≤ packed_count b → lent_refusal L b k ≡ none
  unfolding lent_refusal lent
  lent_fine h n = rw (h, le-leb k (packed_count b) n)

  pub lent_readable : accepted_limits L ≡ true → well_formed L b ≡ true → k ≤ packed_count b → Readable b k
  lent_readable a h n = record { packed = passed_packed L b (accepted_words L ((limit_laws.limits_means L).0 a)) h; within = n }

-- WHAT FOLLOWS FROM A TEST. The buffers can be read, and have as many components as counted.
pub readable : (L : Limits) (b : List ℕ) (k : ℕ) → path_refusal L b k ≡ none → Readable b k
readable L b k e =
    let h = path_passed L b k e in
    record { packed = passed_packed L b (accepted_words L h.0) h.1.formed; within = h.1.within }

pub one_refused : {A : Type 0} (L : Limits) (b : List ℕ) (k : ℕ) (f : Path → Outcome A) (t : Result ⊤ Refusal) (r : Refusal) → refusal_of t ≡ path_refusal L b k
    → t ≡ Err r → refused r ≡ on_path L b k f
unfolding on_path
one_refused L b k f t r e h = let g : path_refusal L b k ≡ some r = sym e ∙ ap refusal_of h in rw g

module _ (L : Limits) (a : List ℕ) (j : ℕ) (b : List ℕ) (k : ℕ) where
  pub two_passed : (t : Result ⊤ Refusal) → refusal_of t ≡ paths_refusal L a j b k → t ≡ Ok _ → paths_refusal L a j b k ≡ none
  two_passed t e h = sym e ∙ ap refusal_of h

  pub two_refused : {A : Type 0} (f : Path → Path → Outcome A) (t : Result ⊤ Refusal) (r : Refusal) → refusal_of t ≡ paths_refusal L a j b k
      → t ≡ Err r → refused r ≡ on_paths L a j b k f
  unfolding on_paths
  two_refused f t r e h = let g : paths_refusal L a j b k ≡ some r = sym e ∙ ap refusal_of h in rw g

  pub two_asked : {A : Type 0} (f : Path → Path → Outcome A) → paths_refusal L a j b k ≡ none → f (path_in a j) (path_in b k) ≡ on_paths L a j b k f
  unfolding on_paths
  two_asked f h = rw h
