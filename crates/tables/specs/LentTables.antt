-- THE TESTS OF LENT PATHS are answered by their table, and what they refuse is refused, whatever is asked. (Else the question is asked of
-- the paths that are lent: `PathQuestions` of willow.)
use Rattle.std.specs.Prelude.{ℕ, ◌≡◌, List, [], ◌∷◌}
use Rattle.std.proofs.Math.Option.{some}
use Rattle.willow.specs.declared.Limits.{Limits}
use Rattle.willow.specs.declared.Refusal.{Refusal}
use Rattle.willow.specs.Answers.{path_refusal, paths_refusal, on_path, on_paths}
use Rattle.willow.specs.Numbers.{Bytes}
use Rattle.willow.specs.Paths.{Path}
use Rattle.willow.specs.Refusals.{Outcome, refused}
use Rattle.tables.specs.TableRows.{lent_rows}
use Rattle.tables.specs.Tables.{AnsweredBy}

-- The premise is that a buffer holds bytes, as an empty one does.
pub record LentTables : Type 1 where
  pub one_tested : (L : Limits) (b : List ℕ) (k : ℕ) → Bytes b → AnsweredBy (lent_rows L ((b, k) ∷ [])) (path_refusal L b k)
  pub one_refused : {A : Type 0} (L : Limits) (b : List ℕ) (k : ℕ) (f : Path → Outcome A) (r : Refusal)
      → path_refusal L b k ≡ some r → on_path L b k f ≡ refused r
  pub two_tested : (L : Limits) (a : List ℕ) (j : ℕ) (b : List ℕ) (k : ℕ) → Bytes a → Bytes b
      → AnsweredBy (lent_rows L ((a, j) ∷ (b, k) ∷ [])) (paths_refusal L a j b k)
  pub two_refused : {A : Type 0} (L : Limits) (a : List ℕ) (j : ℕ) (b : List ℕ) (k : ℕ) (f : Path → Path → Outcome A) (r : Refusal)
      → paths_refusal L a j b k ≡ some r → on_paths L a j b k f ≡ refused r
