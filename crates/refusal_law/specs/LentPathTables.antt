-- WHAT THE TESTS OF ANY NUMBER OF LENT PATHS refuse: they are answered by the table, and what they refuse is refused, whatever would be
-- answered. (Where the limits are accepted and the paths are lent, the answer is given: `LentQuestions` of path_bounds.)
use Rattle.std.specs.Prelude.{◌≡◌, List}
use Rattle.std.proofs.Math.Option.{some}
use Rattle.willow.specs.declared.Limits.{Limits}
use Rattle.willow.specs.declared.Refusal.{Refusal}
use Rattle.willow.specs.Lists.{All}
use Rattle.willow.specs.Refusals.{Outcome, refused}
use Rattle.tables.specs.TableRows.{lent_rows}
use Rattle.tables.specs.Tables.{AnsweredBy}
use Rattle.path_bounds.specs.LentPaths.{LentPath, HoldsBytes, lent_paths_refusal, on_lent}

-- The premise is that the buffers hold bytes, as empty ones do.
pub record LentPathTables : Type 1 where
  pub tested : (L : Limits) (ps : List LentPath) → All HoldsBytes ps → AnsweredBy (lent_rows L ps) (lent_paths_refusal L ps)
  pub stopped : {A : Type 0} (L : Limits) (ps : List LentPath) (o : Outcome A) (r : Refusal)
      → lent_paths_refusal L ps ≡ some r → on_lent L ps o ≡ refused r
