-- The tests of any number of lent paths: 1, then 5 of the paths.
use mathlib.Core.Path.{refl}
use mathlib.Core.List.{List, [], ◌∷◌}
use Rattle.willow.specs.declared.Limits.{Limits}
use Rattle.willow.specs.Limits.{Accepted}
use Rattle.willow.specs.Lists.{All}
use Rattle.willow.proofs.AnswerLaws.{limits_passed}
use Rattle.path_bounds.specs.LentPaths.{LentPath, HoldsBytes, any_bad_path, lent_paths_refusal, on_lent}
use Rattle.refusal_law.specs.LentPathTables.{LentPathTables}
use Rattle.tables.specs.TableRows.{bad_path, among, lent_rows}
use Rattle.tables.proofs.LentLaws.{limits_row, lent_more}
use Rattle.tables.proofs.Rows.{First, passes, no_row, behind, answered}

paths_row : (L : Limits) (ps : List LentPath) → All HoldsBytes ps → Accepted L → First (bad_path L (among ps) ∷ []) (any_bad_path L ps)
paths_row L [] h a = passes (λ n. n.1) (no_row refl)
paths_row L (p ∷ ps) h a = lent_more L p ps (any_bad_path L ps) a h.0 (paths_row L ps h.1 a)

pub paths_rows : (L : Limits) (ps : List LentPath) → All HoldsBytes ps → First (lent_rows L ps) (lent_paths_refusal L ps)
unfolding lent_paths_refusal
paths_rows L ps h = behind (limits_row L) (λ e p. paths_row L ps h (limits_passed L e))

pub lent_path_tables : LentPathTables
unfolding on_lent
lent_path_tables = record { tested = λ L ps h. answered refl (paths_rows L ps h); stopped = λ L ps o r e. rw e }
