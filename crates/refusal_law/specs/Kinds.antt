-- WHICH NUMBER A CALL THAT READS KINDS IS REFUSED WITH: 3, and 1 before it where limits are passed. What is answered is the right side of
-- the call's own contract, as in specs/Paths.antt.
use Rattle.std.specs.Prelude.{ℕ, [], ◌∷◌}
use Rattle.willow.specs.declared.Limits.{Limits}
use Rattle.willow.specs.Areas.{subspace_from}
use Rattle.willow.specs.Ranges.{end_from}
use Rattle.willow.specs.Refusals.{value}
use Rattle.tables.specs.TableRows.{bad_limits, bad_kind}
use Rattle.tables.specs.Tables.{AnsweredBy, refusal_of}
use Rattle.kinds.specs.Kinds.{of_kinds, on_kinds, both, range_from}
use Rattle.area_kinds.specs.AreaKinds.{area_from}
use Rattle.range_3d_kinds.specs.Range3dKinds.{parts3d_from}

-- THE CALLS. There are no premises.
pub record KindTables : Type 0 where
  -- kinds
  pub read_end : (kind n : ℕ) → AnsweredBy (bad_kind (kind ∷ []) ∷ []) (refusal_of (of_kinds (end_from kind n) value))
  pub read_range : (start kind n : ℕ) → AnsweredBy (bad_kind (kind ∷ []) ∷ []) (refusal_of (of_kinds (range_from start kind n) value))
  pub read_subspace : (kind n : ℕ) → AnsweredBy (bad_kind (kind ∷ []) ∷ []) (refusal_of (of_kinds (subspace_from kind n) value))
  -- area_kinds
  pub read_area : (L : Limits) (kind id count start end_kind end : ℕ)
      → AnsweredBy (bad_limits L ∷ bad_kind (kind ∷ end_kind ∷ []) ∷ []) (refusal_of (on_kinds L (area_from kind id count start end_kind end) value))
  pub read_areas : (L : Limits) (kind id count start end_kind end kind2 id2 count2 start2 endKind2 end2 : ℕ)
      → AnsweredBy (bad_limits L ∷ bad_kind (kind ∷ end_kind ∷ kind2 ∷ endKind2 ∷ []) ∷ [])
      (refusal_of (on_kinds L (both (area_from kind id count start end_kind end) (area_from kind2 id2 count2 start2 endKind2 end2)) value))
  -- path_kinds
  pub read_path_end : (L : Limits) (kind count : ℕ)
      → AnsweredBy (bad_limits L ∷ bad_kind (kind ∷ []) ∷ []) (refusal_of (on_kinds L (end_from kind count) value))
  pub read_path_range : (L : Limits) (start kind end : ℕ)
      → AnsweredBy (bad_limits L ∷ bad_kind (kind ∷ []) ∷ []) (refusal_of (on_kinds L (range_from start kind end) value))
  pub read_path_ranges : (L : Limits) (start kind end start2 kind2 end2 : ℕ)
      → AnsweredBy (bad_limits L ∷ bad_kind (kind ∷ kind2 ∷ []) ∷ [])
      (refusal_of (on_kinds L (both (range_from start kind end) (range_from start2 kind2 end2)) value))
  -- range_3d_kinds: subspaces, paths and times, each with a start, the kind of the end and the end
  pub read_range_3d : (L : Limits) (s sk e c pk d t tk u : ℕ)
      → AnsweredBy (bad_limits L ∷ bad_kind (sk ∷ pk ∷ tk ∷ []) ∷ []) (refusal_of (on_kinds L (parts3d_from s sk e c pk d t tk u) value))
  pub read_ranges_3d : (L : Limits) (s sk e c pk d t tk u s2 sk2 e2 c2 pk2 d2 t2 tk2 u2 : ℕ)
      → AnsweredBy (bad_limits L ∷ bad_kind (sk ∷ pk ∷ tk ∷ sk2 ∷ pk2 ∷ tk2 ∷ []) ∷ [])
      (refusal_of (on_kinds L (both (parts3d_from s sk e c pk d t tk u) (parts3d_from s2 sk2 e2 c2 pk2 d2 t2 tk2 u2)) value))
