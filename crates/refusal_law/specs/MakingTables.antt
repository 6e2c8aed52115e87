-- WHICH NUMBER A CALL THAT MAKES A PATH IS REFUSED WITH, as specs/Paths.antt has it for the others: what is answered is the right side of
-- the call's own contract, and the tables are lists of the rows that tables/specs/TableRows.antt names. The exports have the right side of
-- their call inside of `given`.
use Rattle.std.specs.Prelude.{ℕ, ◌≡◌, ◌↔◌, List, [], ◌∷◌, ◌++◌}
use Rattle.willow.specs.declared.Limits.{Limits}
use Rattle.willow.specs.Answers.{on_path, written_length, packed_outcome}
use Rattle.willow.specs.Construction.{Slices}
use Rattle.willow.specs.Limits.{Accepted}
use Rattle.willow.specs.Lists.{All}
use Rattle.willow.specs.Numbers.{Bytes}
use Rattle.willow.specs.Packed.{pack, Lent}
use Rattle.willow.specs.Paths.{Component, Path, path_length, Valid}
use Rattle.willow.specs.Refusals.{value}
use Rattle.tables.specs.TableRows.{bad_limits, bad_path, among, bad_lengths, path_too_long, too_many_components, component_too_long, part_of, out_too_small}
use Rattle.tables.specs.Tables.{Row, AnsweredBy, refusal_of}
use Rattle.construction.specs.Making.{slices_outcome, iter_outcome, empty_outcome, singleton_outcome, appended_of, slices_appended_of}

-- THE PATHS THAT ARE TO BE MADE. `from_slices`: the components that the lengths and bytes stand for (`Slices`). `new_from_iter`: the total
-- beside the lengths is their sum.
abbrev pub Summed : ℕ → List ℕ → List ℕ → Path → Type 0
Summed total lengths bytes p = (total ≡ path_length p) × Slices lengths bytes p

-- `new_empty` and `new_singleton`: the path of these components, and no other.
abbrev pub Only : Path → Path → Type 0
Only p q = q ≡ p

-- `append` and `append_slice`: the path that is lent, followed by the component, and by the components of the slices.
abbrev pub Appended : Limits → List ℕ → ℕ → Component → Path → Type 0
Appended L b k c q = (p : Path) × Lent L b k p × (q ≡ p ++ (c ∷ []))

abbrev pub SlicesAppended : Limits → List ℕ → ℕ → List ℕ → List ℕ → Path → Type 0
SlicesAppended L b k lengths bytes q = (p : Path) × (s : Path) × Lent L b k p × Slices lengths bytes s × (q ≡ p ++ s)

-- The bytes to be answered: the packed form of the path that is to be made.
abbrev pub PackedMade : (Path → Type 0) → List ℕ → Type 0
PackedMade Made v = (p : Path) × Made p × (v ≡ pack p)

-- THE ROWS of the path that is to be made: "refusals 7, 8, 9 in that order", and 15.
abbrev pub made_rows : Limits → (Path → Type 0) → List ℕ → List Row
made_rows L Made out =
    path_too_long L Made
    ∷ too_many_components L Made
    ∷ component_too_long L (part_of Made)
    ∷ out_too_small (PackedMade Made) out
    ∷ []

-- THE CALLS. The premises are that what is lent holds bytes, as empty buffers do.
pub record MakingTables : Type 0 where
  pub from_slices_lem : (L : Limits) (lengths bytes out : List ℕ) → Bytes lengths
      → AnsweredBy (bad_limits L ∷ bad_lengths (Slices lengths bytes) ∷ made_rows L (Slices lengths bytes) out)
      (refusal_of (written_length (packed_outcome (slices_outcome L lengths bytes)) out))
  pub new_from_iter : (L : Limits) (total : ℕ) (lengths bytes out : List ℕ) → Bytes lengths
      → AnsweredBy (bad_limits L ∷ bad_lengths (Summed total lengths bytes) ∷ made_rows L (Summed total lengths bytes) out)
      (refusal_of (written_length (packed_outcome (iter_outcome L total lengths bytes)) out))
  pub append : (L : Limits) (b : List ℕ) (k : ℕ) (c : Component) (out : List ℕ) → Bytes b
      → AnsweredBy (bad_limits L ∷ bad_path L (among ((b, k) ∷ [])) ∷ made_rows L (Appended L b k c) out)
      (refusal_of (written_length (packed_outcome (on_path L b k (appended_of L c))) out))
  pub append_slice_lem : (L : Limits) (b : List ℕ) (k : ℕ) (lengths bytes out : List ℕ) → Bytes b → Bytes lengths
      → AnsweredBy
      (bad_limits L
      ∷ bad_path L (among ((b, k) ∷ []))
      ∷ bad_lengths (Slices lengths bytes)
      ∷ made_rows L (SlicesAppended L b k lengths bytes) out)
      (refusal_of (written_length (packed_outcome (on_path L b k (slices_appended_of L lengths bytes))) out))
  pub new_empty : (L : Limits) (out : List ℕ)
      → AnsweredBy (bad_limits L ∷ out_too_small (PackedMade (Only [])) out ∷ []) (refusal_of (written_length (packed_outcome (empty_outcome L)) out))
  pub new_singleton : (L : Limits) (c : Component) (out : List ℕ)
      → AnsweredBy (bad_limits L ∷ made_rows L (Only (c ∷ [])) out) (refusal_of (written_length (packed_outcome (singleton_outcome L c)) out))

-- AND WHAT IS MADE: each call answers the path that it is to make, and no other, exactly where that one is valid; of a path p that is lent,
-- behind it. Premises as above.
pub record MakingAnswers : Type 0 where
  pub from_slices_lem : (L : Limits) (lengths bytes : List ℕ) (q : Path) → Bytes lengths → Bytes bytes
      → (slices_outcome L lengths bytes ≡ value q) ↔ (Accepted L × (Slices lengths bytes q × Valid L q))
  pub new_from_iter : (L : Limits) (total : ℕ) (lengths bytes : List ℕ) (q : Path) → Bytes lengths → Bytes bytes
      → (iter_outcome L total lengths bytes ≡ value q) ↔ (Accepted L × (Summed total lengths bytes q × Valid L q))
  pub new_empty : (L : Limits) (q : Path) → (empty_outcome L ≡ value q) ↔ (Accepted L × Only [] q)
  pub new_singleton : (L : Limits) (c : Component) (q : Path) → Bytes c
      → (singleton_outcome L c ≡ value q) ↔ (Accepted L × (Only (c ∷ []) q × Valid L q))
  pub append : (L : Limits) (c : Component) (p q : Path) → All Bytes p → Bytes c
      → (appended_of L c p ≡ value q) ↔ ((q ≡ p ++ (c ∷ [])) × Valid L q)
  pub append_slice_lem : (L : Limits) (lengths bytes : List ℕ) (p q : Path) → All Bytes p → Bytes lengths → Bytes bytes
      → (slices_appended_of L lengths bytes p ≡ value q) ↔ ((s : Path) × Slices lengths bytes s × (q ≡ p ++ s) × Valid L q)
