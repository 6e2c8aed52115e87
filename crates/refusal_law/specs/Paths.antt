-- WHICH NUMBER A CALL ON PATHS IS REFUSED WITH: a line for each call, and its table. What is answered is the right side of the call's
-- own contract (its `ensures`), of which `refusal_of` takes the refusal; the tables are lists of the rows that
-- tables/specs/TableRows.antt names.
--
-- The calls of `path_view` have the right sides of those on lent paths: `tested` that of `test`, `component` that of `component`,
-- `compare` and `compare_lent` that of `compare`, `is_prefix_of` that of `is_prefix_of`. So have the exports of all these calls, and those
-- of the calls that write, inside of `given` or `refusal_status`.
use Rattle.std.specs.Prelude.{ℕ, ◌≡◌, List, [], ◌∷◌}
use Rattle.std.proofs.Math.Option.{none}
use Rattle.willow.specs.declared.Limits.{Limits}
use Rattle.willow.specs.declared.Refusal.TheVariants.{BadLimits, BadPath}
use Rattle.willow.specs.Answers.{path_refusal, paths_refusal, on_path, on_paths, written_length, packed_outcome}
use Rattle.willow.specs.LeastPaths.{greatest}
use Rattle.willow.specs.Numbers.{Bytes}
use Rattle.willow.specs.Packed.{pack, Lent}
use Rattle.willow.specs.Paths.{Component, Path}
use Rattle.willow.specs.Refusals.{Outcome, refused, value}
use Rattle.willow.specs.Limits.{Accepted}
use Rattle.tables.specs.TableRows.{LentPath, LimitsOver, NoneLent, bad_limits, component_too_long, out_too_small, lent_rows, lent_written_rows}
use Rattle.tables.specs.Tables.{AnsweredBy, refusal_of}
use Rattle.lent_path.specs.LentTests.{component_refusal}
use Rattle.path_bounds.specs.LentPaths.{on_lent}
use Rattle.reading.specs.Reading.{count_of, emptiness_of, length_of, prefix_length_of, prefix_count_of, component_of, component_length_of}
use Rattle.relation.specs.Relation.{order_of, equality_of, prefix_test_of, prefixed_test_of, relatedness_of, common_count_of}
use Rattle.writing.specs.Writing.{prefix_of, common_prefix_of}
use Rattle.construction.specs.Making.{under_limits}
use Rattle.least.specs.Places.{next_greater_of, successor_of}
use Rattle.greatest.specs.Greatest.{greatest_outcome}

-- QUESTIONS. f on one lent path, and on two: 1 and 5.
abbrev pub AskedOfOne : {A : Type 0} → Limits → (Path → Outcome A) → Type 0
AskedOfOne L f = (b : List ℕ) (k : ℕ) → Bytes b → AnsweredBy (lent_rows L ((b, k) ∷ [])) (refusal_of (on_path L b k f))

abbrev pub AskedOfTwo : {A : Type 0} → Limits → (Path → Path → Outcome A) → Type 0
AskedOfTwo L f =
    (a : List ℕ) (j : ℕ) (b : List ℕ) (k : ℕ) → Bytes a → Bytes b
    → AnsweredBy (lent_rows L ((a, j) ∷ (b, k) ∷ [])) (refusal_of (on_paths L a j b k f))

-- ANSWERS THAT ARE WRITTEN: 15 too. The bytes to be answered are those that f says of the paths that are lent.
abbrev pub SaidOfOne : Limits → List ℕ → ℕ → (Path → Outcome (List ℕ)) → List ℕ → Type 0
SaidOfOne L b k f v = (p : Path) × Lent L b k p × (f p ≡ value v)

abbrev pub SaidOfTwo : Limits → List ℕ → ℕ → List ℕ → ℕ → (Path → Path → Outcome (List ℕ)) → List ℕ → Type 0
SaidOfTwo L a j b k f v = (p : Path) × (q : Path) × Lent L a j p × Lent L b k q × (f p q ≡ value v)

-- Bytes, written as they are; and a path, written in its packed form: of one lent path,
abbrev pub WrittenOfOne : Limits → (Path → Outcome (List ℕ)) → Type 0
WrittenOfOne L f =
    (b : List ℕ) (k : ℕ) (out : List ℕ) → Bytes b
    → AnsweredBy (lent_written_rows L ((b, k) ∷ []) (SaidOfOne L b k f) out) (refusal_of (written_length (on_path L b k f) out))

abbrev pub PackedOfOne : Limits → (Path → Outcome Path) → Type 0
PackedOfOne L f =
    (b : List ℕ) (k : ℕ) (out : List ℕ) → Bytes b
    → AnsweredBy (lent_written_rows L ((b, k) ∷ []) (SaidOfOne L b k (λ p. packed_outcome (f p))) out)
    (refusal_of (written_length (packed_outcome (on_path L b k f)) out))

-- of two,
abbrev pub PackedOfTwo : Limits → (Path → Path → Outcome Path) → Type 0
PackedOfTwo L f =
    (a : List ℕ) (j : ℕ) (b : List ℕ) (k : ℕ) (out : List ℕ) → Bytes a → Bytes b
    → AnsweredBy (lent_written_rows L ((a, j) ∷ (b, k) ∷ []) (SaidOfTwo L a j b k (λ p q. packed_outcome (f p q))) out)
    (refusal_of (written_length (packed_outcome (on_paths L a j b k f)) out))

-- and of none: a path that the limits alone determine. 1 and 15.
abbrev pub PackedOfNone : Limits → Path → Type 0
PackedOfNone L p =
    (out : List ℕ)
    → AnsweredBy (bad_limits L ∷ out_too_small (λ v. v ≡ pack p) out ∷ []) (refusal_of (written_length (packed_outcome (under_limits L (value p))) out))

-- 1 whatever is lent, of bytes or not; and 5 of the first of two paths, whatever the second is.
pub record LimitsFirst : Type 1 where
  pub one_limits : {A : Type 0} (L : Limits) (b : List ℕ) (k : ℕ) (f : Path → Outcome A) → LimitsOver L → on_path L b k f ≡ refused BadLimits
  pub two_limits : {A : Type 0} (L : Limits) (a : List ℕ) (j : ℕ) (b : List ℕ) (k : ℕ) (f : Path → Path → Outcome A) → LimitsOver L
      → on_paths L a j b k f ≡ refused BadLimits
  pub lent_limits : {A : Type 0} (L : Limits) (ps : List LentPath) (o : Outcome A) → LimitsOver L → on_lent L ps o ≡ refused BadLimits
  pub two_first : {A : Type 0} (L : Limits) (a : List ℕ) (j : ℕ) (b : List ℕ) (k : ℕ) (f : Path → Path → Outcome A) → Bytes a → Accepted L
      → NoneLent L (a, j) → on_paths L a j b k f ≡ refused BadPath

-- THE LAWS, for each question that refuses nothing by itself, and THE CALLS. The premises are that lent buffers hold bytes: limits of
-- 0 and empty buffers meet them all, and `count_of` refuses nothing.
pub record PathTables : Type 1 where
  pub one_asked : {A : Type 0} (f : Path → Outcome A) → ((p : Path) → refusal_of (f p) ≡ none) → (L : Limits) → AskedOfOne L f
  pub two_asked : {A : Type 0} (f : Path → Path → Outcome A) → ((p q : Path) → refusal_of (f p q) ≡ none) → (L : Limits) → AskedOfTwo L f
  pub one_written : (f : Path → Outcome (List ℕ)) → ((p : Path) → refusal_of (f p) ≡ none) → (L : Limits) → WrittenOfOne L f
  pub one_packed : (f : Path → Outcome Path) → ((p : Path) → refusal_of (f p) ≡ none) → (L : Limits) → PackedOfOne L f
  pub two_packed : (f : Path → Path → Outcome Path) → ((p q : Path) → refusal_of (f p q) ≡ none) → (L : Limits) → PackedOfTwo L f
  pub none_packed : (L : Limits) (p : Path) → PackedOfNone L p
  -- lent_path
  pub test : (L : Limits) (b : List ℕ) (k : ℕ) → Bytes b → AnsweredBy (lent_rows L ((b, k) ∷ [])) (path_refusal L b k)
  pub test_two : (L : Limits) (a : List ℕ) (j : ℕ) (b : List ℕ) (k : ℕ) → Bytes a → Bytes b
      → AnsweredBy (lent_rows L ((a, j) ∷ (b, k) ∷ [])) (paths_refusal L a j b k)
  pub test_component : (L : Limits) (c : Component) → AnsweredBy (bad_limits L ∷ component_too_long L (λ d. d ≡ c) ∷ []) (component_refusal L c)
  -- reading; the answer of `component` is a part, empty where there is none
  pub component_count : (L : Limits) → AskedOfOne L count_of
  pub is_empty : (L : Limits) → AskedOfOne L emptiness_of
  pub path_length_lem : (L : Limits) → AskedOfOne L length_of
  pub path_length_of_prefix : (L : Limits) (n : ℕ) → AskedOfOne L (prefix_length_of n)
  pub create_prefix : (L : Limits) (n : ℕ) → AskedOfOne L (prefix_count_of n)
  pub component_length : (L : Limits) (i : ℕ) → AskedOfOne L (component_length_of i)
  pub component : (L : Limits) (i : ℕ) → AskedOfOne L (component_of i)
  -- relation
  pub compare : (L : Limits) → AskedOfTwo L order_of
  pub equal : (L : Limits) → AskedOfTwo L equality_of
  pub is_prefix_of_lem : (L : Limits) → AskedOfTwo L prefix_test_of
  pub is_prefixed_by : (L : Limits) → AskedOfTwo L prefixed_test_of
  pub is_related_lem : (L : Limits) → AskedOfTwo L relatedness_of
  pub longest_common_prefix : (L : Limits) → AskedOfTwo L common_count_of
  -- written: 15 alone
  pub write_part : (part out : List ℕ) → AnsweredBy (out_too_small (λ v. v ≡ part) out ∷ []) (refusal_of (written_length (value part) out))
  -- writing
  pub write_component : (L : Limits) (i : ℕ) → WrittenOfOne L (component_of i)
  pub write_prefix : (L : Limits) (n : ℕ) → PackedOfOne L (prefix_of n)
  pub write_longest_common_prefix : (L : Limits) → PackedOfTwo L common_prefix_of
  -- least
  pub greater_but_not_prefixed : (L : Limits) → PackedOfOne L (next_greater_of L)
  pub successor : (L : Limits) → PackedOfOne L (successor_of L)
  pub singleton_range_lem : (L : Limits) → PackedOfOne L (successor_of L)
  -- greatest
  pub new_max : (L : Limits) (out : List ℕ)
      → AnsweredBy (bad_limits L ∷ out_too_small (λ v. v ≡ pack (greatest L)) out ∷ []) (refusal_of (written_length (packed_outcome (greatest_outcome L)) out))
