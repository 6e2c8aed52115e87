-- THE ROWS OF DOCUMENT 01'S TABLE, each named once, with its sentence. The table of a call is a list of such names and of nothing
-- else, each with what it is asked of, so that a condition that is slipped into one call's table shows. Those of limits, kinds, paths and buffers stand here; the
-- builder's, the map's and the store's stand in crate refusal_law and in Offers.antt, in the same way.
--
-- A row says when its number applies, and never that another one does not. Where its words need a thing that may not be there,
-- as the path that is to be made, it says that there is one, and what holds of it.
use Rattle.std.specs.Prelude.{ℕ, ◌<◌, ◌⊎◌, List, [], ◌∷◌, length}
use Rattle.willow.specs.declared.Limits.{Limits}
use Rattle.willow.specs.declared.Refusal.TheVariants.{BadLimits, BadKind, BadPath, BadLengths, PathTooLong, TooManyComponents, ComponentTooLong, OutTooSmall}
use Rattle.willow.specs.Kinds.{GoodKind}
use Rattle.willow.specs.Limits.{Accepted, max_capacity}
use Rattle.willow.specs.Lists.{In}
use Rattle.willow.specs.Packed.{Lent}
use Rattle.willow.specs.Paths.{Component, Path, path_length}
use Rattle.tables.specs.Tables.{Row, ◌when◌}

-- "1 BadLimits: passed as numbers: MCL over 1,024, MCC over 1,024, MPL over 4,096, or sheet capacity N over 4,096."
abbrev pub LimitsOver : Limits → Type 0
LimitsOver L = Accepted L → ⊥

abbrev pub bad_limits : Limits → Row
bad_limits L = BadLimits when LimitsOver L

-- .. where a capacity is passed too: of a fresh sheet.
abbrev pub bad_sizes : Limits → ℕ → Row
bad_sizes L N = BadLimits when (LimitsOver L ⊎ (max_capacity < N))

-- "3 BadKind: a kind number passed to a call is neither 0 nor 1": one of the kinds that are passed.
abbrev pub bad_kind : List ℕ → Row
bad_kind kinds = BadKind when ((kind : ℕ) × In kind kinds × (GoodKind kind → ⊥))

-- "5 BadPath: a lent packed path is not well formed." "A path is read as a lent buffer with a count beside it; the count may be
-- below the one in the buffer; above it, 5": `Reads x` says that x is a path that the call reads.
abbrev pub LentPath : Type 0
LentPath = List ℕ × ℕ

abbrev pub NoneLent : Limits → LentPath → Type 0
NoneLent L x = (p : Path) → Lent L x.0 x.1 p → ⊥

abbrev pub bad_path : Limits → (LentPath → Type 0) → Row
bad_path L Reads = BadPath when ((x : LentPath) × Reads x × NoneLent L x)

-- Those that are read whatever the other arguments are; and, where kinds are passed, those that go with what the kinds mean: "a
-- number or path passed beside kind 0 is not read".
abbrev pub among : List LentPath → LentPath → Type 0
among xs x = In x xs

abbrev pub read_with : {A : Type 0} → (A → Type 0) → (A → List LentPath) → LentPath → Type 0
read_with {A} Means paths x = (a : A) × Means a × In x (paths a)

-- "6 BadLengths: component lengths do not add up to the bytes lent with them": `Parts p` says that the lengths and the bytes stand
-- for the components p.
abbrev pub bad_lengths : (Path → Type 0) → Row
bad_lengths Parts = BadLengths when (((p : Path) × Parts p) → ⊥)

-- "7 PathTooLong: total length over MPL." "8 TooManyComponents: count over MCC": `Made p` says that p is the path that is to be made.
abbrev pub path_too_long : Limits → (Path → Type 0) → Row
path_too_long L Made = PathTooLong when ((p : Path) × Made p × (L.mpl < path_length p))

abbrev pub too_many_components : Limits → (Path → Type 0) → Row
too_many_components L Made = TooManyComponents when ((p : Path) × Made p × (L.mcc < length p))

-- "9 ComponentTooLong: a component over MCL bytes": `Given c` says that c is one of those that are passed or made.
abbrev pub component_too_long : Limits → (Component → Type 0) → Row
component_too_long L Given = ComponentTooLong when ((c : Component) × Given c × (L.mcl < length c))

-- A component of the path that is to be made.
abbrev pub part_of : (Path → Type 0) → Component → Type 0
part_of Made c = (p : Path) × Made p × In c p

-- "15 OutTooSmall: the buffer for the answer is too short": `Answers v` says that v are the bytes to be answered.
abbrev pub out_too_small : (List ℕ → Type 0) → List ℕ → Row
out_too_small Answers out = OutTooSmall when ((v : List ℕ) × Answers v × (length out < length v))

-- .. and "making a fresh sheet of either kind reads nothing of the buffer; one too short gets 15": of a sheet of n bytes.
abbrev pub short_for_sheet : ℕ → List ℕ → Row
short_for_sheet n out = OutTooSmall when (length out < n)

-- THE TABLE of a question on lent paths.
abbrev pub lent_rows : Limits → List LentPath → List Row
lent_rows L xs = bad_limits L ∷ bad_path L (among xs) ∷ []

-- The same, of one whose answer is written.
abbrev pub lent_written_rows : Limits → List LentPath → (List ℕ → Type 0) → List ℕ → List Row
lent_written_rows L xs Answers out = bad_limits L ∷ bad_path L (among xs) ∷ out_too_small Answers out ∷ []
