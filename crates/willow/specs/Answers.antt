-- How calls answer: refusals in the order of their tests, questions on lent paths, and answers written into a lent buffer.
use Rattle.std.specs.Prelude.{ℕ, ◌≡◌, List, ◌++◌, Bool, true, false, cond, leb, length, take, drop, ⊤}
use Rattle.std.proofs.Math.Option.{Option, none, some}
use Rattle.std.specs.Prelude as code
use Rattle.willow.specs.declared.Limits.{Limits}
use Rattle.willow.specs.declared.Refusal.{Refusal}
use Rattle.willow.specs.declared.Refusal.TheVariants.{BadLimits, BadPath, OutTooSmall}
use Rattle.willow.specs.Limits.{Accepted, accepted_limits, accepted_capacity}
use Rattle.willow.specs.Numbers.{Bytes}
use Rattle.willow.specs.Packed.{pack, unpack, lent, Lent}
use Rattle.willow.specs.Paths.{Path}
use Rattle.willow.specs.Refusals.{Outcome, refused, absent, value}

-- WHAT A CALL'S ANSWER MEANS. `Err` is a refusal; in `Ok` stands the value, or an option of one where there may be none.
abbrev pub refusal_of : code.Result ⊤ Refusal → Option Refusal
refusal_of (code.Err r) = some r
refusal_of (code.Ok _) = none

abbrev pub outcome : {A : Type 0} → code.Result A Refusal → Outcome A
outcome (code.Err r) = refused r
outcome (code.Ok x) = value x

abbrev pub optional_outcome : {A : Type 0} → code.Result (code.Option A) Refusal → Outcome A
optional_outcome (code.Err r) = refused r
optional_outcome (code.Ok code.None) = absent
optional_outcome (code.Ok (code.Some x)) = value x

-- The same where a value of the code stands for one of the theory; and of a value that there may not be.
abbrev pub outcome_by : {A B : Type 0} → (A → B) → code.Result A Refusal → Outcome B
outcome_by f (code.Err r) = refused r
outcome_by f (code.Ok x) = value (f x)

abbrev pub optional_outcome_by : {A B : Type 0} → (A → B) → code.Result (code.Option A) Refusal → Outcome B
optional_outcome_by f (code.Err r) = refused r
optional_outcome_by f (code.Ok code.None) = absent
optional_outcome_by f (code.Ok (code.Some x)) = value (f x)

abbrev pub if_any : {A B : Type 0} → (A → B) → code.Option A → Option B
if_any f code.None = none
if_any f (code.Some x) = some (f x)

-- "None (no such .. intersection) is no refusal": what there may not be, as an outcome.
abbrev pub outcome_if_any : {A : Type 0} → Option A → Outcome A
outcome_if_any none = absent
outcome_if_any (some x) = value x

-- THE ORDER OF THE TESTS. "When several numbers apply, the smallest is given": the refusal of the test that comes first.
abbrev pub or_else : Option Refusal → Option Refusal → Option Refusal
or_else (some r) later = some r
or_else none later = later

-- Refused, or what is answered else.
abbrev pub unless : {A : Type 0} → Option Refusal → Outcome A → Outcome A
unless (some r) o = refused r
unless none o = o

-- 1, of limits that are passed as numbers.
unfoldable pub limits_refusal : Limits → Option Refusal
limits_refusal L = cond (accepted_limits L) none (some BadLimits)

-- 1, "sheet capacity N over 4,096".
abbrev pub capacity_refusal : ℕ → Option Refusal
capacity_refusal N = cond (accepted_capacity N) none (some BadLimits)

-- 5, of a lent path.
abbrev pub path_missing : Option Path → Option Refusal
path_missing none = some BadPath
path_missing (some p) = none

unfoldable pub lent_refusal : Limits → List ℕ → ℕ → Option Refusal
lent_refusal L b k = path_missing (lent L b k)

-- QUESTIONS ON LENT PATHS. The path that a buffer with a count holds, if it holds one:
unfoldable pub path_in : List ℕ → ℕ → Path
path_in b k = take k (unpack b)

-- 1, then 5.
unfoldable pub path_refusal : Limits → List ℕ → ℕ → Option Refusal
path_refusal L b k = or_else (limits_refusal L) (lent_refusal L b k)

unfoldable pub paths_refusal : Limits → List ℕ → ℕ → List ℕ → ℕ → Option Refusal
paths_refusal L a j b k = or_else (limits_refusal L) (or_else (lent_refusal L a j) (lent_refusal L b k))

-- A question f on one lent path, and on two.
unfoldable pub on_path : {A : Type 0} → Limits → List ℕ → ℕ → (Path → Outcome A) → Outcome A
on_path L b k f = unless (path_refusal L b k) (f (path_in b k))

unfoldable pub on_paths : {A : Type 0} → Limits → List ℕ → ℕ → List ℕ → ℕ → (Path → Path → Outcome A) → Outcome A
on_paths L a j b k f = unless (paths_refusal L a j b k) (f (path_in a j) (path_in b k))

-- ANSWERS IN A LENT BUFFER. The length of what is written: "15 OutTooSmall: the buffer for the answer is too short", and none
-- "is given with a buffer of any length".
abbrev pub written_length : Outcome (List ℕ) → List ℕ → Outcome ℕ
written_length (refused r) out = refused r
written_length absent out = absent
written_length (value v) out = cond (leb (length v) (length out)) (value (length v)) (refused OutTooSmall)

-- The buffer afterwards: the answer, and behind it what stood there; "a refusal leaves all lent memory byte for byte as found",
-- and none "writes nothing".
abbrev pub written_buffer : Outcome (List ℕ) → List ℕ → List ℕ
written_buffer (refused r) out = out
written_buffer absent out = out
written_buffer (value v) out = cond (leb (length v) (length out)) (v ++ drop (length v) out) out

-- An answer that is a path is written in its packed form.
abbrev pub packed_outcome : Outcome Path → Outcome (List ℕ)
packed_outcome (refused r) = refused r
packed_outcome absent = absent
packed_outcome (value p) = value (pack p)

-- WHAT THE QUESTIONS MEAN: 1 exactly if the limits are not accepted, then 5 exactly if no path is lent, else the question on
-- the path that is lent. The premise is that a buffer holds bytes, as an empty one does.
pub record PathQuestions : Type 1 where
  pub one_limits : {A : Type 0} (L : Limits) (b : List ℕ) (k : ℕ) (f : Path → Outcome A) → (Accepted L → ⊥) → on_path L b k f ≡ refused BadLimits
  pub one_path : {A : Type 0} (L : Limits) (b : List ℕ) (k : ℕ) (f : Path → Outcome A) → Bytes b → Accepted L
      → ((p : Path) → Lent L b k p → ⊥) → on_path L b k f ≡ refused BadPath
  pub one_asked : {A : Type 0} (L : Limits) (b : List ℕ) (k : ℕ) (f : Path → Outcome A) → Bytes b → Accepted L
      → (p : Path) → Lent L b k p → on_path L b k f ≡ f p
  pub two_limits : {A : Type 0} (L : Limits) (a : List ℕ) (j : ℕ) (b : List ℕ) (k : ℕ) (f : Path → Path → Outcome A) → (Accepted L → ⊥)
      → on_paths L a j b k f ≡ refused BadLimits
  pub two_first : {A : Type 0} (L : Limits) (a : List ℕ) (j : ℕ) (b : List ℕ) (k : ℕ) (f : Path → Path → Outcome A) → Bytes a → Accepted L
      → ((p : Path) → Lent L a j p → ⊥) → on_paths L a j b k f ≡ refused BadPath
  pub two_second : {A : Type 0} (L : Limits) (a : List ℕ) (j : ℕ) (b : List ℕ) (k : ℕ) (f : Path → Path → Outcome A) → Bytes a → Bytes b
      → Accepted L → ((q : Path) → Lent L b k q → ⊥) → on_paths L a j b k f ≡ refused BadPath
  pub two_asked : {A : Type 0} (L : Limits) (a : List ℕ) (j : ℕ) (b : List ℕ) (k : ℕ) (f : Path → Path → Outcome A) → Bytes a → Bytes b
      → Accepted L → (p q : Path) → Lent L a j p → Lent L b k q → on_paths L a j b k f ≡ f p q
