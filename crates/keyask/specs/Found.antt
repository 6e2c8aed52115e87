-- What a question on a key line comes to, with the path in a buffer.
use Rattle.std.specs.Prelude.{ℕ, ◌+◌, ◌*◌, ◌≤◌, List, ◌≡◌, None, Some, Result, Ok, Err, length, take}
use Rattle.std.specs.Prelude as code
use Rattle.std.proofs.Math.Option.{Option, none, some}
use Rattle.willow.specs.declared.Limits.{Limits}
use Rattle.willow.specs.declared.Refusal.TheVariants.{BadKind}
use Rattle.willow.specs.Answers.{optional_outcome, packed_outcome, path_in, path_refusal, written_buffer, written_length}
use Rattle.willow.specs.Construction.{admitted}
use Rattle.willow.specs.Limits.{max_mcc, max_mpl, Accepted}
use Rattle.willow.specs.Packed.{pack, Packed, packed_count}
use Rattle.willow.specs.Paths.{Path, Valid}
use Rattle.willow.specs.Refusals.{Outcome, refused, absent, value}
use Rattle.construction.specs.Making.{under_limits}
use Rattle.keyform.specs.Answering.{read_outcome}
use Rattle.keyform.specs.Reading.{asks, read_path, with_question}
use Rattle.keyform.specs.Wording.{Question}
use Rattle.willow.specs.declared.Refusal.{Refusal}

-- The most bytes of a packed path under limits within the bounds.
abbrev pub max_packed : ℕ
max_packed = 8 + 8 * max_mcc + max_mpl

-- What a call that writes a path has answered and written.
pub record Wrote (o : Outcome Path) (c : Result (code.Option ℕ) Refusal) (before behind : List ℕ) : Type 0 where
  pub answered : optional_outcome c ≡ written_length (packed_outcome o) before
  pub written : behind ≡ written_buffer (packed_outcome o) before

-- The answer of such a call that never says none, as that of one that may.
abbrev pub as_optional : Result ℕ Refusal → Result (code.Option ℕ) Refusal
as_optional (Err r) = Err r
as_optional (Ok n) = Ok (Some n)

-- The path of an outcome, if it has one, is valid under limits that are accepted.
abbrev pub Sound : Limits → Outcome Path → Type 0
Sound L (refused r) = Unit {0}
Sound L absent = Unit {0}
Sound L (value p) = Accepted L × Valid L p

-- What such a call has written, as it is lent from the buffer: as many bytes as it says are a packed path that passes the tests, and
-- nothing besides it, so that the count in them is that of all its components.
abbrev pub Lends : Limits → Outcome Path → Result (code.Option ℕ) Refusal → List ℕ → Type 0
Lends L o (Err r) buffer = o ≡ refused r
Lends L o (Ok None) buffer = o ≡ absent
Lends L o (Ok (Some n)) buffer =
    (n ≤ length buffer) × Packed (take n buffer) × (path_refusal L (take n buffer) (packed_count (take n buffer)) ≡ none)
    × (o ≡ value (path_in (take n buffer) (packed_count (take n buffer))))
    × (take n buffer ≡ pack (path_in (take n buffer) (packed_count (take n buffer))))
    × (packed_count (take n buffer) ≡ length (path_in (take n buffer) (packed_count (take n buffer))))

-- A path that was read is made by the rules of `from_slices`; what was not read gets 3.
abbrev pub made_outcome : Limits → Option Path → Outcome Path
made_outcome L none = refused BadKind
made_outcome L (some p) = under_limits L (admitted L p)

-- The outcome of a question on a path that is still text.
abbrev pub text_outcome : Limits → (Path → Question) → List ℕ → Outcome Path
text_outcome L question s = read_outcome (with_question L.mcl L.mcc L.mpl (asks question (read_path s)))
