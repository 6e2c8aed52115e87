-- From a text to the outcome of a question on it: the path is read, made, and handed to the call; each step's outcome decides
-- the next.
use Prim.Native.Nat.{ℕ, ◌*◌, ◌≤◌}
use mathlib.Core.List.{List}
use mathlib.Core.Option.{Option, none, some}
use mathlib.Core.Path.{◌≡◌, refl, ◌∙◌, ap}
use native.Mathlib.Omega.{arith}
use lib.ListN.{length, take}
use Rattle.std.specs.Prelude.{Some, Result}
use Rattle.willow.specs.declared.Limits.{Limits}
use Rattle.willow.specs.declared.Refusal.{Refusal}
use Rattle.willow.specs.declared.Refusal.TheVariants.{BadKind}
use Rattle.willow.specs.Answers.{outcome, path_in, path_refusal, written_length, written_buffer, packed_outcome, on_path, limits_refusal, unless}
use Rattle.willow.specs.Construction.{admitted}
use Rattle.willow.specs.Limits.{max_word}
use Rattle.willow.specs.Lists.{All}
use Rattle.willow.specs.Numbers.{Bytes}
use Rattle.willow.specs.Packed.{joined}
use Rattle.willow.specs.Paths.{Path, path_length}
use Rattle.willow.specs.Refusals.{Outcome, refused, value}
use Rattle.willow.proofs.PackedLaws.{joined_length}
use Rattle.number.proofs.OverwritingLaws.{front_written, length_overwrite}
use Rattle.construction.specs.Making.{under_limits, slices_outcome}
use Rattle.least.specs.Places as least
use Rattle.keyform.specs.Answering.{on_made, read_outcome}
use Rattle.keyform.specs.Reading.{read_path, asks, with_question}
use Rattle.keyform.specs.Wording as wording
use Rattle.keyform.proofs.PathTextLaws.{path_written}
use Rattle.keyread.specs.Parts.{PathRead, sizes}
use Rattle.keyread.proofs.PieceLaws.{sizes_length}
use Rattle.keyask.specs.Found.{max_packed, Lends, as_optional, made_outcome, text_outcome}
use Rattle.keyask.proofs.FoundLaws.{always_some, wrote_found, made_sound, slices_made}

-- THE PATH OF A TEXT, as its lengths and bytes were read
pub record SlicesRead (s lengths bytes : List ℕ) (k n : ℕ) : Type 0 where
  pub path : Path
  pub read : read_path s ≡ some path
  pub lengths_part : take (8 * k) lengths ≡ sizes path
  pub bytes_part_lem : take n bytes ≡ joined path
  pub lengths_within : 8 * k ≤ length lengths
  pub bytes_within : n ≤ length bytes
  pub each_byte : All Bytes path
  pub word : path_length path ≤ max_word

pub slices_read : (s lengths₀ bytes₀ lengths bytes : List ℕ) (k n : ℕ) → PathRead (read_path s) lengths₀ bytes₀ (Some (k, n)) lengths bytes
    → length bytes₀ ≤ max_word → SlicesRead s lengths bytes k n
slices_read s lengths₀ bytes₀ lengths bytes k n (p, read, l, b, count, total, lengths_room, bytes_room) w =
    let sl = sizes_length p in
    let jl = joined_length p in
    let le = ap length l ∙ length_overwrite lengths₀ 0 (sizes p) (omega arith) in
    let be = ap length b ∙ length_overwrite bytes₀ 0 (joined p) (omega arith) in
    record {
      path = p;
      read = read;
      lengths_part = rw l (front_written lengths₀ (sizes p) (8 * k) (omega arith));
      bytes_part_lem = rw b (front_written bytes₀ (joined p) n (omega arith));
      lengths_within = omega arith;
      bytes_within = omega arith;
      each_byte = (path_written s p read).1;
      word = omega arith;
    }

-- .. made by `from_slices`
pub made_path : (L : Limits) (s lengths bytes : List ℕ) (k n : ℕ) (c : Result ℕ Refusal) (before behind : List ℕ) → SlicesRead s lengths bytes k n
    → max_packed ≤ length before
    → outcome c ≡ written_length (packed_outcome (slices_outcome L (take (8 * k) lengths) (take n bytes))) before
    → behind ≡ written_buffer (packed_outcome (slices_outcome L (take (8 * k) lengths) (take n bytes))) before
    → Lends L (made_outcome L (read_path s)) (as_optional c) behind
made_path L s lengths bytes k n c before behind f room a w =
    let p = f.path in
    let o : slices_outcome L (take (8 * k) lengths) (take n bytes) ≡ under_limits L (admitted L p) =
    ap (λ x. slices_outcome L x (take n bytes)) f.lengths_part ∙ ap (slices_outcome L (sizes p)) f.bytes_part_lem ∙ slices_made L p f.word in
    let h = wrote_found L (under_limits L (admitted L p)) (as_optional c) before behind (made_sound L p f.each_byte) room
    (record { answered = always_some c ∙ a ∙ ap (λ x. written_length (packed_outcome x) before) o; written = w ∙ ap (λ x. written_buffer (packed_outcome x) before) o }) in
    rw f.read h

-- A QUESTION on a path that was made: what is refused is handed on.
abbrev asked_by : Limits → Option Path → (Path → Outcome Path) → Outcome Path
asked_by L none f = refused BadKind
asked_by L (some p) f = under_limits L (on_made (admitted L p) f)

asked_made : (L : Limits) (o : Option Path) (f : Path → Outcome Path) → asked_by L o f ≡ on_made (made_outcome L o) f
unfolding under_limits
asked_made L none f = refl
asked_made L (some p) f = go (limits_refusal L)
  where
    go : (r : Option Refusal) → unless r (on_made (admitted L p) f) ≡ on_made (unless r (admitted L p)) f
    go none = refl
    go (some r) = refl

successor_asked : (L : Limits) (o : Option Path)
    → read_outcome (with_question L.mcl L.mcc L.mpl (asks wording.successor_of o)) ≡ asked_by L o (least.successor_of L)
successor_asked L none = refl
successor_asked L (some p) = refl

next_greater_asked : (L : Limits) (o : Option Path)
    → read_outcome (with_question L.mcl L.mcc L.mpl (asks wording.next_greater_of o)) ≡ asked_by L o (least.next_greater_of L)
next_greater_asked L none = refl
next_greater_asked L (some p) = refl

-- THE TWO QUESTIONS. `ask` is what the call's contract says of a lent path.
module _ (L : Limits) (s : List ℕ) (ask : Path → Outcome Path) (whole : Outcome Path) (means : whole ≡ asked_by L (read_path s) ask) where
  handed_on : whole ≡ on_made (made_outcome L (read_path s)) ask
  handed_on = means ∙ asked_made L (read_path s) ask

  asked_refused : (r : Refusal) → made_outcome L (read_path s) ≡ refused r → whole ≡ refused r
  asked_refused r e = handed_on ∙ ap (λ o. on_made o ask) e

  -- .. and on a path that passed the tests it is the call's
  asked_path : (b : List ℕ) (k : ℕ) → path_refusal L b k ≡ none → made_outcome L (read_path s) ≡ value (path_in b k) → whole ≡ on_path L b k ask
  unfolding on_path
  asked_path b k r e = handed_on ∙ ap (λ o. on_made o ask) e ∙ rw r refl

module _ (L : Limits) (s : List ℕ) where
  successor_means : text_outcome L wording.successor_of s ≡ asked_by L (read_path s) (least.successor_of L)
  successor_means = successor_asked L (read_path s)

  next_greater_means : text_outcome L wording.next_greater_of s ≡ asked_by L (read_path s) (least.next_greater_of L)
  next_greater_means = next_greater_asked L (read_path s)

  pub successor_refused : (r : Refusal) → made_outcome L (read_path s) ≡ refused r → text_outcome L wording.successor_of s ≡ refused r
  successor_refused = asked_refused L s (least.successor_of L) (text_outcome L wording.successor_of s) successor_means

  pub next_greater_refused : (r : Refusal) → made_outcome L (read_path s) ≡ refused r → text_outcome L wording.next_greater_of s ≡ refused r
  next_greater_refused = asked_refused L s (least.next_greater_of L) (text_outcome L wording.next_greater_of s) next_greater_means

  module _ (b : List ℕ) (k : ℕ) (r : path_refusal L b k ≡ none) (e : made_outcome L (read_path s) ≡ value (path_in b k)) where
    pub successor_put : text_outcome L wording.successor_of s ≡ on_path L b k (least.successor_of L)
    successor_put = asked_path L s (least.successor_of L) (text_outcome L wording.successor_of s) successor_means b k r e

    pub next_greater_put : text_outcome L wording.next_greater_of s ≡ on_path L b k (least.next_greater_of L)
    next_greater_put = asked_path L s (least.next_greater_of L) (text_outcome L wording.next_greater_of s) next_greater_means b k r e
