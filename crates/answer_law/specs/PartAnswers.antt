-- WHAT PASSES BETWEEN A DEFINITION AND AN ANSWER: a part that is handed out, a value that may not be there, what was there before a refusal;
-- and arguments put into a record, each in its own place. Small as each of these is, a contract rests on it.
use Rattle.std.specs.Prelude.{ℕ, ◌≡◌, ◌↔◌, List, []}
use Rattle.std.proofs.Math.Option.{Option, none, some}
use Rattle.willow.specs.declared.AreaSubspace.{AreaSubspace}
use Rattle.willow.specs.declared.Limits.{Limits}
use Rattle.willow.specs.declared.Refusal.{Refusal}
use Rattle.std.specs.Prelude as code
use Rattle.willow.specs.Answers.{optional_outcome_by, outcome_if_any, unless}
use Rattle.willow.specs.Areas.{Area}
use Rattle.willow.specs.AreasOfInterest.{of_interest}
use Rattle.tables.specs.KnownRanges.{singleton_range}
use Rattle.willow.specs.Paths.{Path}
use Rattle.willow.specs.Ranges.{closed, endless, Range}
use Rattle.willow.specs.Refusals.{Outcome, absent, value}
use Rattle.tables.specs.Tables.{refusal_of}
use Rattle.least.specs.Places.{successor_of}
use Rattle.reading.specs.Reading.{bytes_or}
use Rattle.entry.specs.declared.Head.{Head}
use Rattle.entry.specs.Heads.{entry_at}
use Rattle.area.specs.LentAreas.{triplet_at}
use Rattle.area.specs.declared.Area as declared
use Rattle.area_intersection.specs.declared.Met.{Met}
use Rattle.area_intersection.specs.Standing as areas
use Rattle.area_intersection.specs.Standing.{Standing, Whose, first, second}
use Rattle.area_of_interest.specs.declared.AreaOfInterest as interest
use Rattle.area_of_interest.specs.Interests as interests
use Rattle.area_of_interest.specs.Interests.{StandingInterest}
use Rattle.builder_law.specs.Building.{by_refusal}
use Rattle.builder.specs.declared.Builder.{Builder}
use Rattle.builder.specs.Calls.{kept_state}
use Rattle.store_answers.specs.Calls.{offer_of}

-- The one of two buffers beside which an intersection stands.
abbrev pub part_of : Whose → List ℕ → List ℕ → List ℕ
part_of first a b = a
part_of second a b = b

-- There are no premises.
pub record PartAnswers : Type 1 where
  -- the part that `component`, `rule_path` and `entry_path` give: the bytes of the answer, and the empty part unless there is one
  pub part : (v : List ℕ) → bytes_or (value v) ≡ v
  pub no_part : (o : Outcome (List ℕ)) → ((v : List ℕ) → o ≡ value v → ⊥) → bytes_or o ≡ []
  -- the part that an intersection of areas, and of areas of interest, gives: of the input whose path stands
  pub standing_part_lem : (m : code.Result (code.Option (Met declared.Area)) Refusal) (s : Standing) (a b : List ℕ)
      → optional_outcome_by areas.standing_of m ≡ value s → areas.standing_part m a b ≡ part_of s.whose a b
  pub interest_part : (m : code.Result (code.Option (Met interest.AreaOfInterest)) Refusal) (s : StandingInterest) (a b : List ℕ)
      → optional_outcome_by interests.standing_of m ≡ value s → areas.standing_part m a b ≡ part_of s.area.whose a b
  -- a range, and a subspace, that there may not be
  pub range_there : (r : Range ℕ) → outcome_if_any (some r) ≡ value r
  pub no_range_lem : outcome_if_any {A = Range ℕ} none ≡ absent
  pub subspace_there : (s : AreaSubspace) → outcome_if_any (some s) ≡ value s
  pub no_subspace : outcome_if_any {A = AreaSubspace} none ≡ absent
  -- the end of the range of one path
  pub singleton_end : (L : Limits) (p q : Path) → (successor_of L p ≡ value q) ↔ ((singleton_range L p).end ≡ closed q)
  pub singleton_open : (L : Limits) (p : Path) → (successor_of L p ≡ absent) ↔ ((singleton_range L p).end ≡ endless)
  -- "an area turned into an area of interest": the area, and zeros
  pub of_interest_lem : (a : Area) → ((of_interest a).area ≡ a) × ((of_interest a).max_count ≡ 0) × ((of_interest a).max_size ≡ 0)
  -- the builder: what was there after a refusal, and what is new else; and what is refused is what its tables speak of
  pub kept : {A : Type 0} (r : Refusal) (old new : A) → by_refusal (some r) old new ≡ old
  pub changed : {A : Type 0} (old new : A) → by_refusal none old new ≡ new
  pub state_kept : (r : Refusal) (s : Builder) → kept_state (some r) s ≡ some s
  pub state_used : (s : Builder) → kept_state none s ≡ none
  pub refused_so : {A : Type 0} (t : Option Refusal) (x : A) → refusal_of (unless t (value x)) ≡ t
  -- arguments in their places
  pub triplet_places : (s : ℕ) (p : Path) (t : ℕ) → ((triplet_at s p t).subspace ≡ s) × ((triplet_at s p t).path ≡ p) × ((triplet_at s p t).time ≡ t)
  pub entry_places : (n : ℕ) (h : Head) (p : Path)
      → ((entry_at n h p).namespace ≡ n) × ((entry_at n h p).subspace ≡ h.subspace) × ((entry_at n h p).path ≡ p) × ((entry_at n h p).timestamp ≡ h.timestamp)
      × ((entry_at n h p).payload_length ≡ h.payload_length) × ((entry_at n h p).digest ≡ h.digest)
  pub offer_places : (n : ℕ) (h : Head) (b : List ℕ) (k : ℕ)
      → ((offer_of n h b k).namespace ≡ n) × ((offer_of n h b k).subspace ≡ h.subspace) × ((offer_of n h b k).timestamp ≡ h.timestamp)
      × ((offer_of n h b k).payload_length ≡ h.payload_length) × ((offer_of n h b k).digest ≡ h.digest)
      × ((offer_of n h b k).buffer ≡ b) × ((offer_of n h b k).count ≡ k)
