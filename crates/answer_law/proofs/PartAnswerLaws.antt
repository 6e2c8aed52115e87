-- What passes between a definition and an answer: each case by itself.
use Prim.Native.Nat.{ℕ}
use mathlib.Core.Path.{◌≡◌, refl, ap}
use mathlib.Core.Logic.{◌↔◌}
use mathlib.Core.List.{List, []}
use mathlib.Core.Option.{Option, none, some}
use native.Mathlib.Omega.{arith}
use Rattle.willow.specs.declared.Refusal.{Refusal}
use Rattle.std.specs.Prelude as code
use Rattle.willow.specs.Answers.{optional_outcome_by, unless}
use Rattle.willow.specs.Areas.{Area}
use Rattle.willow.specs.AreasOfInterest.{of_interest}
use Rattle.willow.specs.LeastPaths.{successor}
use Rattle.willow.specs.Paths.{Path}
use Rattle.willow.specs.Ranges.{End, closed, endless}
use Rattle.willow.specs.Ranges3d.{end_at}
use Rattle.willow.specs.Refusals.{Outcome, refused, absent, value}
use Rattle.tables.specs.Tables.{refusal_of}
use Rattle.tables.proofs.BufferLaws.{apart}
use Rattle.least_writing.specs.Written.{path_or}
use Rattle.reading.specs.Reading.{bytes_or}
use Rattle.area.specs.declared.Area as declared
use Rattle.area_intersection.specs.declared.Met.{Met}
use Rattle.area_intersection.specs.declared.Met.TheVariants as met
use Rattle.area_intersection.specs.Standing as areas
use Rattle.area_intersection.specs.Standing.{Standing}
use Rattle.area_of_interest.specs.declared.AreaOfInterest as interest
use Rattle.area_of_interest.specs.Interests as interests
use Rattle.area_of_interest.specs.Interests.{StandingInterest}
use Rattle.answer_law.specs.PartAnswers.{part_of, PartAnswers}
use Rattle.answer_law.proofs.PathAnswerLaws.{same_value}

-- PARTS.
no_part : (o : Outcome (List ℕ)) → ((v : List ℕ) → o ≡ value v → ⊥) → bytes_or o ≡ []
no_part (refused r) n = refl
no_part absent n = refl
no_part (value v) n = absurd (n v refl)

standing_part_lem : (m : code.Result (code.Option (Met declared.Area)) Refusal) (s : Standing) (a b : List ℕ) → optional_outcome_by areas.standing_of m ≡ value s
    → areas.standing_part m a b ≡ part_of s.whose a b
standing_part_lem (code.Err r) s a b e = apart (refused r) (value s) e (λ h. omega arith)
standing_part_lem (code.Ok code.None) s a b e = apart absent (value s) e (λ h. omega arith)
standing_part_lem (code.Ok (code.Some (met.First m))) s a b e = ap (λ w. part_of w a b) (ap (λ x. x.whose) ((same_value _ s).0 e))
standing_part_lem (code.Ok (code.Some (met.Second m))) s a b e = ap (λ w. part_of w a b) (ap (λ x. x.whose) ((same_value _ s).0 e))

interest_part : (m : code.Result (code.Option (Met interest.AreaOfInterest)) Refusal) (s : StandingInterest) (a b : List ℕ) → optional_outcome_by interests.standing_of m ≡ value s
    → areas.standing_part m a b ≡ part_of s.area.whose a b
interest_part (code.Err r) s a b e = apart (refused r) (value s) e (λ h. omega arith)
interest_part (code.Ok code.None) s a b e = apart absent (value s) e (λ h. omega arith)
interest_part (code.Ok (code.Some (met.First m))) s a b e = ap (λ w. part_of w a b) (ap (λ x. x.area.whose) ((same_value _ s).0 e))
interest_part (code.Ok (code.Some (met.Second m))) s a b e = ap (λ w. part_of w a b) (ap (λ x. x.area.whose) ((same_value _ s).0 e))

-- THE END OF A RANGE.
abbrev is_closed : {A : Type 0} → End A → ℕ
is_closed (closed x) = 1
is_closed endless = 0

end_of : (o : Option Path) (q : Path) → (path_or o ≡ value q) ↔ (end_at o ≡ closed q)
end_of none q = (
  λ e. apart absent (value q) e (λ h. omega arith),
  λ e. let z : ◌≡◌ {A = ℕ} 0 1 = ap is_closed e in absurd (omega arith),
)
end_of (some p) q = (λ e. ap closed ((same_value p q).0 e), λ e. let s : p ≡ q = cc in ap value s)

open_of : (o : Option Path) → (path_or o ≡ absent) ↔ (end_at o ≡ endless)
open_of none = (λ e. refl, λ e. refl)
open_of (some p) = (
  λ e. apart (value p) absent e (λ h. omega arith),
  λ e. let z : ◌≡◌ {A = ℕ} 1 0 = ap is_closed e in absurd (omega arith),
)

of_interest_lem : (a : Area) → ((of_interest a).area ≡ a) × ((of_interest a).max_count ≡ 0) × ((of_interest a).max_size ≡ 0)
unfolding of_interest
of_interest_lem a = (refl, refl, refl)

refused_so : {A : Type 0} (t : Option Refusal) (x : A) → refusal_of (unless t (value x)) ≡ t
refused_so none x = refl
refused_so (some r) x = refl

pub part_answers : PartAnswers
part_answers = record {
  part = λ v. refl;
  no_part = no_part;
  standing_part_lem = standing_part_lem;
  interest_part = interest_part;
  range_there = λ r. refl;
  no_range_lem = refl;
  subspace_there = λ s. refl;
  no_subspace = refl;
  singleton_end = λ L p q. end_of (successor L p) q;
  singleton_open = λ L p. open_of (successor L p);
  of_interest_lem = of_interest_lem;
  kept = λ r old new. refl;
  changed = λ old new. refl;
  state_kept = λ r s. refl;
  state_used = λ s. refl;
  refused_so = refused_so;
  triplet_places = λ s p t. (refl, refl, refl);
  entry_places = λ n h p. (refl, refl, refl, refl, refl, refl);
  offer_places = λ n h b k. (refl, refl, refl, refl, refl, refl, refl);
}
