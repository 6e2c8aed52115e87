-- Listing the rules of a map whose area intersects a given one. "The listing gives each rule whose area intersects, one time and in
-- that order, as its position from 0 in 8 bytes."
use Rattle.std.specs.Prelude.{ℕ, suc, ◌*◌, ◌<◌, ◌↔◌, List, [], ◌∷◌, Bool, cond, leb, length, get_or}
use Rattle.std.proofs.Math.Option.{Option, none, some}
use Rattle.willow.specs.declared.Refusal.TheVariants.{OutTooSmall}
use Rattle.willow.specs.Answers.{unless}
use Rattle.willow.specs.Areas.{Area, Triplet, InArea, area_intersection}
use Rattle.willow.specs.Lists.{In, Ascending, is_some}
use Rattle.willow.specs.Numbers.{le}
use Rattle.willow.specs.Refusals.{Outcome, refused, absent, value}
use Rattle.number.specs.Records.{laid}
use Rattle.area_kinds.specs.AreaKinds.{Parts}
use Rattle.map_form.specs.Maps.{Rule, rules_in}
use Rattle.map_law.specs.Insertions.{AreaArgument, parts_in, area_refusal, area_passed}

-- Computed: a rule's area and another have an intersection.
abbrev pub meets : Area → Rule → Bool
meets a r = is_some (area_intersection r.area a)

-- The positions, counted from i on, of the rules that meet an area.
abbrev pub positions_from : Area → ℕ → List Rule → List ℕ
positions_from a i [] = []
positions_from a i (r ∷ rs) = cond (meets a r) (i ∷ positions_from a (suc i) rs) (positions_from a (suc i) rs)

unfoldable pub positions : Area → List Rule → List ℕ
positions a rules = positions_from a 0 rules

-- THE LISTING: 2, then 3, then 5; else the positions.
abbrev pub positions_for : List ℕ → AreaArgument → Option Parts → List ℕ
positions_for s x none = []
positions_for s x (some a) = positions (area_passed x a) (rules_in s)

unfoldable pub listing : List ℕ → AreaArgument → Outcome (List ℕ)
listing s x = unless (area_refusal s x) (value (positions_for s x (parts_in x)))

-- It answers how many; 15 where the buffer is too short for 8 bytes each.
abbrev pub listed_number : Outcome (List ℕ) → List ℕ → Outcome ℕ
listed_number (refused r) out = refused r
listed_number absent out = absent
listed_number (value ps) out = cond (leb (8 * length ps) (length out)) (value (length ps)) (refused OutTooSmall)

-- What is written: each position in 8 bytes.
abbrev pub listed_bytes : Outcome (List ℕ) → Outcome (List ℕ)
listed_bytes (refused r) = refused r
listed_bytes absent = absent
listed_bytes (value ps) = value (laid (le 8) ps)

-- WHAT IT MEANS: position i is listed exactly if there is a rule i and its area and the asked one have a triplet in common; each
-- once, in the order of the rules.
pub record ListingTheorem : Type 0 where
  pub listed : (a : Area) (rules : List Rule) (i : ℕ) (z : Rule)
      → In i (positions a rules) ↔ ((i < length rules) × ((t : Triplet) × InArea (get_or rules i z).area t × InArea a t))
  pub in_order : (a : Area) (rules : List Rule) → Ascending ◌<◌ (positions a rules)
