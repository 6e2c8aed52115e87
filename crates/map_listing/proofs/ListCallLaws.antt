-- The listing of a map: what was tested and read decides which answer it is. A map that passed has accepted limits, so only 3 and 5
-- are left for an area that is passed.
use Prim.Native.Nat.{ℕ}
use mathlib.Core.Path.{◌≡◌, refl, sym, ◌∙◌, ap}
use mathlib.Core.List.{List}
use mathlib.Core.Option.{Option, none, some}
use mathlib.Core.Bool.{true}
use Rattle.willow.specs.declared.AreaSubspace.{AreaSubspace}
use Rattle.willow.specs.declared.Limits.{Limits}
use Rattle.willow.specs.declared.Refusal.{Refusal}
use Rattle.willow.specs.Answers.{unless, or_else, limits_refusal, lent_refusal, path_in, path_refusal, written_buffer}
use Rattle.willow.specs.Areas.{subspace_from}
use Rattle.willow.specs.Limits.{accepted_limits}
use Rattle.willow.specs.Ranges.{Range}
use Rattle.willow.specs.Refusals.{Outcome, refused, absent, value}
use Rattle.willow.proofs.LimitLaws.{limit_laws}
use Rattle.kinds.specs.Kinds.{both, of_kinds, on_kinds, range_from}
use Rattle.map_law.proofs.AskedKindLaws.{answered, kinds_fine, kinds_answered}
use Rattle.area.specs.declared.Area as code
use Rattle.area.specs.LentAreas.{area_in}
use Rattle.area_kinds.specs.AreaKinds.{Parts, parts, parts_of, area_from, area_with}
use Rattle.map_form.specs.Maps.{sizes_in, rules_in}
use Rattle.map_form.specs.MapTest.{is_map, MapPassed}
use Rattle.map_law.specs.Insertions.{AreaArgument, parts_in, kinds_missing, area_refusal, area_passed}
use Rattle.listing_law.specs.Listings.{positions, positions_for, listing, listed_number, listed_bytes}

-- AN AREA THAT WAS READ has the count that was passed.
abbrev count_or : ℕ → Outcome Parts → ℕ
count_or k (refused r) = k
count_or k absent = k
count_or k (value a) = a.count

count_kept : (L : Limits) (kind id count start end_kind end : ℕ) → count_or count (on_kinds L (area_from kind id count start end_kind end) value) ≡ count
unfolding on_kinds area_from
count_kept L kind id count start end_kind end = go (limits_refusal L) (both (subspace_from kind id) (range_from start end_kind end))
  where
    go : (t : Option Refusal) (o : Option (AreaSubspace × Range ℕ)) → count_or count (unless t (of_kinds (parts_of count o) value)) ≡ count
    go (some r) o = refl
    go none none = refl
    go none (some p) = refl

-- THE LISTING of a map that passed, by the limits that stand in it.
module _ (s : List ℕ) (known : MapPassed s) (x : AreaArgument) (L : Limits) (same : L ≡ (sizes_in s).limits) where
  accepted : accepted_limits L ≡ true
  accepted = rw same ((limit_laws.limits_means (sizes_in s).limits).1 known.sizes.limits_accepted)

  passed : is_map s ≡ true
  passed = known.tested

  no_limits : limits_refusal L ≡ none
  unfolding limits_refusal
  no_limits = rw accepted

  -- it is a question on the kinds, and then on the path
  abbrev listed_for : Parts → Outcome (List ℕ)
  listed_for a = unless (lent_refusal L x.buffer x.count) (value (positions (area_passed x a) (rules_in s)))

  listing_asked : listing s x ≡ on_kinds L (parts_in x) listed_for
  unfolding listing area_refusal
  listing_asked =
      rw (passed, ← same) (go (parts_in x) (lent_refusal L x.buffer x.count)) ∙ sym (kinds_fine L (parts_in x) listed_for accepted)
    where
      go : (o : Option Parts) (t : Option Refusal)
          → unless (or_else (kinds_missing o) t) (value (positions_for s x o)) ≡ of_kinds o (λ a. unless t (value (positions (area_passed x a) (rules_in s))))
      go none t = refl
      go (some a) t = refl

  answers : (o : Outcome Parts) → o ≡ on_kinds L (parts_in x) value → answered o listed_for ≡ listing s x
  answers o e = ap (λ p. answered p listed_for) e ∙ sym (kinds_answered L (parts_in x) listed_for) ∙ sym listing_asked

  pub listing_kind : (r : Refusal) → refused r ≡ on_kinds L (parts_in x) value → refused r ≡ listing s x
  listing_kind r e = answers (refused r) e

  -- the area was read, and its path was tested
  module _ (a : code.Area) (read : value (parts a) ≡ on_kinds L (parts_in x) value) where
    counted : a.count ≡ x.count
    counted = ap (count_or x.count) read ∙ count_kept L x.kind x.id x.count x.start x.end_kind x.end

    listing_told : unless (path_refusal L x.buffer a.count) (value (positions (area_in a x.buffer) (rules_in s))) ≡ listing s x
    unfolding path_refusal
    listing_told =
        ap (λ o. unless (or_else o (lent_refusal L x.buffer a.count)) (value (positions (area_in a x.buffer) (rules_in s)))) no_limits ∙ moved ∙ answers (value (parts a)) read
      where
        moved : unless (lent_refusal L x.buffer a.count) (value (positions (area_in a x.buffer) (rules_in s))) ≡ listed_for (parts a)
        moved = ap (λ n. unless (lent_refusal L x.buffer n) (value (positions (area_with (parts a) (path_in x.buffer n)) (rules_in s)))) counted

    pub listing_path : (r : Refusal) → path_refusal L x.buffer a.count ≡ some r → refused r ≡ listing s x
    listing_path r e = sym (ap (λ o. unless o (value (positions (area_in a x.buffer) (rules_in s)))) e) ∙ listing_told

    pub listing_fine : path_refusal L x.buffer a.count ≡ none → value (positions (area_in a x.buffer) (rules_in s)) ≡ listing s x
    listing_fine e = sym (ap (λ o. unless o (value (positions (area_in a x.buffer) (rules_in s)))) e) ∙ listing_told

-- WHAT IS LISTED for an outcome is listed for an equal one.
pub listed_as : (o p : Outcome (List ℕ)) → o ≡ p → (r : Outcome ℕ) (before behind : List ℕ)
    → (r ≡ listed_number o before) × (behind ≡ written_buffer (listed_bytes o) before)
    → (r ≡ listed_number p before) × (behind ≡ written_buffer (listed_bytes p) before)
listed_as o p e r before behind w = (w.0 ∙ ap (λ y. listed_number y before) e, w.1 ∙ ap (λ y. written_buffer (listed_bytes y) before) e)
