-- What a listing means. Counted from k on, position k + i is listed exactly if there is a rule i and it meets the area, by taking
-- the first rule off; every position is at least k, so they ascend. Two areas meet exactly if some triplet is in both.
use Prim.Native.Nat.{ℕ, zero, suc, ◌+◌, ◌<◌}
use mathlib.Core.Path.{◌≡◌, refl, subst}
use mathlib.Core.Logic.{inl, inr, ◌↔◌}
use mathlib.Core.List.{List, [], ◌∷◌}
use mathlib.Core.Option.{Option, none, some}
use mathlib.Core.Bool.{Bool, true, false, cond, false≢true}
use native.Mathlib.Omega.{arith}
use lib.ListN.{length, get_or}
use Rattle.willow.specs.Areas.{Area, Triplet, InArea, IsAreaIntersection, area_intersection}
use Rattle.willow.specs.Lists.{In, Ascending, is_some}
use Rattle.willow.proofs.AreaLaws.{areas_intersected}
use Rattle.map_form.specs.Maps.{Rule}
use Rattle.listing_law.specs.Listings.{meets, positions_from, positions, ListingTheorem}

-- TWO AREAS MEET exactly if a triplet is in both.
abbrev Common : Area → Area → Type 0
Common a b = (t : Triplet) × InArea a t × InArea b t

some_common : (a b : Area) (o : Option Area) → IsAreaIntersection a b o → (is_some o ≡ true) ↔ Common a b
some_common a b none h = (λ e. absurd (false≢true e), λ c. absurd (h c.0 c.1 c.2))
some_common a b (some m) h = (λ e. let t = h.1.0 in let both = (h.0 t).0 h.1.1 in (t, both.0, both.1), λ c. refl)

meets_common : (a : Area) (r : Rule) → (meets a r ≡ true) ↔ Common r.area a
meets_common a r = some_common r.area a (area_intersection r.area a) (areas_intersected r.area a)

-- POSITIONS counted from k on.
module _ (a : Area) where
  -- the first rule's, and those of the rest
  abbrev listed : Bool → ℕ → List Rule → List ℕ
  listed b k rules = cond b (k ∷ positions_from a (suc k) rules) (positions_from a (suc k) rules)

  -- each is the place of a rule that meets
  record Place (k : ℕ) (rules : List Rule) (z : Rule) (j : ℕ) : Type 0 where
    index : ℕ
    same : j ≡ k + index
    inside : index < length rules
    meeting : meets a (get_or rules index z) ≡ true

  behind : (k : ℕ) (r : Rule) (rules : List Rule) (z : Rule) (j : ℕ) → Place (suc k) rules z j → Place k (r ∷ rules) z j
  behind k r rules z j p =
      let e = p.same in
      let i = p.inside in
      record { index = suc p.index; same = omega arith; inside = omega arith; meeting = p.meeting }

  place : (k : ℕ) (rules : List Rule) (z : Rule) (j : ℕ) → In j (positions_from a k rules) → Place k rules z j
  place k [] z j i = absurd i
  place k (r ∷ rules) z j i = go (meets a r) refl i (place (suc k) rules z j)
    where
      go : (b : Bool) → meets a r ≡ b → In j (listed b k rules) → (In j (positions_from a (suc k) rules) → Place (suc k) rules z j) → Place k (r ∷ rules) z j
      go true e (inl h) ih = record { index = 0; same = omega arith; inside = omega arith; meeting = e }
      go true e (inr h) ih = behind k r rules z j (ih h)
      go false e h ih = behind k r rules z j (ih h)

  -- and the place of each rule that meets is one
  there : (k i : ℕ) (rules : List Rule) (z : Rule) → i < length rules → meets a (get_or rules i z) ≡ true → In (k + i) (positions_from a k rules)
  there k i [] z h e = absurd (omega arith)
  there k zero (r ∷ rules) z h e = let n : k + 0 ≡ k = omega arith in rw (n, e) (inl refl)
  there k (suc i) (r ∷ rules) z h e =
      let n : k + suc i ≡ suc k + i = omega arith in
      go (meets a r) (rw n (there (suc k) i rules z (omega arith) e))
    where
      go : (b : Bool) → In (k + suc i) (positions_from a (suc k) rules) → In (k + suc i) (listed b k rules)
      go true m = inr m
      go false m = m

  -- they ascend
  ascending : (k : ℕ) (rules : List Rule) → Ascending ◌<◌ (positions_from a k rules)
  ascending k [] = tt
  ascending k (r ∷ rules) = go (meets a r) (ascending (suc k) rules)
    where
      above : (j : ℕ) → In j (positions_from a (suc k) rules) → k < j
      above j i = let p = (place (suc k) rules r j i).same in omega arith

      go : (b : Bool) → Ascending ◌<◌ (positions_from a (suc k) rules) → Ascending ◌<◌ (listed b k rules)
      go true s = (above, s)
      go false s = s

-- THE THEOREM.
position_listed : (a : Area) (rules : List Rule) (i : ℕ) (z : Rule)
    → In i (positions a rules) ↔ ((i < length rules) × Common (get_or rules i z).area a)
unfolding positions
position_listed a rules i z = (to, from)
  where
    to : In i (positions_from a 0 rules) → (i < length rules) × Common (get_or rules i z).area a
    to h =
        let p = place a 0 rules z i h in
        let e : p.index ≡ i = let s = p.same in omega arith in
        let m : meets a (get_or rules i z) ≡ true = subst (λ k. meets a (get_or rules k z) ≡ true) e p.meeting in
        (let n = p.inside in omega arith, (meets_common a (get_or rules i z)).0 m)

    from : (i < length rules) × Common (get_or rules i z).area a → In i (positions_from a 0 rules)
    from h =
        let n : 0 + i ≡ i = omega arith in
        subst (λ k. In k (positions_from a 0 rules)) n (there a 0 i rules z h.0 ((meets_common a (get_or rules i z)).1 h.1))

listing_ascends : (a : Area) (rules : List Rule) → Ascending ◌<◌ (positions a rules)
unfolding positions
listing_ascends a rules = ascending a 0 rules

pub listing_theorem : ListingTheorem
listing_theorem = record { listed = position_listed; in_order = listing_ascends }
