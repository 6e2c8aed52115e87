-- Where a pass stands at row i: what it has met, with the entries from row i on, makes what it meets in all of them. No number of what
-- was met passes the rows that were read, and the payload bytes that were freed leave room for those that are left.
use Prim.Native.Nat.{ℕ, ◌+◌, ◌≤◌}
use mathlib.Core.Path.{◌≡◌, refl, sym, ◌∙◌, ap}
use mathlib.Core.Bool.{Bool, true, false}
use mathlib.Core.List.{List, [], ◌∷◌}
use native.Mathlib.Omega.{arith}
use lib.ListN.{drop}
use Rattle.std.specs.declared.cmp.Ordering.{Ordering}
use Rattle.std.specs.declared.cmp.Ordering.TheVariants.{Less, Equal, Greater}
use Rattle.willow.specs.Entries.{Entry, prunes, compare_places}
use Rattle.willow.specs.Limits.{max_word}
use Rattle.willow.specs.Store.{payloads}
use Rattle.store_scan.specs.declared.Scan.{Scan}
use Rattle.store_scan.specs.Scans.{nothing_met, met_by, met, scanned}

-- WHAT ONE ENTRY ADDS at most.
record Grown (a : Scan) (h : Entry) (r : Scan) : Type 0 where
  pruned : r.pruned ≤ a.pruned + 1
  freed : r.freed ≤ a.freed + h.payload_length
  place : r.place ≤ a.place + 1

grown : (e : Entry) (a : Scan) (h : Entry) → Grown a h (met e a h)
unfolding met
grown e a h = go (prunes h e) (prunes e h) (compare_places h e)
  where
    go : (p q : Bool) (o : Ordering) → Grown a h (met_by p q o h.payload_length a)
    go true q o = record { pruned = omega arith; freed = omega arith; place = omega arith }
    go false true o = record { pruned = omega arith; freed = omega arith; place = omega arith }
    go false false Less = record { pruned = omega arith; freed = omega arith; place = omega arith }
    go false false Equal = record { pruned = omega arith; freed = omega arith; place = omega arith }
    go false false Greater = record { pruned = omega arith; freed = omega arith; place = omega arith }

-- WHERE THE PASS STANDS.
pub record Passing (e : Entry) (es : List Entry) (i : ℕ) (a : Scan) : Type 0 where
  pub pruned_few : a.pruned ≤ i
  pub place_few : a.place ≤ i
  pub freed_room : a.freed + payloads (drop i es) ≤ max_word
  pub rest : scanned e a (drop i es) ≡ scanned e nothing_met es

module _ (e : Entry) (es : List Entry) where
  pub pass_starts : payloads es ≤ max_word → Passing e es 0 nothing_met
  pass_starts h = record { pruned_few = omega arith; place_few = omega arith; freed_room = omega arith; rest = refl }

  module _ (i : ℕ) (a : Scan) (p : Passing e es i a) where
    pub pass_ends : drop i es ≡ [] → a ≡ scanned e nothing_met es
    pass_ends d = sym (ap (scanned e a) d) ∙ p.rest

    -- row i holds h
    module _ (h : Entry) (d : drop i es ≡ h ∷ drop (i + 1) es) where
      pub payload_room : a.freed + h.payload_length ≤ max_word
      payload_room = let m = ap payloads d in let k = p.freed_room in omega arith

      pub pass_goes_on : (r : Scan) → r ≡ met e a h → Passing e es (i + 1) r
      pass_goes_on r f =
          let g : Grown a h r = rw f (grown e a h) in
          let m = ap payloads d in
          let k = p.freed_room in
          let u = p.pruned_few in
          let v = p.place_few in
          record {
            pruned_few = omega arith;
            place_few = omega arith;
            freed_room = omega arith;
            rest = ap (λ b. scanned e b (drop (i + 1) es)) f ∙ sym (ap (scanned e a) d) ∙ p.rest;
          }
