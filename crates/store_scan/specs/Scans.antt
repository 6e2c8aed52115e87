-- One pass over the held entries: what an offer meets there. What the pass finds is what the table asks.
use Rattle.std.specs.Prelude.{ℕ, ◌+◌, ◌≤◌, ◌≡◌, Bool, true, false, List, [], ◌∷◌, ◌++◌, length, take, drop}
use Rattle.std.specs.declared.cmp.Ordering.{Ordering}
use Rattle.std.specs.declared.cmp.Ordering.TheVariants.{Less, Equal, Greater}
use Rattle.willow.specs.Entries.{Entry, PlaceBelow, prunes, same_entry, compare_places}
use Rattle.willow.specs.Lists.{Ascending, any}
use Rattle.willow.specs.Store.{payloads, pruned_by, left_by, file}
use Rattle.store_form.specs.Apart.{OneNamespace}
use Rattle.store_scan.specs.declared.Scan.{Scan}

-- Nothing met yet.
abbrev pub nothing_met : Scan
nothing_met = record { outdated = false; repeat = false; pruned = 0; freed = 0; place = 0 }

-- A held entry that neither prunes the offer nor is pruned by it: below the offer it goes before it; at the same place it is the same
-- entry, since else one of the two would prune the other.
abbrev pub met_at_place : Ordering → Scan → Scan
met_at_place Less a = record { outdated = a.outdated; repeat = a.repeat; pruned = a.pruned; freed = a.freed; place = a.place + 1 }
met_at_place Equal a = record { outdated = a.outdated; repeat = true; pruned = a.pruned; freed = a.freed; place = a.place }
met_at_place Greater a = a

-- By the tests: it prunes the offer; the offer prunes it, and its payload bytes go; or by their places.
abbrev pub met_by : Bool → Bool → Ordering → ℕ → Scan → Scan
met_by true q o m a = record { outdated = true; repeat = a.repeat; pruned = a.pruned; freed = a.freed; place = a.place }
met_by false true o m a = record { outdated = a.outdated; repeat = a.repeat; pruned = a.pruned + 1; freed = a.freed + m; place = a.place }
met_by false false o m a = met_at_place o a

unfoldable pub met : Entry → Scan → Entry → Scan
met e a h = met_by (prunes h e) (prunes e h) (compare_places h e) h.payload_length a

abbrev pub scanned : Entry → Scan → List Entry → Scan
scanned e a [] = a
scanned e a (h ∷ hs) = scanned e (met e a h) hs

-- WHAT IT MEANS, for entries as a store holds them, all of the offer's namespace. Where no held entry prunes the offer, the numbers of
-- what the offer prunes are found; and where it repeats none either, its place among those that are left. An empty store and any offer
-- meet all premises.
pub record ScanTheorem : Type 0 where
  pub finds_outdated : (e : Entry) (hs : List Entry) → (scanned e nothing_met hs).outdated ≡ any (λ h. prunes h e) hs
  pub finds_repeat : (n : ℕ) (e : Entry) (hs : List Entry) → OneNamespace n (e ∷ hs) → any (λ h. prunes h e) hs ≡ false
      → (scanned e nothing_met hs).repeat ≡ any (λ h. same_entry h e) hs
  pub counts_pruned : (e : Entry) (hs : List Entry) → any (λ h. prunes h e) hs ≡ false
      → (scanned e nothing_met hs).pruned ≡ length (pruned_by e hs)
  pub sums_freed : (e : Entry) (hs : List Entry) → any (λ h. prunes h e) hs ≡ false
      → (scanned e nothing_met hs).freed ≡ payloads (pruned_by e hs)
  pub left : (e : Entry) (hs : List Entry) → length (pruned_by e hs) + length (left_by e hs) ≡ length hs
  pub files_at : (n : ℕ) (e : Entry) (hs : List Entry) → OneNamespace n (e ∷ hs) → Ascending PlaceBelow hs
      → any (λ h. prunes h e) hs ≡ false → any (λ h. same_entry h e) hs ≡ false
      → file e (left_by e hs)
      ≡ take (scanned e nothing_met hs).place (left_by e hs) ++ (e ∷ drop (scanned e nothing_met hs).place (left_by e hs))
  pub place_within_lem : (e : Entry) (hs : List Entry) → any (λ h. prunes h e) hs ≡ false
      → (scanned e nothing_met hs).place ≤ length (left_by e hs)
