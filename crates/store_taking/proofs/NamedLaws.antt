-- Rows have no namespace of their own, so an offer is tried against them in namespace 0. Entries of one namespace prune each other in
-- every other as well: hence the pass meets what the store's own entries give, and the rows that stay are those of the entries that stay.
use Prim.Native.Nat.{ℕ}
use mathlib.Core.Path.{◌≡◌, refl, sym, ◌∙◌, ap}
use mathlib.Core.List.{List, [], ◌∷◌, map}
use mathlib.Core.Bool.{Bool, true, false, not, cond}
use borrow.Author.Tests.{eq-eqb}
use Rattle.willow.specs.declared.Limits.{Limits}
use Rattle.willow.specs.Entries.{Entry, is_newer, prunes}
use Rattle.willow.specs.Lists.{All, filter}
use Rattle.willow.specs.Store.{left_by}
use Rattle.sheet.specs.Rows.{Row}
use Rattle.store_form.specs.Apart.{OneNamespace}
use Rattle.store_form.specs.Stores.{entry_row, entry_in}
use Rattle.store_form.proofs.EntryRows.{Passed, row_back, named}
use Rattle.store_scan.specs.declared.Scan.{Scan}
use Rattle.store_scan.specs.Scans.{met, scanned}
use Rattle.store_closing.specs.Filing.{stays_by}

module _ (m : ℕ) where
  named_prunes : (o e : Entry) → o.namespace ≡ e.namespace → prunes (named m o) (named m e) ≡ prunes o e
  unfolding prunes is_newer
  named_prunes o e h = rw (eq-eqb m m refl, eq-eqb o.namespace e.namespace h)

  named_met : (e h : Entry) (a : Scan) → h.namespace ≡ e.namespace → met (named m e) a (named m h) ≡ met e a h
  unfolding met
  named_met e h a k = rw (named_prunes h e k, named_prunes e h (sym k))

  -- THE PASS.
  pub named_scanned : (n : ℕ) (e : Entry) (hs : List Entry) (a : Scan) → OneNamespace n (e ∷ hs)
      → scanned (named m e) a (map (named m) hs) ≡ scanned e a hs
  named_scanned n e [] a k = refl
  named_scanned n e (h ∷ hs) a k =
      named_scanned n e hs (met (named m e) a (named m h)) (k.0, k.1.1)
      ∙ ap (λ b. scanned e b hs) (named_met e h a (k.1.0 ∙ sym k.0))

-- THE ROWS that stay.
module _ (L : Limits) (e : Entry) where
  row_pruned : (r : Row) → prunes (named 0 e) (entry_in 0 r) ≡ prunes e (entry_in e.namespace r)
  unfolding entry_in
  row_pruned r = named_prunes 0 e (entry_in e.namespace r) refl

  pub rows_stay : (rs : List Row) → All (Passed L) rs
      → filter (stays_by (named 0 e)) rs ≡ map (entry_row L) (left_by e (map (entry_in e.namespace) rs))
  rows_stay [] p = refl
  rows_stay (r ∷ rs) p = rw (row_pruned r) (go (prunes e (entry_in e.namespace r)) (rows_stay rs p.1))
    where
      left : List Entry
      left = left_by e (map (entry_in e.namespace) rs)

      go : (b : Bool) → filter (stays_by (named 0 e)) rs ≡ map (entry_row L) left
          → cond (not b) (r ∷ filter (stays_by (named 0 e)) rs) (filter (stays_by (named 0 e)) rs)
          ≡ map (entry_row L) (cond (not b) (entry_in e.namespace r ∷ left) left)
      go true k = k
      go false k = let h = row_back L e.namespace r p.0 in λ i. sym h i ∷ k i
