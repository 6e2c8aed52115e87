-- Entries in the order of a sheet, none of which prunes another: tested in one pass, and what that means.
use Rattle.std.specs.Prelude.{ℕ, suc, ◌≤◌, ◌≡◌, ◌↔◌, List, [], ◌∷◌, Bool, true, ◌&&◌, not, cond, eqb, length}
use Rattle.willow.specs.Entries.{Entry, Prunes, PlaceBelow, is_newer, compare_places}
use Rattle.willow.specs.Lists.{In, All, Ascending}
use Rattle.willow.specs.Orders.{is_less}
use Rattle.willow.specs.Paths.{is_prefix_of}

-- "Strictly ascending by subspace then path": each is below the next.
abbrev pub ascends : List Entry → Bool
ascends [] = true
ascends (x ∷ []) = true
ascends (x ∷ (y ∷ ys)) = is_less (compare_places x y) && ascends (y ∷ ys)

-- "None prunes another", along prefixes. In the sheet's order the entries at and below a path follow it without a gap; so the held
-- prefixes of an entry are among those of the entry before it and that entry itself. They are carried as a list, the longest first.
-- An entry covers another that it would prune if it were newer:
abbrev pub covers : Entry → Entry → Bool
covers o e = eqb o.subspace e.subspace && is_prefix_of o.path e.path

-- Those that cover e: the others stand in front.
abbrev pub covering : Entry → List Entry → List Entry
covering e [] = []
covering e (o ∷ os) = cond (covers o e) (o ∷ os) (covering e os)

-- The nearest that covers it is not newer. Newer is total but for equal ages, and none of the farther ones is newer than a nearer
-- one; so none of them is newer either.
abbrev pub nearest_older : Entry → List Entry → Bool
nearest_older e [] = true
nearest_older e (o ∷ os) = not (is_newer o e)

abbrev pub clear_from : List Entry → List Entry → Bool
clear_from os [] = true
clear_from os (e ∷ es) = nearest_older e (covering e os) && clear_from (e ∷ covering e os) es

-- The list that is carried behind the entries es.
abbrev pub carried : List Entry → List Entry → List Entry
carried os [] = os
carried os (e ∷ es) = carried (e ∷ covering e os) es

-- WHAT IT MEANS, for entries of one namespace, as a store's are. That the carried list is short is what lets its positions stand in
-- an array of MCC's bound and one more.
abbrev pub OneNamespace : ℕ → List Entry → Type 0
OneNamespace n es = All (λ e. e.namespace ≡ n) es

abbrev pub NonePrunes : List Entry → Type 0
NonePrunes es = (o e : Entry) → In o es → In e es → Prunes o e → ⊥

-- The empty list meets the premises, and so do the entries of every store.
pub record ApartTheorem : Type 0 where
  pub ascending : (es : List Entry) → (ascends es ≡ true) ↔ Ascending PlaceBelow es
  pub none_prunes : (n : ℕ) (es : List Entry) → OneNamespace n es → Ascending PlaceBelow es → (clear_from [] es ≡ true) ↔ NonePrunes es
  pub carried_short : (es : List Entry) (k : ℕ) → Ascending PlaceBelow es → All (λ e. length e.path ≤ k) es
      → length (carried [] es) ≤ suc k
