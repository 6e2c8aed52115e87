-- How a call's tests, one behind the other, are answered by its table.
use Prim.Native.Nat.{ℕ, ◌+◌, ◌≤◌, ◌<◌}
use mathlib.Core.Path.{◌≡◌, refl, sym, ◌∙◌, ap}
use mathlib.Core.Logic.{◌⊎◌, inl, inr, ⊎_elim, ◌↔◌}
use mathlib.Core.List.{List, [], ◌∷◌, ◌++◌}
use mathlib.Core.Option.{Option, none, some}
use mathlib.Core.Bool.{Bool, true, false, ◌&&◌, cond}
use native.Mathlib.Omega.{arith}
use lib.Dec.{leb, ltb}
use lib.ListN.{get_or}
use borrow.Author.Tests.{leb-true, ltb-true, ltb-false, lt-ltb}
use Rattle.willow.specs.declared.Refusal.{Refusal}
use Rattle.willow.specs.declared.Refusal.TheVariants.{BadLimits, BadSheet, BadKind, WrongNamespace, BadPath, BadLengths, PathTooLong, TooManyComponents, ComponentTooLong, NoSuchPrefix, Overfilled, Unfinished, TotalFull, NoRoom, OutTooSmall}
use Rattle.willow.specs.Answers.{or_else}
use Rattle.willow.specs.Refusals.{refusal_number}
use Rattle.tables.specs.Tables.{order, place, Before, Row, ◌when◌, Applies, AnsweredBy, Tables}
use Rattle.willow.proofs.Bools.{both_true, decided_false}

-- THE FIRST ROW AS WRITTEN whose condition holds gives its refusal; where none holds, none is given.
abbrev FirstOf : List Row → Option Refusal → Type 0
FirstOf [] given = given ≡ none
FirstOf (r when condition ∷ rows) given = (condition × (given ≡ some r)) ⊎ ((condition → ⊥) × FirstOf rows given)

pub record First (rows : List Row) (given : Option Refusal) : Type 0 where
  found : FirstOf rows given

-- The conditions of all rows fail.
abbrev pub Passed : List Row → Type 0
Passed [] = Unit {0}
Passed (r when condition ∷ rows) = (condition → ⊥) × Passed rows

-- A ROW whose condition holds, one whose condition fails, and none.
pub gives : {C : Type 0} {r : Refusal} {others : List Row} {a : Option Refusal} → C → a ≡ some r → First (r when C ∷ others) a
gives c e = record { found = inl (c, e) }

pub passes : {C : Type 0} {r : Refusal} {others : List Row} {a : Option Refusal} → (C → ⊥) → First others a → First (r when C ∷ others) a
passes n f = record { found = inr (n, f.found) }

pub no_row : {a : Option Refusal} → a ≡ none → First [] a
no_row e = record { found = e }

-- A TEST is a row: one that is true exactly if its condition holds, and one that is true exactly if it fails. What is answered may
-- be more than a refusal, as long as f finds the refusal in it. The rows behind it need to be right only where it passes.
module _ {A : Type 0} (f : A → Option Refusal) {C : Type 0} {others : List Row} where
  pub row : (t : Bool) (r : Refusal) (x y : A) → f x ≡ some r → (t ≡ true) ↔ C → ((C → ⊥) → First others (f y)) → First (r when C ∷ others) (f (cond t x y))
  row true r x y e m k = gives (m.0 refl) e
  row false r x y e m k = let n = (decided_false false m).0 refl in passes n (k n)

  pub row_not : (t : Bool) (r : Refusal) (x y : A) → f x ≡ some r → (t ≡ true) ↔ C → (C → First others (f y))
      → First (r when (C → ⊥) ∷ others) (f (cond t y x))
  row_not true r x y e m k = passes (λ n. n (m.0 refl)) (k (m.0 refl))
  row_not false r x y e m k = gives ((decided_false false m).0 refl) e

pub tested : {C : Type 0} (t : Bool) (r : Refusal) → (t ≡ true) ↔ C → First (r when C ∷ []) (cond t (some r) none)
tested t r m = row (λ o. o) t r (some r) none refl m (λ n. no_row refl)

pub tested_not : {C : Type 0} (t : Bool) (r : Refusal) → (t ≡ true) ↔ C → First (r when (C → ⊥) ∷ []) (cond t none (some r))
tested_not t r m = row_not (λ o. o) t r (some r) none refl m (λ c. no_row refl)

-- A comparison is true exactly if it holds.
pub below : (a b : ℕ) → (ltb a b ≡ true) ↔ (a < b)
below a b = (ltb-true a b, lt-ltb a b)

-- CONDITIONS SAID IN OTHER WORDS.
abbrev pub Same : List Row → List Row → Type 0
Same [] [] = Unit {0}
Same [] (s when D ∷ others) = ⊥
Same (r when C ∷ rows) [] = ⊥
Same (r when C ∷ rows) (s when D ∷ others) = (r ≡ s) × ((C ↔ D) × Same rows others)

first_same : (rows others : List Row) (a : Option Refusal) → Same rows others → FirstOf rows a → FirstOf others a
first_same [] [] a m f = f
first_same [] (s when D ∷ others) a m f = absurd m
first_same (r when C ∷ rows) [] a m f = absurd m
first_same (r when C ∷ rows) (s when D ∷ others) a m (inl h) = inl (m.1.0.0 h.0, h.1 ∙ ap some m.0)
first_same (r when C ∷ rows) (s when D ∷ others) a m (inr h) = inr (λ d. h.0 (m.1.0.1 d), first_same rows others a m.1.1 h.1)

pub same : {rows others : List Row} {a : Option Refusal} → Same rows others → First rows a → First others a
same {rows} {others} {a} m f = record { found = first_same rows others a m f.found }

pub same_condition : {C D : Type 0} {r : Refusal} {a : Option Refusal} → C ↔ D → First (r when C ∷ []) a → First (r when D ∷ []) a
same_condition m f = same (refl, (m, tt)) f

-- Two tests of one refusal are a row whose condition is either's.
pub either : {C D : Type 0} {r : Refusal} {a b : Option Refusal} → First (r when C ∷ []) a → (a ≡ none → First (r when D ∷ []) b)
    → First (r when (C ⊎ D) ∷ []) (or_else a b)
either {C} {D} {r} {a} {b} f k = go f.found
  where
    last : (C → ⊥) → FirstOf (r when D ∷ []) b → First (r when (C ⊎ D) ∷ []) b
    last n (inl h) = gives (inr h.0) h.1
    last n (inr h) = passes (⊎_elim n h.0) (no_row h.1)

    go : FirstOf (r when C ∷ []) a → First (r when (C ⊎ D) ∷ []) (or_else a b)
    go (inl h) = gives (inl h.0) (ap (λ o. or_else o b) h.1)
    go (inr h) = rw h.1 (last h.0 (k h.1).found)

-- THE CHAIN. Tests and behind them others are rows and behind them others. The others need to be right only where the first pass.
first_behind : (rows others : List Row) (a b : Option Refusal) → FirstOf rows a → (a ≡ none → Passed rows → FirstOf others b)
    → FirstOf (rows ++ others) (or_else a b)
first_behind [] others a b e k = rw e (k e tt)
first_behind (r when C ∷ rows) others a b (inl h) k = inl (h.0, ap (λ o. or_else o b) h.1)
first_behind (r when C ∷ rows) others a b (inr h) k = inr (h.0, first_behind rows others a b h.1 (λ e p. k e (h.0, p)))

pub behind : {rows others : List Row} {a b : Option Refusal} → First rows a → (a ≡ none → Passed rows → First others b)
    → First (rows ++ others) (or_else a b)
behind {rows} {others} {a} {b} f k = record { found = first_behind rows others a b f.found (λ e p. (k e p).found) }

-- THE ORDER OF THE ROWS as written, from a place on: for rows that are written out it computes.
abbrev ordered_from : ℕ → List Row → Bool
ordered_from n [] = true
ordered_from n (r when condition ∷ rows) = leb n (place r order) && ordered_from (place r order) rows

abbrev pub ordered : List Row → Bool
ordered rows = ordered_from 0 rows

-- so none of the rows is one of a refusal that is tested before
module _ (n : ℕ) (r : Refusal) (rows : List Row) (o : leb n (place r order) && ordered_from (place r order) rows ≡ true) where
  from_row : n ≤ place r order
  from_row = leb-true n (place r order) (both_true (leb n (place r order)) (ordered_from (place r order) rows) o).0

  others_from : ordered_from (place r order) rows ≡ true
  others_from = (both_true (leb n (place r order)) (ordered_from (place r order) rows) o).1

not_before : (rows : List Row) (n : ℕ) → ordered_from n rows ≡ true → (s : Refusal) → place s order < n → Applies rows s → ⊥
not_before [] n o s h a = a
not_before (r when C ∷ rows) n o s h (inl a) =
    let l = from_row n r rows o in
    let e = ap (λ t. place t order) a.0 in
    omega arith
not_before (r when C ∷ rows) n o s h (inr a) =
    let l = from_row n r rows o in
    not_before rows (place r order) (others_from n r rows o) s (omega arith) a

-- THE TABLE. What the first row gives is the first refusal that applies:
abbrev FirstApplies : List Row → Refusal → Type 0
FirstApplies rows r = Applies rows r × ((s : Refusal) → Before s r → Applies rows s → ⊥)

none_applies : (rows : List Row) → FirstOf rows none → (r : Refusal) → Applies rows r → ⊥
none_applies [] f r a = a
none_applies (s when C ∷ rows) (inl h) r a = let z : ◌≡◌ {A = ℕ} 0 1 = cc h.1 in omega arith
none_applies (s when C ∷ rows) (inr h) r (inl a) = h.0 a.1
none_applies (s when C ∷ rows) (inr h) r (inr a) = none_applies rows h.1 r a

first_applies : (rows : List Row) (n : ℕ) → ordered_from n rows ≡ true → (r : Refusal) → FirstOf rows (some r) → FirstApplies rows r
first_applies [] n o r f = let z : ◌≡◌ {A = ℕ} 0 1 = cc in absurd (omega arith)
first_applies (s when C ∷ rows) n o r (inl h) =
    let e : r ≡ s = cc h.1 in
    let p = ap (λ t. place t order) e in
    (inl (e, h.0), λ t b a. not_first t (rw e at b) a)
  where
    not_first : (t : Refusal) → Before t s → ((t ≡ s) × C) ⊎ Applies rows t → ⊥
    not_first t b (inl a) = let e = ap (λ t. place t order) a.0 in omega arith
    not_first t b (inr a) = not_before rows (place s order) (others_from n s rows o) t b a
first_applies (s when C ∷ rows) n o r (inr h) =
    let k = first_applies rows (place s order) (others_from n s rows o) r h.1 in
    (inr k.0, not_first k.1)
  where
    not_first : ((t : Refusal) → Before t r → Applies rows t → ⊥) → (t : Refusal) → Before t r → ((t ≡ s) × C) ⊎ Applies rows t → ⊥
    not_first k t b (inl a) = h.0 a.1
    not_first k t b (inr a) = k t b a

-- every refusal stands in the order, at its own place, and that is the one of its number
pub placed : (r : Refusal) → (get_or order (place r order) BadLimits ≡ r) × (refusal_number r ≡ place r order + 1)
placed BadLimits = (refl, refl)
placed BadSheet = (refl, refl)
placed BadKind = (refl, refl)
placed WrongNamespace = (refl, refl)
placed BadPath = (refl, refl)
placed BadLengths = (refl, refl)
placed PathTooLong = (refl, refl)
placed TooManyComponents = (refl, refl)
placed ComponentTooLong = (refl, refl)
placed NoSuchPrefix = (refl, refl)
placed Overfilled = (refl, refl)
placed Unfinished = (refl, refl)
placed TotalFull = (refl, refl)
placed NoRoom = (refl, refl)
placed OutTooSmall = (refl, refl)

pub one_place : (r s : Refusal) → place r order ≡ place s order → r ≡ s
one_place r s e = sym (placed r).0 ∙ ap (λ n. get_or order n BadLimits) e ∙ (placed s).0

-- and so there is one
one_first : (rows : List Row) (r s : Refusal) → FirstApplies rows r → FirstApplies rows s → r ≡ s
one_first rows r s f g = one_place r s (go (ltb (place r order) (place s order)) (ltb (place s order) (place r order)) refl refl)
  where
    go : (a b : Bool) → ltb (place r order) (place s order) ≡ a → ltb (place s order) (place r order) ≡ b → place r order ≡ place s order
    go true b d e = absurd (g.1 r (ltb-true (place r order) (place s order) d) f.0)
    go false true d e = absurd (f.1 s (ltb-true (place s order) (place r order) e) g.0)
    go false false d e = let h = ltb-false (place r order) (place s order) d in let k = ltb-false (place s order) (place r order) e in omega arith

-- TESTS WHOSE ROWS STAND IN THE ORDER are answered by their table.
pub answered : {rows : List Row} {given : Option Refusal} → ordered rows ≡ true → First rows given → AnsweredBy rows given
answered {rows} {given} o f = go given f.found
  where
    go : (a : Option Refusal) → FirstOf rows a → AnsweredBy rows a
    go none g = record {
      first = λ r. (λ e. let z : ◌≡◌ {A = ℕ} 0 1 = cc in absurd (omega arith), λ h. absurd (none_applies rows g r h.0));
      fine = (λ e. none_applies rows g, λ n. refl);
    }
    go (some s) g =
        let k = first_applies rows 0 o s g in
        record {
          first = λ r. (λ e. let d : s ≡ r = cc in rw d at k, λ h. ap some (one_first rows s r k h));
          fine = (λ e. let z : ◌≡◌ {A = ℕ} 0 1 = cc in absurd (omega arith), λ n. absurd (n s k.0));
        }

-- A row whose condition fails may stand in front, and conditions may be said in other words, of what is answered by a table.
same_applies : (rows others : List Row) → Same rows others → (r : Refusal) → Applies rows r ↔ Applies others r
same_applies [] [] m r = (λ a. a, λ a. a)
same_applies [] (s when D ∷ others) m r = absurd m
same_applies (q when C ∷ rows) [] m r = absurd m
same_applies (q when C ∷ rows) (s when D ∷ others) m r =
    let k = same_applies rows others m.1.1 r in (
      ⊎_elim (λ a. inl (a.0 ∙ m.0, m.1.0.0 a.1)) (λ a. inr (k.0 a)),
      ⊎_elim (λ a. inl (a.0 ∙ sym m.0, m.1.0.1 a.1)) (λ a. inr (k.1 a)),
    )

same_rows : (rows others : List Row) → ((r : Refusal) → Applies rows r ↔ Applies others r) → (a : Option Refusal) → AnsweredBy rows a → AnsweredBy others a
same_rows rows others m a f = record {
  first = λ r. (
    λ e. let h = (f.first r).0 e in ((m r).0 h.0, λ s b k. h.1 s b ((m s).1 k)),
    λ h. (f.first r).1 ((m r).1 h.0, λ s b k. h.1 s b ((m s).0 k)),
  );
  fine = (λ e r k. f.fine.0 e r ((m r).1 k), λ n. f.fine.1 (λ r k. n r ((m r).0 k)));
}

pub in_front : {C : Type 0} {q : Refusal} {rows others : List Row} {a : Option Refusal} → (C → ⊥) → Same rows others → AnsweredBy rows a
    → AnsweredBy (q when C ∷ others) a
in_front {C} {q} {rows} {others} {a} n m f = same_rows rows (q when C ∷ others) (λ r.
    let k = same_applies rows others m r in
    (λ h. inr (k.0 h), ⊎_elim (λ h. absurd (n h.1)) k.1)) a f

-- WHAT THE STATEMENT IS WORTH.
by_number : (r s : Refusal) → Before r s ↔ (refusal_number r < refusal_number s)
by_number r s = let p = (placed r).1 in let q = (placed s).1 in (λ h. omega arith, λ h. omega arith)

one_answer : (rows : List Row) (a b : Option Refusal) → AnsweredBy rows a → AnsweredBy rows b → a ≡ b
one_answer rows none b f g = sym (g.fine.1 (f.fine.0 refl))
one_answer rows (some r) b f g = sym ((g.first r).1 ((f.first r).0 refl))

pub tables : Tables
tables = record { by_number = by_number; one_answer = one_answer; same_rows = same_rows }
