-- A reading of kinds gives what they mean, and gives nothing exactly if one of the kinds is bad: so 3's row is that it gives nothing. This is
-- known of each reading (`kind_meaning`, kind_law/proofs), where "not all are good" is said; one of a list of kinds is bad exactly if not all
-- are good, since of each it can be told. Two readings have the kinds of both.
use Prim.Native.Nat.{ℕ}
use mathlib.Core.Path.{◌≡◌, refl, sym, subst}
use mathlib.Core.Logic.{◌⊎◌, inl, inr, ⊎_elim, ◌↔◌}
use mathlib.Core.List.{List, [], ◌∷◌, ◌++◌}
use mathlib.Core.Option.{Option, none, some}
use mathlib.Core.Bool.{Bool, true, false}
use native.Mathlib.Omega.{arith}
use lib.Dec.{eqb}
use borrow.Author.Tests.{eqb-true, eqb-false}
use Rattle.willow.specs.declared.Limits.{Limits}
use Rattle.willow.specs.Answers.{limits_refusal}
use Rattle.willow.specs.Areas.{subspace_from}
use Rattle.willow.specs.Kinds.{GoodKind}
use Rattle.willow.specs.Limits.{Accepted}
use Rattle.willow.specs.Lists.{In, All}
use Rattle.willow.specs.Ranges.{end_from}
use Rattle.willow.specs.Refusals.{Outcome, value}
use Rattle.tables.specs.TableRows.{bad_limits, bad_kind}
use Rattle.tables.specs.Tables.{Row, refusal_of}
use Rattle.willow.proofs.AnswerLaws.{limits_passed}
use Rattle.tables.proofs.Rows.{First, gives, passes, no_row, behind, answered}
use Rattle.kinds.specs.Kinds.{of_kinds, on_kinds, both, range_from}
use Rattle.area_kinds.specs.AreaKinds.{area_from}
use Rattle.range_3d_kinds.specs.Range3dKinds.{parts3d_from}
use Rattle.kind_law.specs.KindMeaning.{MeansEnd, MeansSubspace, MeansRange}
use Rattle.kind_law.proofs.KindMeaningLaws.{kind_meaning}
use Rattle.refusal_law.specs.Exports.{MeansArea, Means3d, Both, Reading}
use Rattle.refusal_law.specs.Kinds.{KindTables}
use Rattle.tables.proofs.LentLaws.{limits_row, unless_chain}

-- ONE OF THE KINDS IS BAD exactly if not all are good.
abbrev OneBad : List ℕ → Type 0
OneBad kinds = (kind : ℕ) × In kind kinds × (GoodKind kind → ⊥)

good_or_not : (kind : ℕ) → GoodKind kind ⊎ (GoodKind kind → ⊥)
good_or_not kind = go (eqb kind 0) (eqb kind 1) refl refl
  where
    go : (a b : Bool) → eqb kind 0 ≡ a → eqb kind 1 ≡ b → GoodKind kind ⊎ (GoodKind kind → ⊥)
    go true b e f = inl (inl (eqb-true kind 0 e))
    go false true e f = inl (inr (eqb-true kind 1 f))
    go false false e f = inr (⊎_elim (eqb-false kind 0 e) (eqb-false kind 1 f))

one_bad : (kinds : List ℕ) → (All GoodKind kinds → ⊥) → OneBad kinds
one_bad [] n = absurd (n tt)
one_bad (kind ∷ kinds) n = go (good_or_not kind) (λ g. one_bad kinds (λ a. n (g, a)))
  where
    go : GoodKind kind ⊎ (GoodKind kind → ⊥) → (GoodKind kind → OneBad kinds) → OneBad (kind ∷ kinds)
    go (inl g) others = let t = others g in (t.0, inr t.1, t.2)
    go (inr b) others = (kind, inl refl, b)

not_good : (kinds : List ℕ) → OneBad kinds → All GoodKind kinds → ⊥
not_good [] t a = t.1
not_good (kind ∷ kinds) t a =
    ⊎_elim (λ e. t.2 (subst GoodKind (sym e) a.0)) (λ i. not_good kinds (t.0, i, t.2) a.1) t.1

-- A READING from what is known of it.
reading : {A : Type 0} (x : Option A) (Means : A → Type 0) (kinds : List ℕ) → ((a : A) → (x ≡ some a) ↔ Means a)
    → (x ≡ none) ↔ (All GoodKind kinds → ⊥) → Reading x Means kinds
reading x Means kinds m b = record {
  given = m;
  missing = (λ e. one_bad kinds (b.0 e), λ t. b.1 (not_good kinds t));
}

of_one : (P : Type 0) (kind : ℕ) → P ↔ (GoodKind kind → ⊥) → P ↔ (All GoodKind (kind ∷ []) → ⊥)
of_one P kind b = (λ p a. b.0 p a.0, λ n. b.1 (λ g. n (g, tt)))

pub end_reading : (kind n : ℕ) → Reading (end_from kind n) (MeansEnd kind n) (kind ∷ [])
end_reading kind n =
    reading (end_from kind n) (MeansEnd kind n) (kind ∷ []) (kind_meaning.end_means kind n)
    (of_one (end_from kind n ≡ none) kind (kind_meaning.end_bad kind n))

pub subspace_reading : (kind n : ℕ) → Reading (subspace_from kind n) (MeansSubspace kind n) (kind ∷ [])
subspace_reading kind n =
    reading (subspace_from kind n) (MeansSubspace kind n) (kind ∷ []) (kind_meaning.subspace_means kind n)
    (of_one (subspace_from kind n ≡ none) kind (kind_meaning.subspace_bad kind n))

pub range_reading : (start kind n : ℕ) → Reading (range_from start kind n) (MeansRange start kind n) (kind ∷ [])
range_reading start kind n =
    reading (range_from start kind n) (MeansRange start kind n) (kind ∷ []) (kind_meaning.range_means start kind n)
    (of_one (range_from start kind n ≡ none) kind (kind_meaning.range_bad start kind n))

pub area_reading : (kind id count start end_kind end : ℕ)
    → Reading (area_from kind id count start end_kind end) (MeansArea kind id count start end_kind end) (kind ∷ end_kind ∷ [])
area_reading kind id count start end_kind end =
    let b = kind_meaning.area_bad kind id count start end_kind end in
    reading (area_from kind id count start end_kind end) (MeansArea kind id count start end_kind end) (kind ∷ end_kind ∷ [])
    (kind_meaning.area_means kind id count start end_kind end)
    (λ e a. b.0 e (a.0, a.1.0), λ n. b.1 (λ g. n (g.0, (g.1, tt))))

pub range_3d_reading : (s sk e c pk d t tk u : ℕ)
    → Reading (parts3d_from s sk e c pk d t tk u) (Means3d s sk e c pk d t tk u) (sk ∷ pk ∷ tk ∷ [])
range_3d_reading s sk e c pk d t tk u =
    let b = kind_meaning.range3d_bad s sk e c pk d t tk u in
    reading (parts3d_from s sk e c pk d t tk u) (Means3d s sk e c pk d t tk u) (sk ∷ pk ∷ tk ∷ [])
    (kind_meaning.range3d_means s sk e c pk d t tk u)
    (λ x a. b.0 x (a.0, a.1.0, a.1.1.0), λ n. b.1 (λ g. n (g.0, (g.1, (g.2, tt)))))

-- TWO READINGS: a kind of both is one of the first or of the second.
in_first : (kind : ℕ) (ks ls : List ℕ) → In kind ks → In kind (ks ++ ls)
in_first kind [] ls i = absurd i
in_first kind (k ∷ ks) ls (inl e) = inl e
in_first kind (k ∷ ks) ls (inr i) = inr (in_first kind ks ls i)

in_second : (kind : ℕ) (ks ls : List ℕ) → In kind ls → In kind (ks ++ ls)
in_second kind [] ls i = i
in_second kind (k ∷ ks) ls i = inr (in_second kind ks ls i)

in_either : (kind : ℕ) (ks ls : List ℕ) → In kind (ks ++ ls) → In kind ks ⊎ In kind ls
in_either kind [] ls i = inr i
in_either kind (k ∷ ks) ls (inl e) = inl (inl e)
in_either kind (k ∷ ks) ls (inr i) = ⊎_elim (λ j. inl (inr j)) inr (in_either kind ks ls i)

none≢some : {A B : Type 0} (v : A) → ◌≡◌ {A = Option A} none (some v) → B
none≢some v e = let z : ◌≡◌ {A = ℕ} 0 1 = cc in absurd (omega arith)

both_missing : {A B : Type 0} (M : A → Type 0) (N : B → Type 0) (ks ls : List ℕ) (x : Option A) (y : Option B) → Reading x M ks → Reading y N ls
    → (both x y ≡ none) ↔ OneBad (ks ++ ls)
both_missing M N ks ls none y r s =
    (λ e. let t = r.missing.0 refl in (t.0, in_first t.0 ks ls t.1, t.2), λ t. refl)
both_missing M N ks ls (some a) none r s =
    (λ e. let t = s.missing.0 refl in (t.0, in_second t.0 ks ls t.1, t.2), λ t. refl)
both_missing M N ks ls (some a) (some b) r s = (
  λ e. none≢some (a, b) (sym e),
  λ t. ⊎_elim
      (λ i. none≢some a (sym (r.missing.1 (t.0, i, t.2))))
      (λ i. none≢some b (sym (s.missing.1 (t.0, i, t.2))))
      (in_either t.0 ks ls t.1),
)

pub both_reading : {A B : Type 0} {M : A → Type 0} {N : B → Type 0} {ks ls : List ℕ} {x : Option A} {y : Option B}
    → Reading x M ks → Reading y N ls → Reading (both x y) (Both M N) (ks ++ ls)
both_reading {A} {B} {M} {N} {ks} {ls} {x} {y} r s = record {
  given = λ v. (
    λ e. let h = (kind_meaning.both_mean x y v).0 e in ((r.given v.0).0 h.0, (s.given v.1).0 h.1),
    λ m. (kind_meaning.both_mean x y v).1 ((r.given v.0).1 m.0, (s.given v.1).1 m.1),
  );
  missing = both_missing M N ks ls x y r s;
}

-- 3'S ROW, and the rows of what is asked of what was read.
module _ {A B : Type 0} {Means : B → Type 0} {kinds : List ℕ} {others : List Row} where
  pub kinds_row : (x : Option B) (f : B → Outcome A) → Reading x Means kinds → ((b : B) → x ≡ some b → First others (refusal_of (f b)))
      → First (bad_kind kinds ∷ others) (refusal_of (of_kinds x f))
  kinds_row none f r k = gives (r.missing.0 refl) refl
  kinds_row (some b) f r k = passes (λ t. none≢some b (sym (r.missing.1 t))) (k b refl)

  -- behind 1
  pub limits_kinds_rows : (L : Limits) (x : Option B) (f : B → Outcome A) → Reading x Means kinds
      → ((b : B) → x ≡ some b → Accepted L → First others (refusal_of (f b)))
      → First (bad_limits L ∷ bad_kind kinds ∷ others) (refusal_of (on_kinds L x f))
  unfolding on_kinds
  limits_kinds_rows L x f r k =
      rw (unless_chain refusal_of (λ r. refl) (limits_refusal L) (of_kinds x f))
      (behind (limits_row L) (λ e p. kinds_row x f r (λ b h. k b h (limits_passed L e))))

-- THE CALLS read, and ask nothing more.
of_kinds_lem : {B : Type 0} {Means : B → Type 0} {kinds : List ℕ} (x : Option B) → Reading x Means kinds
    → First (bad_kind kinds ∷ []) (refusal_of (of_kinds x value))
of_kinds_lem x r = kinds_row x value r (λ b e. no_row refl)

on_kinds_lem : {B : Type 0} {Means : B → Type 0} {kinds : List ℕ} (L : Limits) (x : Option B) → Reading x Means kinds
    → First (bad_limits L ∷ bad_kind kinds ∷ []) (refusal_of (on_kinds L x value))
on_kinds_lem L x r = limits_kinds_rows L x value r (λ b e a. no_row refl)

pub kind_tables : KindTables
kind_tables = record {
  read_end = λ kind n. answered refl (of_kinds_lem (end_from kind n) (end_reading kind n));
  read_range = λ start kind n. answered refl (of_kinds_lem (range_from start kind n) (range_reading start kind n));
  read_subspace = λ kind n. answered refl (of_kinds_lem (subspace_from kind n) (subspace_reading kind n));
  read_area = λ L kind id count start end_kind end. answered refl (on_kinds_lem L _ (area_reading kind id count start end_kind end));
  read_areas = λ L kind id count start end_kind end kind2 id2 count2 start2 endKind2 end2.
      answered refl (on_kinds_lem L _ (both_reading (area_reading kind id count start end_kind end) (area_reading kind2 id2 count2 start2 endKind2 end2)));
  read_path_end = λ L kind count. answered refl (on_kinds_lem L _ (end_reading kind count));
  read_path_range = λ L start kind end. answered refl (on_kinds_lem L _ (range_reading start kind end));
  read_path_ranges = λ L start kind end start2 kind2 end2.
      answered refl (on_kinds_lem L _ (both_reading (range_reading start kind end) (range_reading start2 kind2 end2)));
  read_range_3d = λ L s sk e c pk d t tk u. answered refl (on_kinds_lem L _ (range_3d_reading s sk e c pk d t tk u));
  read_ranges_3d = λ L s sk e c pk d t tk u s2 sk2 e2 c2 pk2 d2 t2 tk2 u2.
      answered refl (on_kinds_lem L _ (both_reading (range_3d_reading s sk e c pk d t tk u) (range_3d_reading s2 sk2 e2 c2 pk2 d2 t2 tk2 u2)));
}
