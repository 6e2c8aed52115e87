-- Each reading of kinds and numbers is put together from single kinds as what is read is from its parts. So one record says of any
-- reading what it means and when it is none, and is carried from a kind to ranges, areas and 3d ranges.
use Prim.Native.Nat.{ℕ}
use mathlib.Core.Path.{◌≡◌, refl, sym, ◌∙◌, ap, subst}
use mathlib.Core.Logic.{◌↔◌}
use mathlib.Core.Option.{Option, none, some}
use native.Mathlib.Omega.{arith}
use Rattle.willow.specs.declared.AreaSubspace.{AreaSubspace}
use Rattle.willow.specs.declared.AreaSubspace.TheVariants.{Any, Id}
use Rattle.willow.specs.declared.Limits.{Limits}
use Rattle.willow.specs.declared.Refusal.TheVariants.{BadLimits}
use Rattle.willow.specs.Answers.{unless}
use Rattle.willow.specs.Areas.{subspace_from}
use Rattle.willow.specs.Kinds.{of_kind, Says, GoodKind}
use Rattle.willow.specs.Limits.{Accepted}
use Rattle.willow.specs.Ranges.{End, closed, endless, Range, end_from}
use Rattle.willow.specs.Refusals.{Outcome, refused}
use Rattle.willow.proofs.AnswerLaws.{limits_refused, limits_fine}
use Rattle.willow.proofs.KindProofs.{kind_laws, says_good}
use Rattle.kinds.specs.Kinds as numbers
use Rattle.kinds.specs.Kinds.{of_kinds, on_kinds, both, range_from}
use Rattle.area_kinds.specs.AreaKinds.{Parts, parts_of, area_from}
use Rattle.range_3d_kinds.specs.Range3dKinds.{Parts3d, parts3d_of, parts3d_from, with_numbers}
use Rattle.kind_law.specs.KindMeaning.{MeansEnd, MeansSubspace, MeansRange, KindMeaning}

-- A READING: what it gives is what is meant, and it gives something exactly if the kinds are good.
record Reads {A : Type 0} (o : Option A) (Meant : A → Type 0) (Good : Type 0) : Type 0 where
  meant : (v : A) → o ≡ some v → Meant v
  read : (v : A) → Meant v → o ≡ some v
  good : (v : A) → o ≡ some v → Good
  missing : o ≡ none → Good → ⊥

-- as the two laws that are stated of it
means : {A : Type 0} {o : Option A} {M : A → Type 0} {G : Type 0} → Reads o M G → (v : A) → (o ≡ some v) ↔ M v
means r v = (r.meant v, r.read v)

bad : {A : Type 0} (o : Option A) {M : A → Type 0} {G : Type 0} → Reads o M G → (o ≡ none) ↔ (G → ⊥)
bad none r = (r.missing, λ n. refl)
bad (some v) r = (r.missing, λ n. absurd (n (r.good v refl)))

none≢some : {A B : Type 0} (v : A) → ◌≡◌ {A = Option A} none (some v) → B
none≢some v e = let z : ◌≡◌ {A = ℕ} 0 1 = cc in absurd (omega arith)

same : {A : Type 0} (u v : A) → some u ≡ some v → u ≡ v
same u v e = cc

-- A KIND.
kind_reads : {A : Type 0} (kind : ℕ) (x y : A) → Reads (of_kind kind x y) (Says kind x y) (GoodKind kind)
kind_reads kind x y = record {
  meant = λ v. (kind_laws.says kind x y v).0;
  read = λ v. (kind_laws.says kind x y v).1;
  good = λ v e. says_good kind x y v ((kind_laws.says kind x y v).0 e);
  missing = (kind_laws.bad kind x y).0;
}

-- TWO READINGS, one beside the other.
both_meant : {A B : Type 0} (x : Option A) (y : Option B) (v : A × B) → both x y ≡ some v → (x ≡ some v.0) × (y ≡ some v.1)
both_meant none y v e = none≢some v e
both_meant (some a) none v e = none≢some v e
both_meant (some a) (some b) v e =
    let s : (a, b) ≡ v = same (a, b) v e in
    (ap (λ p. some p.0) s, ap (λ p. some p.1) s)

both_read : {A B : Type 0} (x : Option A) (y : Option B) (v : A × B) → (x ≡ some v.0) × (y ≡ some v.1) → both x y ≡ some v
both_read x y v e = λ i. both (e.0 i) (e.1 i)

both_bad : {A B : Type 0} (x : Option A) (y : Option B) → (both x y ≡ none) ↔ ((v : A × B) → (x ≡ some v.0) × (y ≡ some v.1) → ⊥)
both_bad none y = (λ e v h. none≢some v.0 h.0, λ n. refl)
both_bad (some a) none = (λ e v h. none≢some v.1 h.1, λ n. refl)
both_bad (some a) (some b) = (λ e v h. none≢some (a, b) (sym e), λ n. absurd (n (a, b) (refl, refl)))

both_missing : {A B : Type 0} {M : A → Type 0} {N : B → Type 0} {G H : Type 0} (x : Option A) (y : Option B) → Reads x M G → Reads y N H
    → both x y ≡ none → G × H → ⊥
both_missing none y r s e g = r.missing refl g.0
both_missing (some a) none r s e g = s.missing refl g.1
both_missing (some a) (some b) r s e g = none≢some (a, b) (sym e)

both_reads : {A B : Type 0} {M : A → Type 0} {N : B → Type 0} {G H : Type 0} (x : Option A) (y : Option B) → Reads x M G → Reads y N H
    → Reads (both x y) (λ v. M v.0 × N v.1) (G × H)
both_reads x y r s = record {
  meant = λ v e. let h = both_meant x y v e in (r.meant v.0 h.0, s.meant v.1 h.1);
  read = λ v m. both_read x y v (r.read v.0 m.0, s.read v.1 m.1);
  good = λ v e. let h = both_meant x y v e in (r.good v.0 h.0, s.good v.1 h.1);
  missing = both_missing x y r s;
}

-- WHAT IS MADE OF A READING, by a function that adds something known and can be taken back.
abbrev mapped : {A B : Type 0} → (A → B) → Option A → Option B
mapped make none = none
mapped make (some a) = some (make a)

record Made {A B : Type 0} (make : A → B) (part : B → A) (Known : B → Type 0) : Type 0 where
  known : (a : A) → Known (make a)
  kept : (a : A) → part (make a) ≡ a
  back : (b : B) → Known b → make (part b) ≡ b

module _ {A B : Type 0} (make : A → B) (part : B → A) (Known : B → Type 0) (h : Made make part Known) where
  mapped_known : (o : Option A) (b : B) → mapped make o ≡ some b → (o ≡ some (part b)) × Known b
  mapped_known none b e = none≢some b e
  mapped_known (some a) b e =
      let s : make a ≡ b = same (make a) b e in
      (ap some (sym (h.kept a) ∙ ap part s), subst Known s (h.known a))

  mapped_reads : (M : A → Type 0) (G : Type 0) (o : Option A) → Reads o M G → Reads (mapped make o) (λ b. Known b × M (part b)) G
  mapped_reads M G o r = record {
    meant = λ b e. let k = mapped_known o b e in (k.1, r.meant (part b) k.0);
    read = λ b m. ap (mapped make) (r.read (part b) m.1) ∙ ap some (h.back b m.0);
    good = λ b e. r.good (part b) (mapped_known o b e).0;
    missing = go o r;
  }
    where
      go : (o : Option A) → Reads o M G → mapped make o ≡ none → G → ⊥
      go none r e = r.missing refl
      go (some a) r e = none≢some (make a) (sym e)

-- ENDS, and ranges: a start beside an end.
end_reads : (kind n : ℕ) → Reads (end_from kind n) (MeansEnd kind n) (GoodKind kind)
unfolding end_from
end_reads kind n = kind_reads kind endless (closed n)

range_reads : (start kind n : ℕ) → Reads (range_from start kind n) (MeansRange start kind n) (GoodKind kind)
range_reads start kind n = subst (λ o. Reads o (MeansRange start kind n) (GoodKind kind)) (go (end_from kind n))
    (mapped_reads with_start (λ r. r.end) (λ r. r.start ≡ start) made (MeansEnd kind n) (GoodKind kind) (end_from kind n) (end_reads kind n))
  where
    with_start : End ℕ → Range ℕ
    with_start e = record { start = start; end = e }

    made : Made with_start (λ r. r.end) (λ r. r.start ≡ start)
    made = record { known = λ e. refl; kept = λ e. refl; back = λ r e. λ i. record { start = sym e i; end = r.end } }

    go : (o : Option (End ℕ)) → mapped with_start o ≡ numbers.from_start start o
    go none = refl
    go (some e) = refl

-- SUBSPACES, and areas: a subspace and times, and a count beside them.
subspace_reads : (kind n : ℕ) → Reads (subspace_from kind n) (MeansSubspace kind n) (GoodKind kind)
unfolding subspace_from
subspace_reads kind n = kind_reads kind Any (Id n)

module _ (kind id count start end_kind end : ℕ) where
  abbrev PairMeant : AreaSubspace × Range ℕ → Type 0
  PairMeant x = MeansSubspace kind id x.0 × MeansRange start end_kind end x.1

  abbrev AreaMeant : Parts → Type 0
  AreaMeant a = (a.count ≡ count) × PairMeant (a.subspace, a.times)

  area_reads : Reads (area_from kind id count start end_kind end) AreaMeant (GoodKind kind × GoodKind end_kind)
  unfolding area_from
  area_reads = subst (λ o. Reads o AreaMeant (GoodKind kind × GoodKind end_kind)) (go pair)
      (mapped_reads with_count (λ a. (a.subspace, a.times)) (λ a. a.count ≡ count) made PairMeant (GoodKind kind × GoodKind end_kind) pair
      (both_reads (subspace_from kind id) (range_from start end_kind end) (subspace_reads kind id) (range_reads start end_kind end)))
    where
      pair : Option (AreaSubspace × Range ℕ)
      pair = both (subspace_from kind id) (range_from start end_kind end)

      with_count : AreaSubspace × Range ℕ → Parts
      with_count x = record { subspace = x.0; count = count; times = x.1 }

      made : Made with_count (λ a. (a.subspace, a.times)) (λ a. a.count ≡ count)
      made = record { known = λ x. refl; kept = λ x. refl; back = λ a e. λ i. record { subspace = a.subspace; count = sym e i; times = a.times } }

      go : (o : Option (AreaSubspace × Range ℕ)) → mapped with_count o ≡ parts_of count o
      go none = refl
      go (some x) = refl

-- 3D RANGES: a range of counts beside two of numbers.
module _ (s sk e c pk d t tk u : ℕ) where
  abbrev ThreeMeant : Range ℕ × (Range ℕ × Range ℕ) → Type 0
  ThreeMeant x = MeansRange c pk d x.0 × (MeansRange s sk e x.1.0 × MeansRange t tk u x.1.1)

  abbrev ThreeGood : Type 0
  ThreeGood = GoodKind pk × (GoodKind sk × GoodKind tk)

  abbrev Meant3d : Parts3d → Type 0
  Meant3d r = Unit {0} × ThreeMeant (r.paths, (r.subspaces, r.times))

  range3d_reads : Reads (parts3d_from s sk e c pk d t tk u) Meant3d ThreeGood
  unfolding parts3d_from
  range3d_reads = subst (λ o. Reads o Meant3d ThreeGood) (go three)
      (mapped_reads with_paths apart (λ r. Unit {0}) made ThreeMeant ThreeGood three
      (both_reads (range_from c pk d) (both (range_from s sk e) (range_from t tk u)) (range_reads c pk d)
      (both_reads (range_from s sk e) (range_from t tk u) (range_reads s sk e) (range_reads t tk u))))
    where
      three : Option (Range ℕ × (Range ℕ × Range ℕ))
      three = both (range_from c pk d) (both (range_from s sk e) (range_from t tk u))

      with_paths : Range ℕ × (Range ℕ × Range ℕ) → Parts3d
      with_paths x = with_numbers x.0 x.1

      apart : Parts3d → Range ℕ × (Range ℕ × Range ℕ)
      apart r = (r.paths, (r.subspaces, r.times))

      made : Made with_paths apart (λ r. Unit {0})
      made = record { known = λ x. tt; kept = λ x. refl; back = λ r k. refl }

      go : (o : Option (Range ℕ × (Range ℕ × Range ℕ))) → mapped with_paths o ≡ parts3d_of o
      go none = refl
      go (some x) = refl

  range3d_means : (r : Parts3d) → (parts3d_from s sk e c pk d t tk u ≡ some r)
      ↔ (MeansRange s sk e r.subspaces × MeansRange c pk d r.paths × MeansRange t tk u r.times)
  range3d_means r = (
    λ x. let m = (range3d_reads.meant r x).1 in (m.1.0, m.0, m.1.1),
    λ m. range3d_reads.read r (tt, (m.1, (m.0, m.2))),
  )

  range3d_bad : (parts3d_from s sk e c pk d t tk u ≡ none) ↔ (GoodKind sk × GoodKind pk × GoodKind tk → ⊥)
  range3d_bad =
      let b = bad (parts3d_from s sk e c pk d t tk u) range3d_reads in
      (λ x g. b.0 x (g.1, (g.0, g.2)), λ n. b.1 (λ g. n (g.1.0, g.0, g.1.1)))

-- THE ORDER OF THE TESTS.
module _ {A B : Type 0} (L : Limits) (f : B → Outcome A) where
  limits_first : (b : Option B) → (Accepted L → ⊥) → on_kinds L b f ≡ refused BadLimits
  unfolding on_kinds
  limits_first b n = ap (λ o. unless o (of_kinds b f)) (limits_refused L n)

  fine_first : (b : Option B) → Accepted L → on_kinds L b f ≡ of_kinds b f
  unfolding on_kinds
  fine_first b a = ap (λ o. unless o (of_kinds b f)) (limits_fine L a)

pub kind_meaning : KindMeaning
kind_meaning = record {
  end_means = λ kind n. means (end_reads kind n);
  end_bad = λ kind n. bad (end_from kind n) (end_reads kind n);
  subspace_means = λ kind n. means (subspace_reads kind n);
  subspace_bad = λ kind n. bad (subspace_from kind n) (subspace_reads kind n);
  range_means = λ a kind n. means (range_reads a kind n);
  range_bad = λ a kind n. bad (range_from a kind n) (range_reads a kind n);
  area_means = λ kind id count start end_kind end a. (
    λ x. let m = (area_reads kind id count start end_kind end).meant a x in (m.1.0, m.0, m.1.1),
    λ m. (area_reads kind id count start end_kind end).read a (m.1, (m.0, m.2)),
  );
  area_bad = λ kind id count start end_kind end. bad (area_from kind id count start end_kind end) (area_reads kind id count start end_kind end);
  range3d_means = range3d_means;
  range3d_bad = range3d_bad;
  both_mean = λ x y v. (both_meant x y v, both_read x y v);
  both_bad = both_bad;
  limits_first = λ L b f n. limits_first L f b n;
  then_kinds = λ L f a. fine_first L f none a;
  then_asked = λ L b f a. fine_first L f (some b) a;
}
