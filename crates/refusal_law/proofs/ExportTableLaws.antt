-- Behind 1 and 3 an export asks the question of what the kinds mean, under limits that were accepted: so the tests of that question leave 5
-- alone, of the paths that are read with the one thing that is meant. Questions on two paths are questions on a list of two.
use Prim.Native.Nat.{ℕ, ◌<◌}
use mathlib.Core.Path.{◌≡◌, refl, sym, ◌∙◌, ap, subst}
use mathlib.Core.Logic.{◌↔◌}
use mathlib.Core.List.{List, [], ◌∷◌, ◌++◌}
use mathlib.Core.Option.{Option, none, some}
use lib.ListN.{length}
use Rattle.willow.specs.declared.Limits.{Limits}
use Rattle.willow.specs.declared.Refusal.{Refusal}
use Rattle.willow.specs.Answers.{or_else, unless, limits_refusal, lent_refusal, path_in, path_refusal, paths_refusal, on_path, on_paths, outcome_if_any, written_length, packed_outcome}
use Rattle.willow.specs.LeastPaths.{next_greater}
use Rattle.willow.specs.Limits.{Accepted}
use Rattle.willow.specs.Lists.{In, All}
use Rattle.willow.specs.Numbers.{Bytes}
use Rattle.willow.specs.Orders.{compare_numbers}
use Rattle.willow.specs.Paths.{Path}
use Rattle.willow.specs.Ranges.{Range, intersection}
use Rattle.willow.specs.Refusals.{Outcome}
use Rattle.tables.specs.TableRows.{LentPath, NoneLent, bad_limits, bad_kind, bad_path, among, read_with, out_too_small}
use Rattle.tables.specs.Tables.{refusal_of}
use Rattle.willow.proofs.AnswerLaws.{limits_fine, lent_passed}
use Rattle.tables.proofs.Rows.{First, passes, no_row, same, same_condition, behind, answered}
use Rattle.kinds.specs.Kinds.{of_kinds, on_kinds}
use Rattle.area_kinds.specs.AreaKinds.{Parts}
use Rattle.least.specs.Places.{next_greater_of}
use Rattle.path_bounds.specs.LentPaths.{any_bad_path, lent_paths_refusal, on_lent, HoldsBytes}
use Rattle.path_bounds.specs.LentRanges.{end_paths, range_paths}
use Rattle.range_3d_intersection.specs.Sides3d.{Counts3d, converted_after}
use Rattle.refusal_law.specs.Exports.{Reading, kind_rows, SaidOfArea, ExportTables}
use Rattle.refusal_law.specs.Paths.{SaidOfOne}
use Rattle.tables.proofs.RefusalLaws.{packed_refusal, held, said_row}
use Rattle.refusal_law.proofs.PathTableLaws.{said_one, one_packed_behind, path_or_not}
use Rattle.refusal_law.proofs.GroupingTableLaws.{sides_refuse_nothing, standing_refuses_nothing, interest_refuses_nothing, sides_3d_refuse_nothing, converted_refusal, end_holds, range_holds, both_hold}
use Rattle.refusal_law.proofs.KindTableLaws.{end_reading, range_reading, area_reading, range_3d_reading, both_reading, kinds_row, limits_kinds_rows}
use Rattle.tables.proofs.LentLaws.{lent_row, lent_more, unless_refused, unless_chain}

-- 5 ALONE, under limits that were accepted.
paths_row : (L : Limits) (ps : List LentPath) → All HoldsBytes ps → Accepted L → First (bad_path L (among ps) ∷ []) (any_bad_path L ps)
paths_row L [] h a = passes (λ n. n.1) (no_row refl)
paths_row L (p ∷ ps) h a = lent_more L p ps (any_bad_path L ps) a h.0 (paths_row L ps h.1 a)

asked_accepted : {A : Type 0} (L : Limits) (ps : List LentPath) (o : Outcome A) → refusal_of o ≡ none → All HoldsBytes ps → Accepted L
    → First (bad_path L (among ps) ∷ []) (refusal_of (on_lent L ps o))
unfolding on_lent lent_paths_refusal
asked_accepted L ps o n h a = rw (unless_refused (or_else (limits_refusal L) (any_bad_path L ps)) o n, limits_fine L a) (paths_row L ps h a)

-- of the paths that are read with the one thing that is meant
module _ {B : Type 0} (L : Limits) (x : Option B) (Means : B → Type 0) (kinds : List ℕ) (r : Reading x Means kinds) (b : B) (e : x ≡ some b) where
  meant : Means b
  meant = (r.given b).0 e

  only_meant : (c : B) → Means c → c ≡ b
  only_meant c m = same_thing (sym ((r.given c).1 m) ∙ e)
    where
      same_thing : some c ≡ some b → c ≡ b
      same_thing h = cc

  read_with_lem : (paths : B → List LentPath)
      → ((y : LentPath) × among (paths b) y × NoneLent L y) ↔ ((y : LentPath) × read_with Means paths y × NoneLent L y)
  read_with_lem paths = (
    λ t. (t.0, (b, meant, t.1), t.2),
    λ t. (t.0, subst (λ c. In t.0 (paths c)) (only_meant t.1.0 t.1.1) t.1.2, t.2),
  )

-- THE LAWS.
module _ {A B : Type 0} (x : Option B) (Means : B → Type 0) (kinds : List ℕ) (r : Reading x Means kinds) where
  asked_of_kinds : (f : B → Outcome A) → ((b : B) → refusal_of (f b) ≡ none) → First (bad_kind kinds ∷ []) (refusal_of (of_kinds x f))
  asked_of_kinds f n = kinds_row x f r (λ b e. no_row (n b))

  asked_on_kinds : (L : Limits) (paths : B → List LentPath) (o : B → Outcome A) → ((b : B) → refusal_of (o b) ≡ none)
      → ((b : B) → All HoldsBytes (paths b)) → First (kind_rows L kinds Means paths) (refusal_of (on_kinds L x (λ b. on_lent L (paths b) (o b))))
  asked_on_kinds L paths o n h =
      limits_kinds_rows L x (λ b. on_lent L (paths b) (o b)) r (λ b e a.
      same_condition (read_with_lem L x Means kinds r b e paths) (asked_accepted L (paths b) (o b) (n b) (h b) a))

-- Questions on two paths.
or_else_nothing : (a : Option Refusal) → or_else a none ≡ a
or_else_nothing none = refl
or_else_nothing (some r) = refl

two_as_lent : {A : Type 0} (L : Limits) (a : List ℕ) (j : ℕ) (b : List ℕ) (k : ℕ) (f : Path → Path → Outcome A)
    → on_lent L ((a, j) ∷ (b, k) ∷ []) (f (path_in a j) (path_in b k)) ≡ on_paths L a j b k f
unfolding on_lent lent_paths_refusal on_paths paths_refusal
two_as_lent L a j b k f =
    ap (λ t. unless (or_else (limits_refusal L) (or_else (lent_refusal L a j) t)) (f (path_in a j) (path_in b k))) (or_else_nothing (lent_refusal L b k))

on_kinds_alike : {A B : Type 0} (L : Limits) (x : Option B) (f g : B → Outcome A) → ((b : B) → f b ≡ g b) → on_kinds L x f ≡ on_kinds L x g
unfolding on_kinds
on_kinds_alike {B = B} L x f g e = ap (unless (limits_refusal L)) (go x)
  where
    go : (y : Option B) → of_kinds y f ≡ of_kinds y g
    go none = refl
    go (some b) = e b

module _ {A B : Type 0} (x : Option B) (Means : B → Type 0) (kinds : List ℕ) (r : Reading x Means kinds) where
  asked_on_kinds_two : (L : Limits) (a b : List ℕ) (j k : B → ℕ) (f : B → Path → Path → Outcome A)
      → ((y : B) (p q : Path) → refusal_of (f y p q) ≡ none) → Bytes a → Bytes b
      → First (kind_rows L kinds Means (λ y. (a, j y) ∷ (b, k y) ∷ [])) (refusal_of (on_kinds L x (λ y. on_paths L a (j y) b (k y) (f y))))
  asked_on_kinds_two L a b j k f n g h =
      subst
      (λ o. First (kind_rows L kinds Means (λ y. (a, j y) ∷ (b, k y) ∷ [])) (refusal_of o))
      (on_kinds_alike L x
      (λ y. on_lent L ((a, j y) ∷ (b, k y) ∷ []) (f y (path_in a (j y)) (path_in b (k y))))
      (λ y. on_paths L a (j y) b (k y) (f y))
      (λ y. two_as_lent L a (j y) b (k y) (f y)))
      (asked_on_kinds x Means kinds r L
      (λ y. (a, j y) ∷ (b, k y) ∷ [])
      (λ y. f y (path_in a (j y)) (path_in b (k y)))
      (λ y. n y (path_in a (j y)) (path_in b (k y)))
      (λ y. (g, (h, tt))))

-- THE CONVERSION of an area: 5 and 15 under accepted limits, of one path, ..
path_accepted : (L : Limits) (b : List ℕ) (k : ℕ) → Accepted L → path_refusal L b k ≡ lent_refusal L b k
unfolding path_refusal
path_accepted L b k a = rw (limits_fine L a)

module _ (L : Limits) (base out : List ℕ) (h : Bytes base) where
  abbrev next : Path → Outcome (List ℕ)
  next p = packed_outcome (next_greater_of L p)

  next_refuses_nothing : (p : Path) → refusal_of (next p) ≡ none
  next_refuses_nothing p = packed_refusal (next_greater_of L p) ∙ path_or_not (next_greater L p)

  next_accepted : (k : ℕ) → Accepted L
      → First (bad_path L (among ((base, k) ∷ [])) ∷ out_too_small (SaidOfOne L base k next) out ∷ []) (refusal_of (written_length (on_path L base k next) out))
  unfolding on_path
  next_accepted k a =
      rw (
        unless_chain (λ o. refusal_of (written_length o out)) (λ r. refl) (path_refusal L base k) (next (path_in base k)),
        path_accepted L base k a,
      )
      (behind (lent_row L (base, k) a h) (λ e p.
      said_row (SaidOfOne L base k next) out (next (path_in base k)) (next_refuses_nothing (path_in base k))
      (said_one L base k next (held L base k h a (lent_passed L base k e)))))

  converted_accepted : (k : ℕ) (c : Counts3d) → Accepted L
      → First (bad_path L (among ((base, k) ∷ [])) ∷ out_too_small (SaidOfOne L base k next) out ∷ [])
      (refusal_of (converted_after (written_length (packed_outcome (on_path L base k (next_greater_of L))) out) c))
  converted_accepted k c a =
      rw (converted_refusal (written_length (packed_outcome (on_path L base k (next_greater_of L))) out) c)
      (subst
      (λ o. First (bad_path L (among ((base, k) ∷ [])) ∷ out_too_small (SaidOfOne L base k next) out ∷ []) (refusal_of (written_length o out)))
      (one_packed_behind L out base k (next_greater_of L))
      (next_accepted k a))

  -- .. and then of the one that is meant
  said_of_area : (x : Option Parts) (Means : Parts → Type 0) (kinds : List ℕ) (r : Reading x Means kinds) (b : Parts) (e : x ≡ some b)
      → ((v : List ℕ) × SaidOfOne L base b.count next v × (length out < length v))
      ↔ ((v : List ℕ) × SaidOfArea L Means base v × (length out < length v))
  said_of_area x Means kinds r b e = (
    λ t. (t.0, (b, meant L x Means kinds r b e, t.1), t.2),
    λ t. (
      t.0,
      subst (λ c. SaidOfOne L base c.count next t.0) (only_meant L x Means kinds r b e t.1.0 t.1.1) t.1.2,
      t.2,
    ),
  )

  converted_rows : (x : Option Parts) (Means : Parts → Type 0) (kinds : List ℕ) (c : Parts → Counts3d) → Reading x Means kinds
      → First
      (bad_limits L
      ∷ bad_kind kinds
      ∷ bad_path L (read_with Means (λ a. (base, a.count) ∷ []))
      ∷ out_too_small (SaidOfArea L Means base) out
      ∷ [])
      (refusal_of (on_kinds L x (λ a. converted_after (written_length (packed_outcome (on_path L base a.count (next_greater_of L))) out) (c a))))
  converted_rows x Means kinds c r =
      limits_kinds_rows L x _ r (λ b e a.
      same
      (refl, (read_with_lem L x Means kinds r b e (λ y. (base, y.count) ∷ []), (refl, (said_of_area x Means kinds r b e, tt))))
      (converted_accepted b.count (c b) a))

-- The buffers of two ranges.
two_ranges_hold : (r q : (Range ℕ)) (s e s2 e2 : List ℕ) → Bytes s → Bytes e → Bytes s2 → Bytes e2
    → All HoldsBytes (range_paths r s e ++ range_paths q s2 e2)
two_ranges_hold r q s e s2 e2 f g h i = both_hold (range_paths r s e) (range_paths q s2 e2) (range_holds r s e f g) (range_holds q s2 e2 h i)

-- A range of numbers that there may not be.
range_or_not : (o : Option (Range ℕ)) → refusal_of (outcome_if_any o) ≡ none
range_or_not none = refl
range_or_not (some r) = refl

-- THE EXPORTS.
pub export_tables : ExportTables
export_tables = record {
  kinds_asked = λ x Means kinds f r n. answered refl (asked_of_kinds x Means kinds r f n);
  kinds_paths_asked = λ L x Means kinds paths o r n h. answered refl (asked_on_kinds x Means kinds r L paths o n h);
  kinds_two_asked = λ L x Means kinds a b j k f r n g h. answered refl (asked_on_kinds_two x Means kinds r L a b j k f n g h);
  range_end_above = λ kind end val. answered refl (asked_of_kinds _ _ _ (end_reading kind end) _ (λ b. refl));
  range_compare_ends = λ kind end kind2 end2.
      answered refl (asked_of_kinds _ _ _ (both_reading (end_reading kind end) (end_reading kind2 end2)) _ (λ b. refl));
  range_is_open = λ start kind end. answered refl (asked_of_kinds _ _ _ (range_reading start kind end) _ (λ b. refl));
  range_includes = λ start kind end val. answered refl (asked_of_kinds _ _ _ (range_reading start kind end) _ (λ b. refl));
  range_includes_range = λ start kind end start2 kind2 end2.
      answered refl (asked_of_kinds _ _ _ (both_reading (range_reading start kind end) (range_reading start2 kind2 end2)) _ (λ b. refl));
  range_intersection = λ start kind end start2 kind2 end2.
      answered refl (asked_of_kinds _ _ _ (both_reading (range_reading start kind end) (range_reading start2 kind2 end2)) _
      (λ b. range_or_not (intersection compare_numbers b.0 b.1)));
  range_compare = λ start kind end start2 kind2 end2.
      answered refl (asked_of_kinds _ _ _ (both_reading (range_reading start kind end) (range_reading start2 kind2 end2)) _ (λ b. refl));
  path_range_end_above = λ L kind end e path count g h.
      answered refl (asked_on_kinds _ _ _ (end_reading kind end) L _ _ (λ x. refl)
      (λ x. both_hold (end_paths x e) ((path, count) ∷ []) (end_holds x e g) (h, tt)));
  path_range_compare_ends = λ L kind end e kind2 end2 e2 g h.
      answered refl (asked_on_kinds _ _ _ (both_reading (end_reading kind end) (end_reading kind2 end2)) L _ _ (λ x. refl)
      (λ x. both_hold (end_paths x.0 e) (end_paths x.1 e2) (end_holds x.0 e g) (end_holds x.1 e2 h)));
  path_range_includes = λ L start s kind end e path count f g h.
      answered refl (asked_on_kinds _ _ _ (range_reading start kind end) L _ _ (λ x. refl)
      (λ x. both_hold (range_paths x s e) ((path, count) ∷ []) (range_holds x s e f g) (h, tt)));
  path_range_includes_range = λ L start kind end s e start2 kind2 end2 s2 e2 f g h i.
      answered refl (asked_on_kinds _ _ _ (both_reading (range_reading start kind end) (range_reading start2 kind2 end2)) L _ _
      (λ x. refl) (λ x. two_ranges_hold x.0 x.1 s e s2 e2 f g h i));
  path_range_compare = λ L start kind end s e start2 kind2 end2 s2 e2 f g h i.
      answered refl (asked_on_kinds _ _ _ (both_reading (range_reading start kind end) (range_reading start2 kind2 end2)) L _ _
      (λ x. refl) (λ x. two_ranges_hold x.0 x.1 s e s2 e2 f g h i));
  path_range_intersection = λ L start kind end s e start2 kind2 end2 s2 e2 f g h i.
      answered refl (asked_on_kinds _ _ _ (both_reading (range_reading start kind end) (range_reading start2 kind2 end2)) L _ _
      (λ x. sides_refuse_nothing _ _ _) (λ x. two_ranges_hold x.0 x.1 s e s2 e2 f g h i));
  area_includes_triplet = λ L kind id count start end_kind end base subspace path pathCount timestamp g h.
      answered refl (asked_on_kinds_two _ _ _ (area_reading kind id count start end_kind end) L base path (λ a. a.count) (λ a. pathCount) _
      (λ a p q. refl) g h);
  area_could_be_pruned_by_triplet = λ L kind id count start end_kind end base subspace path pathCount timestamp g h.
      answered refl (asked_on_kinds_two _ _ _ (area_reading kind id count start end_kind end) L base path (λ a. a.count) (λ a. pathCount) _
      (λ a p q. refl) g h);
  area_includes_area = λ L kind id count start end_kind end base kind2 id2 count2 start2 endKind2 end2 base2 g h.
      answered refl (asked_on_kinds_two _ _ _
      (both_reading (area_reading kind id count start end_kind end) (area_reading kind2 id2 count2 start2 endKind2 end2)) L base base2
      (λ x. x.0.count) (λ x. x.1.count) _ (λ x p q. refl) g h);
  area_almost_includes_area = λ L kind id count start end_kind end base kind2 id2 count2 start2 endKind2 end2 base2 g h.
      answered refl (asked_on_kinds_two _ _ _
      (both_reading (area_reading kind id count start end_kind end) (area_reading kind2 id2 count2 start2 endKind2 end2)) L base base2
      (λ x. x.0.count) (λ x. x.1.count) _ (λ x p q. refl) g h);
  area_compare = λ L kind id count start end_kind end base kind2 id2 count2 start2 endKind2 end2 base2 g h.
      answered refl (asked_on_kinds_two _ _ _
      (both_reading (area_reading kind id count start end_kind end) (area_reading kind2 id2 count2 start2 endKind2 end2)) L base base2
      (λ x. x.0.count) (λ x. x.1.count) _ (λ x p q. refl) g h);
  area_intersection_lem = λ L kind id count start end_kind end base kind2 id2 count2 start2 endKind2 end2 base2 g h.
      answered refl (asked_on_kinds_two _ _ _
      (both_reading (area_reading kind id count start end_kind end) (area_reading kind2 id2 count2 start2 endKind2 end2)) L base base2
      (λ x. x.0.count) (λ x. x.1.count) _ (λ x p q. standing_refuses_nothing _ _) g h);
  area_of_interest_intersection = λ L kind id count start end_kind end m z base kind2 id2 count2 start2 endKind2 end2 m2 z2 base2 g h.
      answered refl (asked_on_kinds_two _ _ _
      (both_reading (area_reading kind id count start end_kind end) (area_reading kind2 id2 count2 start2 endKind2 end2)) L base base2
      (λ x. x.0.count) (λ x. x.1.count) _ (λ x p q. interest_refuses_nothing _ _) g h);
  area_of_interest_compare = λ L kind id count start end_kind end m z base kind2 id2 count2 start2 endKind2 end2 m2 z2 base2 g h.
      answered refl (asked_on_kinds_two _ _ _
      (both_reading (area_reading kind id count start end_kind end) (area_reading kind2 id2 count2 start2 endKind2 end2)) L base base2
      (λ x. x.0.count) (λ x. x.1.count) _ (λ x p q. refl) g h);
  range_3d_includes_triplet = λ L i ik j c pk d t tk u s e subspace path count timestamp f g h.
      answered refl (asked_on_kinds _ _ _ (range_3d_reading i ik j c pk d t tk u) L _ _ (λ x. refl)
      (λ x. both_hold (range_paths x.paths s e) ((path, count) ∷ []) (range_holds x.paths s e f g) (h, tt)));
  range_3d_could_be_pruned_by_triplet = λ L i ik j c pk d t tk u s e subspace path count timestamp f g h.
      answered refl (asked_on_kinds _ _ _ (range_3d_reading i ik j c pk d t tk u) L _ _ (λ x. refl)
      (λ x. both_hold (range_paths x.paths s e) ((path, count) ∷ []) (range_holds x.paths s e f g) (h, tt)));
  range_3d_includes_range = λ L i ik j c pk d t tk u s e i2 ik2 j2 c2 pk2 d2 t2 tk2 u2 s2 e2 f g h k.
      answered refl (asked_on_kinds _ _ _
      (both_reading (range_3d_reading i ik j c pk d t tk u) (range_3d_reading i2 ik2 j2 c2 pk2 d2 t2 tk2 u2)) L _ _ (λ x. refl)
      (λ x. two_ranges_hold x.0.paths x.1.paths s e s2 e2 f g h k));
  range_3d_compare = λ L i ik j c pk d t tk u s e i2 ik2 j2 c2 pk2 d2 t2 tk2 u2 s2 e2 f g h k.
      answered refl (asked_on_kinds _ _ _
      (both_reading (range_3d_reading i ik j c pk d t tk u) (range_3d_reading i2 ik2 j2 c2 pk2 d2 t2 tk2 u2)) L _ _ (λ x. refl)
      (λ x. two_ranges_hold x.0.paths x.1.paths s e s2 e2 f g h k));
  range_3d_intersection = λ L i ik j c pk d t tk u s e i2 ik2 j2 c2 pk2 d2 t2 tk2 u2 s2 e2 f g h k.
      answered refl (asked_on_kinds _ _ _
      (both_reading (range_3d_reading i ik j c pk d t tk u) (range_3d_reading i2 ik2 j2 c2 pk2 d2 t2 tk2 u2)) L _ _
      (λ x. sides_3d_refuse_nothing _ _) (λ x. two_ranges_hold x.0.paths x.1.paths s e s2 e2 f g h k));
  range_3d_from_area = λ L kind id count start end_kind end base out h.
      answered refl (converted_rows L base out h _ _ _ _ (area_reading kind id count start end_kind end));
}
