-- The tests of lent paths come first, and their rows are known (`one_rows` and `two_rows`, willow/proofs/AnswerLaws.antt). A question that
-- refuses nothing leaves them as they are; an answer that is written puts 15 behind them, of what the question says of the paths that the
-- buffers hold, which are those that are lent. Each call is such a question.
use Prim.Native.Nat.{ℕ, ◌≤◌, ◌<◌}
use mathlib.Core.Path.{◌≡◌, refl, sym, ◌∙◌, ap, subst}
use mathlib.Core.Logic.{◌↔◌}
use mathlib.Core.List.{List, [], ◌∷◌}
use mathlib.Core.Option.{Option, none, some}
use native.Mathlib.Omega.{arith}
use lib.Dec.{leb, ltb}
use lib.ListN.{length, take, get_or}
use borrow.Author.Tests.{leb-true, le-leb}
use Rattle.willow.specs.declared.Limits.{Limits}
use Rattle.willow.specs.declared.Refusal.{Refusal}
use Rattle.willow.specs.declared.Refusal.TheVariants.{ComponentTooLong}
use Rattle.willow.specs.Answers.{unless, limits_refusal, lent_refusal, path_in, path_refusal, paths_refusal, on_path, on_paths, written_length, packed_outcome}
use Rattle.willow.specs.LeastPaths.{next_greater, successor, greatest}
use Rattle.willow.specs.Numbers.{Bytes}
use Rattle.willow.specs.Packed.{pack, Lent}
use Rattle.willow.specs.Paths.{Component, Path, path_length}
use Rattle.willow.specs.Refusals.{Outcome, value}
use Rattle.tables.specs.TableRows.{bad_limits, component_too_long, out_too_small, lent_rows, lent_written_rows}
use Rattle.tables.specs.Tables.{refusal_of}
use Rattle.willow.proofs.AnswerLaws.{accepted_words, limits_refused, limits_fine, path_passed, paths_passed}
use Rattle.willow.proofs.PackedLaws.{packed_form}
use Rattle.tables.proofs.Rows.{First, tested_not, same_condition, behind, answered}
use Rattle.lent_path.specs.LentTests.{component_refusal}
use Rattle.path_bounds.specs.LentPaths.{on_lent, lent_paths_refusal}
use Rattle.construction.specs.Making.{under_limits}
use Rattle.least_writing.specs.Written.{path_or}
use Rattle.refusal_law.specs.Paths.{SaidOfOne, SaidOfTwo, LimitsFirst, PathTables}
use Rattle.tables.proofs.RefusalLaws.{may_be_there, packed_refusal, held, said_row}
use Rattle.tables.proofs.LentLaws.{limits_row, one_rows, two_rows, unless_refused, unless_chain}

-- QUESTIONS that refuse nothing.
pub asked_one : {A : Type 0} (f : Path → Outcome A) → ((p : Path) → refusal_of (f p) ≡ none) → (L : Limits) (b : List ℕ) (k : ℕ) → Bytes b
    → First (lent_rows L ((b, k) ∷ [])) (refusal_of (on_path L b k f))
unfolding on_path
asked_one f n L b k h = rw (unless_refused (path_refusal L b k) (f (path_in b k)) (n (path_in b k))) (one_rows L b k h)

pub asked_two : {A : Type 0} (f : Path → Path → Outcome A) → ((p q : Path) → refusal_of (f p q) ≡ none)
    → (L : Limits) (a : List ℕ) (j : ℕ) (b : List ℕ) (k : ℕ) → Bytes a → Bytes b
    → First (lent_rows L ((a, j) ∷ (b, k) ∷ [])) (refusal_of (on_paths L a j b k f))
unfolding on_paths
asked_two f n L a j b k g h =
    rw (unless_refused (paths_refusal L a j b k) (f (path_in a j) (path_in b k)) (n (path_in a j) (path_in b k))) (two_rows L a j b k g h)

-- BYTES THAT ARE LENT: 15 alone.
part_row : (part out : List ℕ) → First (out_too_small (λ v. v ≡ part) out ∷ []) (refusal_of (written_length (value part) out))
part_row part out = said_row (λ v. v ≡ part) out (value part) refl (λ v. (λ e. same v e, λ e. ap value (sym e)))
  where
    same : (v : List ℕ) → value part ≡ value v → v ≡ part
    same v e = cc

-- ANSWERS THAT ARE WRITTEN: what is said of the paths that are held is what is said of those that are lent.
pub said_one : (L : Limits) (b : List ℕ) (k : ℕ) (f : Path → Outcome (List ℕ)) → ((p : Path) → Lent L b k p ↔ (p ≡ path_in b k))
    → (v : List ℕ) → (f (path_in b k) ≡ value v) ↔ SaidOfOne L b k f v
said_one L b k f m v = (
  λ e. (path_in b k, (m (path_in b k)).1 refl, e),
  λ t. subst (λ p. f p ≡ value v) ((m t.0).0 t.1) t.2,
)

said_two : (L : Limits) (a : List ℕ) (j : ℕ) (b : List ℕ) (k : ℕ) (f : Path → Path → Outcome (List ℕ))
    → ((p : Path) → Lent L a j p ↔ (p ≡ path_in a j)) → ((p : Path) → Lent L b k p ↔ (p ≡ path_in b k))
    → (v : List ℕ) → (f (path_in a j) (path_in b k) ≡ value v) ↔ SaidOfTwo L a j b k f v
said_two L a j b k f m n v = (
  λ e. (path_in a j, path_in b k, (m (path_in a j)).1 refl, (n (path_in b k)).1 refl, e),
  λ t. let p = (m t.0).0 t.2 in let q = (n t.1).0 t.3 in (λ i. f (sym p i) (sym q i)) ∙ t.4,
)

module _ (L : Limits) (out : List ℕ) where
  pub written_one : (f : Path → Outcome (List ℕ)) → ((p : Path) → refusal_of (f p) ≡ none) → (b : List ℕ) (k : ℕ) → Bytes b
      → First (lent_written_rows L ((b, k) ∷ []) (SaidOfOne L b k f) out) (refusal_of (written_length (on_path L b k f) out))
  unfolding on_path
  written_one f n b k h =
      rw (unless_chain (λ o. refusal_of (written_length o out)) (λ r. refl) (path_refusal L b k) (f (path_in b k)))
      (behind (one_rows L b k h) (λ e p.
      let t = path_passed L b k e in
      said_row (SaidOfOne L b k f) out (f (path_in b k)) (n (path_in b k)) (said_one L b k f (held L b k h t.0 t.1))))

  written_two : (f : Path → Path → Outcome (List ℕ)) → ((p q : Path) → refusal_of (f p q) ≡ none) → (a : List ℕ) (j : ℕ) (b : List ℕ) (k : ℕ)
      → Bytes a → Bytes b
      → First (lent_written_rows L ((a, j) ∷ (b, k) ∷ []) (SaidOfTwo L a j b k f) out) (refusal_of (written_length (on_paths L a j b k f) out))
  unfolding on_paths
  written_two f n a j b k g h =
      rw (unless_chain (λ o. refusal_of (written_length o out)) (λ r. refl) (paths_refusal L a j b k) (f (path_in a j) (path_in b k)))
      (behind (two_rows L a j b k g h) (λ e p.
      let t = paths_passed L a j b k e in
      said_row (SaidOfTwo L a j b k f) out (f (path_in a j) (path_in b k)) (n (path_in a j) (path_in b k))
      (said_two L a j b k f (held L a j g t.0 t.1) (held L b k h t.0 t.2))))

  -- a path that is packed behind the tests, and one that the question packs
  packed_behind : (t : Option Refusal) (o : Outcome Path) → unless t (packed_outcome o) ≡ packed_outcome (unless t o)
  packed_behind none o = refl
  packed_behind (some r) o = refl

  pub one_packed_behind : (b : List ℕ) (k : ℕ) (f : Path → Outcome Path) → on_path L b k (λ p. packed_outcome (f p)) ≡ packed_outcome (on_path L b k f)
  unfolding on_path
  one_packed_behind b k f = packed_behind (path_refusal L b k) (f (path_in b k))

  two_packed_behind : (a : List ℕ) (j : ℕ) (b : List ℕ) (k : ℕ) (f : Path → Path → Outcome Path)
      → on_paths L a j b k (λ p q. packed_outcome (f p q)) ≡ packed_outcome (on_paths L a j b k f)
  unfolding on_paths
  two_packed_behind a j b k f = packed_behind (paths_refusal L a j b k) (f (path_in a j) (path_in b k))

  pub packed_one : (f : Path → Outcome Path) → ((p : Path) → refusal_of (f p) ≡ none) → (b : List ℕ) (k : ℕ) → Bytes b
      → First (lent_written_rows L ((b, k) ∷ []) (SaidOfOne L b k (λ p. packed_outcome (f p))) out)
      (refusal_of (written_length (packed_outcome (on_path L b k f)) out))
  packed_one f n b k h =
      subst
      (λ o. First (lent_written_rows L ((b, k) ∷ []) (SaidOfOne L b k (λ p. packed_outcome (f p))) out) (refusal_of (written_length o out)))
      (one_packed_behind b k f)
      (written_one (λ p. packed_outcome (f p)) (λ p. packed_refusal (f p) ∙ n p) b k h)

  packed_two : (f : Path → Path → Outcome Path) → ((p q : Path) → refusal_of (f p q) ≡ none) → (a : List ℕ) (j : ℕ) (b : List ℕ) (k : ℕ)
      → Bytes a → Bytes b
      → First (lent_written_rows L ((a, j) ∷ (b, k) ∷ []) (SaidOfTwo L a j b k (λ p q. packed_outcome (f p q))) out)
      (refusal_of (written_length (packed_outcome (on_paths L a j b k f)) out))
  packed_two f n a j b k g h =
      subst
      (λ o. First (lent_written_rows L ((a, j) ∷ (b, k) ∷ []) (SaidOfTwo L a j b k (λ p q. packed_outcome (f p q))) out) (refusal_of (written_length o out)))
      (two_packed_behind a j b k f)
      (written_two (λ p q. packed_outcome (f p q)) (λ p q. packed_refusal (f p q) ∙ n p q) a j b k g h)

  pub packed_none : (p : Path)
      → First (bad_limits L ∷ out_too_small (λ v. v ≡ pack p) out ∷ []) (refusal_of (written_length (packed_outcome (under_limits L (value p))) out))
  unfolding under_limits
  packed_none p =
      rw (unless_chain (λ o. refusal_of (written_length (packed_outcome o) out)) (λ r. refl) (limits_refusal L) (value p))
      (behind (limits_row L) (λ e q. part_row (pack p) out))

-- A COMPONENT: 1, then 9.
component_rows : (L : Limits) (c : Component) → First (bad_limits L ∷ component_too_long L (λ d. d ≡ c) ∷ []) (component_refusal L c)
unfolding component_refusal
component_rows L c =
    behind (limits_row L) (λ e p.
    same_condition
    (λ n. (c, refl, over n), λ t. within t.0 t.1 t.2)
    (tested_not (leb (length c) L.mcl) ComponentTooLong (leb-true (length c) L.mcl, le-leb (length c) L.mcl)))
  where
    over : (length c ≤ L.mcl → ⊥) → L.mcl < length c
    over n = omega arith

    within : (d : Component) → d ≡ c → L.mcl < length d → length c ≤ L.mcl → ⊥
    within d e h l = let s = ap length e in omega arith

-- A path that there may not be.
pub path_or_not : (o : Option Path) → refusal_of (path_or o) ≡ none
path_or_not none = refl
path_or_not (some p) = refl

-- THE LAWS AND THE CALLS.
pub path_tables : PathTables
path_tables = record {
  one_asked = λ f n L b k h. answered refl (asked_one f n L b k h);
  two_asked = λ f n L a j b k g h. answered refl (asked_two f n L a j b k g h);
  one_written = λ f n L b k out h. answered refl (written_one L out f n b k h);
  one_packed = λ f n L b k out h. answered refl (packed_one L out f n b k h);
  two_packed = λ f n L a j b k out g h. answered refl (packed_two L out f n a j b k g h);
  none_packed = λ L p out. answered refl (packed_none L out p);
  test = λ L b k h. answered refl (one_rows L b k h);
  test_two = λ L a j b k g h. answered refl (two_rows L a j b k g h);
  test_component = λ L c. answered refl (component_rows L c);
  component_count = λ L b k h. answered refl (asked_one _ (λ p. refl) L b k h);
  is_empty = λ L b k h. answered refl (asked_one _ (λ p. refl) L b k h);
  path_length_lem = λ L b k h. answered refl (asked_one _ (λ p. refl) L b k h);
  path_length_of_prefix = λ L n b k h. answered refl (asked_one _ (λ p. may_be_there (leb n (length p)) (path_length (take n p))) L b k h);
  create_prefix = λ L n b k h. answered refl (asked_one _ (λ p. may_be_there (leb n (length p)) n) L b k h);
  component_length = λ L i b k h. answered refl (asked_one _ (λ p. may_be_there (ltb i (length p)) (length (get_or p i []))) L b k h);
  component = λ L i b k h. answered refl (asked_one _ (λ p. may_be_there (ltb i (length p)) (get_or p i [])) L b k h);
  compare = λ L a j b k g h. answered refl (asked_two _ (λ p q. refl) L a j b k g h);
  equal = λ L a j b k g h. answered refl (asked_two _ (λ p q. refl) L a j b k g h);
  is_prefix_of_lem = λ L a j b k g h. answered refl (asked_two _ (λ p q. refl) L a j b k g h);
  is_prefixed_by = λ L a j b k g h. answered refl (asked_two _ (λ p q. refl) L a j b k g h);
  is_related_lem = λ L a j b k g h. answered refl (asked_two _ (λ p q. refl) L a j b k g h);
  longest_common_prefix = λ L a j b k g h. answered refl (asked_two _ (λ p q. refl) L a j b k g h);
  write_part = λ part out. answered refl (part_row part out);
  write_component = λ L i b k out h. answered refl (written_one L out _ (λ p. may_be_there (ltb i (length p)) (get_or p i [])) b k h);
  write_prefix = λ L n b k out h. answered refl (packed_one L out _ (λ p. may_be_there (leb n (length p)) (take n p)) b k h);
  write_longest_common_prefix = λ L a j b k out g h. answered refl (packed_two L out _ (λ p q. refl) a j b k g h);
  greater_but_not_prefixed = λ L b k out h. answered refl (packed_one L out _ (λ p. path_or_not (next_greater L p)) b k h);
  successor = λ L b k out h. answered refl (packed_one L out _ (λ p. path_or_not (successor L p)) b k h);
  singleton_range_lem = λ L b k out h. answered refl (packed_one L out _ (λ p. path_or_not (successor L p)) b k h);
  new_max = λ L out. answered refl (packed_none L out (greatest L));
}

-- 1 WHATEVER IS LENT, and 5 of the first path: the tests behind it are not looked at.
pub limits_first : LimitsFirst
unfolding on_path on_paths on_lent path_refusal paths_refusal lent_paths_refusal lent_refusal
limits_first = record {
  one_limits = λ L b k f n. rw (limits_refused L n);
  two_limits = λ L a j b k f n. rw (limits_refused L n);
  lent_limits = λ L ps o n. rw (limits_refused L n);
  two_first = λ L a j b k f h c n. rw (limits_fine L c, (packed_form.lent_none L a j (accepted_words L c) h).1 n);
}
