-- One insertion into a proper map that is laid out: its answer stands in the table, and what it leaves is again such a map, of the
-- same rules or of one more.
use Prim.Native.Nat.{ℕ, ◌<◌}
use mathlib.Core.Path.{◌≡◌, refl, ◌∙◌, ap}
use mathlib.Core.Logic.{◌⊎◌, inl, inr}
use mathlib.Core.List.{List, [], ◌∷◌, ◌++◌, map}
use mathlib.Core.Option.{Option, none, some}
use native.Mathlib.Omega.{arith}
use native.Mathlib.Nat.{eq-or-lt_of_le}
use lib.ListN.{length, drop, length-append}
use borrow.Author.Tests.{eq-eqb, ne_eqb}
use Rattle.willow.specs.declared.Refusal.{Refusal}
use Rattle.willow.specs.declared.Refusal.TheVariants.{BadKind, BadPath, NoRoom}
use Rattle.willow.specs.Answers.{or_else, path_missing, lent_refusal, path_in}
use Rattle.willow.specs.Limits.{Words}
use Rattle.willow.specs.Packed.{lent, Lent}
use Rattle.willow.specs.Paths.{Path}
use Rattle.willow.specs.Refusals.{Outcome, refused}
use Rattle.willow.proofs.AnswerLaws.{accepted_words, lent_passed}
use Rattle.willow.proofs.ListLaws.{all_append}
use Rattle.willow.proofs.PackedLaws.{packed_form}
use Rattle.sheet.specs.Rows.{sheet_length}
use Rattle.sheet.proofs.LayoutLaws.{layout_rest}
use Rattle.area_kinds.specs.AreaKinds.{Parts}
use Rattle.map_form.specs.Maps.{MapSizes, map_shape, Rule, ValidRule, rule_row, header_of, map_layout, ProperMap, IsMap, count_in, rules_in}
use Rattle.map_form.specs.MapTest.{map_refusal}
use Rattle.map_form.proofs.MapReads.{fitting, sizes_back, count_back, rules_back, passes}
use Rattle.map_law.specs.Insertions.{Insertion, Passed, parts_in, kinds_missing, area_refusal, room_refusal, insert_refusal, insert_answer, insert_leaves, rule_with, with_rules}
use Rattle.map_law.specs.MapTheorem.{Passes, Table, Grown}
use Rattle.map_law.proofs.ArgumentLaws.{parts_good, parts_mean, none_bad, parts_subspace_word, parts_start_word, parts_end_word}
use Rattle.map_law.proofs.TableLaws as table

-- A step: what was answered and what is left.
pub record Step (z : MapSizes) (rules : List Rule) (rest : List ℕ) (x : Insertion) (a : Outcome ℕ) (t : List ℕ) : Type 0 where
  pub tabled : Table z rules x a
  pub next : List Rule
  pub grown : Grown z rules x a next
  pub proper : ProperMap z next
  pub laid_out : t ≡ map_layout z next ++ rest

-- The refusal, by what the arguments stand for, the path that they lend, and the number of rules.
abbrev refusal_by : Option Parts → Option Path → ℕ → ℕ → Option Refusal
refusal_by a p n N = or_else (or_else (kinds_missing a) (path_missing p)) (room_refusal n N)

-- THE RULE that is passed.
module _ (z : MapSizes) (w : Words z.limits) (x : Insertion) (passed : Passed x) (a : Parts) (stand : parts_in x.area ≡ some a)
    (p : Path) (e : lent z.limits x.area.buffer x.area.count ≡ some p) where
  lends : Lent z.limits x.area.buffer x.area.count p
  lends = (packed_form.lent_some z.limits x.area.buffer x.area.count w passed.area_passed_lem.buffer_bytes p).0 e

  path_is : path_in x.area.buffer x.area.count ≡ p
  unfolding lent_refusal
  path_is =
      let fine = lent_passed z.limits x.area.buffer x.area.count (rw e) in
      let same = fine.path in
      cc

  rule_passes : Passes z x (rule_with x a)
  rule_passes = record { area_meant = parts_mean z x.area a stand (path_in x.area.buffer x.area.count) (rw path_is lends); same_value = refl }

  rule_valid : ValidRule z.limits (rule_with x a)
  rule_valid = record {
    area_valid = record {
      subspace_word = parts_subspace_word x.area a stand passed.area_passed_lem;
      path_valid = rw path_is (packed_form.lent_valid z.limits x.area.buffer x.area.count w passed.area_passed_lem.buffer_bytes p lends);
      start_word = parts_start_word x.area a stand passed.area_passed_lem;
      end_word = parts_end_word x.area a stand passed.area_passed_lem;
    };
    value_word = passed.value_word;
  }

-- A PROPER MAP.
module _ (z : MapSizes) (rules : List Rule) (rest s : List ℕ) (p : ProperMap z rules) (laid : s ≡ map_layout z rules ++ rest) where
  a_map : IsMap s z rules
  a_map = record { proper = p; rest = rest; laid_out = laid }

  words : Words z.limits
  words = accepted_words z.limits p.limits_accepted

  rest_back : drop (sheet_length (map_shape z)) s ≡ rest
  unfolding map_layout
  rest_back =
      ap (drop (sheet_length (map_shape z))) laid
      ∙ layout_rest (map_shape z) (header_of z (length rules)) (length rules) (map (rule_row z.limits) rules) rest refl (fitting z rules rest p) p.count

  -- other rules in it
  with_rules_lem : (added : List Rule) → with_rules s (rules_in s ++ added) ≡ map_layout z (rules ++ added) ++ rest
  with_rules_lem added =
      ap (λ y. map_layout y (rules_in s ++ added) ++ drop (sheet_length (map_shape y)) s) (sizes_back s z rules a_map)
      ∙ ap (λ l. map_layout z (l ++ added) ++ drop (sheet_length (map_shape z)) s) (rules_back s z rules a_map)
      ∙ ap (λ l. map_layout z (rules ++ added) ++ l) rest_back

  module _ (x : Insertion) (a : Option Parts) (q : Option Path) (stand : parts_in x.area ≡ a)
      (path : lent z.limits x.area.buffer x.area.count ≡ q) where
    refusal_is : insert_refusal s x ≡ refusal_by a q (length rules) z.capacity
    unfolding insert_refusal area_refusal lent_refusal
    refusal_is =
        ap (λ y. or_else (or_else (map_refusal s) (or_else (kinds_missing (parts_in x.area)) (path_missing (lent y.limits x.area.buffer x.area.count)))) (room_refusal (count_in s) y.capacity))
        (sizes_back s z rules a_map)
        ∙ rw (passes s z rules a_map, stand, path, count_back s z rules a_map)

    -- refused: nothing has changed
    refused_as_lem : (r : Refusal) → refusal_by a q (length rules) z.capacity ≡ some r → Table z rules x (refused r)
        → Step z rules rest x (insert_answer s x) (insert_leaves s x)
    unfolding insert_answer insert_leaves
    refused_as_lem r e t =
        let f = refusal_is ∙ e in
        rw f (record { tabled = t; next = rules; grown = refl; proper = p; laid_out = laid })

  -- taken: one rule more
  taken_as : (x : Insertion) → Passed x → (a : Parts) (q : Path) → parts_in x.area ≡ some a
      → lent z.limits x.area.buffer x.area.count ≡ some q → length rules < z.capacity
      → Step z rules rest x (insert_answer s x) (insert_leaves s x)
  unfolding insert_answer insert_leaves
  taken_as x passed a q stand path free =
      let l = length-append rules (rule_with x a ∷ []) in
      let good = parts_good x.area a stand in
      let lent_path = lends z words x passed a stand q path in
      let full = ne_eqb (length rules) z.capacity (λ e. omega arith) in
      let none_refused : insert_refusal s x ≡ none = refusal_is x (some a) (some q) stand path ∙ rw full in
      rw (none_refused, stand, count_back s z rules a_map)
      (record {
        tabled = table.taken z rules x good (q, lent_path) free;
        next = rules ++ (rule_with x a ∷ []);
        grown = (rule_with x a, rule_passes z words x passed a stand q path, refl);
        proper = record {
          limits_accepted = p.limits_accepted;
          capacity_accepted = p.capacity_accepted;
          count = omega arith;
          rules_valid = all_append _ rules (rule_with x a ∷ []) p.rules_valid (rule_valid z words x passed a stand q path, tt);
        };
        laid_out = with_rules_lem (rule_with x a ∷ []);
      })

  pub step : (x : Insertion) → Passed x → Step z rules rest x (insert_answer s x) (insert_leaves s x)
  step x passed = by_parts (parts_in x.area) refl
    where
      by_room : (a : Parts) (q : Path) → parts_in x.area ≡ some a → lent z.limits x.area.buffer x.area.count ≡ some q
          → (length rules ≡ z.capacity) ⊎ (length rules < z.capacity) → Step z rules rest x (insert_answer s x) (insert_leaves s x)
      by_room a q e f (inl full) =
          let t = table.no_room_lem z rules x (parts_good x.area a e) (q, lends z words x passed a e q f) full in
          refused_as_lem x (some a) (some q) e f NoRoom (rw (eq-eqb (length rules) z.capacity full)) t
      by_room a q e f (inr free) = taken_as x passed a q e f free

      by_path : (a : Parts) (q : Option Path) → parts_in x.area ≡ some a → lent z.limits x.area.buffer x.area.count ≡ q
          → Step z rules rest x (insert_answer s x) (insert_leaves s x)
      by_path a none e f =
          let n = (packed_form.lent_none z.limits x.area.buffer x.area.count words passed.area_passed_lem.buffer_bytes).0 f in
          refused_as_lem x (some a) none e f BadPath refl (table.bad_path_lem z rules x (parts_good x.area a e) (λ l. n l.0 l.1))
      by_path a (some q) e f = by_room a q e f (eq-or-lt_of_le p.count)

      by_parts : (a : Option Parts) → parts_in x.area ≡ a → Step z rules rest x (insert_answer s x) (insert_leaves s x)
      by_parts none e =
          refused_as_lem x none (lent z.limits x.area.buffer x.area.count) e refl BadKind refl (table.bad_kind_lem z rules x (none_bad x.area e))
      by_parts (some a) e = by_path a (lent z.limits x.area.buffer x.area.count) e refl
