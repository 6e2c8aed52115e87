-- What the calls that read a sheet answer. A sheet that is one passes its test, and what is read of it is what was laid out; of that list
-- element i is answered, where there is one.
use Prim.Native.Nat.{ℕ, ◌≤◌}
use mathlib.Core.Path.{◌≡◌, refl, sym, ◌∙◌, ap, subst}
use mathlib.Core.Logic.{◌↔◌}
use mathlib.Core.Bool.{Bool, true, false, cond}
use mathlib.Core.List.{List}
use mathlib.Core.Option.{none, some}
use lib.Dec.{ltb}
use lib.ListN.{length, get_or}
use borrow.Author.Tests.{ltb-true, lt-ltb}
use Rattle.willow.specs.declared.Refusal.TheVariants.{BadSheet}
use Rattle.willow.specs.Entries.{Entry}
use Rattle.willow.specs.Packed.{pack}
use Rattle.willow.specs.Refusals.{Outcome, absent, value}
use Rattle.willow.specs.Store.{Sizes, State}
use Rattle.area_kinds.specs.AreaKinds.{Parts}
use Rattle.map_form.specs.Maps.{MapSizes, Rule, IsMap, rules_in, count_in}
use Rattle.map_form.specs.MapTest.{map_refusal}
use Rattle.map_form.proofs.MapProofs.{map_reading}
use Rattle.map_rules.specs.RulePlaces.{rule_parts, no_rule}
use Rattle.map_rules.proofs.RuleAtLaws.{rules_many}
use Rattle.map_reading.specs.Rules.{count_outcome, rule_read, rule_path}
use Rattle.store_form.specs.Stores.{IsStore}
use Rattle.store_form.specs.StoreTest.{store_refusal}
use Rattle.store_form.proofs.ReadingLaws.{store_reading}
use Rattle.store_reading.specs.Held.{numbers_of, numbers_read, no_entry, entry_of, entry_read, components_of, packed_of, head_or}
use Rattle.answer_law.specs.PathAnswers.{At}
use Rattle.answer_law.specs.SheetAnswers.{IsRule, IsHead, MapAnswers, StoreAnswers, SheetAnswers}
use Rattle.answer_law.proofs.PathAnswerLaws.{value_there, below_absent, at_there, at_is}

-- ELEMENT i OF A LIST, or none: what is made of it.
module _ {A B : Type 0} (l : List A) (d : A) (f : A → B) where
  abbrev read : ℕ → Outcome B
  read i = cond (ltb i (length l)) (value (f (get_or l i d))) absent

  read_value : (i : ℕ) (y : B) → (read i ≡ value y) ↔ ((x : A) × At l i x × (f x ≡ y))
  read_value i y = (
    λ e.
        let s = value_there (ltb i (length l)) (f (get_or l i d)) y e in
        (get_or l i d, at_there l i d (ltb-true i (length l) s.0), s.1),
    λ t.
        let k = at_is l i d t.0 t.1 in
        rw (lt-ltb i (length l) k.0) (ap value (ap f k.1 ∙ t.2)),
  )

  read_absent : (i : ℕ) → (read i ≡ absent) ↔ (length l ≤ i)
  read_absent i = below_absent i (length l) (f (get_or l i d))

-- A MAP.
module _ (s : List ℕ) (z : MapSizes) (rules : List Rule) (m : IsMap s z rules) where
  fine : map_refusal s ≡ none
  fine = ap (λ b. cond b none (some BadSheet)) (map_reading.passes s z rules m)

  back : rules_in s ≡ rules
  back = map_reading.rules_back s z rules m

  counted : count_in s ≡ length rules
  counted = sym (rules_many s (map_reading.passes s z rules m)) ∙ ap length back

  count_is : count_outcome s ≡ value (length rules)
  unfolding count_outcome
  count_is = rw fine (ap value counted)

  rule_is : (i : ℕ) → rule_read s i ≡ read rules no_rule rule_parts i
  unfolding rule_read
  rule_is i = rw fine (λ j. cond (ltb i (counted j)) (value (rule_parts (get_or (back j) i no_rule))) absent)

  path_is : (i : ℕ) → rule_path s i ≡ read rules no_rule (λ r. pack r.area.path) i
  unfolding rule_path
  path_is i = rw fine (λ j. cond (ltb i (counted j)) (value (pack (get_or (back j) i no_rule).area.path)) absent)

  parts_are : (r : Rule) (x : Parts × ℕ) → rule_parts r ≡ x → IsRule r x
  parts_are r x e = subst (IsRule r) e (record { subspace = refl; count = refl; times = refl; value = refl })

  map_answers : MapAnswers s z rules
  map_answers = record {
    rule_count = count_is;
    rule = λ i x e. let t = (read_value rules no_rule rule_parts i x).0 (sym (rule_is i) ∙ e) in (t.0, t.1, parts_are t.0 x t.2);
    rule_there = λ i r a. (rule_parts r, rule_is i ∙ (read_value rules no_rule rule_parts i (rule_parts r)).1 (r, a, refl));
    no_rule_lem = λ i. (λ e. (read_absent rules no_rule rule_parts i).0 (sym (rule_is i) ∙ e), λ h. rule_is i ∙ (read_absent rules no_rule rule_parts i).1 h);
    rule_path_lem = λ i v. (
      λ e. (read_value rules no_rule (λ r. pack r.area.path) i v).0 (sym (path_is i) ∙ e),
      λ t. path_is i ∙ (read_value rules no_rule (λ r. pack r.area.path) i v).1 t,
    );
    no_rule_path = λ i. (
      λ e. (read_absent rules no_rule (λ r. pack r.area.path) i).0 (sym (path_is i) ∙ e),
      λ h. path_is i ∙ (read_absent rules no_rule (λ r. pack r.area.path) i).1 h,
    );
  }

-- A STORE.
module _ (s : List ℕ) (z : Sizes) (t : State) (m : IsStore s z t) where
  passed : store_refusal s ≡ none
  passed = ap (λ b. cond b none (some BadSheet)) (store_reading.passes s z t m)

  numbers_are : numbers_read s ≡ value (numbers_of z t)
  unfolding numbers_read
  numbers_are = rw passed (λ j. value (numbers_of (store_reading.sizes_back s z t m j) (store_reading.state_back s z t m j)))

  entry_is : (i : ℕ) → entry_read s i ≡ read t.entries no_entry (λ e. e) i
  unfolding entry_read
  entry_is i = rw passed (ap (λ x. entry_of x.entries i) (store_reading.state_back s z t m))

  entry_value : (i : ℕ) (e : Entry) → (entry_read s i ≡ value e) ↔ At t.entries i e
  entry_value i e = (
    λ h. let r = (read_value t.entries no_entry (λ x. x) i e).0 (sym (entry_is i) ∙ h) in subst (At t.entries i) r.2 r.1,
    λ a. entry_is i ∙ (read_value t.entries no_entry (λ x. x) i e).1 (e, a, refl),
  )

  entry_absent : (i : ℕ) → (entry_read s i ≡ absent) ↔ (length t.entries ≤ i)
  entry_absent i = (
    λ h. (read_absent t.entries no_entry (λ x. x) i).0 (sym (entry_is i) ∙ h),
    λ h. entry_is i ∙ (read_absent t.entries no_entry (λ x. x) i).1 h,
  )

  -- what is made of an entry, where there is one
  made : {B : Type 0} (f : Outcome Entry → Outcome B) (g : Entry → B) → ((e : Entry) → f (value e) ≡ value (g e)) → f absent ≡ absent
      → (i : ℕ) (y : B) → (f (entry_read s i) ≡ value y) ↔ ((e : Entry) × At t.entries i e × (g e ≡ y))
  made f g h k i y = (
    λ e. (read_value t.entries no_entry g i y).0 (sym (go (ltb i (length t.entries))) ∙ ap f (sym (entry_is i)) ∙ e),
    λ x. ap f (entry_is i) ∙ go (ltb i (length t.entries)) ∙ (read_value t.entries no_entry g i y).1 x,
  )
    where
      go : (b : Bool) → f (cond b (value (get_or t.entries i no_entry)) absent) ≡ cond b (value (g (get_or t.entries i no_entry))) absent
      go true = h (get_or t.entries i no_entry)
      go false = k

  store_answers : StoreAnswers s z t
  store_answers = record {
    numbers = (
      numbers_of z t,
      numbers_are,
      record { limits = refl; capacity = refl; count = refl; namespace = refl; held = refl; let_go = refl },
    );
    entry = entry_value;
    no_entry_lem = entry_absent;
    head = λ i e a. subst (λ o. IsHead e (head_or o)) (sym ((entry_value i e).1 a))
        (record { subspace = refl; timestamp = refl; payload_length = refl; digest = refl });
    components = made components_of (λ e. length e.path) (λ e. refl) refl;
    entry_path = made packed_of (λ e. pack e.path) (λ e. refl) refl;
  }

pub sheet_answers : SheetAnswers
sheet_answers = record { of_map = map_answers; of_store = store_answers }
