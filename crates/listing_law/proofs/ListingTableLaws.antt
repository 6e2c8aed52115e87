-- A listing of a map that is laid out: by what its arguments stand for and the path that they lend it is refused with 3, with 5, or it
-- lists the positions of `ListingTheorem`. Where there is no map it is refused with 2, and a map is never so refused.
use Prim.Native.Nat.{ℕ}
use mathlib.Core.Path.{◌≡◌, refl, sym, ◌∙◌, ap}
use mathlib.Core.List.{List, []}
use mathlib.Core.Option.{Option, none, some}
use mathlib.Core.Bool.{Bool, true, false, cond}
use native.Mathlib.Omega.{arith}
use Rattle.willow.specs.declared.Refusal.TheVariants.{BadSheet}
use Rattle.willow.specs.Answers.{unless, or_else, path_missing, lent_refusal, path_in}
use Rattle.willow.specs.Limits.{Words}
use Rattle.willow.specs.Numbers.{Bytes}
use Rattle.willow.specs.Packed.{lent, Lent}
use Rattle.willow.specs.Paths.{Path}
use Rattle.willow.specs.Refusals.{Outcome, refused, value}
use Rattle.willow.proofs.AnswerLaws.{accepted_words, lent_passed}
use Rattle.willow.proofs.PackedLaws.{packed_form}
use Rattle.area_kinds.specs.AreaKinds.{Parts}
use Rattle.map_form.specs.Maps.{MapSizes, Rule, IsMap, sizes_in, rules_in}
use Rattle.map_form.specs.MapTest.{is_map, map_refusal}
use Rattle.map_form.proofs.MapProofs.{map_reading}
use Rattle.map_law.specs.Insertions.{AreaArgument, parts_in, kinds_missing, area_refusal, area_passed}
use Rattle.map_law.proofs.ArgumentLaws.{parts_good, parts_mean, none_bad}
use Rattle.listing_law.specs.Listings.{positions, positions_for, listing}
use Rattle.listing_law.specs.ListingTable.{ListedByTable, ListingOnBytes}
use Rattle.listing_law.proofs.ListingProofs.{listing_theorem}

-- Two answers that differ.
differ : {A : Type 0} (a b : Outcome (List ℕ)) → a ≡ b → (a ≡ b → ◌≡◌ {A = ℕ} 0 1) → A
differ a b e f = let z = f e in absurd (omega arith)

-- The positions among rules for what the kinds stand for.
abbrev among : List Rule → AreaArgument → Option Parts → List ℕ
among rules x none = []
among rules x (some a) = positions (area_passed x a) rules

-- The answer, by what the arguments stand for and the path that they lend.
abbrev answer_by : List Rule → AreaArgument → Option Parts → Option Path → Outcome (List ℕ)
answer_by rules x a q = unless (or_else (kinds_missing a) (path_missing q)) (value (among rules x a))

module _ (s : List ℕ) (z : MapSizes) (rules : List Rule) (x : AreaArgument) (m : IsMap s z rules) where
  passed : is_map s ≡ true
  passed = map_reading.passes s z rules m

  words : Words z.limits
  words = accepted_words z.limits m.proper.limits_accepted

  same_positions : (o : Option Parts) → positions_for s x o ≡ among rules x o
  same_positions none = refl
  same_positions (some a) = ap (positions (area_passed x a)) (map_reading.rules_back s z rules m)

  answer_is : (a : Option Parts) (q : Option Path) → parts_in x ≡ a → lent z.limits x.buffer x.count ≡ q → listing s x ≡ answer_by rules x a q
  unfolding listing area_refusal lent_refusal
  answer_is a q stand path =
      let tested : map_refusal s ≡ none = ap (λ b. cond b none (some BadSheet)) passed in
      let found : lent (sizes_in s).limits x.buffer x.count ≡ q =
      ap (λ y. lent y.limits x.buffer x.count) (map_reading.sizes_back s z rules m) ∙ path in
      let all : positions_for s x (parts_in x) ≡ among rules x a = same_positions (parts_in x) ∙ ap (among rules x) stand in
      λ i. unless (or_else (tested i) (or_else (kinds_missing (stand i)) (path_missing (found i)))) (value (all i))

  -- none of these is 2
  pub never_no_map : listing s x ≡ refused BadSheet → ⊥
  never_no_map e = go (parts_in x) (lent z.limits x.buffer x.count) (sym (answer_is (parts_in x) (lent z.limits x.buffer x.count) refl refl) ∙ e)
    where
      go : (a : Option Parts) (q : Option Path) → answer_by rules x a q ≡ refused BadSheet → ⊥
      go none q f = differ _ _ f (λ g. cc)
      go (some a) none f = differ _ _ f (λ g. cc)
      go (some a) (some q) f = differ _ _ f (λ g. cc)

  module _ (bx : Bytes x.buffer) where
    -- 3
    by_kind : parts_in x ≡ none → (q : Option Path) → ListedByTable z rules x (answer_by rules x none q)
    by_kind e q =
        let bad = none_bad x e in
        record {
          bad_kind_lem = (λ f. bad, λ f. refl);
          bad_path_lem = (λ f. differ _ _ f (λ g. cc), λ f. absurd (bad f.0));
          lists = λ good l. absurd (bad good);
        }

    -- 5
    by_path : (a : Parts) → parts_in x ≡ some a → lent z.limits x.buffer x.count ≡ none → ListedByTable z rules x (answer_by rules x (some a) none)
    by_path a e f =
        let good = parts_good x a e in
        let no_path_lem = (packed_form.lent_none z.limits x.buffer x.count words bx).0 f in
        record {
          bad_kind_lem = (λ g. differ _ _ g (λ h. cc), λ g. absurd (g good));
          bad_path_lem = (λ g. (good, λ l. no_path_lem l.0 l.1), λ g. refl);
          lists = λ k l. absurd (no_path_lem l.0 l.1);
        }

    -- the listing
    by-rules : (a : Parts) (q : Path) → parts_in x ≡ some a → lent z.limits x.buffer x.count ≡ some q
        → ListedByTable z rules x (answer_by rules x (some a) (some q))
    unfolding lent_refusal
    by-rules a q e f =
        let good = parts_good x a e in
        let lends : Lent z.limits x.buffer x.count q = (packed_form.lent_some z.limits x.buffer x.count words bx q).0 f in
        let same = (lent_passed z.limits x.buffer x.count (rw f)).path in
        let path_is : path_in x.buffer x.count ≡ q = cc in
        record {
          bad_kind_lem = (λ g. differ _ _ g (λ h. cc), λ g. absurd (g good));
          bad_path_lem = (λ g. differ _ _ g (λ h. cc), λ g. absurd (g.1 (q, lends)));
          lists = λ k l. record {
            asked = area_passed x a;
            asked_meant = parts_mean z x a e (path_in x.buffer x.count) (rw path_is lends);
            listed = positions (area_passed x a) rules;
            answered = refl;
            in_order = listing_theorem.in_order (area_passed x a) rules;
            exactly = listing_theorem.listed (area_passed x a) rules;
          };
        }

    pub tabled : ListedByTable z rules x (listing s x)
    tabled = by_parts (parts_in x) refl
      where
        by-lent : (a : Parts) (q : Option Path) → parts_in x ≡ some a → lent z.limits x.buffer x.count ≡ q → ListedByTable z rules x (listing s x)
        by-lent a none e f = rw (answer_is (some a) none e f) (by_path a e f)
        by-lent a (some q) e f = rw (answer_is (some a) (some q) e f) (by-rules a q e f)

        by_parts : (a : Option Parts) → parts_in x ≡ a → ListedByTable z rules x (listing s x)
        by_parts none e =
            rw (answer_is none (lent z.limits x.buffer x.count) e refl) (by_kind e (lent z.limits x.buffer x.count))
        by_parts (some a) e = by-lent a (lent z.limits x.buffer x.count) e refl

-- NO MAP: 2.
refused_as_none : (s : List ℕ) (x : AreaArgument) → Bytes s → ((z : MapSizes) (rules : List Rule) → IsMap s z rules → ⊥) → listing s x ≡ refused BadSheet
unfolding listing area_refusal
refused_as_none s x bs absent-map = go (is_map s) refl
  where
    go : (b : Bool) → is_map s ≡ b → unless (or_else (map_refusal s) (or_else (kinds_missing (parts_in x)) (lent_refusal (sizes_in s).limits x.buffer x.count))) (value (positions_for s x (parts_in x))) ≡ refused BadSheet
    go true e = absurd (absent-map (sizes_in s) (rules_in s) (map_reading.read s bs e))
    go false e = rw e

pub listing_on_bytes : ListingOnBytes
listing_on_bytes = record {
  by_table = λ s z rules x bx m. tabled s z rules x m bx;
  no_map = λ s x bs. (λ e z rules m. never_no_map s z rules x m e, refused_as_none s x bs);
}
