-- Rule i of a map is the one of row i.
use Prim.Native.Nat.{ℕ, zero, suc, ◌<◌}
use mathlib.Core.Path.{◌≡◌, refl, ◌∙◌, ap}
use mathlib.Core.List.{List, [], ◌∷◌, map}
use mathlib.Core.Bool.{true}
use native.Mathlib.Omega.{arith}
use lib.ListN.{length, take, get_or, length-map}
use lib.Seq.{get_or-take, length-take-le}
use Rattle.sheet.specs.Rows.{rows_of, zero_row}
use Rattle.sheet.proofs.RowLaws.{fitting_rows}
use Rattle.map_form.specs.Maps.{map_shape, sizes_in, count_in, rule_in, rules_in}
use Rattle.map_form.specs.MapTest.{is_map}
use Rattle.map_form.proofs.MapTestLaws.{map_passed}
use Rattle.map_rules.specs.RulePlaces.{map_row, no_rule, rule_at}

-- element i of a list to whose elements a function was applied, whatever stands for one past the end
map_at_lem : {A B : Type 0} (f : A → B) (xs : List A) (i : ℕ) (d : A) (e : B) → i < length xs → get_or (map f xs) i e ≡ f (get_or xs i d)
map_at_lem f [] i d e h = absurd (omega arith)
map_at_lem f (x ∷ xs) zero d e h = refl
map_at_lem f (x ∷ xs) (suc i) d e h = map_at_lem f xs i d e (omega arith)

-- A MAP THAT PASSED has as many rules as it says, and rule i is that of row i.
module _ (s : List ℕ) (passed : is_map s ≡ true) where
  used_count : length (take (count_in s) (rows_of (map_shape (sizes_in s)) s)) ≡ count_in s
  used_count =
      let p = (map_passed s).0 passed in
      let n = p.sizes.count in
      let f = (fitting_rows (map_shape (sizes_in s)) s p.room).count in
      length-take-le (count_in s) (rows_of (map_shape (sizes_in s)) s) (omega arith)

  pub rules_many : length (rules_in s) ≡ count_in s
  unfolding rules_in
  rules_many = length-map (take (count_in s) (rows_of (map_shape (sizes_in s)) s)) rule_in ∙ used_count

  pub rule_at_lem : (i : ℕ) → i < count_in s → rule_at s i ≡ rule_in (map_row s i)
  unfolding rules_in
  rule_at_lem i h =
      let z = map_shape (sizes_in s) in
      let l = used_count in
      map_at_lem rule_in (take (count_in s) (rows_of z s)) i (zero_row z) no_rule (omega arith)
      ∙ ap rule_in (get_or-take (count_in s) (rows_of z s) i (zero_row z) h)
