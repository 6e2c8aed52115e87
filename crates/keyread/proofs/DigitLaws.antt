-- A numeral, digit by digit.
use Prim.Native.Nat.{ℕ, suc, ◌+◌, ◌-◌, ◌*◌, ◌^◌, ◌≤◌, ◌<◌}
use mathlib.Core.List.{List, ◌∷◌}
use mathlib.Core.Option.{none, some}
use mathlib.Core.Path.{◌≡◌, sym, ◌∙◌, ap}
use native.Mathlib.Nat.{pow-le-pow_right}
use native.Mathlib.Omega.{arith}
use lib.ListN.{length, take, drop, get_or, length-drop}
use lib.Seq.{drop-cons, take_all}
use borrow.Author.Tests.{le-leb, lt-leb, lt-ltb, le-ltb, eq-eqb, ne_eqb}
use Rattle.keyform.specs.Reading.{field_from}
use Rattle.keyform.specs.Texts.{space, most_digits}

-- by its first byte, with i digits read
module _ (s : List ℕ) (i v b : ℕ) (within : i < length s) (here : b ≡ get_or s i 0) where
  front : drop i s ≡ b ∷ drop (i + 1) s
  front =
      let e : suc i ≡ i + 1 = omega arith in
      drop-cons s i 0 within ∙ ap (λ k. get_or s i 0 ∷ drop k s) e ∙ ap (λ x. x ∷ drop (i + 1) s) (sym here)

  -- the rest of the line is lent as a part of it
  pub field_ended : b ≡ 32 → 0 < i
      → field_from (10 - i) v (drop i s) ≡ some (record { number = v; rest = take (length s - (i + 1)) (drop (i + 1) s) })
  field_ended e h =
      let whole = take_all (length s - (i + 1)) (drop (i + 1) s) (omega (arith, length-drop (i + 1) s)) in
      ap (field_from (10 - i) v) front ∙ rw (eq-eqb b space e, lt-ltb (10 - i) most_digits (omega arith)) (ap (λ r. some (record { number = v; rest = r })) (sym whole))

  pub field_on : 48 ≤ b → b ≤ 57 → i < 10 → field_from (10 - i) v (drop i s) ≡ field_from (10 - (i + 1)) (10 * v + (b - 48)) (drop (i + 1) s)
  field_on l h k =
      let n : b ≡ 32 → ⊥ = λ e. omega arith in
      let d : 10 - i - 1 ≡ 10 - (i + 1) = omega arith in
      ap (field_from (10 - i) v) front ∙ rw (ne_eqb b space n, le-leb 48 b l, le-leb b 57 h, lt-ltb 0 (10 - i) (omega arith), d)

  pub field_empty : b ≡ 32 → i ≤ 0 → field_from (10 - i) v (drop i s) ≡ none
  field_empty e h = ap (field_from (10 - i) v) front ∙ rw (eq-eqb b space e, le-ltb (10 - i) most_digits (omega arith))

  pub field_full : 48 ≤ b → b ≤ 57 → 10 ≤ i → field_from (10 - i) v (drop i s) ≡ none
  field_full l h k =
      let n : b ≡ 32 → ⊥ = λ e. omega arith in
      ap (field_from (10 - i) v) front ∙ rw (ne_eqb b space n, le-leb 48 b l, le-leb b 57 h, le-ltb 0 (10 - i) (omega arith))

  pub field_below : (b ≡ 32 → ⊥) → b < 48 → field_from (10 - i) v (drop i s) ≡ none
  field_below n h = ap (field_from (10 - i) v) front ∙ rw (ne_eqb b space n, lt-leb 48 b h)

  pub field_above : 57 < b → field_from (10 - i) v (drop i s) ≡ none
  field_above h =
      let n : b ≡ 32 → ⊥ = λ e. omega arith in
      ap (field_from (10 - i) v) front ∙ rw (ne_eqb b space n, le-leb 48 b (omega arith), lt-leb b 57 h)

-- a number of so many digits, and one digit more
pub digits_more : (i v d : ℕ) → v < 10 ^ i → d < 10 → 10 * v + d < 10 ^ (i + 1)
digits_more i v d h k = let e : i + 1 ≡ suc i = omega arith in rw e (omega arith)

pub digits_fit : (i v : ℕ) → i ≤ 10 → v < 10 ^ i → v < 10000000000
digits_fit i v k h = let p : 10 ^ i ≤ 10 ^ 10 = pow-le-pow_right {n = 10} (omega arith) {i = i} {j = 10} k in omega arith
