-- A numeral and the space behind it are read digit by digit, and each digit that is read is one that was written; so a text has
-- one numeral at its front. Numerals of one length and one value are the same, since each digit is the rest of a division by 10.
use Prim.Native.Nat.{ℕ, ◌+◌, ◌-◌, ◌*◌, ◌≤◌, ◌<◌}
use mathlib.Core.Path.{◌≡◌, refl, sym, ap}
use mathlib.Core.List.{List, [], ◌∷◌, ◌++◌}
use mathlib.Core.Option.{some}
use mathlib.Core.Bool.{true}
use native.Mathlib.Omega.{arith}
use lib.Dec.{leb}
use lib.ListN.{length}
use borrow.Author.Tests.{eqb-true, ltb-true, leb-true, ne_eqb, lt-ltb, le-leb}
use Rattle.willow.specs.Lists.{All}
use Rattle.willow.proofs.Bools.{both_true, true_both}
use Rattle.keyform.proofs.CaseLaws.{by_test, by_tests, nothing_found}
use Rattle.keyform.specs.Reading.{is_digit, Field, field_from, read_field}
use Rattle.keyform.specs.Texts.{space, digit_zero, decimal_digits, most_digits, Numeral, numeral_text, numeral_from, numeral_value}

abbrev pub Digits : List ℕ → Type 0
Digits = All (λ d. d < decimal_digits)

-- THE BYTE OF A DIGIT.
pub digit_byte : (d : ℕ) → d < decimal_digits → is_digit (digit_zero + d) ≡ true
digit_byte d h = true_both (leb digit_zero (digit_zero + d)) (leb (digit_zero + d) 57) (le-leb digit_zero (digit_zero + d) (omega arith)) (le-leb (digit_zero + d) 57 (omega arith))

pub byte_digit : (b : ℕ) → is_digit b ≡ true → (digit_zero + (b - digit_zero) ≡ b) × (b - digit_zero < decimal_digits)
byte_digit b e =
    let h = both_true (leb digit_zero b) (leb b 57) e in
    let low = leb-true digit_zero b h.0 in
    let high = leb-true b 57 h.1 in
    (omega arith, omega arith)

-- WHAT IS READ WAS WRITTEN. Digits stand before the rest that a field has, and their number is the field's.
pub record FieldOf (left v : ℕ) (s : List ℕ) (f : Field) : Type 0 where
  pub digits : List ℕ
  pub each_digit : Digits digits
  pub not_more : length digits ≤ left
  pub some_digit : left < most_digits + length digits
  pub number : f.number ≡ numeral_from v digits
  pub written : s ≡ numeral_text digits ++ (space ∷ f.rest)

-- no digit, or one more
field_ended : (left v b : ℕ) (bs : List ℕ) (f : Field) → b ≡ space → left < most_digits → some (record { number = v; rest = bs }) ≡ some f → FieldOf left v (b ∷ bs) f
field_ended left v b bs f sp few e =
    let same : record { number = v; rest = bs } ≡ f = cc in
    record {
      digits = [];
      each_digit = tt;
      not_more = omega arith;
      some_digit = omega arith;
      number = ap (λ g. g.number) (sym same);
      written = rw sp (ap (λ g. space ∷ g.rest) same);
    }

field_more : (left v b : ℕ) (bs : List ℕ) (f : Field) → is_digit b ≡ true → 0 < left
    → FieldOf (left - 1) (decimal_digits * v + (b - digit_zero)) bs f → FieldOf left v (b ∷ bs) f
field_more left v b bs f digit more r =
    let d = byte_digit b digit in
    record {
      digits = (b - digit_zero) ∷ r.digits;
      each_digit = (d.1, r.each_digit);
      not_more = let n = r.not_more in omega arith;
      some_digit = let n = r.some_digit in omega arith;
      number = r.number;
      written = rw d.0 (ap (λ l. b ∷ l) r.written);
    }

field_from_lem : (left v : ℕ) (s : List ℕ) (f : Field) → field_from left v s ≡ some f → FieldOf left v s f
field_from_lem left v [] f = nothing_found f
field_from_lem left v (b ∷ bs) f = by_tests (λ o. o ≡ some f → FieldOf left v (b ∷ bs) f) _ _
    (λ sp. by_test (λ o. o ≡ some f → FieldOf left v (b ∷ bs) f) _ (λ few. field_ended left v b bs f (eqb-true _ _ sp) (ltb-true _ _ few)) (λ no. nothing_found f))
    (λ digit e. let h = both_true _ _ digit in field_more left v b bs f h.0 (ltb-true _ _ h.1) (field_from_lem (left - 1) (decimal_digits * v + (b - digit_zero)) bs f e))
    (λ other no. nothing_found f)

pub field_written : (s : List ℕ) (f : Field) → read_field s ≡ some f
    → (digits : List ℕ) × Numeral digits × (f.number ≡ numeral_value digits) × (s ≡ numeral_text digits ++ (space ∷ f.rest))
unfolding read_field
field_written s f e =
    let r = field_from_lem most_digits 0 s f e in (
      r.digits,
      record { some_digit = let h = r.some_digit in omega arith; few_digits = r.not_more; each_digit = r.each_digit },
      r.number,
      r.written,
    )

-- WHAT IS WRITTEN IS READ, where as many digits may come, and one at least has come or comes.
field_past : (digits : List ℕ) (left v : ℕ) (rest : List ℕ) → Digits digits → length digits ≤ left → left < most_digits + length digits
    → field_from left v (numeral_text digits ++ (space ∷ rest)) ≡ some (record { number = numeral_from v digits; rest = rest })
field_past [] left v rest a h k = let few : left < most_digits = omega arith in rw (lt-ltb left most_digits few)
field_past (d ∷ ds) left v rest a h k =
    let other = ne_eqb (digit_zero + d) space (λ e. omega arith) in
    let more = lt-ltb 0 left (omega arith) in
    let back : digit_zero + d - digit_zero ≡ d = omega arith in
    rw (other, digit_byte d a.0, more, back) (field_past ds (left - 1) (decimal_digits * v + d) rest a.1 (omega arith) (omega arith))

pub field_read_lem : (digits rest : List ℕ) → Numeral digits
    → read_field (numeral_text digits ++ (space ∷ rest)) ≡ some (record { number = numeral_value digits; rest = rest })
unfolding read_field
field_read_lem digits rest n = field_past digits most_digits 0 rest n.each_digit n.few_digits (let h = n.some_digit in omega arith)

-- ONE NUMERAL at the front of a text.
pub numeral_split : (ds es r q : List ℕ) → numeral_text ds ++ (space ∷ r) ≡ numeral_text es ++ (space ∷ q) → (ds ≡ es) × (r ≡ q)
numeral_split [] [] r q e = (refl, cc)
numeral_split [] (x ∷ es) r q e = let z : space ≡ digit_zero + x = cc in absurd (omega arith)
numeral_split (d ∷ ds) [] r q e = let z : digit_zero + d ≡ space = cc in absurd (omega arith)
numeral_split (d ∷ ds) (x ∷ es) r q e =
    let head : digit_zero + d ≡ digit_zero + x = cc in
    let same : d ≡ x = omega arith in
    let rest = numeral_split ds es r q cc in
    (cc, rest.1)

-- ONE VALUE, one numeral of a length.
numeral_from_lem : (v u : ℕ) (ds es : List ℕ) → Digits ds → Digits es → length ds ≡ length es → numeral_from v ds ≡ numeral_from u es → (v ≡ u) × (ds ≡ es)
numeral_from_lem v u [] [] a b l e = (e, refl)
numeral_from_lem v u [] (x ∷ es) a b l e = absurd (omega arith)
numeral_from_lem v u (d ∷ ds) [] a b l e = absurd (omega arith)
numeral_from_lem v u (d ∷ ds) (x ∷ es) a b l e =
    let ih = numeral_from_lem (decimal_digits * v + d) (decimal_digits * u + x) ds es a.1 b.1 (omega arith) e in
    let same = ih.0 in
    let low = a.0 in
    let high = b.0 in
    let digit : d ≡ x = omega arith in
    let rest = ih.1 in
    (omega arith, cc)

pub numeral_same : (ds es : List ℕ) → Digits ds → Digits es → length ds ≡ length es → numeral_value ds ≡ numeral_value es → ds ≡ es
numeral_same ds es a b l e = (numeral_from_lem 0 0 ds es a b l e).1
