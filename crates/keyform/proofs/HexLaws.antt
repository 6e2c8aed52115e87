-- A digit's value and a value's digit are inverse, so bytes, components and paths are read as they are written, and what is
-- read was so written.
use Prim.Native.Nat.{ℕ, ◌+◌, ◌-◌, ◌*◌, ◌/◌, ◌%◌, ◌≤◌, ◌<◌}
use mathlib.Core.Path.{◌≡◌, refl, ap}
use mathlib.Core.List.{List, [], ◌∷◌}
use mathlib.Core.Option.{Option, none, some}
use mathlib.Core.Bool.{true, ◌&&◌}
use native.Mathlib.Omega.{arith}
use lib.Dec.{ltb}
use borrow.Author.Tests.{ltb-true, ltb-false, leb-true, lt-ltb, le-ltb, le-leb, lt-leb}
use Rattle.willow.specs.Numbers.{Bytes}
use Rattle.willow.proofs.Bools.{both_true}
use Rattle.keyform.proofs.CaseLaws.{by_test, by_tests, nothing_found}
use Rattle.keyform.specs.Reading.{is_digit, hex_value, before, read_hex}
use Rattle.keyform.specs.Texts.{digit_zero, decimal_digits, hex_digit, hex_text}
use Rattle.keyform.proofs.NumeralLaws.{digit_byte, byte_digit}

-- A DIGIT, which is a decimal one or a letter.
letter_value : (d : ℕ) → decimal_digits ≤ d → d < 16 → hex_value (87 + d) ≡ d
letter_value d h k =
    let past_nine = lt-leb (87 + d) 57 (omega arith) in
    let from_a = le-leb 97 (87 + d) (omega arith) in
    let to_f = le-leb (87 + d) 102 (omega arith) in
    rw (le-leb digit_zero (87 + d) (omega arith), past_nine, from_a, to_f) (omega arith)

pub digit_value : (d : ℕ) → d < 16 → hex_value (hex_digit d) ≡ d
digit_value d h = by_test (λ b. hex_value b ≡ d) (ltb d decimal_digits)
    (λ e. rw (digit_byte d (ltb-true d decimal_digits e)) (omega arith))
    (λ e. letter_value d (ltb-false d decimal_digits e) h)

value_letter : (b : ℕ) → 97 ≤ b → b ≤ 102 → hex_digit (b - 87) ≡ b
value_letter b from_a to_f = rw (le-ltb (b - 87) decimal_digits (omega arith)) (omega arith)

value_decimal : (b : ℕ) → is_digit b ≡ true → hex_digit (b - digit_zero) ≡ b
value_decimal b e = let d = byte_digit b e in rw (lt-ltb (b - digit_zero) decimal_digits d.1) d.0

pub value_digit : (b : ℕ) → hex_value b < 16 → hex_digit (hex_value b) ≡ b
value_digit b = by_tests (λ v. v < 16 → hex_digit v ≡ b) _ _
    (λ e h. value_decimal b e)
    (λ e h. let letter = both_true _ _ e in value_letter b (leb-true _ _ letter.0) (leb-true _ _ letter.1))
    (λ e f h. absurd (omega arith))

-- BYTES.
pub hex_read : (bytes : List ℕ) → Bytes bytes → read_hex (hex_text bytes) ≡ some bytes
hex_read [] a = refl
hex_read (b ∷ bs) a =
    let h = a.0 in
    let upper = digit_value (b / 16) (omega arith) in
    let lower = digit_value (b % 16) (omega arith) in
    let upper_digit = lt-ltb (b / 16) 16 (omega arith) in
    let lower_digit = lt-ltb (b % 16) 16 (omega arith) in
    let whole : 16 * (b / 16) + b % 16 ≡ b = omega arith in
    rw (upper, lower, upper_digit, lower_digit, hex_read bs a.1) (ap (λ x. some (x ∷ bs)) whole)

-- an element before a list that there is
pub before_some : {A : Type 0} (x : A) (o : Option (List A)) (l : List A) → before x o ≡ some l
    → (xs : List A) × (o ≡ some xs) × (l ≡ x ∷ xs)
before_some x none l e = nothing_found l e
before_some x (some xs) l e = (xs, refl, cc)

-- two digits are the text of the byte that is read from them
digits_byte : (x y : ℕ) → hex_value x < 16 → hex_value y < 16 → (s bytes : List ℕ) → s ≡ hex_text bytes
    → x ∷ y ∷ s ≡ hex_text ((16 * hex_value x + hex_value y) ∷ bytes)
digits_byte x y h k s bytes e =
    let upper : (16 * hex_value x + hex_value y) / 16 ≡ hex_value x = omega arith in
    let lower : (16 * hex_value x + hex_value y) % 16 ≡ hex_value y = omega arith in
    rw (upper, lower, value_digit x h, value_digit y k) (ap (λ l. x ∷ y ∷ l) e)

digits_written : (x y : ℕ) (s bytes : List ℕ) → ltb (hex_value x) 16 && ltb (hex_value y) 16 ≡ true
    → ((xs : List ℕ) × (s ≡ hex_text xs) × Bytes xs × (bytes ≡ (16 * hex_value x + hex_value y) ∷ xs)) → (x ∷ y ∷ s ≡ hex_text bytes) × Bytes bytes
digits_written x y s bytes digits r =
    let d = both_true (ltb (hex_value x) 16) (ltb (hex_value y) 16) digits in
    let h = ltb-true (hex_value x) 16 d.0 in
    let k = ltb-true (hex_value y) 16 d.1 in
    rw r.3 (digits_byte x y h k s r.0 r.1, (omega arith, r.2))

pub hex_written : (s bytes : List ℕ) → read_hex s ≡ some bytes → (s ≡ hex_text bytes) × Bytes bytes
hex_written [] bytes = λ e. let z : [] ≡ bytes = cc in rw (← z) (refl, tt)
hex_written (x ∷ []) bytes = nothing_found bytes
hex_written (x ∷ y ∷ s) bytes = by_test (λ o. o ≡ some bytes → (x ∷ y ∷ s ≡ hex_text bytes) × Bytes bytes) _
    (λ digits e.
    let r = before_some (16 * hex_value x + hex_value y) (read_hex s) bytes e in
    let ih = hex_written s r.0 r.1 in
    digits_written x y s bytes digits (r.0, ih.0, ih.1, r.2))
    (λ other. nothing_found bytes)
