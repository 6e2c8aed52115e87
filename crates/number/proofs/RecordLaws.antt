-- Records of one size, by index: record i stands behind i others, so the bytes are cut at products of the size. A list of
-- elements that is laid out is cut where it is cut itself.
use Prim.Native.Nat.{ℕ, zero, suc, ◌+◌, ◌-◌, ◌*◌, ◌≤◌, ◌<◌}
use mathlib.Core.Path.{◌≡◌, refl, sym, ◌∙◌, ap}
use mathlib.Core.Bool.{Bool, true, false, cond}
use mathlib.Core.List.{List, [], ◌∷◌, ◌++◌, append_assoc, append-nil}
use native.Mathlib.Omega.{arith}
use native.Mathlib.Nat.{mul-zero, mul-one, mul-suc, mul-add, mul-le-mul_left, add_comm}
use lib.ListN.{length, take, drop, get_or, replicate, length-append, take-append-drop, replicate-append-replicate}
use lib.Seq.{take_at, drop_at, drop-cons, drop-drop, length-take-le}
use Rattle.willow.specs.Limits.{max_word}
use Rattle.willow.specs.Lists.{All, filter}
use Rattle.willow.specs.Numbers.{Bytes, le, unle, number_at}
use Rattle.willow.proofs.NumberLaws.{le_length, unle_le, number_bytes}
use Rattle.number.specs.Overwriting.{overwrite, zeros}
use Rattle.number.specs.Records.{laid, Sized, record_at}
use Rattle.number.proofs.OverwritingLaws.{three_parts, length_part, part_of_part, overwrite_is, overwrite_seam}

-- PRODUCTS, for arithmetic that takes a product of two variables as an unknown.
module _ (size : ℕ) where
  pub mul_step : (n : ℕ) → 0 < n → size * n ≡ size * (n - 1) + size
  mul_step n h =
      let e : n ≡ suc (n - 1) = omega arith in
      ap (λ k. size * k) e ∙ mul-suc size (n - 1)

  -- room for record i among n, and for m records from record i on
  pub mul_room : (i n : ℕ) → i < n → size * i + size ≤ size * n
  mul_room i n h = rw (← mul-suc size i) (mul-le-mul_left size h)

  pub mul_part : (i m n : ℕ) → i + m ≤ n → size * i + size * m ≤ size * n
  mul_part i m n h = rw (← mul-add size i m) (mul-le-mul_left size h)

-- ELEMENTS WITH A BYTE FORM, laid out one behind the other.
module _ {A : Type 0} (form : A → List ℕ) where
  pub laid_append : (a b : List A) → laid form (a ++ b) ≡ laid form a ++ laid form b
  laid_append [] b = refl
  laid_append (x ∷ a) b = rw (laid_append a b) (sym (append_assoc (form x) (laid form a) (laid form b)))

  module _ (size : ℕ) where
    -- the forms have the size: in parts, joined, written over, repeated, filtered
    pub sized_all : ((x : A) → length (form x) ≡ size) → (xs : List A) → Sized form size xs
    sized_all h [] = tt
    sized_all h (x ∷ xs) = (h x, sized_all h xs)

    pub sized_append : (a b : List A) → Sized form size a → Sized form size b → Sized form size (a ++ b)
    sized_append [] b h k = k
    sized_append (x ∷ a) b h k = (h.0, sized_append a b h.1 k)

    pub sized_take : (n : ℕ) (xs : List A) → Sized form size xs → Sized form size (take n xs)
    sized_take zero xs h = tt
    sized_take (suc n) [] h = tt
    sized_take (suc n) (x ∷ xs) h = (h.0, sized_take n xs h.1)

    pub sized_drop : (n : ℕ) (xs : List A) → Sized form size xs → Sized form size (drop n xs)
    sized_drop zero xs h = h
    sized_drop (suc n) [] h = tt
    sized_drop (suc n) (x ∷ xs) h = sized_drop n xs h.1

    pub sized_overwrite : (xs : List A) (k : ℕ) (ys : List A) → Sized form size xs → Sized form size ys → Sized form size (overwrite xs k ys)
    unfolding overwrite
    sized_overwrite xs k ys h f =
        let n : ℕ = k + length ys in
        sized_append (take k xs) (ys ++ drop n xs) (sized_take k xs h) (sized_append ys (drop n xs) f (sized_drop n xs h))

    pub sized_replicate : (n : ℕ) (x : A) → length (form x) ≡ size → Sized form size (replicate n x)
    sized_replicate zero x h = tt
    sized_replicate (suc n) x h = (h, sized_replicate n x h)

    pub sized_filter : (test : A → Bool) (xs : List A) → Sized form size xs → Sized form size (filter test xs)
    sized_filter test [] h = tt
    sized_filter test (x ∷ xs) h = go (test x) (sized_filter test xs h.1)
      where
        go : (b : Bool) → Sized form size (filter test xs) → Sized form size (cond b (x ∷ filter test xs) (filter test xs))
        go true k = (h.0, k)
        go false k = k

    pub length_laid : (xs : List A) → Sized form size xs → length (laid form xs) ≡ size * length xs
    length_laid [] h = sym (mul-zero size)
    length_laid (x ∷ xs) h =
        let l = h.0 in
        rw (length-append (form x) (laid form xs), length_laid xs h.1, mul-suc size (length xs)) (omega arith)

    pub laid_zeros : (n : ℕ) (x : A) → form x ≡ zeros size → laid form (replicate n x) ≡ zeros (size * n)
    laid_zeros zero x e = rw (mul-zero size)
    laid_zeros (suc n) x e =
        let a : size * suc n ≡ size + size * n = mul-suc size n ∙ add_comm (size * n) size in
        rw (a, e, laid_zeros n x e) (replicate-append-replicate size (size * n) 0)

    -- behind a front, cut before element k and behind m elements more
    module _ (front tail : List ℕ) (base : ℕ) (xs : List A) (k m : ℕ)
        (lf : length front ≡ base) (h : Sized form size xs) (inside : k + m ≤ length xs) where
      laid_cut : front ++ (laid form xs ++ tail)
          ≡ (front ++ laid form (take k xs)) ++ (laid form (take m (drop k xs)) ++ (laid form (drop (k + m) xs) ++ tail))
      laid_cut =
          ap (λ l. front ++ (laid form l ++ tail)) (three_parts xs k m)
          ∙ rw (laid_append (take k xs) (take m (drop k xs) ++ drop (k + m) xs), laid_append (take m (drop k xs)) (drop (k + m) xs)) (simp append_assoc)

      length_cut_front : length (front ++ laid form (take k xs)) ≡ base + size * k
      length_cut_front =
          let l = length_laid (take k xs) (sized_take k xs h) ∙ ap (λ n. size * n) (length-take-le k xs (omega arith)) in
          simp length-append (omega arith)

      length_cut_middle : length (laid form (take m (drop k xs))) ≡ size * m
      length_cut_middle =
          length_laid (take m (drop k xs)) (sized_take m (drop k xs) (sized_drop k xs h)) ∙ ap (λ n. size * n) (length_part xs k m inside)

      -- m records from record k on
      pub laid_part : take (size * m) (drop (base + size * k) (front ++ (laid form xs ++ tail))) ≡ laid form (take m (drop k xs))
      laid_part =
          let rest : List ℕ = laid form (drop (k + m) xs) ++ tail in
          rw (laid_cut, drop_at (front ++ laid form (take k xs)) (laid form (take m (drop k xs)) ++ rest) (base + size * k) length_cut_front)
          (take_at (laid form (take m (drop k xs))) rest (size * m) length_cut_middle)

    -- records from record k on written over by others: the list written over
    pub laid_over : (front tail : List ℕ) (base : ℕ) (xs : List A) (k : ℕ) (ys : List A) → length front ≡ base
        → Sized form size xs → Sized form size ys → k + length ys ≤ length xs
        → overwrite (front ++ (laid form xs ++ tail)) (base + size * k) (laid form ys) ≡ front ++ (laid form (overwrite xs k ys) ++ tail)
    laid_over front tail base xs k ys lf h f inside =
        let m : ℕ = length ys in
        let ly = length_cut_middle front tail base xs k m lf h inside ∙ sym (length_laid ys f) in
        let rest : List ℕ = laid form (drop (k + m) xs) in
        let back : laid form (overwrite xs k ys) ≡ laid form (take k xs) ++ (laid form ys ++ rest) =
        ap (laid form) (overwrite_is xs k ys) ∙ rw (laid_append (take k xs) (ys ++ drop (k + m) xs), laid_append ys (drop (k + m) xs)) in
        ap (λ l. overwrite l (base + size * k) (laid form ys)) (laid_cut front tail base xs k m lf h inside)
        ∙ overwrite_seam (front ++ laid form (take k xs)) (laid form (take m (drop k xs))) (rest ++ tail) (laid form ys) (base + size * k)
        (length_cut_front front tail base xs k m lf h inside) ly
        ∙ sym (ap (λ l. front ++ (l ++ tail)) back ∙ simp append_assoc)

    -- one record
    pub laid_put : (front tail : List ℕ) (base : ℕ) (xs : List A) (i : ℕ) (x : A) → length front ≡ base
        → Sized form size xs → length (form x) ≡ size → i < length xs
        → overwrite (front ++ (laid form xs ++ tail)) (base + size * i) (form x) ≡ front ++ (laid form (overwrite xs i (x ∷ [])) ++ tail)
    laid_put front tail base xs i x lf h l k =
        rw (append-nil (form x)) at (laid_over front tail base xs i (x ∷ []) lf h (l, tt) (omega arith))

    -- record i is the form of element i
    pub record_laid : (front tail : List ℕ) (base : ℕ) (xs : List A) (i : ℕ) (z : A) → length front ≡ base → Sized form size xs → i < length xs
        → record_at base size i (front ++ (laid form xs ++ tail)) ≡ form (get_or xs i z)
    unfolding record_at
    record_laid front tail base xs i z lf h k =
        let one : take 1 (drop i xs) ≡ get_or xs i z ∷ [] = rw (drop-cons xs i z k) in
        (rw (mul-one size) at (laid_part front tail base xs i 1 lf h (omega arith))) ∙ ap (laid form) one ∙ append-nil (form (get_or xs i z))

-- RECORD i OF THE BYTES.
module _ (base size : ℕ) where
  pub record_is : (i : ℕ) (s : List ℕ) → record_at base size i s ≡ take size (drop (base + size * i) s)
  unfolding record_at
  record_is i s = refl

  pub length_record : (i : ℕ) (s : List ℕ) → base + size * i + size ≤ length s → length (record_at base size i s) ≡ size
  unfolding record_at
  length_record i s h = length_part s (base + size * i) size h

  -- a part of it, and a number in it, stand in the bytes behind the records before it
  pub record_part : (i p m : ℕ) (s : List ℕ) → p + m ≤ size → take m (drop p (record_at base size i s)) ≡ take m (drop (base + size * i + p) s)
  unfolding record_at
  record_part i p m s h = part_of_part s (base + size * i) size p m h

-- what holds throughout a list holds of element i
pub all_at : {A : Type 0} (P : A → Type 0) (xs : List A) (i : ℕ) (z : A) → All P xs → i < length xs → P (get_or xs i z)
all_at P [] i z h k = absurd (omega arith)
all_at P (x ∷ xs) zero z h k = h.0
all_at P (x ∷ xs) (suc i) z h k = all_at P xs i z h.1 (omega arith)

-- NUMBERS, as records of 8 bytes. Number i of those that are laid out:
pub number_laid : (front tail : List ℕ) (base : ℕ) (ns : List ℕ) (i : ℕ) → length front ≡ base → All (λ n. n ≤ max_word) ns → i < length ns
    → number_at (front ++ (laid (le 8) ns ++ tail)) (base + 8 * i) ≡ get_or ns i 0
unfolding number_at record_at
number_laid front tail base ns i lf h k =
    let w = all_at (λ n. n ≤ max_word) ns i 0 h k in
    ap unle (record_laid (le 8) 8 front tail base ns i 0 lf (sized_all (le 8) 8 (le_length 8) ns) k) ∙ unle_le 8 (get_or ns i 0) (omega arith)

-- the n numbers from a place on, and their bytes
abbrev pub numbers_at : List ℕ → ℕ → ℕ → List ℕ
numbers_at s at zero = []
numbers_at s at (suc n) = number_at s at ∷ numbers_at s (at + 8) n

pub numbers_laid : (s : List ℕ) (at n : ℕ) → Bytes s → at + 8 * n ≤ length s
    → drop at s ≡ laid (le 8) (numbers_at s at n) ++ drop (at + 8 * n) s
numbers_laid s at zero b h = let z : at + 8 * 0 ≡ at = omega arith in rw z
numbers_laid s at (suc n) b h =
    let z : at + 8 * suc n ≡ at + 8 + 8 * n = omega arith in
    let ih = numbers_laid s (at + 8) n b (omega arith) in
    let here : drop at s ≡ le 8 (number_at s at) ++ drop (at + 8) s =
    sym (take-append-drop 8 (drop at s)) ∙ rw (drop-drop 8 at s, number_bytes s at b (omega arith)) in
    here ∙ rw (z, ih) (sym (append_assoc (le 8 (number_at s at)) (laid (le 8) (numbers_at s (at + 8) n)) (drop (at + 8 + 8 * n) s)))
