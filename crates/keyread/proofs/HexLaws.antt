-- Hexadecimal read two digits at a time: what was read stands before what is still to be read.
use Prim.Native.Nat.{ℕ, zero, suc, ◌+◌, ◌*◌, ◌/◌, ◌≤◌, ◌<◌}
use mathlib.Core.List.{List, [], ◌∷◌, ◌++◌, append_assoc, append-nil}
use mathlib.Core.Option.{Option, none, some}
use mathlib.Core.Path.{◌≡◌, refl, sym, ◌∙◌, ap}
use native.Mathlib.Omega.{arith}
use lib.ListN.{length, drop, get_or, set, length-append, drop_of_length-le}
use lib.Seq.{drop-cons}
use borrow.Author.Tests.{lt-ltb}
use Rattle.std.specs.Simd.{first_chunks}
use Rattle.number.specs.Overwriting.{overwrite}
use Rattle.number.proofs.OverwritingLaws.{overwrite_nil, store_overwrite, written_on, length_overwrite}
use Rattle.keyform.specs.Reading.{hex_value, before, read_hex}
use Rattle.keyform.proofs.HexLaws.{hex_written}
use Rattle.keyform.proofs.PathTextLaws.{hex_text_length}

-- A list before one that there may not be.
abbrev pub all_before : {A : Type 0} → List A → Option (List A) → Option (List A)
all_before v none = none
all_before v (some w) = some (v ++ w)

pub all_before_one : {A : Type 0} (v : List A) (x : A) (o : Option (List A)) → all_before v (before x o) ≡ all_before (v ++ (x ∷ [])) o
all_before_one v x none = refl
all_before_one v x (some w) = ap some (sym (append_assoc v (x ∷ []) w))

pub all_before_nil : {A : Type 0} (o : Option (List A)) → all_before [] o ≡ o
all_before_nil none = refl
all_before_nil (some w) = refl

-- every byte has two digits
pub hex_half : (s v : List ℕ) → read_hex s ≡ some v → length s ≡ 2 * length v
hex_half s v e = ap length (hex_written s v e).0 ∙ hex_text_length v

pub hex_odd : (s : List ℕ) → (length s ≡ 2 * (length s / 2) → ⊥) → read_hex s ≡ none
hex_odd s n = go (read_hex s) refl
  where
    go : (o : Option (List ℕ)) → read_hex s ≡ o → read_hex s ≡ none
    go none e = e
    go (some v) e = let h = hex_half s v e in absurd (n (omega arith))

-- the pairs of digits, as they are cut from the text
pub pair_at : (s : List ℕ) (n k : ℕ) → k < n → 2 * n ≤ length s
    → (get_or (get_or (first_chunks 2 n s) k []) 0 0 ≡ get_or s (2 * k) 0) × (get_or (get_or (first_chunks 2 n s) k []) 1 0 ≡ get_or s (2 * k + 1) 0)
pair_at s zero k h r = absurd (omega arith)
pair_at [] (suc n) k h r = absurd (omega arith)
pair_at (a ∷ []) (suc n) k h r = absurd (omega arith)
pair_at (a ∷ b ∷ s) (suc n) zero h r = (refl, refl)
pair_at (a ∷ b ∷ s) (suc n) (suc k) h r =
    let p = pair_at s n k (omega arith) (omega arith) in
    let e : 2 * suc k ≡ suc (suc (2 * k)) = omega arith in
    let f : 2 * suc k + 1 ≡ suc (suc (2 * k + 1)) = omega arith in
    (rw e p.0, rw f p.1)

pub pair_of : (s : List ℕ) (ps : List (List ℕ)) (k : ℕ) → ps ≡ first_chunks 2 (length s / 2) s → k < length s / 2
    → (get_or (get_or ps k []) 0 0 ≡ get_or s (2 * k) 0) × (get_or (get_or ps k []) 1 0 ≡ get_or s (2 * k + 1) 0)
pair_of s ps k e h = rw e (pair_at s (length s / 2) k h (omega arith))

-- what the loop has done with k bytes read, v: the rest decides, and v is written
pub record HexSoFar (s out₀ : List ℕ) (to : ℕ) (out : List ℕ) (k : ℕ) (v : List ℕ) : Type 0 where
  pub left_to_read : all_before v (read_hex (drop (2 * k) s)) ≡ read_hex s
  pub written : out ≡ overwrite out₀ to v
  pub count : k ≡ length v
  pub within : 2 * k ≤ length s

pub hex_start : (s out : List ℕ) (to : ℕ) → HexSoFar s out to out 0 []
hex_start s out to =
    record {
      left_to_read = all_before_nil (read_hex s);
      written = sym (overwrite_nil out to);
      count = refl;
      within = omega arith;
    }

module _ (s : List ℕ) (k : ℕ) (more : 2 * k + 1 < length s) where
  -- two digits
  two : drop (2 * k) s ≡ get_or s (2 * k) 0 ∷ get_or s (2 * k + 1) 0 ∷ drop (2 * (k + 1)) s
  two =
      let e : suc (2 * k) ≡ 2 * k + 1 = omega arith in
      let f : suc (2 * k + 1) ≡ 2 * (k + 1) = omega arith in
      drop-cons s (2 * k) 0 (omega arith)
      ∙ ap (λ j. get_or s (2 * k) 0 ∷ drop j s) e
      ∙ ap (λ l. get_or s (2 * k) 0 ∷ l) (drop-cons s (2 * k + 1) 0 more ∙ ap (λ j. get_or s (2 * k + 1) 0 ∷ drop j s) f)

  -- neither is one, or both are: what `hex_value` answered says which
  pub hex_no_high : 16 ≡ hex_value (get_or s (2 * k) 0) → read_hex (drop (2 * k) s) ≡ none
  hex_no_high e = ap read_hex two ∙ rw (← e)

  module _ (high : ℕ) (below : high < 16) (is_high : high ≡ hex_value (get_or s (2 * k) 0)) where
    pub hex_no_low : 16 ≡ hex_value (get_or s (2 * k + 1) 0) → read_hex (drop (2 * k) s) ≡ none
    hex_no_low e = ap read_hex two ∙ rw (← is_high, ← e, lt-ltb high 16 below)

    pub hex_on : (low : ℕ) → low < 16 → low ≡ hex_value (get_or s (2 * k + 1) 0)
        → read_hex (drop (2 * k) s) ≡ before (16 * high + low) (read_hex (drop (2 * (k + 1)) s))
    hex_on low h is_low = ap read_hex two ∙ rw (← is_high, ← is_low, lt-ltb high 16 below, lt-ltb low 16 h)

-- THE WAYS THROUGH THE BODY, with the loop's record
module _ (s out₀ : List ℕ) (to : ℕ) (out : List ℕ) (k : ℕ) (v : List ℕ) (f : HexSoFar s out₀ to out k v) (room : 2 * to + length s ≤ 2 * length out₀) where
  -- nothing comes of the whole, if nothing comes of the rest
  pub hex_none : read_hex (drop (2 * k) s) ≡ none → read_hex s ≡ none
  hex_none e = sym f.left_to_read ∙ ap (all_before v) e

  pub hex_same_length : length out ≡ length out₀
  hex_same_length =
      let c = f.count in
      let w = f.within in
      ap length f.written ∙ length_overwrite out₀ to v (omega arith)

  pub hex_room : 2 * k + 1 < length s → to + k < length out
  hex_room h = let l = hex_same_length in omega arith

  pub hex_again : (byte : ℕ) → 2 * k + 1 < length s → read_hex (drop (2 * k) s) ≡ before byte (read_hex (drop (2 * (k + 1)) s))
      → HexSoFar s out₀ to (set out (to + k) byte) (k + 1) (v ++ (byte ∷ []))
  hex_again byte h e =
      let c = f.count in
      let l = length-append v (byte ∷ []) in
      let r = hex_room h in
      record {
        left_to_read = sym (all_before_one v byte (read_hex (drop (2 * (k + 1)) s))) ∙ ap (all_before v) (sym e) ∙ f.left_to_read;
        written = written_on out₀ v (byte ∷ []) out (set out (to + k) byte) to (to + k) (omega arith) (omega arith) f.written (store_overwrite out (to + k) byte r);
        count = omega arith;
        within = omega arith;
      }

  pub hex_end : length s ≤ 2 * k → read_hex s ≡ some v
  hex_end h = sym f.left_to_read ∙ ap (λ l. all_before v (read_hex l)) (drop_of_length-le s h) ∙ ap some (append-nil v)
