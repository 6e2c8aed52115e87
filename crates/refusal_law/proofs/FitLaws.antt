-- Lengths fit bytes exactly if they stand for components; and a kind is a good one or is not.
use Prim.Native.Nat.{ℕ, zero, suc, ◌*◌, ◌/◌, ◌≤◌}
use mathlib.Core.Path.{◌≡◌, refl, sym, ◌∙◌, ap}
use mathlib.Core.Logic.{◌⊎◌, inl, inr, ⊎_elim, ◌↔◌}
use mathlib.Core.List.{List, [], ◌∷◌}
use mathlib.Core.Bool.{Bool, true, false}
use native.Mathlib.Omega.{arith}
use lib.Dec.{eqb}
use lib.ListN.{length, take, drop, length-take, length-drop, take-append-drop}
use borrow.Author.Tests.{eqb-true, eqb-false}
use Rattle.willow.specs.Construction.{numbers, lengths_in, lengths_fit, length_buffer, Slices}
use Rattle.willow.specs.Kinds.{GoodKind}
use Rattle.willow.specs.Limits.{max_word}
use Rattle.willow.specs.Lists.{All}
use Rattle.willow.specs.Numbers.{Bytes, le, unle}
use Rattle.willow.specs.Paths.{Path}
use Rattle.willow.proofs.ConstructionLaws.{Sliced, slices_read, fit_means}
use Rattle.willow.proofs.ListLaws.{mapped_all}
use Rattle.willow.proofs.NumberLaws.{bytes_take, bytes_drop, le_unle, unle_bound}

-- Bytes in whole eights are the buffer of the numbers in them
numbers_buffer : (k : ℕ) (s : List ℕ) → Bytes s → length s ≡ 8 * k → length_buffer (numbers k s) ≡ s
numbers_buffer zero s h l = sym (nothing s (omega arith))
  where
    nothing : (t : List ℕ) → length t ≡ 0 → t ≡ []
    nothing [] e = refl
    nothing (x ∷ xs) e = absurd (omega arith)
numbers_buffer (suc k) s h l =
    let w : length (take 8 s) ≡ 8 = length-take 8 s ∙ omega arith in
    let d = length-drop 8 s in
    let first : le 8 (unle (take 8 s)) ≡ take 8 s = rw w at (le_unle (take 8 s) (bytes_take 8 s h)) in
    rw (first, numbers_buffer k (drop 8 s) (bytes_drop 8 s h) (omega arith)) (take-append-drop 8 s)

numbers_words : (k : ℕ) (s : List ℕ) → Bytes s → All (λ n. n ≤ max_word) (numbers k s)
numbers_words zero s h = tt
numbers_words (suc k) s h =
    let l = length-take 8 s in
    let b = unle_bound 8 (take 8 s) (bytes_take 8 s h) (omega arith) in
    (omega arith, numbers_words k (drop 8 s) (bytes_drop 8 s h))

read_slices : (lengths bytes : List ℕ) (p : Path) → Bytes lengths → Sliced lengths bytes p → Slices lengths bytes p
unfolding lengths_in
read_slices lengths bytes p h s =
    let whole : length lengths ≡ 8 * (length lengths / 8) = let w = s.numbers_whole in omega arith in
    record {
      sizes = sym (ap length_buffer s.sizes ∙ numbers_buffer (length lengths / 8) lengths h whole);
      words = mapped_all length (λ n. n ≤ max_word) p (rw s.sizes (numbers_words (length lengths / 8) lengths h));
      content = s.content;
    }

pub fits_means : (lengths bytes : List ℕ) → Bytes lengths → (lengths_fit lengths bytes ≡ true) ↔ ((p : Path) × Slices lengths bytes p)
fits_means lengths bytes h = (
  λ e. let s = (fit_means lengths bytes).0 e in (s.0, read_slices lengths bytes s.0 h s.1),
  λ s. (fit_means lengths bytes).1 (s.0, slices_read lengths bytes s.0 s.1),
)

pub kind_decided : (kind : ℕ) → GoodKind kind ⊎ (GoodKind kind → ⊥)
kind_decided kind = go (eqb kind 0) (eqb kind 1) refl refl
  where
    go : (s t : Bool) → eqb kind 0 ≡ s → eqb kind 1 ≡ t → GoodKind kind ⊎ (GoodKind kind → ⊥)
    go true t f g = inl (inl (eqb-true kind 0 f))
    go false true f g = inl (inr (eqb-true kind 1 g))
    go false false f g = inr (λ h. ⊎_elim (eqb-false kind 0 f) (eqb-false kind 1 g) h)
