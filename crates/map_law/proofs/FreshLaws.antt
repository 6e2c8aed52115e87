-- A fresh map: the layout of no rules is a header and zeros. Zeros over the whole sheet are the layout of five zeros and no rows,
-- and each number that is written then replaces one of them.
use Prim.Native.Nat.{ℕ, ◌+◌, ◌-◌, ◌*◌, ◌≤◌, ◌<◌}
use mathlib.Core.Path.{◌≡◌, refl, sym, ◌∙◌, ap}
use mathlib.Core.List.{List, [], ◌∷◌, ◌++◌, append_assoc, append-nil}
use mathlib.Core.Bool.{true, false}
use native.Mathlib.Omega.{arith}
use lib.ListN.{length, drop, replicate-append-replicate}
use borrow.Author.Tests.{le-leb, lt-leb}
use Rattle.willow.specs.declared.Limits.{Limits}
use Rattle.willow.specs.declared.Refusal.TheVariants.{BadLimits, OutTooSmall}
use Rattle.willow.specs.Answers.{limits_refusal, written_length, written_buffer}
use Rattle.willow.specs.Limits.{accepted_limits, accepted_capacity}
use Rattle.willow.specs.Numbers.{le}
use Rattle.willow.specs.Refusals.{refused, value}
use Rattle.number.specs.Overwriting.{overwrite, zeros}
use Rattle.number.specs.Records.{laid}
use Rattle.number.proofs.OverwritingLaws.{overwrite_at_front, length_zeros, le_zero}
use Rattle.number.proofs.RecordLaws.{laid_zeros}
use Rattle.sheet.specs.Cells.{cell_size_of}
use Rattle.sheet.specs.Rows.{Fitting, sheet_length, sheet_bytes}
use Rattle.sheet.proofs.LayoutLaws.{layout_length, layout_number_put}
use Rattle.map_form.specs.Maps.{MapSizes, map_shape, header_of, map_layout}
use Rattle.map_law.specs.Insertions.{fresh_map}

module _ (z : MapSizes) where
  no_rows : Fitting (map_shape z) 0 []
  no_rows = record { heads = tt; cells = tt; count = refl }

  pub fresh_length : length (map_layout z []) ≡ sheet_length (map_shape z)
  unfolding map_layout
  fresh_length =
      let l = layout_length (map_shape z) (header_of z 0) 0 [] [] refl no_rows (omega arith) in
      ap length (sym (append-nil (sheet_bytes (map_shape z) (header_of z 0) []))) ∙ l ∙ omega arith

  -- THE BYTES, by five numbers.
  abbrev empty_sheet : List ℕ → List ℕ
  empty_sheet numbers = sheet_bytes (map_shape z) numbers []

  zero_sheet : zeros (sheet_length (map_shape z)) ≡ empty_sheet (0 ∷ 0 ∷ 0 ∷ 0 ∷ 0 ∷ [])
  unfolding sheet_bytes
  zero_sheet =
      let N : ℕ = z.capacity in
      let C : ℕ = cell_size_of z.limits in
      let m : N - 0 ≡ N = omega arith in
      let numbers : laid (le 8) (0 ∷ 0 ∷ 0 ∷ 0 ∷ 0 ∷ []) ≡ zeros 40 = laid_zeros (le 8) 8 5 0 (le_zero 8) in
      sym (replicate-append-replicate (40 + 48 * N) (C * N) 0)
      ∙ ap (λ l. l ++ zeros (C * N)) (sym (replicate-append-replicate 40 (48 * N) 0))
      ∙ rw (m, numbers) (append_assoc (zeros 40) (zeros (48 * N)) (zeros (C * N)))

  number_put : (t u numbers rest : List ℕ) (i x : ℕ) → length numbers ≡ 5 → i < 5 → t ≡ empty_sheet numbers ++ rest
      → u ≡ overwrite t (8 * i) (le 8 x) → u ≡ empty_sheet (overwrite numbers i (x ∷ [])) ++ rest
  number_put t u numbers rest i x l h e f =
      f ∙ ap (λ s. overwrite s (8 * i) (le 8 x)) e
      ∙ layout_number_put (map_shape z) numbers 0 [] rest (ap (λ n. 8 * n) l) no_rows (omega arith) i x (omega arith)

  -- the whole cleared, then four numbers written
  pub fresh_written : (out t₀ t₁ t₂ t₃ t₄ : List ℕ)
      → t₀ ≡ overwrite out 0 (zeros (sheet_length (map_shape z)))
      → t₁ ≡ overwrite t₀ 0 (le 8 z.limits.mcl)
      → t₂ ≡ overwrite t₁ 8 (le 8 z.limits.mcc)
      → t₃ ≡ overwrite t₂ 16 (le 8 z.limits.mpl)
      → t₄ ≡ overwrite t₃ 24 (le 8 z.capacity)
      → t₄ ≡ map_layout z [] ++ drop (sheet_length (map_shape z)) out
  unfolding map_layout overwrite
  fresh_written out t₀ t₁ t₂ t₃ t₄ e₀ e₁ e₂ e₃ e₄ =
      let L = z.limits in
      let rest = drop (sheet_length (map_shape z)) out in
      let n = length_zeros (sheet_length (map_shape z)) in
      let f₀ : t₀ ≡ empty_sheet (0 ∷ 0 ∷ 0 ∷ 0 ∷ 0 ∷ []) ++ rest =
      e₀ ∙ overwrite_at_front out (zeros (sheet_length (map_shape z))) ∙ rw (n, zero_sheet) in
      let f₁ = number_put t₀ t₁ (0 ∷ 0 ∷ 0 ∷ 0 ∷ 0 ∷ []) rest 0 L.mcl refl (omega arith) f₀ e₁ in
      let f₂ = number_put t₁ t₂ (L.mcl ∷ 0 ∷ 0 ∷ 0 ∷ 0 ∷ []) rest 1 L.mcc refl (omega arith) f₁ e₂ in
      let f₃ = number_put t₂ t₃ (L.mcl ∷ L.mcc ∷ 0 ∷ 0 ∷ 0 ∷ []) rest 2 L.mpl refl (omega arith) f₂ e₃ in
      number_put t₃ t₄ (L.mcl ∷ L.mcc ∷ L.mpl ∷ 0 ∷ 0 ∷ []) rest 3 z.capacity refl (omega arith) f₃ e₄

  -- what is answered for them
  pub fresh_small : (n : ℕ) (out : List ℕ) → n ≡ sheet_length (map_shape z) → length out < n
      → (refused OutTooSmall ≡ written_length (value (map_layout z [])) out) × (out ≡ written_buffer (value (map_layout z [])) out)
  fresh_small n out e h =
      let l = fresh_length in
      let b = lt-leb (length (map_layout z [])) (length out) (omega arith) in
      (rw b, rw b)

  pub fresh_made : (n : ℕ) (out made : List ℕ) → n ≡ sheet_length (map_shape z) → n ≤ length out
      → made ≡ map_layout z [] ++ drop (sheet_length (map_shape z)) out
      → (value n ≡ written_length (value (map_layout z [])) out) × (made ≡ written_buffer (value (map_layout z [])) out)
  fresh_made n out made e h f =
      let l = fresh_length in
      let b = le-leb (length (map_layout z [])) (length out) (omega arith) in
      (rw b (ap value (e ∙ sym l)), rw (b, l) f)

-- THE CALL, test by test.
module _ (L : Limits) (N : ℕ) where
  pub limits_bad : accepted_limits L ≡ false → fresh_map L N ≡ refused BadLimits
  unfolding fresh_map limits_refusal
  limits_bad h = rw h

  pub fresh_fine : accepted_limits L ≡ true → accepted_capacity N ≡ true → value (map_layout (record { limits = L; capacity = N }) []) ≡ fresh_map L N
  unfolding fresh_map limits_refusal
  fresh_fine h e = rw (h, e)
