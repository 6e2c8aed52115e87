-- A table of accumulated lengths: what is left to test from a place on, for each way through the loop and each way out; why the
-- bits of all steps together decide for each step; and that the test of a packed path is the test of its table and of the bytes
-- behind it.
use Rattle.std.proofs.Common.{◌≡◌, ℕ, zero, suc, ◌+◌, ◌-◌, ◌*◌, ◌%◌, ◌^◌, ◌<◌, ◌≤◌, Bool, true, false, ◌&&◌, eqb, leb, List, length, sym, refl, ap, ◌∙◌, arith, eq-eqb, ne_eqb, le-leb}
use mathlib.Core.Bool.{and-true, and-false}
use borrow.Author.Tests.{lt-leb}
use Rattle.willow.specs.declared.Limits.{Limits}
use Rattle.willow.specs.Numbers.{number_at}
use Rattle.willow.specs.Packed.{length_before, length_from, steps_fit}
use Rattle.packed.specs.Steps.{steps_within}

-- THE STEPS. A length that falls; one that steps over MCL; one that steps as it should; the end.
module _ (mcl most : ℕ) (b : List ℕ) (at from : ℕ) where
  pub steps_fall : (left next : ℕ) → 0 < left → next ≡ number_at b at → next < from → steps_within mcl most b left at from ≡ false
  steps_fall zero n h e p = absurd (omega arith)
  steps_fall (suc r) n h e p = rw (← e, lt-leb from n p)

  pub steps_wide : (left next : ℕ) → 0 < left → next ≡ number_at b at → from ≤ next → mcl < next - from
      → steps_within mcl most b left at from ≡ false
  steps_wide zero n h e p q = absurd (omega arith)
  steps_wide (suc r) n h e p q = rw (← e, le-leb from n p, lt-leb (n - from) mcl q)

  pub steps_on : (left next : ℕ) → 0 < left → next ≡ number_at b at → from ≤ next → next - from ≤ mcl
      → steps_within mcl most b left at from ≡ steps_within mcl most b (left - 1) (at + 8) next
  steps_on zero n h e p q = absurd (omega arith)
  steps_on (suc r) n h e p q =
      let m : suc r - 1 ≡ r = omega arith in
      rw (m, ← e, le-leb from n p, le-leb (n - from) mcl q)

  pub steps_end : (left : ℕ) → left ≤ 0 → steps_within mcl most b left at from ≡ leb from most
  steps_end zero h = refl
  steps_end (suc r) h = absurd (omega arith)

-- LENGTH i of the table, and what is left to test behind it.
module _ (mcl most : ℕ) (b : List ℕ) (n : ℕ) where
  pub steps_first : steps_within mcl most b (n - 0) (8 + 8 * 0) 0 ≡ steps_within mcl most b n 8 0
  steps_first = let m : n - 0 ≡ n = omega arith in rw m

  pub steps_next : (i from next : ℕ) → i < n → next ≡ number_at b (8 + 8 * i) → from ≤ next → next - from ≤ mcl
      → steps_within mcl most b (n - (i + 1)) (8 + 8 * (i + 1)) next ≡ steps_within mcl most b (n - i) (8 + 8 * i) from
  steps_next i from next h e p q =
      let left : n - i - 1 ≡ n - (i + 1) = omega arith in
      let at : 8 + 8 * i + 8 ≡ 8 + 8 * (i + 1) = omega arith in
      sym (rw (left, at) at (steps_on mcl most b (8 + 8 * i) from (n - i) next (omega arith) e p q))

  -- BY THE BITS. While their number is at most MCL, what is left decides as the whole does; and no more was passed than the steps
  -- can sum up to, which is below 2^64.
  pub record Passed (from i : ℕ) : Type 0 where
    pub same : steps_within mcl most b (n - i) (8 + 8 * i) from ≡ steps_within mcl most b n 8 0
    pub low : from ≤ 4294967295 * i

  pub passed_none : Passed 0 0
  passed_none = record { same = steps_first; low = omega arith }

  -- a step that is low enough, modulo 2^64, does not wrap
  pub passed_on : mcl ≤ 4294967295 → n ≤ 4294967295 → (from i next step : ℕ) → Passed from i → i < n → next < 2 ^ 64
      → next ≡ number_at b (8 + 8 * i) → step ≡ (next + (2 ^ 64 - from)) % 2 ^ 64 → step ≤ mcl → Passed next (i + 1)
  passed_on small few from i next step p h k e w s =
      let l = p.low in
      let sum : step + from ≡ next = omega arith in
      record {
        same = steps_next i from next h e (omega arith) (omega arith) ∙ p.same;
        low = omega arith;
      }

-- THE TABLE OF A PACKED PATH: its steps are within the limits, and as many bytes follow as the last accumulated length says.
length_next : (b : List ℕ) (at from i : ℕ) → length_from b at from (suc i) ≡ length_from b (at + 8) (number_at b at) i
length_next b at from zero = ap (number_at b) (omega arith)
length_next b at from (suc i) = ap (number_at b) (omega arith)

and_grouped : (p q r s : Bool) → (p && (q && (r && s))) ≡ ((p && (q && r)) && s)
and_grouped false q r s = refl
and_grouped true false r s = refl
and_grouped true true r s = refl

module _ (L : Limits) (b : List ℕ) where
  pub fit_within : (r at from : ℕ)
      → steps_fit L b r at from ≡ (steps_within L.mcl L.mpl b r at from && eqb (at + 8 * r + length_from b at from r) (length b))
  fit_within zero at from =
      let z : at + 8 * 0 + from ≡ at + from = omega arith in
      rw z
  fit_within (suc r) at from =
      let x : ℕ = number_at b at in
      let z : at + 8 + 8 * r ≡ at + 8 * suc r = omega arith in
      ap (λ t. leb from x && (leb (x - from) L.mcl && t)) (fit_within r (at + 8) x)
      ∙ and_grouped (leb from x) (leb (x - from) L.mcl) (steps_within L.mcl L.mpl b r (at + 8) x) (eqb (at + 8 + 8 * r + length_from b (at + 8) x r) (length b))
      ∙ ap (λ k. steps_within L.mcl L.mpl b (suc r) at from && eqb k (length b)) (rw (z, length_next b at from r))

  -- as many bytes follow as the last says, or not: then the steps decide, or need not
  pub fit_steps : (n last : ℕ) → last ≡ length_before b n → 8 + 8 * n ≤ length b → last ≡ length b - (8 + 8 * n)
      → steps_fit L b n 8 0 ≡ steps_within L.mcl L.mpl b n 8 0
  fit_steps n last e h k =
      fit_within n 8 0
      ∙ ap (λ t. steps_within L.mcl L.mpl b n 8 0 && t) (eq-eqb (8 + 8 * n + length_before b n) (length b) (omega arith))
      ∙ and-true (steps_within L.mcl L.mpl b n 8 0)

  pub fit_bytes : (n last : ℕ) → last ≡ length_before b n → 8 + 8 * n ≤ length b → (last ≡ length b - (8 + 8 * n) → ⊥)
      → steps_fit L b n 8 0 ≡ false
  fit_bytes n last e h k =
      fit_within n 8 0
      ∙ ap (λ t. steps_within L.mcl L.mpl b n 8 0 && t) (ne_eqb (8 + 8 * n + length_before b n) (length b) (λ m. k (omega arith)))
      ∙ and-false (steps_within L.mcl L.mpl b n 8 0)
