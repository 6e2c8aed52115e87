-- The limits under which paths are valid, and the bounds that refusal 1 keeps.
use Rattle.std.specs.Prelude.{ℕ, ◌≤◌, ◌^◌, ◌-◌, ◌≡◌, ◌↔◌, Bool, true, ◌&&◌, leb}
use Rattle.willow.specs.declared.Limits.{Limits}

-- Refusal 1: "MCL over 1,024, MCC over 1,024, MPL over 4,096, or sheet capacity N over 4,096".
abbrev pub max_mcl : ℕ
max_mcl = 1024

abbrev pub max_mcc : ℕ
max_mcc = 1024

abbrev pub max_mpl : ℕ
max_mpl = 4096

abbrev pub max_capacity : ℕ
max_capacity = 4096

-- The largest number of 64 bits: "subspace ids, timestamps, payload lengths and namespaces are unsigned 64-bit".
abbrev pub max_word : ℕ
max_word = 2 ^ 64 - 1

-- WHAT IS MEANT by accepted limits.
pub record Accepted (L : Limits) : Type 0 where
  pub mcl_within : L.mcl ≤ max_mcl
  pub mcc_within : L.mcc ≤ max_mcc
  pub mpl_within : L.mpl ≤ max_mpl

-- The tests of refusal 1.
unfoldable pub accepted_limits : Limits → Bool
accepted_limits L = leb L.mcl max_mcl && (leb L.mcc max_mcc && leb L.mpl max_mpl)

unfoldable pub accepted_capacity : ℕ → Bool
accepted_capacity N = leb N max_capacity

-- Limits that are numbers of 64 bits, as every call's are.
pub record Words (L : Limits) : Type 0 where
  pub mcl_word : L.mcl ≤ max_word
  pub mcc_word : L.mcc ≤ max_word
  pub mpl_word : L.mpl ≤ max_word

-- The tests are the bounds.
pub record LimitLaws : Type 0 where
  pub limits_means : (L : Limits) → (accepted_limits L ≡ true) ↔ Accepted L
  pub capacity_means : (N : ℕ) → (accepted_capacity N ≡ true) ↔ (N ≤ max_capacity)
