-- The test of a packed path, by the ways out of the code that makes it: too short, too many, cut off, or as the steps say.
use Rattle.std.proofs.Common.{◌≡◌, ℕ, ◌+◌, ◌*◌, ◌<◌, ◌≤◌, true, false, List, length, le-leb}
use borrow.Author.Tests.{lt-leb}
use Rattle.willow.specs.declared.Limits.{Limits}
use Rattle.willow.specs.Numbers.{number_at}
use Rattle.willow.specs.Packed.{packed_count, steps_fit, well_formed}
use Rattle.willow.proofs.PackedLaws.{tested}

module _ (L : Limits) (b : List ℕ) where
  -- too short for a count
  pub formed_short : length b < 8 → well_formed L b ≡ false
  unfolding well_formed
  formed_short h = rw (lt-leb 8 (length b) h)

  -- a count over MCC
  pub formed_many : (k : ℕ) → 8 ≤ length b → k ≡ number_at b 0 → L.mcc < k → well_formed L b ≡ false
  unfolding well_formed packed_count
  formed_many k h e p = rw (le-leb 8 (length b) h, ← e, lt-leb k L.mcc p)

  -- too short for its lengths
  pub formed_cut : (k : ℕ) → 8 ≤ length b → k ≡ number_at b 0 → k ≤ L.mcc → length b < 8 + 8 * k → well_formed L b ≡ false
  unfolding well_formed packed_count
  formed_cut k h e p q = rw (le-leb 8 (length b) h, ← e, le-leb k L.mcc p, lt-leb (8 + 8 * k) (length b) q)

  -- else the steps decide
  pub formed_steps : (k : ℕ) → 8 ≤ length b → k ≡ number_at b 0 → k ≤ L.mcc → 8 + 8 * k ≤ length b → well_formed L b ≡ steps_fit L b k 8 0
  unfolding well_formed packed_count
  formed_steps k h e p q = rw (le-leb 8 (length b) h, ← e, le-leb k L.mcc p, le-leb (8 + 8 * k) (length b) q)

  -- what is well formed has a count
  pub formed_long : well_formed L b ≡ true → 8 ≤ length b
  formed_long h = ((tested L b).0 h).long
