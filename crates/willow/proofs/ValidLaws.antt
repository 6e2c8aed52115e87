-- Validity goes from a path to its prefixes: a prefix has no more components, no more bytes and no other components.
use Prim.Native.Nat.{ℕ, zero, suc, ◌+◌, ◌≤◌}
use mathlib.Core.Path.{◌≡◌, refl}
use mathlib.Core.List.{[], ◌∷◌, ◌++◌}
use native.Mathlib.Omega.{arith}
use lib.ListN.{length, take, length-take}
use lib.Seq.{take_at}
use Rattle.willow.specs.declared.Limits.{Limits}
use Rattle.willow.specs.Lists.{All}
use Rattle.willow.specs.Numbers.{Bytes}
use Rattle.willow.specs.Paths.{Path, path_length, ValidComponent, Valid, Prefix}
use Rattle.willow.proofs.ListLaws.{all_take, all_also}

pub path_length_append : (p q : Path) → path_length (p ++ q) ≡ path_length p + path_length q
path_length_append [] q = omega arith
path_length_append (c ∷ cs) q = let ih = path_length_append cs q in omega arith

pub path_length_take : (k : ℕ) (p : Path) → path_length (take k p) ≤ path_length p
path_length_take zero p = omega arith
path_length_take (suc k) [] = omega arith
path_length_take (suc k) (c ∷ cs) = let ih = path_length_take k cs in omega arith

module _ (L : Limits) where
  pub valid_take : (k : ℕ) (p : Path) → Valid L p → Valid L (take k p)
  valid_take k p v =
      let n = length-take k p in
      let t = path_length_take k p in
      record { count = omega arith; total = omega arith; each = all_take (ValidComponent L) k p v.each }

  pub valid_prefix : (p q : Path) → Prefix p q → Valid L q → Valid L p
  valid_prefix p q x v = rw (take_at p x.0 (length p) refl) at (valid_take (length p) (p ++ x.0) (rw x.1 v))

  -- the components of a valid path are made of bytes
  pub valid_bytes : (p : Path) → Valid L p → All Bytes p
  valid_bytes p v = all_also (ValidComponent L) Bytes (λ c h. h.1) p v.each
