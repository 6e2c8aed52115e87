-- Heads that the exports make of numbers: a question on two entries is the same for heads that are equal, and the subspaces
-- play no part in which entry is newer.
use Prim.Native.Nat.{ℕ}
use mathlib.Core.Path.{◌≡◌}
use mathlib.Core.List.{List}
use Rattle.willow.specs.declared.Limits.{Limits}
use Rattle.willow.specs.Answers.{on_paths}
use Rattle.willow.specs.Entries.{Entry, compare_ages, is_newer}
use Rattle.willow.specs.Orders.{is_greater}
use Rattle.willow.specs.Paths.{Path}
use Rattle.willow.specs.Refusals.{Outcome}
use Rattle.entry.specs.declared.Head.{Head}
use Rattle.entry.specs.Heads.{entry_at}
use Rattle.host_entry.specs.EntryExports.{entry_of}

pub on_heads : {A : Type 0} (f : Entry → Entry → Outcome A) (L : Limits) (a : List ℕ) (j : ℕ) (b : List ℕ) (k m n : ℕ) (h h' g g' : Head)
    → h ≡ h' → g ≡ g'
    → on_paths L a j b k (λ p q. f (entry_at m h p) (entry_at n g q)) ≡ on_paths L a j b k (λ p q. f (entry_at m h' p) (entry_at n g' q))
on_heads f L a j b k m n h h' g g' e d = λ i. on_paths L a j b k (λ p q. f (entry_at m (e i) p) (entry_at n (d i) q))

pub newer_heads : (m n s u : ℕ) (p q : Path) (h h' g g' : Head) → h ≡ h' → g ≡ g'
    → is_newer (entry_at m h p) (entry_at n g q)
    ≡ is_newer (entry_of m s p h'.timestamp h'.payload_length h'.digest) (entry_of n u q g'.timestamp g'.payload_length g'.digest)
unfolding is_newer
newer_heads m n s u p q h h' g g' e d = λ i. is_greater (compare_ages (entry_at m (e i) p) (entry_at n (d i) q))
