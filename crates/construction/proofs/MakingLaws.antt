-- What the calls make: one component as a list of one slice, and a path from slices as slices behind the empty path.
use Prim.Native.Nat.{ℕ, ◌≤◌}
use mathlib.Core.Path.{◌≡◌, refl, sym, ◌∙◌, ap}
use mathlib.Core.List.{List, [], ◌∷◌, append-nil}
use mathlib.Core.Option.{Option, none, some}
use mathlib.Core.Bool.{true}
use native.Mathlib.Omega.{arith}
use lib.ListN.{length}
use borrow.Author.Tests.{le-leb}
use Rattle.std.specs.Int.{w64, to_le_bytes}
use Rattle.willow.specs.declared.Limits.{Limits}
use Rattle.willow.specs.declared.Refusal.{Refusal}
use Rattle.willow.specs.Answers.{or_else, unless, limits_refusal, lent_refusal, path_in, path_refusal, on_path}
use Rattle.willow.specs.Construction.{from_slices, append, append_slice, Slices}
use Rattle.willow.specs.Limits.{max_word}
use Rattle.willow.specs.Numbers.{le}
use Rattle.willow.specs.Packed.{packed_count, well_formed, lent}
use Rattle.willow.specs.Paths.{Path, Component}
use Rattle.willow.specs.Refusals.{Outcome}
use Rattle.willow.proofs.ConstructionLaws.{construction, valid_admitted}
use Rattle.number.specs.Overwriting.{zeros}
use Rattle.number.proofs.LibraryLaws.{bytes_written}
use Rattle.number.proofs.OverwritingLaws.{number_zeros}
use Rattle.construction.specs.Making.{under_limits, slices_outcome, empty_outcome, singleton_outcome, appended_of, slices_appended_of}

-- ONE COMPONENT is a list of one slice.
one_slice : (c : Component) → length c ≤ max_word → Slices (le 8 (length c)) c (c ∷ [])
one_slice c h = record { sizes = sym (append-nil (le 8 (length c))); words = (h, tt); content = append-nil c }

pub one_appended : (L : Limits) (b : List ℕ) (k : ℕ) (c lengths : List ℕ) → length c ≤ max_word → lengths ≡ to_le_bytes w64 (length c)
    → on_path L b k (slices_appended_of L lengths c) ≡ on_path L b k (appended_of L c)
unfolding on_path append
one_appended L b k c lengths h e =
    let i : lengths ≡ le 8 (length c) = e ∙ bytes_written (length c) in
    ap (unless (path_refusal L b k)) (rw i (construction.appended_as L (path_in b k) (le 8 (length c)) c (c ∷ []) (one_slice c h)))

-- THE EMPTY PATH is lent as a count of 0, under any limits.
empty_formed : (L : Limits) → well_formed L (zeros 8) ≡ true
unfolding well_formed packed_count
empty_formed L = rw (number_zeros 8 0 (omega arith), le-leb 0 L.mcc (omega arith), le-leb 0 L.mpl (omega arith))

empty_lent : (L : Limits) → lent_refusal L (zeros 8) 0 ≡ none
unfolding lent_refusal lent
empty_lent L = rw (empty_formed L, le-leb 0 (packed_count (zeros 8)) (omega arith))

pub on_empty : {A : Type 0} (L : Limits) (f : Path → Outcome A) → on_path L (zeros 8) 0 f ≡ under_limits L (f [])
unfolding on_path path_refusal path_in under_limits
on_empty L f = rw (empty_lent L) (go (limits_refusal L))
  where
    go : (o : Option Refusal) → unless (or_else o none) (f []) ≡ unless o (f [])
    go none = refl
    go (some r) = refl

pub slices_on_empty : (L : Limits) (lengths bytes : List ℕ) → on_path L (zeros 8) 0 (slices_appended_of L lengths bytes) ≡ slices_outcome L lengths bytes
slices_on_empty L lengths bytes = on_empty L (slices_appended_of L lengths bytes) ∙ ap (under_limits L) same
  where
    same : append_slice L [] lengths bytes ≡ from_slices L lengths bytes
    same = unfold append_slice from_slices in refl

pub one_on_empty : (L : Limits) (c : Component) → on_path L (zeros 8) 0 (appended_of L c) ≡ singleton_outcome L c
unfolding append
one_on_empty L c = on_empty L (appended_of L c)

pub none_made : (L : Limits) → slices_outcome L [] [] ≡ empty_outcome L
none_made L =
    let s : Slices [] [] [] = record { sizes = refl; words = tt; content = refl } in
    ap (under_limits L) (construction.made_as L [] [] [] s ∙ valid_admitted L [] (record { count = omega arith; total = omega arith; each = tt }))
