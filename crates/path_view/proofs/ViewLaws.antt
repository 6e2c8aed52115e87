-- A prefix of a view lends the first components of the path that the view lends: the buffer is the packed form of the same whole
-- path, and the first k of the first `own` components are the first `min k own`.
use Prim.Native.Nat.{ℕ, zero, suc, min}
use mathlib.Core.Path.{◌≡◌, sym, ◌∙◌, ap}
use mathlib.Core.List.{List, [], ◌∷◌}
use native.Mathlib.Omega.{arith}
use lib.ListN.{take}
use lib.Seq.{take-nil}
use Rattle.path_view.specs.Views.{ViewPrefix}

take_of_take : {A : Type 0} (k n : ℕ) (l : List A) → take k (take n l) ≡ take (min k n) l
take_of_take zero n l = let z : 0 ≡ min 0 n = omega arith in ap (λ i. take i l) z
take_of_take (suc k) zero l = let z : 0 ≡ min (suc k) 0 = omega arith in ap (λ i. take i l) z
take_of_take (suc k) (suc n) [] = sym (take-nil (min (suc k) (suc n)))
take_of_take (suc k) (suc n) (x ∷ xs) =
    let z : suc (min k n) ≡ min (suc k) (suc n) = omega arith in
    ap (λ r. x ∷ r) (take_of_take k n xs) ∙ ap (λ i. take i (x ∷ xs)) z

pub view_prefix : ViewPrefix
view_prefix L b own k p lent = record {
  whole = lent.whole;
  valid = lent.valid;
  packed = lent.packed;
  within = let w = lent.within in omega arith;
  first = ap (take k) lent.first ∙ take_of_take k own lent.whole;
}
