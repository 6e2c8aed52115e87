-- The search from the back. What comes of a list with one element more at its end is what comes of that element, if it can be
-- raised, and else what comes of the list before it; so the components and the bytes that cannot be raised fall away.
use Rattle.std.proofs.Common.{◌≡◌, ◌∙◌, ℕ, zero, suc, ◌+◌, ◌-◌, ◌<◌, ◌≤◌, ◌&&◌, List, [], ◌∷◌, ◌++◌, Bool, true, false, ap, add-one, arith, cond, get_or, length, ltb, refl, take}
use Rattle.std.proofs.Math.Option.{Option, none, some}
use borrow.Author.Tests.{le-ltb, lt-ltb}
use lib.Seq.{take-suc, take-length}
use Rattle.willow.specs.declared.Limits.{Limits}
use Rattle.willow.specs.LeastPaths.{lengthen_or_raise, next_greater, raise_byte, raise_component, raise_last}
use Rattle.willow.specs.Paths.{Component, Path, path_length}
use Rattle.willow.proofs.ValidLaws.{path_length_append}
use Rattle.least_search.specs.Places.{with_tail}

-- What the elements before left.
abbrev passed : {A S : Type 0} → (S → A → S) → S → List A → S
passed pass s [] = s
passed pass s (x ∷ xs) = passed pass (pass s x) xs

module _ {A S : Type 0} (pass : S → A → S) (raise : S → A → Option A) where
  raise_end : (s : S) (l : List A) (x y : A) → raise (passed pass s l) x ≡ some y → raise_last pass raise s (l ++ (x ∷ [])) ≡ some (l ++ (y ∷ []))
  raise_end s [] x y e = rw e
  raise_end s (z ∷ l) x y e = rw (raise_end (pass s z) l x y e)

  pass_end : (s : S) (l : List A) (x : A) → raise (passed pass s l) x ≡ none → raise_last pass raise s (l ++ (x ∷ [])) ≡ raise_last pass raise s l
  pass_end s [] x e = rw e
  pass_end s (z ∷ l) x e = rw (pass_end (pass s z) l x e)

-- BYTES of a component: none is below ff, or the last of those that are is raised. The state is not looked at.
no_byte : (s : ℕ) (c : Component) → ((k : ℕ) → k < length c → 255 ≤ get_or c k 0) → raise_last (λ i b. suc i) raise_byte s c ≡ none
no_byte s [] full = refl
no_byte s (b ∷ c) full = rw (no_byte (suc s) c (λ k h. full (suc k) (omega arith)), le-ltb b 255 (full 0 (omega arith)))

last_byte : (s : ℕ) (c : Component) (j : ℕ) → j < length c → get_or c j 0 < 255 → ((k : ℕ) → j < k → k < length c → 255 ≤ get_or c k 0)
    → raise_last (λ i b. suc i) raise_byte s c ≡ some (take j c ++ ((get_or c j 0 + 1) ∷ []))
last_byte s [] j inside low full = absurd (omega arith)
last_byte s (b ∷ c) zero inside low full =
    rw (no_byte (suc s) c (λ k h. full (suc k) (omega arith) (omega arith)), lt-ltb b 255 low, add-one)
last_byte s (b ∷ c) (suc j) inside low full =
    rw (last_byte (suc s) c j (omega arith) low (λ k h l. full (suc k) (omega arith) (omega arith)))

passed_length : (n : ℕ) (p : Path) → passed (λ before c. before + length c) n p ≡ n + path_length p
passed_length n [] = omega arith
passed_length n (c ∷ cs) = let h = passed_length (n + length c) cs in omega arith

-- COMPONENT i of a path, the last of those that are left to look at.
module _ (L : Limits) (p : Path) (i : ℕ) (inside : i < length p) (c : Component) (end : ℕ)
    (is_c : c ≡ get_or p i []) (is_end : end ≡ path_length (take (i + 1) p)) where
  component_end : take (i + 1) p ≡ take i p ++ (c ∷ [])
  component_end = rw (add-one, is_c) (take-suc p i [] inside)

  ends_at : passed (λ before c. before + length c) 0 (take i p) + length c ≡ end
  ends_at =
      let h = passed_length 0 (take i p) in
      let l = path_length_append (take i p) (c ∷ []) in
      let m = ap path_length component_end in
      omega (arith, is_end)

  next_if : (room : Bool) → (ltb (length c) L.mcl && ltb end L.mpl) ≡ room
      → lengthen_or_raise L (passed (λ before c. before + length c) 0 (take i p)) c ≡ cond room (some (c ++ (0 ∷ []))) (raise_component c)
  next_if room e = rw (ends_at, e)

  -- c is lengthened
  pub lengthened : (ltb (length c) L.mcl && ltb end L.mpl) ≡ true → next_greater L (take (i + 1) p) ≡ some (with_tail p i (length c) (0 ∷ []))
  unfolding next_greater with_tail
  lengthened h =
      rw (component_end, ← is_c, take-length c)
      (raise_end (λ before c. before + length c) (lengthen_or_raise L) 0 (take i p) c (c ++ (0 ∷ [])) (next_if true h))

  -- c is raised at its last byte below ff
  pub raised : (ltb (length c) L.mcl && ltb end L.mpl) ≡ false → (j : ℕ) → j < length c → get_or c j 0 < 255
      → ((k : ℕ) → j < k → k < length c → 255 ≤ get_or c k 0) → next_greater L (take (i + 1) p) ≡ some (with_tail p i j ((get_or c j 0 + 1) ∷ []))
  unfolding next_greater with_tail
  raised h j within low full =
      rw (component_end, ← is_c)
      (raise_end (λ before c. before + length c) (lengthen_or_raise L) 0 (take i p) c (take j c ++ ((get_or c j 0 + 1) ∷ []))
      (next_if false h ∙ last_byte 0 c j within low full))

  -- c is passed over
  pub passed_over : (ltb (length c) L.mcl && ltb end L.mpl) ≡ false → ((k : ℕ) → k < length c → 255 ≤ get_or c k 0)
      → next_greater L (take (i + 1) p) ≡ next_greater L (take i p)
  unfolding next_greater
  passed_over h full =
      rw component_end
      (pass_end (λ before c. before + length c) (lengthen_or_raise L) 0 (take i p) c (next_if false h ∙ no_byte 0 c full))

-- The last component of n that are left is the one at n - 1.
pub last_left : (L : Limits) (p : Path) (n : ℕ) → 0 < n → next_greater L (take n p) ≡ next_greater L (take (n - 1 + 1) p)
last_left L p n left = let e : n ≡ n - 1 + 1 = omega (arith, left) in ap (λ m. next_greater L (take m p)) e

-- No component is left: there is no next greater path.
pub nothing_left : (L : Limits) (p : Path) (i : ℕ) → i ≤ 0 → next_greater L (take i p) ≡ none
unfolding next_greater
nothing_left L p zero h = refl
nothing_left L p (suc i) h = absurd (omega arith)
