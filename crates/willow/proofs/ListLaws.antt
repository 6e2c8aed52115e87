-- Lists: what holds throughout one, and what the tests over one mean: some element passes, the elements that pass, how many
-- and how much they are.
use Prim.Native.Nat.{ℕ, zero, suc, ◌+◌}
use mathlib.Core.Path.{◌≡◌, refl, sym, ◌∙◌, ap}
use mathlib.Core.Logic.{◌⊎◌, inl, inr, ◌↔◌}
use mathlib.Core.List.{List, [], ◌∷◌, ◌++◌, map}
use mathlib.Core.Bool.{Bool, true, false, not, cond, false≢true}
use native.Mathlib.Omega.{arith}
use lib.ListN.{length, take, drop}
use Rattle.willow.specs.Lists.{In, All, Ascending, Sum, Number, any, every, filter}
use Rattle.willow.proofs.Bools.{both_true, true_both, either_true, neither_true, true_left, true_right, decided_false}

-- THROUGHOUT.
module _ {A : Type 0} (P : A → Type 0) where
  pub all_append : (l m : List A) → All P l → All P m → All P (l ++ m)
  all_append [] m h k = k
  all_append (x ∷ xs) m h k = (h.0, all_append xs m h.1 k)

  pub all_take : (n : ℕ) (l : List A) → All P l → All P (take n l)
  all_take zero l h = tt
  all_take (suc n) [] h = h
  all_take (suc n) (x ∷ xs) h = (h.0, all_take n xs h.1)

  pub all_drop : (n : ℕ) (l : List A) → All P l → All P (drop n l)
  all_drop zero l h = h
  all_drop (suc n) [] h = h
  all_drop (suc n) (x ∷ xs) h = all_drop n xs h.1

  pub all_in : (l : List A) → All P l → (x : A) → In x l → P x
  all_in [] h x i = absurd i
  all_in (y ∷ ys) h x (inl e) = rw e h.0
  all_in (y ∷ ys) h x (inr i) = all_in ys h.1 x i

  pub in_all : (l : List A) → ((x : A) → In x l → P x) → All P l
  in_all [] h = tt
  in_all (y ∷ ys) h = (h y (inl refl), in_all ys (λ x i. h x (inr i)))

-- a property that follows from another holds throughout where that one does
pub all_also : {A : Type 0} (P Q : A → Type 0) → ((x : A) → P x → Q x) → (l : List A) → All P l → All Q l
all_also P Q f [] h = tt
all_also P Q f (x ∷ xs) h = (f x h.0, all_also P Q f xs h.1)

pub all_both : {A : Type 0} (P Q : A → Type 0) (l : List A) → All P l → All Q l → All (λ x. P x × Q x) l
all_both P Q [] h k = tt
all_both P Q (x ∷ xs) h k = ((h.0, k.0), all_both P Q xs h.1 k.1)

-- what holds of every image holds of the images' list, and back
pub all_mapped : {A B : Type 0} (f : A → B) (P : B → Type 0) (l : List A) → All (λ x. P (f x)) l → All P (map f l)
all_mapped f P [] h = tt
all_mapped f P (x ∷ xs) h = (h.0, all_mapped f P xs h.1)

pub mapped_all : {A B : Type 0} (f : A → B) (P : B → Type 0) (l : List A) → All P (map f l) → All (λ x. P (f x)) l
mapped_all f P [] h = tt
mapped_all f P (x ∷ xs) h = (h.0, mapped_all f P xs h.1)

module _ {A : Type 0} where
  -- SOME ELEMENT PASSES.
  pub any_found : (test : A → Bool) (l : List A) → any test l ≡ true → (x : A) × In x l × (test x ≡ true)
  any_found test [] h = absurd (false≢true h)
  any_found test (x ∷ xs) h = elim (either_true (test x) (any test xs) h) [
    | inl e ↦ (x, inl refl, e)
    | inr e ↦ let r = any_found test xs e in (r.0, inr r.1, r.2)
  ]

  pub found_any : (test : A → Bool) (l : List A) (x : A) → In x l → test x ≡ true → any test l ≡ true
  found_any test [] x i h = absurd i
  found_any test (y ∷ ys) x (inl e) h = true_left (test y) (any test ys) (ap test (sym e) ∙ h)
  found_any test (y ∷ ys) x (inr i) h = true_right (test y) (any test ys) (found_any test ys x i h)

  -- no element passes
  pub any_false : (test : A → Bool) (l : List A) → any test l ≡ false → All (λ x. test x ≡ false) l
  any_false test [] e = tt
  any_false test (x ∷ xs) e = let h = neither_true (test x) (any test xs) e in (h.0, any_false test xs h.1)

  -- a test that decides P finds exactly if some element has P
  pub any_means : (test : A → Bool) (P : A → Type 0) → ((x : A) → (test x ≡ true) ↔ P x) → (l : List A)
      → (any test l ≡ true) ↔ ((x : A) × In x l × P x)
  any_means test P d l = (
    λ h. let r = any_found test l h in (r.0, r.1, (d r.0).0 r.2),
    λ r. found_any test l r.0 r.1 ((d r.0).1 r.2),
  )

  -- EVERY ELEMENT PASSES.
  pub every_means : (test : A → Bool) (l : List A) → (every test l ≡ true) ↔ All (λ x. test x ≡ true) l
  every_means test l = (to l, from l)
    where
      to : (l : List A) → every test l ≡ true → All (λ x. test x ≡ true) l
      to [] h = tt
      to (x ∷ xs) h = let b = both_true (test x) (every test xs) h in (b.0, to xs b.1)

      from : (l : List A) → All (λ x. test x ≡ true) l → every test l ≡ true
      from [] h = refl
      from (x ∷ xs) h = true_both (test x) (every test xs) h.0 (from xs h.1)

  -- THE ELEMENTS THAT PASS.
  pub filter_in : (test : A → Bool) (l : List A) (x : A) → In x (filter test l) → In x l × (test x ≡ true)
  filter_in test [] x i = absurd i
  filter_in test (y ∷ ys) x i = go (test y) refl i (filter_in test ys x)
    where
      go : (b : Bool) → test y ≡ b → In x (cond b (y ∷ filter test ys) (filter test ys)) → (In x (filter test ys) → In x ys × (test x ≡ true)) → In x (y ∷ ys) × (test x ≡ true)
      go true e (inl j) ih = (inl j, ap test j ∙ e)
      go true e (inr j) ih = let r = ih j in (inr r.0, r.1)
      go false e j ih = let r = ih j in (inr r.0, r.1)

  pub in_filter : (test : A → Bool) (l : List A) (x : A) → In x l → test x ≡ true → In x (filter test l)
  in_filter test [] x i h = i
  in_filter test (y ∷ ys) x (inl e) h = let k : test y ≡ true = ap test (sym e) ∙ h in rw k (inl e)
  in_filter test (y ∷ ys) x (inr i) h = go (test y) (in_filter test ys x i h)
    where
      go : (b : Bool) → In x (filter test ys) → In x (cond b (y ∷ filter test ys) (filter test ys))
      go true k = inr k
      go false k = k

  pub filter_ascending : (Below : A → A → Type 0) (test : A → Bool) (l : List A) → Ascending Below l → Ascending Below (filter test l)
  filter_ascending Below test [] s = tt
  filter_ascending Below test (x ∷ xs) s = go (test x) (filter_ascending Below test xs s.1)
    where
      go : (b : Bool) → Ascending Below (filter test xs) → Ascending Below (cond b (x ∷ filter test xs) (filter test xs))
      go true k = (λ y i. s.0 y (filter_in test xs y i).0, k)
      go false k = k

  -- those that pass and those that do not are all
  pub filter_lengths : (test : A → Bool) (l : List A) → length (filter (λ x. not (test x)) l) + length (filter test l) ≡ length l
  filter_lengths test [] = refl
  filter_lengths test (x ∷ xs) = go (test x) (filter_lengths test xs)
    where
      go : (b : Bool) → length (filter (λ y. not (test y)) xs) + length (filter test xs) ≡ length xs
          → length (cond (not b) (x ∷ filter (λ y. not (test y)) xs) (filter (λ y. not (test y)) xs)) + length (cond b (x ∷ filter test xs) (filter test xs)) ≡ suc (length xs)
      go true ih = omega arith
      go false ih = omega arith

  -- HOW MANY AND HOW MUCH. A sum is one number only.
  pub sum_unique : (weight : A → ℕ) (P : List A → A → Type 0) (before l : List A) (m n : ℕ) → Sum weight P before l m → Sum weight P before l n → m ≡ n
  sum_unique weight P before [] m n a b = a ∙ sym b
  sum_unique weight P before (x ∷ xs) m n (inl a) (inl b) =
      let e = sum_unique weight P (x ∷ before) xs a.1.0 b.1.0 a.1.2 b.1.2 in
      let f = a.1.1 in
      let g = b.1.1 in
      omega arith
  sum_unique weight P before (x ∷ xs) m n (inl a) (inr b) = absurd (b.0 a.0)
  sum_unique weight P before (x ∷ xs) m n (inr a) (inl b) = absurd (a.0 b.0)
  sum_unique weight P before (x ∷ xs) m n (inr a) (inr b) = sum_unique weight P (x ∷ before) xs m n a.1 b.1

  -- as many as pass a test that decides P have P, whatever stood before
  counted : (test : A → Bool) (P : A → Type 0) → ((x : A) → (test x ≡ true) ↔ P x) → (before l : List A)
      → Sum (λ x. 1) (λ b x. P x) before l (length (filter test l))
  counted test P d before [] = refl
  counted test P d before (x ∷ xs) = go (test x) refl (counted test P d (x ∷ before) xs)
    where
      go : (b : Bool) → test x ≡ b → Sum (λ x. 1) (λ b x. P x) (x ∷ before) xs (length (filter test xs))
          → Sum (λ x. 1) (λ b x. P x) before (x ∷ xs) (length (cond b (x ∷ filter test xs) (filter test xs)))
      go true e ih = inl ((d x).0 e, (length (filter test xs), omega arith, ih))
      go false e ih = inr ((decided_false (test x) (d x)).0 e, ih)

  pub number_filter : (test : A → Bool) (P : A → Type 0) → ((x : A) → (test x ≡ true) ↔ P x) → (l : List A) → Number P l (length (filter test l))
  number_filter test P d l = counted test P d [] l

  -- APPENDING.
  pub in_left : (l m : List A) (x : A) → In x l → In x (l ++ m)
  in_left [] m x i = absurd i
  in_left (y ∷ ys) m x (inl e) = inl e
  in_left (y ∷ ys) m x (inr i) = inr (in_left ys m x i)

  pub in_last : (l : List A) (x : A) → In x (l ++ (x ∷ []))
  in_last [] x = inl refl
  in_last (y ∷ ys) x = inr (in_last ys x)

  pub in_snoc : (l : List A) (e x : A) → In x (l ++ (e ∷ [])) → In x l ⊎ (x ≡ e)
  in_snoc [] e x (inl i) = inr i
  in_snoc [] e x (inr i) = absurd i
  in_snoc (y ∷ ys) e x (inl i) = inl (inl i)
  in_snoc (y ∷ ys) e x (inr i) = elim (in_snoc ys e x i) [ inl j ↦ inl (inr j) | inr j ↦ inr j ]
