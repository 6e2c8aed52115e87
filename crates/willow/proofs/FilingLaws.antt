-- Filing keeps a list ascending by place, and an ascending list is known by its members. So what a store holds can be compared
-- by membership alone, and then is equal as a list.
use Prim.Native.Nat.{suc, ◌+◌, ◌≤◌}
use mathlib.Core.Path.{◌≡◌, refl, sym, ◌∙◌, ap, subst}
use mathlib.Core.Logic.{◌⊎◌, inl, inr}
use mathlib.Core.List.{List, [], ◌∷◌, ◌++◌}
use mathlib.Core.Bool.{Bool, true, false, not, cond}
use native.Mathlib.Omega.{arith}
use lib.ListN.{length}
use Rattle.std.specs.declared.cmp.Ordering.{Ordering}
use Rattle.std.specs.declared.cmp.Ordering.TheVariants.{Less, Equal, Greater}
use Rattle.willow.specs.Demand3.{file_all}
use Rattle.willow.specs.Entries.{Entry, PlaceBelow, place, compare_places}
use Rattle.willow.specs.Lists.{In, Ascending, filter}
use Rattle.willow.specs.Orders.{reverse, compare_pairs, compare_numbers}
use Rattle.willow.specs.Paths.{compare_paths}
use Rattle.willow.specs.Store.{payloads, put_before, file}
use Rattle.willow.proofs.EntryLaws.{places_total, places_means}
use Rattle.willow.proofs.OrderLaws.{less≢equal, less≢greater, equal≢greater}

-- Ascending by the comparison of places.
abbrev pub Sorted : List Entry → Type 0
Sorted = Ascending (λ x y. compare_places x y ≡ Less)

pub sorted_means : (l : List Entry) → Sorted l → Ascending PlaceBelow l
sorted_means [] s = tt
sorted_means (x ∷ xs) s = (λ y i. (places_means x y).0 (s.0 y i), sorted_means xs s.1)

place_flip : (x y : Entry) → compare_places y x ≡ reverse (compare_places x y)
place_flip x y = places_total.flip (place x) (place y)

place_trans : (x y z : Entry) → compare_places x y ≡ Less → compare_places y z ≡ Less → compare_places x z ≡ Less
place_trans x y z = places_total.trans (place x) (place y) (place z)

place_equal_less : (e x y : Entry) → compare_places e x ≡ Equal → compare_places x y ≡ Less → compare_places e y ≡ Less
place_equal_less e x y k h = subst (λ p. compare_pairs compare_numbers compare_paths p (place y) ≡ Less) (sym (places_total.same (place e) (place x) k)) h

pub place_self : (x : Entry) → compare_places x x ≡ Equal
place_self x = places_total.self (place x)

-- WHAT IS IN A LIST after filing.
pub file_in : (e : Entry) (l : List Entry) (x : Entry) → In x (file e l) → (x ≡ e) ⊎ In x l
file_in e [] x i = i
file_in e (y ∷ ys) x i = go (compare_places e y) i (file_in e ys x)
  where
    go : (o : Ordering) → In x (put_before o e y ys (file e ys)) → (In x (file e ys) → (x ≡ e) ⊎ In x ys) → (x ≡ e) ⊎ In x (y ∷ ys)
    go Less j ih = j
    go Equal (inl j) ih = inl j
    go Equal (inr j) ih = inr (inr j)
    go Greater (inl j) ih = inr (inl j)
    go Greater (inr j) ih = elim (ih j) [ inl k ↦ inl k | inr k ↦ inr (inr k) ]

pub in_file_new : (e : Entry) (l : List Entry) → In e (file e l)
in_file_new e [] = inl refl
in_file_new e (y ∷ ys) = go (compare_places e y) (in_file_new e ys)
  where
    go : (o : Ordering) → In e (file e ys) → In e (put_before o e y ys (file e ys))
    go Less ih = inl refl
    go Equal ih = inl refl
    go Greater ih = inr ih

pub in_file_old : (e : Entry) (l : List Entry) (x : Entry) → In x l → (compare_places e x ≡ Equal → ⊥) → In x (file e l)
in_file_old e [] x i h = absurd i
in_file_old e (y ∷ ys) x i h = go (compare_places e y) refl i (λ j. in_file_old e ys x j h)
  where
    go : (o : Ordering) → compare_places e y ≡ o → (x ≡ y) ⊎ In x ys → (In x ys → In x (file e ys)) → In x (put_before o e y ys (file e ys))
    go Less k j ih = inr j
    go Equal k (inl j) ih = absurd (h (rw j k))
    go Equal k (inr j) ih = inr j
    go Greater k (inl j) ih = inl j
    go Greater k (inr j) ih = inr (ih j)

pub file_sorted : (e : Entry) (l : List Entry) → Sorted l → Sorted (file e l)
file_sorted e [] s = (λ y i. absurd i, tt)
file_sorted e (x ∷ xs) s = go (compare_places e x) refl (file_sorted e xs s.1)
  where
    go : (o : Ordering) → compare_places e x ≡ o → Sorted (file e xs) → Sorted (put_before o e x xs (file e xs))
    go Less k ih = (low, s)
      where
        low : (y : Entry) → (y ≡ x) ⊎ In y xs → compare_places e y ≡ Less
        low y (inl j) = rw j k
        low y (inr j) = place_trans e x y k (s.0 y j)
    go Equal k ih = (λ y i. place_equal_less e x y k (s.0 y i), s.1)
    go Greater k ih = (λ y i. low y (file_in e xs y i), ih)
      where
        low : (y : Entry) → (y ≡ e) ⊎ In y xs → compare_places x y ≡ Less
        low y (inl j) = rw j (place_flip e x ∙ ap reverse k)
        low y (inr j) = s.0 y j

pub file_length : (e : Entry) (l : List Entry) → length (file e l) ≤ suc (length l)
file_length e [] = omega arith
file_length e (x ∷ xs) = go (compare_places e x) (file_length e xs)
  where
    go : (o : Ordering) → length (file e xs) ≤ suc (length xs) → length (put_before o e x xs (file e xs)) ≤ suc (suc (length xs))
    go Less h = omega arith
    go Equal h = omega arith
    go Greater h = omega arith

-- PAYLOADS.
pub file_payloads : (e : Entry) (l : List Entry) → ((x : Entry) → In x l → compare_places e x ≡ Equal → ⊥) → payloads (file e l) ≡ e.payload_length + payloads l
file_payloads e [] h = refl
file_payloads e (x ∷ xs) h = go (compare_places e x) refl (file_payloads e xs (λ y i. h y (inr i)))
  where
    go : (o : Ordering) → compare_places e x ≡ o → payloads (file e xs) ≡ e.payload_length + payloads xs
        → payloads (put_before o e x xs (file e xs)) ≡ e.payload_length + (x.payload_length + payloads xs)
    go Less k ih = refl
    go Equal k ih = absurd (h x (inl refl) k)
    go Greater k ih = omega arith

pub filter_payloads : (test : Entry → Bool) (l : List Entry) → payloads (filter (λ x. not (test x)) l) + payloads (filter test l) ≡ payloads l
filter_payloads test [] = refl
filter_payloads test (x ∷ xs) = go (test x) (filter_payloads test xs)
  where
    go : (b : Bool) → payloads (filter (λ y. not (test y)) xs) + payloads (filter test xs) ≡ payloads xs
        → payloads (cond (not b) (x ∷ filter (λ y. not (test y)) xs) (filter (λ y. not (test y)) xs)) + payloads (cond b (x ∷ filter test xs) (filter test xs)) ≡ x.payload_length + payloads xs
    go true ih = omega arith
    go false ih = omega arith

pub payloads_snoc : (l : List Entry) (e : Entry) → payloads (l ++ (e ∷ [])) ≡ payloads l + e.payload_length
payloads_snoc [] e = omega arith
payloads_snoc (x ∷ xs) e = let h = payloads_snoc xs e in omega arith

-- AN ASCENDING LIST IS KNOWN BY ITS MEMBERS.
pub sorted_unique : (l m : List Entry) → Sorted l → Sorted m → ((x : Entry) → In x l → In x m) → ((x : Entry) → In x m → In x l) → l ≡ m
sorted_unique [] [] s t f g = refl
sorted_unique [] (y ∷ ys) s t f g = absurd (g y (inl refl))
sorted_unique (x ∷ xs) [] s t f g = absurd (f x (inl refl))
sorted_unique (x ∷ xs) (y ∷ ys) s t f g =
    let e = heads (f x (inl refl)) (g y (inl refl)) in
    let k = sorted_unique xs ys s.1 t.1 (λ z i. rest x xs y ys z e s.0 (f z (inr i)) i) (λ z i. rest y ys x xs z (sym e) t.0 (g z (inr i)) i) in
    cc
  where
    heads : (x ≡ y) ⊎ In x ys → (y ≡ x) ⊎ In y xs → x ≡ y
    heads (inl a) b = a
    heads (inr a) (inl b) = sym b
    heads (inr a) (inr b) = absurd (less≢greater (sym (t.0 x a) ∙ place_flip x y ∙ ap reverse (s.0 y b)))

    rest : (a : Entry) (l : List Entry) (b : Entry) (m : List Entry) (z : Entry) → a ≡ b → ((c : Entry) → In c l → compare_places a c ≡ Less) → (z ≡ b) ⊎ In z m → In z l → In z m
    rest a l b m z e low (inl j) i = absurd (less≢equal (sym (low z i) ∙ rw (j ∙ sym e) (place_self a)))
    rest a l b m z e low (inr j) i = j

-- FILING A LIST of entries.
pub file_all_sorted : (l m : List Entry) → Sorted l → Sorted (file_all l m)
file_all_sorted l [] s = s
file_all_sorted l (e ∷ es) s = file_all_sorted (file e l) es (file_sorted e l s)

pub file_all_in : (l m : List Entry) (x : Entry) → In x (file_all l m) → In x l ⊎ In x m
file_all_in l [] x i = inl i
file_all_in l (e ∷ es) x i = elim (file_all_in (file e l) es x i) [
  | inl j ↦ elim (file_in e l x j) [ inl k ↦ inr (inl k) | inr k ↦ inl k ]
  | inr j ↦ inr (inr j)
]

-- Nothing is lost where no two different entries that have U stand at one place.
module _ (U : Entry → Type 0) (one : (x y : Entry) → U x → U y → compare_places x y ≡ Equal → x ≡ y) where
  pub in_file : (e : Entry) (l : List Entry) → U e → ((x : Entry) → In x l → U x) → (x : Entry) → In x l → In x (file e l)
  in_file e l u v x i = go (compare_places e x) refl
    where
      go : (o : Ordering) → compare_places e x ≡ o → In x (file e l)
      go Less k = in_file_old e l x i (λ q. less≢equal (sym k ∙ q))
      go Equal k = rw (sym (one e x u (v x i) k)) (in_file_new e l)
      go Greater k = in_file_old e l x i (λ q. equal≢greater (sym q ∙ k))

  pub in_file_all : (l m : List Entry) → ((x : Entry) → In x l → U x) → ((x : Entry) → In x m → U x) → (x : Entry) → In x l ⊎ In x m → In x (file_all l m)
  in_file_all l [] u v x (inl i) = i
  in_file_all l [] u v x (inr i) = absurd i
  in_file_all l (e ∷ es) u v x i = in_file_all (file e l) es (λ y j. has y (file_in e l y j)) (λ y j. v y (inr j)) x (go i)
    where
      has : (y : Entry) → (y ≡ e) ⊎ In y l → U y
      has y (inl j) = rw j (v e (inl refl))
      has y (inr j) = u y j

      go : In x l ⊎ In x (e ∷ es) → In x (file e l) ⊎ In x es
      go (inl j) = inl (in_file e l (v e (inl refl)) u x j)
      go (inr (inl j)) = inl (rw j (in_file_new e l))
      go (inr (inr j)) = inr j
