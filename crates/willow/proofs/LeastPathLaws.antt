-- Theorem 3. For lists in their order, the least list that a given one does not prefix is found by raising the last element
-- that can be raised; used twice, for the bytes of a component and for the components of a path, this gives the next greater
-- path, and from it the successor and the range of a prefix.
use Prim.Native.Nat.{ℕ, zero, suc, ◌+◌, ◌-◌, ◌<◌, ◌≤◌, min}
use mathlib.Core.Path.{◌≡◌, refl, sym, ◌∙◌, ap}
use mathlib.Core.Logic.{◌⊎◌, inl, inr, ◌↔◌}
use mathlib.Core.List.{List, [], ◌∷◌, ◌++◌}
use mathlib.Core.Option.{Option, none, some}
use mathlib.Core.Bool.{Bool, true, false, ◌&&◌, cond, true≢false, false≢true}
use native.Mathlib.Omega.{arith}
use lib.Dec.{ltb}
use lib.ListN.{length, replicate, length-append, length-replicate}
use borrow.Author.Tests.{ltb-true, ltb-false, lt-ltb}
use Rattle.willow.specs.declared.Limits.{Limits}
use Rattle.std.specs.declared.cmp.Ordering.{Ordering}
use Rattle.std.specs.declared.cmp.Ordering.TheVariants.{Less, Equal}
use Rattle.willow.specs.LeastPaths.{Least, GreaterNotPrefixed, GreaterPath, keep_or_raise, raise_last, raise_byte, raise_component, lengthen_or_raise, next_greater, successor, filled, greatest, LeastPaths}
use Rattle.willow.specs.Lists.{All}
use Rattle.willow.specs.Numbers.{Bytes}
use Rattle.willow.specs.Orders.{reverse, Total, AtMost, compare_numbers, compare_lists}
use Rattle.willow.specs.Paths.{Component, Path, path_length, ValidComponent, Valid, compare_components, compare_paths, PathBelow, Prefix, is_prefix, is_prefix_of}
use Rattle.willow.proofs.Bools.{both_true}
use Rattle.willow.proofs.OrderLaws.{less≢equal, less≢greater, equal≢greater, then_less, less_flip, equal_by, less_number, number_less, numbers_total, not_below_nil, at_most_means, below_irreflexive, below_asymmetric, below_cases}
use Rattle.willow.proofs.PathLaws.{components_total, paths_total, paths_decided, snoc_above, snoc_least, above_short, prefix_means, prefix_fails, prefix_self, prefix_at_most, prefix_block}

-- THE LEAST BY A COMPARISON, for any order: none exactly if nothing has P; else what has P and is above nothing that has P.
module _ {A : Type 0} (compare : A → A → Ordering) where
  abbrev pub LeastBy : (A → Type 0) → Option A → Type 0
  LeastBy P none = (r : A) → P r → ⊥
  LeastBy P (some q) = P q × ((r : A) → P r → compare r q ≡ Less → ⊥)

  -- of what has another, equal property
  least_iff : (P Q : A → Type 0) (m : Option A) → ((r : A) → P r → Q r) → ((r : A) → Q r → P r) → LeastBy P m → LeastBy Q m
  least_iff P Q none f g h = λ r q. h r (g r q)
  least_iff P Q (some x) f g h = (f x h.0, λ r q. h.1 r (g r q))

  -- of what has a further property, if the one found has it
  least_also : (P Q : A → Type 0) (m : Option A) → ((q : A) → m ≡ some q → Q q) → LeastBy P m → LeastBy (λ r. P r × Q r) m
  least_also P Q none h k = λ r p. k r p.0
  least_also P Q (some q) h k = ((k.0, h q refl), λ r p. k.1 r p.0)

-- Each element is Ok in the state that the elements before it left.
abbrev Each : {A S : Type 0} → (S → A → S) → (S → A → Type 0) → S → List A → Type 0
Each pass Ok s [] = Unit {0}
Each pass Ok s (x ∷ xs) = Ok s x × Each pass Ok (pass s x) xs

-- THE SEARCH FROM THE BACK finds the least list past l: above l, and not prefixed by l.
module _ {A S : Type 0} (pass : S → A → S) (compare : A → A → Ordering) (t : Total compare) (Ok : S → A → Type 0) where
  abbrev Past : S → List A → List A → Type 0
  Past s l r = Each pass Ok s r × (compare_lists compare l r ≡ Less) × (is_prefix compare l r ≡ false)

  abbrev Above : S → A → A → Type 0
  Above s a b = Ok s b × (compare a b ≡ Less)

  -- what is past x ∷ xs begins with something above x, or with x and goes on past xs
  past_cases : (s : S) (x : A) (xs : List A) (d : A) (ds : List A) → Past s (x ∷ xs) (d ∷ ds) → Above s x d ⊎ ((d ≡ x) × Past (pass s x) xs ds)
  past_cases s x xs d ds p = go (then_less (compare x d) (compare_lists compare xs ds) p.1)
    where
      go : (compare x d ≡ Less) ⊎ ((compare x d ≡ Equal) × (compare_lists compare xs ds ≡ Less)) → Above s x d ⊎ ((d ≡ x) × Past (pass s x) xs ds)
      go (inl e) = inl (p.0.0, e)
      go (inr e) =
          let h : d ≡ x = sym (t.same x d e.0) in
          inr (h, (rw h at p.0.1, e.1, rw e.0 at p.2))

  kept_or_raised : (s : S) (x : A) (xs : List A) → Ok s x → (n : Option (List A)) (u : Option A)
      → LeastBy (compare_lists compare) (Past (pass s x) xs) n → LeastBy compare (Above s x) u
      → LeastBy (compare_lists compare) (Past s (x ∷ xs)) (keep_or_raise x n u)
  kept_or_raised s x xs v (some q) u N U = (((v, N.0.0), rw (t.self x) N.0.1, rw (t.self x) N.0.2), low)
    where
      low : (r : List A) → Past s (x ∷ xs) r → compare_lists compare r (x ∷ q) ≡ Less → ⊥
      low [] p e = less≢greater (sym p.1)
      low (d ∷ ds) p e = go (past_cases s x xs d ds p) (then_less (compare d x) (compare_lists compare ds q) e)
        where
          go : Above s x d ⊎ ((d ≡ x) × Past (pass s x) xs ds) → (compare d x ≡ Less) ⊎ ((compare d x ≡ Equal) × (compare_lists compare ds q ≡ Less)) → ⊥
          go (inl b) (inl e') = less≢greater (sym e' ∙ less_flip compare t x d b.1)
          go (inl b) (inr e') = equal≢greater (sym e'.0 ∙ less_flip compare t x d b.1)
          go (inr b) (inl e') = less≢equal (sym e' ∙ equal_by compare t d x b.0)
          go (inr b) (inr e') = N.1 ds b.1 e'.1
  kept_or_raised s x xs v none (some b) N U = (((U.0.0, tt), rw U.0.1, rw U.0.1), low)
    where
      low : (r : List A) → Past s (x ∷ xs) r → compare_lists compare r (b ∷ []) ≡ Less → ⊥
      low [] p e = less≢greater (sym p.1)
      low (d ∷ ds) p e = go (past_cases s x xs d ds p) (then_less (compare d b) (compare_lists compare ds []) e)
        where
          go : Above s x d ⊎ ((d ≡ x) × Past (pass s x) xs ds) → (compare d b ≡ Less) ⊎ ((compare d b ≡ Equal) × (compare_lists compare ds [] ≡ Less)) → ⊥
          go (inl h) (inl e') = U.1 d h e'
          go (inl h) (inr e') = not_below_nil compare t ds e'.1
          go (inr h) e' = N ds h.1
  kept_or_raised s x xs v none none N U = low
    where
      low : (r : List A) → Past s (x ∷ xs) r → ⊥
      low [] p = less≢greater (sym p.1)
      low (d ∷ ds) p = elim (past_cases s x xs d ds p) [ inl h ↦ U d h | inr h ↦ N ds h.1 ]

  raise_last_least : (raise : S → A → Option A) → ((s : S) (x : A) → Ok s x → LeastBy compare (Above s x) (raise s x))
      → (s : S) (l : List A) → Each pass Ok s l → LeastBy (compare_lists compare) (Past s l) (raise_last pass raise s l)
  raise_last_least raise h s [] v = λ r p. true≢false p.2
  raise_last_least raise h s (x ∷ xs) v =
      kept_or_raised s x xs v.0 (raise_last pass raise (pass s x) xs) (raise s x) (raise_last_least raise h (pass s x) xs v.1) (h s x v.0)

-- What is raised is no longer than before.
raised_length : {A S : Type 0} (pass : S → A → S) (raise : S → A → Option A) (s : S) (l q : List A) → raise_last pass raise s l ≡ some q → length q ≤ length l
raised_length pass raise s [] q e = let z : ◌≡◌ {A = ℕ} 0 1 = cc in absurd (omega arith)
raised_length {A} pass raise s (x ∷ xs) q e = go (raise_last pass raise (pass s x) xs) (raise s x) (raised_length pass raise (pass s x) xs) e
  where
    go : (n : Option (List A)) (u : Option A) → ((r : List A) → n ≡ some r → length r ≤ length xs) → keep_or_raise x n u ≡ some q → length q ≤ suc (length xs)
    go (some p) u h e =
        let k = h p refl in
        let f : x ∷ p ≡ q = cc in
        rw (← f) (omega arith)
    go none (some b) h e =
        let f : b ∷ [] ≡ q = cc in
        rw (← f) (omega arith)
    go none none h e = let z : ◌≡◌ {A = ℕ} 0 1 = cc in absurd (omega arith)

-- BYTES.
abbrev ByteOk : ℕ → ℕ → Type 0
ByteOk i b = b < 256

raise_byte_least : (i b : ℕ) → b < 256 → LeastBy compare_numbers (λ x. (x < 256) × (compare_numbers b x ≡ Less)) (raise_byte i b)
raise_byte_least i b v = go (ltb b 255) refl
  where
    go : (c : Bool) → ltb b 255 ≡ c → LeastBy compare_numbers (λ x. (x < 256) × (compare_numbers b x ≡ Less)) (cond c (some (suc b)) none)
    go true e =
        let h = ltb-true b 255 e in (
          (omega arith, less_number b (suc b) (omega arith)),
          λ r p k. let x = number_less b r p.1 in let y = number_less r (suc b) k in omega arith,
        )
    go false e = λ r p. let x = number_less b r p.1 in let h = ltb-false b 255 e in omega arith

each_byte : (c : Component) (i : ℕ) → Bytes c → Each (λ i b. suc i) ByteOk i c
each_byte [] i h = tt
each_byte (b ∷ bs) i h = (h.0, each_byte bs (suc i) h.1)

byte_each : (c : Component) (i : ℕ) → Each (λ i b. suc i) ByteOk i c → Bytes c
byte_each [] i h = tt
byte_each (b ∷ bs) i h = (h.0, byte_each bs (suc i) h.1)

bytes_snoc : (c : Component) (b : ℕ) → b < 256 → Bytes c → Bytes (c ++ (b ∷ []))
bytes_snoc [] z k h = (k, tt)
bytes_snoc (b ∷ bs) z k h = (h.0, bytes_snoc bs z k h.1)

module _ (L : Limits) where
  -- COMPONENTS. One that may stand behind `before` bytes.
  abbrev ComponentOk : ℕ → Component → Type 0
  ComponentOk before c = (length c ≤ L.mcl) × (before + length c ≤ L.mpl) × Bytes c

  lengthen_or_raise_least : (before : ℕ) (c : Component) → ComponentOk before c
      → LeastBy compare_components (λ d. ComponentOk before d × (compare_components c d ≡ Less)) (lengthen_or_raise L before c)
  lengthen_or_raise_least n c v = go (ltb (length c) L.mcl && ltb (n + length c) L.mpl) refl
    where
      RaisedOk : Component → Type 0
      RaisedOk d = Each (λ i b. suc i) ByteOk 0 d × (compare_components c d ≡ Less) × (is_prefix compare_numbers c d ≡ false)

      go : (room : Bool) → ltb (length c) L.mcl && ltb (n + length c) L.mpl ≡ room
          → LeastBy compare_components (λ d. ComponentOk n d × (compare_components c d ≡ Less)) (cond room (some (c ++ (0 ∷ []))) (raise_component c))
      go true e =
          let b = both_true (ltb (length c) L.mcl) (ltb (n + length c) L.mpl) e in
          let x = ltb-true (length c) L.mcl b.0 in
          let y = ltb-true (n + length c) L.mpl b.1 in
          let z = length-append c (0 ∷ []) in (
            ((omega arith, omega arith, bytes_snoc c 0 (omega arith) v.2), snoc_above compare_numbers numbers_total c 0),
            λ r p. snoc_least compare_numbers numbers_total 0 (λ a h. let w = number_less a 0 h in omega arith) c r p.1,
          )
      go false e = least_iff compare_components
          (λ d. RaisedOk d × (length d ≤ length c))
          (λ d. ComponentOk n d × (compare_components c d ≡ Less))
          (raise_component c)
          (λ d p. ((omega arith, omega arith, byte_each d 0 p.0.0), p.0.1))
          (λ d p. let s = short d p.0 in ((each_byte d 0 p.0.2, p.1, above_short compare_numbers numbers_total c d p.1 s), omega arith))
          (least_also compare_components RaisedOk (λ d. length d ≤ length c) (raise_component c)
          (λ q f. raised_length (λ i b. suc i) raise_byte 0 c q f)
          (raise_last_least (λ i b. suc i) compare_numbers numbers_total ByteOk raise_byte raise_byte_least 0 c (each_byte c 0 v.2)))
        where
          -- there is no room for a longer component
          short : (d : Component) → ComponentOk n d → length c < length d → ⊥
          short d p h = false≢true (sym e ∙ rw (lt-ltb (length c) L.mcl (omega arith), lt-ltb (n + length c) L.mpl (omega arith)))

  -- PATHS. Validity, component by component.
  abbrev EachOk : Path → Type 0
  EachOk = All (ValidComponent L)

  valid_each : (p : Path) (n : ℕ) → n + path_length p ≤ L.mpl → EachOk p → Each (λ before c. before + length c) ComponentOk n p
  valid_each [] n h a = tt
  valid_each (c ∷ cs) n h a = ((a.0.0, omega arith, a.0.1), valid_each cs (n + length c) (omega arith) a.1)

  each_valid : (p : Path) (n : ℕ) → n ≤ L.mpl → Each (λ before c. before + length c) ComponentOk n p → (n + path_length p ≤ L.mpl) × EachOk p
  each_valid [] n h e = (omega arith, tt)
  each_valid (c ∷ cs) n h e =
      let k = each_valid cs (n + length c) (omega arith) e.1 in
      (omega arith, ((e.0.0, e.0.2), k.1))

  -- The least by the comparison is the least by meaning.
  least_means : (P Q : Path → Type 0) (m : Option Path) → ((r : Path) → P r ↔ Q r) → LeastBy compare_paths P m → Least Q m
  least_means P Q none f h = λ r q. h r ((f r).1 q)
  least_means P Q (some x) f h = ((f x).0 h.0, λ r q. (at_most_means compare_paths PathBelow paths_decided x r).1 (λ g. h.1 r ((f r).1 q) (paths_total.flip x r ∙ ap reverse g)))

  abbrev NextOk : Path → Path → Type 0
  NextOk p r = Valid L r × (compare_paths p r ≡ Less) × (is_prefix_of p r ≡ false)

  next_least : (p : Path) → Valid L p → LeastBy compare_paths (NextOk p) (next_greater L p)
  unfolding next_greater
  next_least p v = least_iff compare_paths
      (λ r. (Each (λ before c. before + length c) ComponentOk 0 r × (compare_paths p r ≡ Less) × (is_prefix_of p r ≡ false)) × (length r ≤ L.mcc))
      (NextOk p)
      (next_greater L p)
      (λ r h. let k = each_valid r 0 (omega arith) h.0.0 in (record { count = h.1; total = omega arith; each = k.1 }, h.0.1, h.0.2))
      (λ r h. ((valid_each r 0 (omega arith) h.0.each, h.1, h.2), h.0.count))
      (least_also compare_paths
      (λ r. Each (λ before c. before + length c) ComponentOk 0 r × (compare_paths p r ≡ Less) × (is_prefix_of p r ≡ false))
      (λ r. length r ≤ L.mcc)
      (next_greater L p)
      (λ q f. let k = raised_length (λ before c. before + length c) (lengthen_or_raise L) 0 p q f in omega arith)
      (raise_last_least (λ before c. before + length c) compare_components components_total ComponentOk (lengthen_or_raise L) lengthen_or_raise_least 0 p (valid_each p 0 (omega arith) v.each)))

  next_greater_lem : (p : Path) → Valid L p → Least (GreaterNotPrefixed L p) (next_greater L p)
  next_greater_lem p v = least_means (NextOk p) (GreaterNotPrefixed L p) (next_greater L p)
      (λ r. (λ h. (h.0, (paths_decided.less p r).0 h.1, (prefix_fails p r).0 h.2), λ h. (h.0, (paths_decided.less p r).1 h.1, (prefix_fails p r).1 h.2)))
      (next_least p v)

  -- THE SUCCESSOR.
  length_snoc : (p : Path) → path_length (p ++ ([] ∷ [])) ≡ path_length p
  length_snoc [] = refl
  length_snoc (c ∷ cs) = ap (λ n. length c + n) (length_snoc cs)

  each_snoc : (p : Path) → EachOk p → EachOk (p ++ ([] ∷ []))
  each_snoc [] a = ((omega arith, tt), tt)
  each_snoc (c ∷ cs) a = (a.0, each_snoc cs a.1)

  abbrev AboveOk : Path → Path → Type 0
  AboveOk p r = Valid L r × (compare_paths p r ≡ Less)

  successor_least : (p : Path) → Valid L p → LeastBy compare_paths (AboveOk p) (successor L p)
  unfolding successor
  successor_least p v = go (ltb (length p) L.mcc) refl
    where
      go : (room : Bool) → ltb (length p) L.mcc ≡ room → LeastBy compare_paths (AboveOk p) (cond room (some (p ++ ([] ∷ []))) (next_greater L p))
      go true e =
          let x = ltb-true (length p) L.mcc e in
          let z = length-append p ([] ∷ []) in
          let w = length_snoc p in (
            (record { count = omega arith; total = omega arith; each = each_snoc p v.each }, snoc_above compare_components components_total p []),
            λ r h. snoc_least compare_components components_total [] (not_below_nil compare_numbers numbers_total) p r h.1,
          )
      go false e =
          let x = ltb-false (length p) L.mcc e in
          least_iff compare_paths (NextOk p) (AboveOk p) (next_greater L p)
          (λ r h. (h.0, h.1))
          (λ r h. let y = h.0.count in (h.0, h.1, above_short compare_components components_total p r h.1 (λ k. omega arith)))
          (next_least p v)

  least_successor : (p : Path) → Valid L p → Least (GreaterPath L p) (successor L p)
  least_successor p v = least_means (AboveOk p) (GreaterPath L p) (successor L p)
      (λ r. (λ h. (h.0, (paths_decided.less p r).0 h.1), λ h. (h.0, (paths_decided.less p r).1 h.1)))
      (successor_least p v)

  -- THE GREATEST PATH.
  filled_count : (k room : ℕ) → length (filled L.mcl k room) ≤ k
  filled_count zero m = omega arith
  filled_count (suc k) m = let h = filled_count k (m - min L.mcl m) in omega arith

  filled_total : (k room : ℕ) → path_length (filled L.mcl k room) ≤ room
  filled_total zero m = omega arith
  filled_total (suc k) m =
      let h = filled_total k (m - min L.mcl m) in
      let l = length-replicate {A = ℕ} (min L.mcl m) 255 in
      omega arith

  all_ff : (n : ℕ) → Bytes (replicate n 255)
  all_ff zero = tt
  all_ff (suc n) = (omega arith, all_ff n)

  filled_each : (k room : ℕ) → EachOk (filled L.mcl k room)
  filled_each zero m = tt
  filled_each (suc k) m =
      let l = length-replicate {A = ℕ} (min L.mcl m) 255 in
      ((omega arith, all_ff (min L.mcl m)), filled_each k (m - min L.mcl m))

  ff_greatest : (n : ℕ) (c : Component) → length c ≤ n → Bytes c → compare_components (replicate n 255) c ≡ Less → ⊥
  ff_greatest zero [] h a e = less≢equal (sym e)
  ff_greatest zero (b ∷ bs) h a e = omega arith
  ff_greatest (suc n) [] h a e = less≢greater (sym e)
  ff_greatest (suc n) (b ∷ bs) h a e = elim (then_less (compare_numbers 255 b) (compare_components (replicate n 255) bs) e) [
    | inl k ↦ let x = number_less 255 b k in omega arith
    | inr k ↦ ff_greatest n bs (omega arith) a.1 k.1
  ]

  filled_greatest : (k room : ℕ) (r : Path) → length r ≤ k → path_length r ≤ room → EachOk r → compare_paths (filled L.mcl k room) r ≡ Less → ⊥
  filled_greatest zero m [] h b a e = less≢equal (sym e)
  filled_greatest zero m (c ∷ cs) h b a e = omega arith
  filled_greatest (suc k) m [] h b a e = less≢greater (sym e)
  filled_greatest (suc k) m (c ∷ cs) h b a e =
      elim (then_less (compare_components (replicate (min L.mcl m) 255) c) (compare_paths (filled L.mcl k (m - min L.mcl m)) cs) e) [
        | inl x ↦ ff_greatest (min L.mcl m) c (omega arith) a.0.1 x
        | inr x ↦
            let y = components_total.same (replicate (min L.mcl m) 255) c x.0 in
            let l = length-replicate {A = ℕ} (min L.mcl m) 255 in
            let n : length c ≡ min L.mcl m = cc in
            filled_greatest k (m - min L.mcl m) cs (omega arith) (omega arith) a.1 x.1
      ]

  greatest_valid : Valid L (greatest L)
  unfolding greatest
  greatest_valid = record {
    count = filled_count L.mcc L.mpl;
    total = filled_total L.mcc L.mpl;
    each = filled_each L.mcc L.mpl;
  }

  greatest_above : (r : Path) → Valid L r → AtMost PathBelow r (greatest L)
  unfolding greatest
  greatest_above r v = (at_most_means compare_paths PathBelow paths_decided r (filled L.mcl L.mcc L.mpl)).1
      (λ g. filled_greatest L.mcc L.mpl r v.count v.total v.each (paths_total.flip r (filled L.mcl L.mcc L.mpl) ∙ ap reverse g))

  -- THE RANGE OF A PREFIX. What p prefixes is at least p and below all that is above p and not prefixed by p, so below the
  -- least of these; and what is at least p and not prefixed by p is not below that least one.
  prefix_range : (p q : Path) → Valid L p → Valid L q
      → Prefix p q ↔ (AtMost PathBelow p q × ((g : Path) → next_greater L p ≡ some g → PathBelow q g))
  prefix_range p q v w = (
    λ a. (prefix_at_most p q a, λ g e. let h = found g e in prefix_block p q g a h.0.2 h.0.1),
    λ h. within h (below_cases compare_paths PathBelow paths_decided p q),
  )
    where
      found : (g : Path) → next_greater L p ≡ some g → Least (GreaterNotPrefixed L p) (some g)
      found g e = rw e at (next_greater_lem p v)

      above : PathBelow p q → ((g : Path) → next_greater L p ≡ some g → PathBelow q g) → is_prefix_of p q ≡ false → ⊥
      above b f n = go (next_greater L p) refl
        where
          go : (m : Option Path) → next_greater L p ≡ m → ⊥
          go none e =
              let h : Least (GreaterNotPrefixed L p) none = rw e at (next_greater_lem p v) in
              h q (w, b, (prefix_fails p q).0 n)
          go (some g) e =
              elim ((found g e).1 q (w, b, (prefix_fails p q).0 n)) [
                | inl k ↦ below_irreflexive compare_paths PathBelow paths_decided q (rw k at (f g e))
                | inr k ↦ below_asymmetric compare_paths PathBelow paths_decided q g (f g e) k
              ]

      within : AtMost PathBelow p q × ((g : Path) → next_greater L p ≡ some g → PathBelow q g) → PathBelow p q ⊎ ((p ≡ q) ⊎ PathBelow q p) → Prefix p q
      within h (inl b) = go (is_prefix_of p q) refl
        where
          go : (c : Bool) → is_prefix_of p q ≡ c → Prefix p q
          go true e = (prefix_means p q).0 e
          go false e = absurd (above b h.1 e)
      within h (inr (inl e)) = rw e (prefix_self q)
      within h (inr (inr b)) = elim h.0 [
        | inl e ↦ rw e (prefix_self q)
        | inr c ↦ absurd (below_asymmetric compare_paths PathBelow paths_decided p q c b)
      ]

-- THEOREM 3.
pub least_paths : (L : Limits) → LeastPaths L
least_paths L = record {
  next_greater_lem = next_greater_lem L;
  least_successor = least_successor L;
  greatest_valid = greatest_valid L;
  greatest_above = greatest_above L;
  prefix_range = prefix_range L;
}
