-- Each answer of `admitted` is given exactly where its tests say, by cases on the three tests. Cutting bytes by lengths and
-- joining the pieces are inverse, by recursion on the lengths.
use Prim.Native.Nat.{ℕ, zero, suc, ◌+◌, ◌*◌, ◌/◌, ◌%◌, ◌≤◌}
use mathlib.Core.Path.{◌≡◌, refl, sym, ◌∙◌, ap}
use mathlib.Core.Logic.Iff
use mathlib.Core.Logic.{◌↔◌}
use mathlib.Core.List.{List, [], ◌∷◌, ◌++◌, map}
use mathlib.Core.Bool.{Bool, true, false, cond, true≢false}
use native.Mathlib.Omega.{arith}
use lib.Dec.{ltb}
use lib.ListN.{length, take, drop, length-take, length-drop, length-map, length-append, take-append-drop}
use lib.Seq.{take_at, drop_at, drop-drop, take-add, take-length}
use borrow.Author.Tests.{ltb-true, ltb-false, lt-ltb, le-ltb, eqb-true, eq-eqb}
use Rattle.willow.specs.declared.Limits.{Limits}
use Rattle.willow.specs.declared.Refusal.TheVariants.{BadLengths, PathTooLong, TooManyComponents, ComponentTooLong}
use Rattle.willow.specs.Refusals.{Outcome, refused, value}
use Rattle.willow.specs.Limits.{max_word}
use Rattle.willow.specs.Lists.{All, any}
use Rattle.willow.specs.Numbers.{Bytes, le, unle, number_at}
use Rattle.willow.specs.Packed.{joined}
use Rattle.willow.specs.Paths.{Path, path_length, ValidComponent, Valid}
use Rattle.willow.specs.Construction.{admitted, numbers, lengths_in, total, lengths_fit, cut, from_slices, append_slice, SomeTooLong, Admission, length_buffer, Slices, Construction}
use Rattle.willow.proofs.Bools.{both_true, not_true_false, decided_false}
use Rattle.willow.proofs.ListLaws.{all_in, all_also, all_both, all_mapped, mapped_all, any_found, any_false, found_any}
use Rattle.willow.proofs.NumberLaws.{bytes_take, bytes_drop, le_length, unle_le, le_unle, unle_bound}
use Rattle.willow.proofs.PackedLaws.{joined_length}

-- THREE TESTS IN ORDER: what each answer says of them.
abbrev judged : Bool → Bool → Bool → Path → Outcome Path
judged long many wide p =
    cond long (refused PathTooLong) (cond many (refused TooManyComponents) (cond wide (refused ComponentTooLong) (value p)))

judged_long : (long many wide : Bool) (p : Path) → judged long many wide p ≡ refused PathTooLong → long ≡ true
judged_long true many wide p e = refl
judged_long false true wide p e = cc
judged_long false false true p e = cc
judged_long false false false p e = cc

judged_many : (long many wide : Bool) (p : Path) → judged long many wide p ≡ refused TooManyComponents → (long ≡ false) × (many ≡ true)
judged_many true many wide p e = (cc, cc)
judged_many false true wide p e = (refl, refl)
judged_many false false true p e = (cc, cc)
judged_many false false false p e = (cc, cc)

judged_wide : (long many wide : Bool) (p : Path) → judged long many wide p ≡ refused ComponentTooLong
    → (long ≡ false) × (many ≡ false) × (wide ≡ true)
judged_wide true many wide p e = (cc, cc, cc)
judged_wide false true wide p e = (cc, cc, cc)
judged_wide false false true p e = (refl, refl, refl)
judged_wide false false false p e = (cc, cc, cc)

judged_value : (long many wide : Bool) (p q : Path) → judged long many wide p ≡ value q
    → (long ≡ false) × (many ≡ false) × (wide ≡ false) × (q ≡ p)
judged_value true many wide p q e = (cc, cc, cc, cc)
judged_value false true wide p q e = (cc, cc, cc, cc)
judged_value false false true p q e = (cc, cc, cc, cc)
judged_value false false false p q e = (refl, refl, refl, cc)

-- ADMISSION. Its tests: too many bytes, too many components, and some component with too many bytes.
abbrev long : Limits → Path → Bool
long L p = ltb L.mpl (path_length p)

abbrev many : Limits → Path → Bool
many L p = ltb L.mcc (length p)

abbrev wide : Limits → Path → Bool
wide L p = any (λ c. ltb L.mcl (length c)) p

module _ (L : Limits) (p : Path) where
  pub some_too_long : (any (λ c. ltb L.mcl (length c)) p ≡ true) ↔ SomeTooLong L p
  some_too_long = (
    λ e. let t = any_found (λ c. ltb L.mcl (length c)) p e in (t.0, t.1, ltb-true L.mcl (length t.0) t.2),
    λ t. found_any (λ c. ltb L.mcl (length c)) p t.0 t.1 (lt-ltb L.mcl (length t.0) t.2),
  )

  pub none_too_long : (any (λ c. ltb L.mcl (length c)) p ≡ false) ↔ All (λ c. length c ≤ L.mcl) p
  none_too_long = (
    λ e. all_also _ _ (λ c. ltb-false L.mcl (length c)) p (any_false (λ c. ltb L.mcl (length c)) p e),
    λ a. not_true_false (wide L p) (λ e. let t = some_too_long.0 e in let k = all_in (λ c. length c ≤ L.mcl) p a t.0 t.1 in omega arith),
  )

  value_valid : All Bytes p → (q : Path) → admitted L p ≡ value q → (q ≡ p) × Valid L p
  unfolding admitted
  value_valid bs q e =
      let t = judged_value (long L p) (many L p) (wide L p) p q e in (
        t.3,
        record {
          count = ltb-false L.mcc (length p) t.1;
          total = ltb-false L.mpl (path_length p) t.0;
          each = all_both (λ c. length c ≤ L.mcl) Bytes p (none_too_long.0 t.2) bs;
        },
      )

  -- a valid path is admitted as it is
  pub valid_admitted : Valid L p → admitted L p ≡ value p
  unfolding admitted
  valid_admitted v =
      let narrow = none_too_long.1 (all_also (ValidComponent L) (λ c. length c ≤ L.mcl) (λ c h. h.0) p v.each) in
      rw (le-ltb L.mpl (path_length p) v.total, le-ltb L.mcc (length p) v.count, narrow)

  pub admission : All Bytes p → Admission L p
  unfolding admitted
  admission bs = record {
    path_too_long_lem = (
      λ e. ltb-true _ _ (judged_long (long L p) (many L p) (wide L p) p e),
      λ h. rw (lt-ltb L.mpl (path_length p) h),
    );
    too_many_components_lem = (
      λ e. let t = judged_many (long L p) (many L p) (wide L p) p e in (ltb-false _ _ t.0, ltb-true _ _ t.1),
      λ h. rw (le-ltb L.mpl (path_length p) h.0, lt-ltb L.mcc (length p) h.1),
    );
    component_too_long_lem = (
      λ e. let t = judged_wide (long L p) (many L p) (wide L p) p e in (ltb-false _ _ t.0, ltb-false _ _ t.1, some_too_long.0 t.2),
      λ h. rw (le-ltb L.mpl (path_length p) h.0, le-ltb L.mcc (length p) h.1, some_too_long.1 h.2),
    );
    valid = λ q. (value_valid bs q, λ t. rw t.0 (valid_admitted t.1));
  }

-- THE LENGTHS IN A BUFFER. How many, and those from a place on:
pub numbers_count : (k : ℕ) (s : List ℕ) → length (numbers k s) ≡ k
numbers_count zero s = refl
numbers_count (suc k) s = ap suc (numbers_count k (drop 8 s))

pub lengths_count : (s : List ℕ) → length (lengths_in s) ≡ length s / 8
unfolding lengths_in
lengths_count s = numbers_count (length s / 8) s

pub numbers_on : (k : ℕ) (s : List ℕ) (at : ℕ) → numbers (suc k) (drop at s) ≡ number_at s at ∷ numbers k (drop (at + 8) s)
unfolding number_at
numbers_on k s at = ap (λ t. unle (take 8 (drop at s)) ∷ numbers k t) (drop-drop 8 at s)

-- CUTTING AND JOINING. The lengths of components sum up to the path's:
pub total_lengths : (p : Path) → total (map length p) ≡ path_length p
total_lengths [] = refl
total_lengths (c ∷ cs) = ap (λ n. length c + n) (total_lengths cs)

-- the pieces are as long as they were to be, and joined they are the bytes that were cut
pub cut_sizes : (ns bytes : List ℕ) → total ns ≤ length bytes → map length (cut ns bytes) ≡ ns
cut_sizes [] bytes h = refl
cut_sizes (n ∷ ns) bytes h =
    let size : length (take n bytes) ≡ n = length-take n bytes ∙ omega arith in
    let l = length-drop n bytes in
    rw (size, cut_sizes ns (drop n bytes) (omega arith))

pub cut_joined : (ns bytes : List ℕ) → joined (cut ns bytes) ≡ take (total ns) bytes
cut_joined [] bytes = refl
cut_joined (n ∷ ns) bytes = ap (λ s. take n bytes ++ s) (cut_joined ns (drop n bytes)) ∙ sym (take-add n (total ns) bytes)

-- the components of a path are cut out of its bytes by their lengths
pub cut_path : (p : Path) → cut (map length p) (joined p) ≡ p
cut_path [] = refl
cut_path (c ∷ cs) = rw (take_at c (joined cs) (length c) refl, drop_at c (joined cs) (length c) refl, cut_path cs)

pub cut_bytes : (ns bytes : List ℕ) → Bytes bytes → All Bytes (cut ns bytes)
cut_bytes [] bytes h = tt
cut_bytes (n ∷ ns) bytes h = (bytes_take n bytes h, cut_bytes ns (drop n bytes) (bytes_drop n bytes h))

-- A BUFFER OF LENGTHS holds whole numbers, and these are the lengths.
buffer_length : (ns : List ℕ) → length (length_buffer ns) ≡ 8 * length ns
buffer_length [] = refl
buffer_length (n ∷ ns) = let w = le_length 8 n in let l = length-append (le 8 n) (length_buffer ns) in let ih = buffer_length ns in omega arith

buffer_numbers : (ns : List ℕ) → All (λ n. n ≤ max_word) ns → numbers (length ns) (length_buffer ns) ≡ ns
buffer_numbers [] h = refl
buffer_numbers (n ∷ ns) h =
    rw (
      take_at (le 8 n) (length_buffer ns) 8 (le_length 8 n),
      drop_at (le 8 n) (length_buffer ns) 8 (le_length 8 n),
      unle_le 8 n (let w = h.0 in omega arith),
      buffer_numbers ns h.1,
    )

lengths_back : (ns : List ℕ) → All (λ n. n ≤ max_word) ns → lengths_in (length_buffer ns) ≡ ns
unfolding lengths_in
lengths_back ns h =
    let k : length (length_buffer ns) / 8 ≡ length ns = let l = buffer_length ns in omega arith in
    ap (λ m. numbers m (length_buffer ns)) k ∙ buffer_numbers ns h

-- and bytes in whole eights are the buffer of the numbers in them
numbers_buffer : (k : ℕ) (s : List ℕ) → Bytes s → length s ≡ 8 * k → length_buffer (numbers k s) ≡ s
numbers_buffer zero s h l = sym (nothing s (omega arith))
  where
    nothing : (t : List ℕ) → length t ≡ 0 → t ≡ []
    nothing [] e = refl
    nothing (x ∷ xs) e = absurd (omega arith)
numbers_buffer (suc k) s h l =
    let w : length (take 8 s) ≡ 8 = length-take 8 s ∙ omega arith in
    let d = length-drop 8 s in
    let first : le 8 (unle (take 8 s)) ≡ take 8 s = rw w at (le_unle (take 8 s) (bytes_take 8 s h)) in
    rw (first, numbers_buffer k (drop 8 s) (bytes_drop 8 s h) (omega arith)) (take-append-drop 8 s)

numbers_words : (k : ℕ) (s : List ℕ) → Bytes s → All (λ n. n ≤ max_word) (numbers k s)
numbers_words zero s h = tt
numbers_words (suc k) s h =
    let l = length-take 8 s in
    let b = unle_bound 8 (take 8 s) (bytes_take 8 s h) (omega arith) in
    (omega arith, numbers_words k (drop 8 s) (bytes_drop 8 s h))

-- AS THE CODE READS THEM: the buffer of lengths has whole numbers, which are the components' lengths.
pub record Sliced (lengths bytes : List ℕ) (p : Path) : Type 0 where
  pub numbers_whole : length lengths % 8 ≡ 0
  pub sizes : map length p ≡ lengths_in lengths
  pub content : joined p ≡ bytes

pub slices_read : (lengths bytes : List ℕ) (p : Path) → Slices lengths bytes p → Sliced lengths bytes p
slices_read lengths bytes p s = record {
  numbers_whole = let e = ap length s.sizes in let l = buffer_length (map length p) in omega arith;
  sizes = sym (ap lengths_in s.sizes ∙ lengths_back (map length p) (all_mapped length (λ n. n ≤ max_word) p s.words));
  content = s.content;
}

read_slices : (lengths bytes : List ℕ) (p : Path) → Bytes lengths → Sliced lengths bytes p → Slices lengths bytes p
unfolding lengths_in
read_slices lengths bytes p h s =
    let whole : length lengths ≡ 8 * (length lengths / 8) = let w = s.numbers_whole in omega arith in
    record {
      sizes = sym (ap length_buffer s.sizes ∙ numbers_buffer (length lengths / 8) lengths h whole);
      words = mapped_all length (λ n. n ≤ max_word) p (rw s.sizes (numbers_words (length lengths / 8) lengths h));
      content = s.content;
    }

-- LENGTHS THAT FIT have components:
fit_slices : (lengths bytes : List ℕ) → lengths_fit lengths bytes ≡ true → Sliced lengths bytes (cut (lengths_in lengths) bytes)
unfolding lengths_fit
fit_slices lengths bytes e =
    let h = both_true _ _ e in
    let ns : List ℕ = lengths_in lengths in
    let k : total ns ≡ length bytes = eqb-true (total ns) (length bytes) h.1 in
    record {
      numbers_whole = eqb-true _ _ h.0;
      sizes = cut_sizes ns bytes (omega arith);
      content = cut_joined ns bytes ∙ rw k (take-length bytes);
    }

-- components that lengths and bytes stand for: how many bytes and components
pub slices_length : (lengths bytes : List ℕ) (p : Path) → Sliced lengths bytes p → path_length p ≡ length bytes
slices_length lengths bytes p s = sym (joined_length p) ∙ ap length s.content

pub slices_count : (lengths bytes : List ℕ) (p : Path) → Sliced lengths bytes p → length p ≡ length lengths / 8
slices_count lengths bytes p s = sym (length-map p length) ∙ ap length s.sizes ∙ lengths_count lengths

-- and where there are such components the lengths fit
slices_fit : (lengths bytes : List ℕ) (p : Path) → Sliced lengths bytes p → lengths_fit lengths bytes ≡ true
unfolding lengths_fit
slices_fit lengths bytes p s =
    let sum : total (lengths_in lengths) ≡ length bytes = ap total (sym s.sizes) ∙ total_lengths p ∙ slices_length lengths bytes p s in
    rw (eq-eqb _ _ s.numbers_whole, eq-eqb _ _ sum)

pub fit_means : (lengths bytes : List ℕ) → (lengths_fit lengths bytes ≡ true) ↔ ((p : Path) × Sliced lengths bytes p)
fit_means lengths bytes = (λ e. (cut (lengths_in lengths) bytes, fit_slices lengths bytes e), λ s. slices_fit lengths bytes s.0 s.1)

-- there is one list of them
pub slices_cut : (lengths bytes : List ℕ) (p : Path) → Sliced lengths bytes p → p ≡ cut (lengths_in lengths) bytes
slices_cut lengths bytes p s = rw (← s.sizes, ← s.content) (sym (cut_path p))

-- REFUSAL 6 is not one of those that `admitted` gives.
admitted_lengths : (L : Limits) (p : Path) → admitted L p ≡ refused BadLengths → ⊥
unfolding admitted
admitted_lengths L p = go (ltb L.mpl (path_length p)) (ltb L.mcc (length p)) (any (λ c. ltb L.mcl (length c)) p)
  where
    go : (a b c : Bool) → judged a b c p ≡ refused BadLengths → ⊥
    go true b c e = let z : ◌≡◌ {A = ℕ} 0 1 = cc in omega arith
    go false true c e = let z : ◌≡◌ {A = ℕ} 0 1 = cc in omega arith
    go false false true e = let z : ◌≡◌ {A = ℕ} 0 1 = cc in omega arith
    go false false false e = let z : ◌≡◌ {A = ℕ} 0 1 = cc in omega arith

unless_fit : (fit : Bool) (o : Outcome Path) → (o ≡ refused BadLengths → ⊥) → (cond fit o (refused BadLengths) ≡ refused BadLengths) ↔ (fit ≡ false)
unless_fit true o n = (λ e. absurd (n e), λ e. absurd (true≢false e))
unless_fit false o n = (λ e. refl, λ e. refl)

none_fit : (lengths bytes : List ℕ) → Bytes lengths → (lengths_fit lengths bytes ≡ false) ↔ ((p : Path) → Slices lengths bytes p → ⊥)
none_fit lengths bytes h =
    let d = decided_false (lengths_fit lengths bytes) (fit_means lengths bytes) in
    (λ e p s. d.0 e (p, slices_read lengths bytes p s), λ n. d.1 (λ s. n s.0 (read_slices lengths bytes s.0 h s.1)))

made_unless : (L : Limits) (lengths bytes : List ℕ) → Bytes lengths → (from_slices L lengths bytes ≡ refused BadLengths) ↔ ((p : Path) → Slices lengths bytes p → ⊥)
unfolding from_slices
made_unless L lengths bytes h =
    let p = cut (lengths_in lengths) bytes in
    Iff.trans (unless_fit (lengths_fit lengths bytes) (admitted L p) (admitted_lengths L p)) (none_fit lengths bytes h)

made_as : (L : Limits) (lengths bytes : List ℕ) (p : Path) → Slices lengths bytes p → from_slices L lengths bytes ≡ admitted L p
unfolding from_slices
made_as L lengths bytes p s =
    let r = slices_read lengths bytes p s in
    rw (slices_fit lengths bytes p r) (ap (admitted L) (sym (slices_cut lengths bytes p r)))

appended_unless : (L : Limits) (p : Path) (lengths bytes : List ℕ) → Bytes lengths → (append_slice L p lengths bytes ≡ refused BadLengths) ↔ ((q : Path) → Slices lengths bytes q → ⊥)
unfolding append_slice
appended_unless L p lengths bytes h =
    let q = p ++ cut (lengths_in lengths) bytes in
    Iff.trans (unless_fit (lengths_fit lengths bytes) (admitted L q) (admitted_lengths L q)) (none_fit lengths bytes h)

appended_as : (L : Limits) (p : Path) (lengths bytes : List ℕ) (q : Path) → Slices lengths bytes q → append_slice L p lengths bytes ≡ admitted L (p ++ q)
unfolding append_slice
appended_as L p lengths bytes q s =
    let r = slices_read lengths bytes q s in
    rw (slices_fit lengths bytes q r) (ap (λ t. admitted L (p ++ t)) (sym (slices_cut lengths bytes q r)))

pub construction : Construction
construction = record {
  admission = admission;
  slices_only = λ lengths bytes p q s t. slices_cut lengths bytes p (slices_read lengths bytes p s) ∙ sym (slices_cut lengths bytes q (slices_read lengths bytes q t));
  slices_bytes = λ lengths bytes p h s. rw (slices_cut lengths bytes p (slices_read lengths bytes p s)) (cut_bytes (lengths_in lengths) bytes h);
  made_unless = made_unless;
  made_as = made_as;
  appended_unless = appended_unless;
  appended_as = appended_as;
}
