-- Admission of a path with slices behind it: its bytes and components are those of both, and none of the path's own is too
-- long, so that each test of the whole is one of the slices.
use Prim.Native.Nat.{ℕ, zero, suc, ◌+◌, ◌-◌, ◌*◌, ◌/◌, ◌≤◌, ◌<◌}
use mathlib.Core.Path.{◌≡◌, refl, sym, ◌∙◌, ap}
use mathlib.Core.List.{List, [], ◌∷◌, ◌++◌, map}
use mathlib.Core.Option.{none}
use mathlib.Core.Bool.{Bool, true, false, not, ◌||◌}
use native.Mathlib.Omega.{arith}
use Rattle.std.proofs.lemmas.Bool.{not-false, not-true}
use lib.Dec.{ltb}
use lib.ListN.{length, drop, length-append, length-take}
use borrow.Author.Tests.{lt-ltb, le-ltb}
use Rattle.willow.specs.declared.Limits.{Limits}
use Rattle.willow.specs.declared.Refusal.TheVariants.{BadLengths, PathTooLong, TooManyComponents, ComponentTooLong}
use Rattle.willow.specs.Answers.{path_in}
use Rattle.willow.specs.Construction.{admitted, lengths_in, lengths_fit, cut, append_slice}
use Rattle.willow.specs.Limits.{Accepted}
use Rattle.willow.specs.Lists.{All, any}
use Rattle.willow.specs.Numbers.{number_at}
use Rattle.willow.specs.Packed.{components_from, packed_count, steps_fit, unpack, well_formed}
use Rattle.willow.specs.Paths.{Path, path_length}
use Rattle.willow.specs.Refusals.{refused, value}
use Rattle.willow.proofs.Bools.{neither_true}
use Rattle.willow.proofs.ConstructionLaws.{Sliced, fit_means, none_too_long, slices_count, slices_cut, slices_length}
use Rattle.willow.proofs.ListLaws.{all_take}
use Rattle.willow.proofs.PackedLaws.{components_count, end_passed, step_passed, tested}
use Rattle.willow.proofs.ValidLaws.{path_length_append, path_length_take}
use Rattle.extension.specs.Extending.{Admitted, Extendable}

-- A path within the limits, whatever bytes its components have.
pub record Within (L : Limits) (p : Path) : Type 0 where
  pub few : length p ≤ L.mcc
  pub short : path_length p ≤ L.mpl
  pub narrow : All (λ c. length c ≤ L.mcl) p

steps_read : (L : Limits) (b : List ℕ) (base r at from : ℕ) → steps_fit L b r at from ≡ true
    → All (λ c. length c ≤ L.mcl) (components_from b base r at from) × (from + path_length (components_from b base r at from) ≤ L.mpl)
steps_read L b base zero at from h = let e = end_passed L b at from h in (tt, omega arith)
steps_read L b base (suc r) at from h =
    let s = step_passed L b r at from h in
    let ih = steps_read L b base r (at + 8) (number_at b at) s.more in
    let size = length-take (number_at b at - from) (drop (base + from) b) in
    ((omega arith, ih.0), omega arith)

-- what is well formed, up to a count that it has
pub formed_within : (L : Limits) (b : List ℕ) (k : ℕ) → well_formed L b ≡ true → k ≤ packed_count b → Within L (path_in b k)
unfolding path_in unpack
formed_within L b k formed few_lem =
    let t = (tested L b).0 formed in
    let n : ℕ = packed_count b in
    let p : Path = components_from b (8 + 8 * n) n 8 0 in
    let r = steps_read L b (8 + 8 * n) n 8 0 t.steps in
    let c = length-take k p in
    let m = components_count b (8 + 8 * n) n 8 0 in
    let s = path_length_take k p in
    record { few = omega arith; short = omega arith; narrow = all_take (λ c. length c ≤ L.mcl) k p r.0 }

-- Slices whose lengths fit the bytes.
pub cut_slices : (lengths bytes : List ℕ) → lengths_fit lengths bytes ≡ true → Sliced lengths bytes (cut (lengths_in lengths) bytes)
cut_slices lengths bytes e =
    let s = (fit_means lengths bytes).0 e in
    rw (← slices_cut lengths bytes s.0 s.1) s.1

-- THE WHOLE PATH, by its parts: how many bytes and components it has.
pub record Whole (p : Path) (lengths bytes : List ℕ) : Type 0 where
  pub bytes_in : path_length (p ++ cut (lengths_in lengths) bytes) ≡ path_length p + length bytes
  pub count_in_lem : length (p ++ cut (lengths_in lengths) bytes) ≡ length p + length lengths / 8

pub whole : (p : Path) (lengths bytes : List ℕ) → lengths_fit lengths bytes ≡ true → Whole p lengths bytes
whole p lengths bytes e =
    let q : Path = cut (lengths_in lengths) bytes in
    let s = cut_slices lengths bytes e in
    record {
      bytes_in = path_length_append p q ∙ ap (λ m. path_length p + m) (slices_length lengths bytes q s);
      count_in_lem = length-append p q ∙ ap (λ m. length p + m) (slices_count lengths bytes q s);
    }

-- A TEST OF COMPONENTS, of joined paths and of lengths.
any_append : {A : Type 0} (test : A → Bool) (l m : List A) → any test l ≡ false → any test (l ++ m) ≡ any test m
any_append test [] m h = refl
any_append test (x ∷ xs) m h =
    let n = neither_true (test x) (any test xs) h in
    rw n.0 (any_append test xs m n.1)

any_map : {A B : Type 0} (f : A → B) (test : B → Bool) (l : List A) → any (λ x. test (f x)) l ≡ any test (map f l)
any_map f test [] = refl
any_map f test (x ∷ xs) = ap (λ t. test (f x) || t) (any_map f test xs)

-- some component of the whole is too long exactly if one of the slices is
whole_wide : (L : Limits) (p : Path) (lengths bytes : List ℕ) → Within L p → lengths_fit lengths bytes ≡ true
    → any (λ c. ltb L.mcl (length c)) (p ++ cut (lengths_in lengths) bytes) ≡ any (λ n. ltb L.mcl n) (lengths_in lengths)
whole_wide L p lengths bytes f e =
    let q : Path = cut (lengths_in lengths) bytes in
    any_append (λ c. ltb L.mcl (length c)) p q ((none_too_long L p).1 f.narrow)
    ∙ any_map length (λ n. ltb L.mcl n) q
    ∙ ap (any (λ n. ltb L.mcl n)) (cut_slices lengths bytes e).sizes

-- THE REFUSALS 6, 7, 8, 9, test by test.
module _ (L : Limits) (p : Path) (lengths bytes : List ℕ) where
  pub judge_lengths : lengths_fit lengths bytes ≡ false → refused BadLengths ≡ append_slice L p lengths bytes
  unfolding append_slice
  judge_lengths e = rw e

  module _ (f : Within L p) (e : lengths_fit lengths bytes ≡ true) (len : ℕ) (el : len ≡ path_length p) where
    pub judge_long : L.mpl - len < length bytes → refused PathTooLong ≡ append_slice L p lengths bytes
    unfolding append_slice admitted
    judge_long h = let w = whole p lengths bytes e in rw (e, w.bytes_in, lt-ltb L.mpl (path_length p + length bytes) (omega arith))

    module _ (short : length bytes ≤ L.mpl - len) (k : ℕ) (ek : k ≡ length p) where
      fits : ltb L.mpl (path_length p + length bytes) ≡ false
      fits = let s = f.short in le-ltb L.mpl (path_length p + length bytes) (omega arith)

      pub judge_many : L.mcc - k < length lengths / 8 → refused TooManyComponents ≡ append_slice L p lengths bytes
      unfolding append_slice admitted
      judge_many h =
          let w = whole p lengths bytes e in
          rw (e, w.bytes_in, fits, w.count_in_lem, lt-ltb L.mcc (length p + length lengths / 8) (omega arith))

      module _ (few : length lengths / 8 ≤ L.mcc - k) where
        counts : ltb L.mcc (length p + length lengths / 8) ≡ false
        counts = let s = f.few in le-ltb L.mcc (length p + length lengths / 8) (omega arith)

        pub judge_wide : not (any (λ n. ltb L.mcl n) (lengths_in lengths)) ≡ false → refused ComponentTooLong ≡ append_slice L p lengths bytes
        unfolding append_slice admitted
        judge_wide h =
            let w = whole p lengths bytes e in
            let wide = whole_wide L p lengths bytes f e ∙ not-false (any (λ n. ltb L.mcl n) (lengths_in lengths)) h in
            rw (e, w.bytes_in, fits, w.count_in_lem, counts, wide)

        pub judge_fine : not (any (λ n. ltb L.mcl n) (lengths_in lengths)) ≡ true
            → value (p ++ cut (lengths_in lengths) bytes) ≡ append_slice L p lengths bytes
        unfolding append_slice admitted
        judge_fine h =
            let w = whole p lengths bytes e in
            let narrow = whole_wide L p lengths bytes f e ∙ not-true (any (λ n. ltb L.mcl n) (lengths_in lengths)) h in
            rw (e, w.bytes_in, fits, w.count_in_lem, counts, narrow)

        -- and then it is within the limits
        pub judge_admitted : not (any (λ n. ltb L.mcl n) (lengths_in lengths)) ≡ true → Admitted L p lengths bytes
        judge_admitted h =
            let s = f.short in
            let n = f.few in
            record { made = sym (judge_fine h); fit = e; few = omega arith; short = omega arith }

-- .. which are within the bounds, where they are accepted
pub extendable : (L : Limits) (p : Path) (lengths bytes : List ℕ) → Admitted L p lengths bytes → Accepted L → Extendable p lengths bytes
extendable L p lengths bytes h a =
    let s = h.short in
    let n = h.few in
    let c = a.mcc_within in
    let m = a.mpl_within in
    record { fit = h.fit; few = omega arith; short = omega arith }
