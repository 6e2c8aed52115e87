-- Where the components of a packed path stand in its buffer, by their index: between the accumulated lengths before and
-- behind them. Each law follows the reading from a place of the table on; the packed form of a prefix is then cut out.
use Prim.Native.Nat.{ℕ, zero, suc, ◌+◌, ◌-◌, ◌*◌, ◌≤◌, ◌<◌}
use mathlib.Core.Path.{◌≡◌, refl, sym, ◌∙◌, ap}
use mathlib.Core.List.{List, [], ◌∷◌, ◌++◌, append_assoc}
use mathlib.Core.Bool.{true}
use native.Mathlib.Omega.{arith}
use lib.ListN.{length, take, drop, get_or, length-append, length-take, length-drop, take-append-drop}
use lib.Seq.{take_at, take_all, take-append-le, length-take-le}
use borrow.Author.Tests.{le-leb, eq-eqb}
use Rattle.willow.specs.declared.Limits.{Limits}
use Rattle.willow.specs.Numbers.{Bytes, le, number_at}
use Rattle.willow.specs.Paths.{Path, path_length}
use Rattle.willow.specs.Packed.{accumulated, joined, pack, packed_count, components_from, length_from, length_before, unpack, steps_fit, well_formed}
use Rattle.willow.proofs.PackedLaws.{accumulated_length, joined_length, pack_table, pack_joined, tested, step_passed, end_passed, steps_within_lem, unpack_count, pack_unpack}

-- the table behind its first number
length_next : (b : List ℕ) (at from i : ℕ) → length_from b at from (suc i) ≡ length_from b (at + 8) (number_at b at) i
length_next b at from zero = ap (number_at b) (omega arith)
length_next b at from (suc i) = ap (number_at b) (omega arith)

-- a component is the bytes between two accumulated lengths
components_at : (b : List ℕ) (base r at from i : ℕ) → i < r
    → get_or (components_from b base r at from) i []
    ≡ take (length_from b at from (suc i) - length_from b at from i) (drop (base + length_from b at from i) b)
components_at b base zero at from i h = absurd (omega arith)
components_at b base (suc r) at from zero h = let z : at + 8 * 0 ≡ at = omega arith in rw z
components_at b base (suc r) at from (suc i) h =
    let n : ℕ = number_at b at in
    rw (length_next b at from (suc i), length_next b at from i) (components_at b base r (at + 8) n i (omega arith))

-- the steps between them, and the end of the bytes
record Between (L : Limits) (b : List ℕ) (low high last : ℕ) : Type 0 where
  up : low ≤ high
  width : high - low ≤ L.mcl
  inside : last + high ≤ length b

between : (L : Limits) (b : List ℕ) (r at from i : ℕ) → steps_fit L b r at from ≡ true → i < r
    → Between L b (length_from b at from i) (length_from b at from (suc i)) (at + 8 * r)
between L b zero at from i h k = absurd (omega arith)
between L b (suc r) at from zero h k =
    let s = step_passed L b r at from h in
    let w = steps_within_lem L b r (at + 8) (number_at b at) s.more in
    let z : at + 8 * 0 ≡ at = omega arith in
    rw z (record { up = s.up; width = s.low; inside = omega arith })
between L b (suc r) at from (suc i) h k =
    let s = step_passed L b r at from h in
    let ih = between L b r (at + 8) (number_at b at) i s.more (omega arith) in
    let z : at + 8 * suc r ≡ at + 8 + 8 * r = omega arith in
    rw (z, length_next b at from (suc i), length_next b at from i) ih

-- the bytes of the first i components
lengths_sum : (L : Limits) (b : List ℕ) (base r at from i : ℕ) → base ≡ at + 8 * r → steps_fit L b r at from ≡ true → i ≤ r
    → from + path_length (take i (components_from b base r at from)) ≡ length_from b at from i
lengths_sum L b base r at from zero e h k = omega arith
lengths_sum L b base zero at from (suc i) e h k = absurd (omega arith)
lengths_sum L b base (suc r) at from (suc i) e h k =
    let n : ℕ = number_at b at in
    let s = step_passed L b r at from h in
    let w = steps_within_lem L b r (at + 8) n s.more in
    let ih = lengths_sum L b base r (at + 8) n i (omega arith) s.more (omega arith) in
    let size : length (take (n - from) (drop (base + from) b)) ≡ n - from = simp (length-take, length-drop) (omega arith) in
    let next = length_next b at from i in
    omega arith

-- A BUFFER THAT PASSED. What is known of component i:
pub record Place (L : Limits) (b : List ℕ) (i : ℕ) : Type 0 where
  pub up : length_before b i ≤ length_before b (suc i)
  pub width : length_before b (suc i) - length_before b i ≤ L.mcl
  pub inside : 8 + 8 * packed_count b + length_before b (suc i) ≤ length b
  pub is : get_or (unpack b) i []
      ≡ take (length_before b (suc i) - length_before b i) (drop (8 + 8 * packed_count b + length_before b i) b)

module _ (L : Limits) (b : List ℕ) (h : well_formed L b ≡ true) where
  pub place : (i : ℕ) → i < packed_count b → Place L b i
  unfolding unpack
  place i k =
      let s = between L b (packed_count b) 8 0 i ((tested L b).0 h).steps k in
      record { up = s.up; width = s.width; inside = s.inside; is = components_at b (8 + 8 * packed_count b) (packed_count b) 8 0 i k }

  -- the bytes of its first i components, and of all
  pub prefix_length : (i : ℕ) → i ≤ packed_count b → path_length (take i (unpack b)) ≡ length_before b i
  unfolding unpack
  prefix_length i k =
      let s = lengths_sum L b (8 + 8 * packed_count b) (packed_count b) 8 0 i refl ((tested L b).0 h).steps k in
      omega arith

  pub unpack_length : path_length (unpack b) ≡ length_before b (packed_count b)
  unpack_length = rw (take_all (packed_count b) (unpack b) (omega (arith, unpack_count b))) at (prefix_length (packed_count b) (omega arith))

-- PARTS OF A PACKED FORM: those of paths that are joined, and of a prefix.
pub accumulated_append : (before : ℕ) (p q : Path) → accumulated before (p ++ q) ≡ accumulated before p ++ accumulated (before + path_length p) q
accumulated_append before [] q = let z : before ≡ before + 0 = omega arith in ap (λ n. accumulated n q) z
accumulated_append before (c ∷ cs) q =
    let sum : before + length c + path_length cs ≡ before + (length c + path_length cs) = omega arith in
    rw (accumulated_append (before + length c) cs q, sum) (sym (append_assoc (le 8 (before + length c)) _ _))

pub joined_append : (p q : Path) → joined (p ++ q) ≡ joined p ++ joined q
joined_append [] q = refl
joined_append (c ∷ cs) q = rw (joined_append cs q) (sym (append_assoc c (joined cs) (joined q)))

pub pack_append : (p q : Path)
    → pack (p ++ q)
    ≡ le 8 (length p + length q) ++ (accumulated 0 p ++ (accumulated (path_length p) q ++ (joined p ++ joined q)))
unfolding pack
pack_append p q =
    let z : 0 + path_length p ≡ path_length p = omega arith in
    rw (length-append p q, accumulated_append 0 p q, joined_append p q, z) (simp append_assoc)

pub accumulated_take : (before k : ℕ) (p : Path) → k ≤ length p → take (8 * k) (accumulated before p) ≡ accumulated before (take k p)
accumulated_take before k p h =
    let l : length (accumulated before (take k p)) ≡ 8 * k = accumulated_length before (take k p) ∙ ap (λ n. 8 * n) (length-take-le k p h) in
    ap (λ q. take (8 * k) (accumulated before q)) (sym (take-append-drop k p))
    ∙ rw (accumulated_append before (take k p) (drop k p)) (take_at (accumulated before (take k p)) _ (8 * k) l)

pub joined_take : (k : ℕ) (p : Path) → take (path_length (take k p)) (joined p) ≡ joined (take k p)
joined_take k p =
    ap (λ q. take (path_length (take k p)) (joined q)) (sym (take-append-drop k p))
    ∙ rw (joined_append (take k p) (drop k p)) (take_at (joined (take k p)) _ (path_length (take k p)) (joined_length (take k p)))

-- the packed form of a prefix, out of that of the whole path
pub pack_take : (k : ℕ) (p : Path) → k ≤ length p
    → pack (take k p) ≡ le 8 k ++ (take (8 * k) (drop 8 (pack p)) ++ take (path_length (take k p)) (drop (8 + 8 * length p) (pack p)))
unfolding pack
pack_take k p h =
    let l = accumulated_length 0 p in
    let front = take-append-le (8 * k) (accumulated 0 p) (joined p) (omega arith) ∙ accumulated_take 0 k p h in
    rw (pack_table p, front, pack_joined p, joined_take k p, length-take-le k p h)

-- and out of a buffer that passed
pub prefix_packed : (L : Limits) (b : List ℕ) (k : ℕ) → well_formed L b ≡ true → Bytes b → k ≤ packed_count b
    → pack (take k (unpack b))
    ≡ le 8 k ++ (take (8 * k) (drop 8 b) ++ take (length_before b k) (drop (8 + 8 * packed_count b) b))
prefix_packed L b k h bs w =
    let n = unpack_count b in
    rw (pack_unpack L b h bs, n, prefix_length L b h k w) at (pack_take k (unpack b) (omega arith))

-- WIDER LIMITS. What passes under some limits passes under wider ones.
steps_wider : (L M : Limits) (b : List ℕ) → L.mcl ≤ M.mcl → L.mpl ≤ M.mpl → (r at from : ℕ)
    → steps_fit L b r at from ≡ true → steps_fit M b r at from ≡ true
steps_wider L M b c m zero at from h =
    let e = end_passed L b at from h in
    rw (le-leb from M.mpl (omega arith), eq-eqb (at + from) (length b) e.full)
steps_wider L M b c m (suc r) at from h =
    let s = step_passed L b r at from h in
    let n : ℕ = number_at b at in
    rw (le-leb from n s.up, le-leb (n - from) M.mcl (omega arith)) (steps_wider L M b c m r (at + 8) n s.more)

pub well_formed_wider : (L M : Limits) (b : List ℕ) → L.mcl ≤ M.mcl → L.mcc ≤ M.mcc → L.mpl ≤ M.mpl
    → well_formed L b ≡ true → well_formed M b ≡ true
well_formed_wider L M b c k m h =
    let t = (tested L b).0 h in
    (tested M b).1 (record {
      long = t.long;
      few = omega arith;
      room = t.room;
      steps = steps_wider L M b c m (packed_count b) 8 0 t.steps;
    })
