-- The greatest path by its parts: it has MCC components, its bytes are all ff, and how many they are. Its packed form is then
-- three writes, each from where the one before it ended: the count, the accumulated lengths, the bytes.
use Prim.Native.Nat.{ℕ, zero, suc, ◌+◌, ◌-◌, ◌*◌, ◌≤◌, min}
use mathlib.Core.Path.{◌≡◌, refl, sym, ◌∙◌, ap}
use mathlib.Core.List.{List, ◌++◌, append_assoc}
use mathlib.Core.Bool.{true}
use native.Mathlib.Omega.{arith}
use native.Mathlib.Nat.{mul-le-mul, mul-zero, mul-suc}
use lib.ListN.{length, take, drop, replicate, length-append, length-replicate, replicate-append-replicate}
use borrow.Rule.Slice.PartMut.{put_mid}
use Rattle.willow.specs.declared.Limits.{Limits}
use Rattle.willow.specs.LeastPaths.{filled, greatest}
use Rattle.willow.specs.Limits.{accepted_limits, max_mcc, max_mcl, max_mpl}
use Rattle.willow.specs.Numbers.{le}
use Rattle.willow.specs.Packed.{accumulated, joined, pack}
use Rattle.willow.specs.Paths.{path_length}
use Rattle.willow.proofs.LimitLaws.{limit_laws}
use Rattle.willow.proofs.NumberLaws.{le_length}
use Rattle.willow.proofs.PackedLaws.{accumulated_length, joined_length, pack_length}
use Rattle.number.specs.Overwriting.{overwrite}
use Rattle.number.proofs.OverwritingLaws.{length_part, overwrite_append, overwrite_nil, put_mid_lem, written_on}

-- THE PARTS. MCC components, and bytes that are all ff: as many as MCL times MCC and MPL allow.
filled_count : (mcl k room : ℕ) → length (filled mcl k room) ≡ k
filled_count mcl zero room = refl
filled_count mcl (suc k) room = ap suc (filled_count mcl k (room - min mcl room))

filled_joined : (mcl k room : ℕ) → joined (filled mcl k room) ≡ replicate (min (mcl * k) room) 255
filled_joined mcl zero room = let z : min (mcl * 0) room ≡ 0 = rw (mul-zero mcl) (omega arith) in rw z
filled_joined mcl (suc k) room =
    let rest : ℕ = room - min mcl room in
    let n : min mcl room + min (mcl * k) rest ≡ min (mcl * suc k) room = rw (mul-suc mcl k) (omega arith) in
    rw (filled_joined mcl k rest, ← n) (replicate-append-replicate (min mcl room) (min (mcl * k) rest) 255)

-- so of the greatest path
module _ (L : Limits) where
  greatest_count : length (greatest L) ≡ L.mcc
  unfolding greatest
  greatest_count = filled_count L.mcl L.mcc L.mpl

  greatest_joined : joined (greatest L) ≡ replicate (min (L.mcl * L.mcc) L.mpl) 255
  unfolding greatest
  greatest_joined = filled_joined L.mcl L.mcc L.mpl

  greatest_length : path_length (greatest L) ≡ min (L.mcl * L.mcc) L.mpl
  greatest_length = sym (joined_length (greatest L)) ∙ ap length greatest_joined ∙ length-replicate (min (L.mcl * L.mcc) L.mpl) 255

  -- the count and the table behind it
  table_length : length (le 8 L.mcc ++ accumulated 0 (greatest L)) ≡ 8 + 8 * L.mcc
  table_length =
      length-append (le 8 L.mcc) (accumulated 0 (greatest L))
      ∙ rw (le_length 8 L.mcc, accumulated_length 0 (greatest L), greatest_count)

-- THE ACCUMULATED LENGTHS, written one behind the other: all of them are left, the next of those that are left, none is left.
pub lengths_start : (L : Limits) (out : List ℕ)
    → overwrite out 8 (accumulated 0 (filled L.mcl (L.mcc - 0) (L.mpl - 0))) ≡ overwrite out 8 (accumulated 0 (greatest L))
unfolding greatest
lengths_start L out = let k : L.mcc - 0 ≡ L.mcc = omega arith in let z : L.mpl - 0 ≡ L.mpl = omega arith in rw (k, z)

-- the next component takes n bytes of what is left
lengths_next : (mcl rest mpl sum n : ℕ) → sum ≤ mpl → n ≡ min mcl (mpl - sum)
    → accumulated sum (filled mcl (suc rest) (mpl - sum)) ≡ le 8 (sum + n) ++ accumulated (sum + n) (filled mcl rest (mpl - (sum + n)))
lengths_next mcl rest mpl sum n k e =
    let room : mpl - (sum + n) ≡ mpl - sum - n = omega arith in
    rw (room, ← e, length-replicate {A = ℕ} n 255)

pub lengths_on : (mcl mpl sum left rest at on n : ℕ) (out next : List ℕ) → left ≡ suc rest → on ≡ at + 8 → sum ≤ mpl → n ≡ min mcl (mpl - sum)
    → at + 8 ≤ length out → next ≡ overwrite out at (le 8 (sum + n))
    → overwrite next on (accumulated (sum + n) (filled mcl rest (mpl - (sum + n)))) ≡ overwrite out at (accumulated sum (filled mcl left (mpl - sum)))
lengths_on mcl mpl sum left rest at on n out next el eo k e f x =
    let behind : List ℕ = accumulated (sum + n) (filled mcl rest (mpl - (sum + n))) in
    let l : length (le 8 (sum + n)) ≡ 8 = le_length 8 (sum + n) in
    rw (el, eo)
    (ap (λ t. overwrite t (at + 8) behind) x
    ∙ rw l at (overwrite_append out at (le 8 (sum + n)) behind (omega arith))
    ∙ ap (overwrite out at) (sym (lengths_next mcl rest mpl sum n k e)))

pub lengths_end : (mcl mpl sum left at : ℕ) (out : List ℕ) → left ≤ 0 → overwrite out at (accumulated sum (filled mcl left (mpl - sum))) ≡ out
lengths_end mcl mpl sum left at out h = let z : left ≡ 0 = omega arith in rw z (overwrite_nil out at)

-- A PART that was filled with one byte.
pub part_filled : (s : List ℕ) (at end n v : ℕ) (ys : List ℕ) → end ≡ at + n → end ≤ length s → ys ≡ replicate (length (take (end - at) (drop at s))) v
    → put_mid at (end - at) s ys ≡ overwrite s at (replicate n v)
part_filled s at end n v ys h k e =
    let m : end - at ≡ n = omega arith in
    let all : ys ≡ replicate n v = e ∙ rw (m, length_part s at n (omega arith)) in
    rw (m, all) (put_mid_lem s at n (replicate n v) (length-replicate n v))

-- HOW LARGE it is, under accepted limits.
pub record Sized (L : Limits) : Type 0 where
  pub few : L.mcc ≤ max_mcc
  pub product : L.mcl * L.mcc ≤ max_mcl * max_mcc
  pub bytes : path_length (greatest L) ≡ min (L.mcl * L.mcc) L.mpl
  pub short : path_length (greatest L) ≤ max_mpl
  pub size : length (pack (greatest L)) ≡ 8 + 8 * L.mcc + path_length (greatest L)

pub sized : (L : Limits) → accepted_limits L ≡ true → Sized L
sized L h =
    let a = (limit_laws.limits_means L).0 h in
    let n = greatest_length L in
    let most = a.mpl_within in
    record {
      few = a.mcc_within;
      product = mul-le-mul a.mcl_within a.mcc_within;
      bytes = n;
      short = omega arith;
      size = pack_length (greatest L) ∙ rw (greatest_count L);
    }

-- THE PACKED FORM, by its writes. `total` is the number of its bytes ff, as the code has it.
module _ (L : Limits) (total : ℕ) (e : total ≡ path_length (greatest L)) where
  greatest_parts : pack (greatest L) ≡ le 8 L.mcc ++ (accumulated 0 (greatest L) ++ replicate total 255)
  unfolding pack
  greatest_parts = rw (greatest_count L, greatest_joined L, e, greatest_length L)

  pub greatest_written : (out first second last : List ℕ) → 8 + 8 * L.mcc + total ≤ length out
      → first ≡ overwrite out 0 (le 8 L.mcc)
      → second ≡ overwrite first 8 (accumulated 0 (greatest L))
      → last ≡ overwrite second (8 + 8 * L.mcc) (replicate total 255)
      → last ≡ overwrite out 0 (pack (greatest L))
  greatest_written out first second last h w₁ w₂ w₃ =
      let count : List ℕ = le 8 L.mcc in
      let table : List ℕ = accumulated 0 (greatest L) in
      let bytes : List ℕ = replicate total 255 in
      let l₀ = le_length 8 L.mcc in
      let l₁ : 0 + length count ≡ 8 = omega arith in
      let l₂ : 0 + length (count ++ table) ≡ 8 + 8 * L.mcc = omega (arith, table_length L) in
      let v₂ = written_on out count table first second 0 8 l₁ (omega arith) w₁ w₂ in
      written_on out (count ++ table) bytes second last 0 (8 + 8 * L.mcc) l₂ (omega arith) v₂ w₃
      ∙ ap (overwrite out 0) (append_assoc count table bytes ∙ sym greatest_parts)
