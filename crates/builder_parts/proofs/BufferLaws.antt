-- A buffer that agrees begins with what stands there once the components that are read from it are appended, and only such a
-- buffer agrees. Both ways the proof walks the table: behind a place of it stand the lengths of the components to come, and
-- behind the bytes read so far stand theirs.
use Prim.Native.Nat.{ℕ, zero, suc, ◌+◌, ◌-◌, ◌*◌, ◌≤◌}
use mathlib.Core.Path.{◌≡◌, refl, sym, ◌∙◌, ap}
use mathlib.Core.Logic.{◌↔◌}
use mathlib.Core.List.{List, [], ◌∷◌, ◌++◌, append_assoc}
use mathlib.Core.Bool.{true}
use native.Mathlib.Omega.{arith}
use lib.ListN.{length, take, drop, length-append, take-append-drop}
use lib.Seq.{take_at, drop_at, drop-drop, take-add}
use borrow.Author.Tests.{le-leb, leb-true, eq-eqb, eqb-true}
use Rattle.number.specs.Overwriting.{zeros, all_zero}
use Rattle.number.proofs.OverwritingLaws.{length_part, length_zeros, all_zero_exactly, all_zero_zeros}
use Rattle.packed.specs.Steps.{steps_within}
use Rattle.willow.specs.Limits.{max_word}
use Rattle.willow.specs.Lists.{All}
use Rattle.willow.specs.Numbers.{Bytes, le, number_at}
use Rattle.willow.specs.Packed.{accumulated, joined, components_from, length_from, length_before}
use Rattle.willow.specs.Paths.{Component, Path, path_length}
use Rattle.willow.proofs.Bools.{both_true}
use Rattle.willow.proofs.NumberLaws.{le_length, number_here, number_bytes}
use Rattle.willow.proofs.PackedLaws.{accumulated_length, joined_length, components_count}
use Rattle.builder_parts.specs.Buffer.{size_of, partial, agrees_with, components_in}

-- THE AGREEMENT, taken apart.
pub record Agreed (mcl most count appended : ℕ) (out : List ℕ) : Type 0 where
  pub counted : number_at out 0 ≡ count
  pub few : appended ≤ count
  pub steps : steps_within mcl most out appended 8 0 ≡ true
  pub blank : all_zero (take (8 * (count - appended)) (drop (8 + 8 * appended) out)) ≡ true

pub agreed : (mcl most count appended : ℕ) (out : List ℕ) → (agrees_with mcl most count appended out ≡ true) ↔ Agreed mcl most count appended out
unfolding agrees_with
agreed mcl most count appended out = (to, from)
  where
    to : agrees_with mcl most count appended out ≡ true → Agreed mcl most count appended out
    to h =
        let h₁ = both_true _ _ h in
        let h₂ = both_true _ _ h₁.1 in
        let h₃ = both_true _ _ h₂.1 in
        record { counted = eqb-true _ _ h₁.0; few = leb-true _ _ h₂.0; steps = h₃.0; blank = h₃.1 }

    from : Agreed mcl most count appended out → agrees_with mcl most count appended out ≡ true
    from a = rw (eq-eqb (number_at out 0) count a.counted, le-leb appended count a.few, a.steps) a.blank

-- READING. What a step that passed says; no length passes the most.
module _ (mcl most : ℕ) (b : List ℕ) where
  record StepPassed (r at from : ℕ) : Type 0 where
    up : from ≤ number_at b at
    low : number_at b at - from ≤ mcl
    more : steps_within mcl most b r (at + 8) (number_at b at) ≡ true

  step_passed : (r at from : ℕ) → steps_within mcl most b (suc r) at from ≡ true → StepPassed r at from
  step_passed r at from h =
      let h₁ = both_true _ _ h in
      let h₂ = both_true _ _ h₁.1 in
      record { up = leb-true _ _ h₁.0; low = leb-true _ _ h₂.0; more = h₂.1 }

  steps_under : (r at from : ℕ) → steps_within mcl most b r at from ≡ true → from ≤ most
  steps_under zero at from h = leb-true from most h
  steps_under (suc r) at from h =
      let s = step_passed r at from h in
      let u = steps_under r (at + 8) (number_at b at) s.more in
      omega arith

  -- the table behind its first number
  length_next : (at from i : ℕ) → length_from b at from (suc i) ≡ length_from b (at + 8) (number_at b at) i
  length_next at from zero = ap (number_at b) (omega arith)
  length_next at from (suc i) = ap (number_at b) (omega arith)

  module _ (base : ℕ) (room : base + most ≤ length b) where
    -- what is known of the components read behind a place of the table
    record Read (r at from : ℕ) : Type 0 where
      sizes : All (λ c. length c ≤ mcl) (components_from b base r at from)
      last : from + path_length (components_from b base r at from) ≡ length_from b at from r
      under : from + path_length (components_from b base r at from) ≤ most
      bytes : take (path_length (components_from b base r at from)) (drop (base + from) b) ≡ joined (components_from b base r at from)

    component_size : (at from : ℕ) → from ≤ number_at b at → number_at b at ≤ most → length (take (number_at b at - from) (drop (base + from) b)) ≡ number_at b at - from
    component_size at from h k = length_part b (base + from) (number_at b at - from) (omega arith)

    read : (r at from : ℕ) → steps_within mcl most b r at from ≡ true → Read r at from
    read zero at from h = let u = steps_under 0 at from h in record { sizes = tt; last = omega arith; under = omega arith; bytes = refl }
    read (suc r) at from h =
        let n : ℕ = number_at b at in
        let s = step_passed r at from h in
        let ih = read r (at + 8) n s.more in
        let u = steps_under r (at + 8) n s.more in
        let size = component_size at from s.up u in
        let next = length_next at from r in
        let place : base + from + (n - from) ≡ base + n = omega arith in
        record {
          sizes = (omega arith, ih.sizes);
          last = omega arith;
          under = omega arith;
          bytes = rw (size, take-add (n - from) (path_length (components_from b base r (at + 8) n)) (drop (base + from) b), drop-drop (n - from) (base + from) b, place, ih.bytes);
        }

    table_read : Bytes b → (r at from : ℕ) → at + 8 * r ≤ length b → steps_within mcl most b r at from ≡ true
        → take (8 * r) (drop at b) ≡ accumulated from (components_from b base r at from)
    table_read bs zero at from k h = refl
    table_read bs (suc r) at from k h =
        let n : ℕ = number_at b at in
        let s = step_passed r at from h in
        let u = steps_under r (at + 8) n s.more in
        let size = component_size at from s.up u in
        let sum : from + (n - from) ≡ n = omega arith in
        let more : 8 * suc r ≡ 8 + 8 * r = omega arith in
        rw (more, size, sum, take-add 8 (8 * r) (drop at b), drop-drop 8 at b, number_bytes b at bs (omega arith), ← table_read bs r (at + 8) n (omega arith) s.more)

-- READING BACK what stands at a place of the table, with the rest of the table behind it, and at a place of the bytes.
module _ (b behind : List ℕ) where
  module _ (at from : ℕ) (c : Component) (cs : Path) (t : drop at b ≡ accumulated from (c ∷ cs) ++ behind) where
    table_here : drop at b ≡ le 8 (from + length c) ++ (accumulated (from + length c) cs ++ behind)
    table_here = t ∙ append_assoc (le 8 (from + length c)) (accumulated (from + length c) cs) behind

    table_number : from + length c ≤ max_word → number_at b at ≡ from + length c
    table_number h = number_here b at (from + length c) (accumulated (from + length c) cs ++ behind) table_here h

    table_next : drop (at + 8) b ≡ accumulated (from + length c) cs ++ behind
    table_next =
        sym (drop-drop 8 at b)
        ∙ ap (drop 8) table_here
        ∙ drop_at (le 8 (from + length c)) (accumulated (from + length c) cs ++ behind) 8 (le_length 8 (from + length c))

  steps_pass : (mcl most : ℕ) (q : Path) (at from : ℕ) → most ≤ max_word → drop at b ≡ accumulated from q ++ behind
      → All (λ c. length c ≤ mcl) q → from + path_length q ≤ most → steps_within mcl most b (length q) at from ≡ true
  steps_pass mcl most [] at from w t sizes short = le-leb from most (omega arith)
  steps_pass mcl most (c ∷ cs) at from w t sizes short =
      let n = table_number at from c cs t (omega arith) in
      let ih = steps_pass mcl most cs (at + 8) (from + length c) w (table_next at from c cs t) sizes.1 (omega arith) in
      rw (n, le-leb from (from + length c) (omega arith), le-leb (from + length c - from) mcl (omega arith)) ih

  components_back : (base : ℕ) (tail : List ℕ) (q : Path) (at from : ℕ) → drop at b ≡ accumulated from q ++ behind
      → drop (base + from) b ≡ joined q ++ tail → from + path_length q ≤ max_word → components_from b base (length q) at from ≡ q
  components_back base tail [] at from t d h = refl
  components_back base tail (c ∷ cs) at from t d h =
      let n = table_number at from c cs t (omega arith) in
      let width : from + length c - from ≡ length c = omega arith in
      let place : base + from + length c ≡ base + (from + length c) = omega arith in
      let here : drop (base + from) b ≡ c ++ (joined cs ++ tail) = d ∙ append_assoc c (joined cs) tail in
      let past = sym (drop-drop (length c) (base + from) b) ∙ ap (drop (length c)) here ∙ drop_at c (joined cs ++ tail) (length c) refl in
      let ih = components_back base tail cs (at + 8) (from + length c) (table_next at from c cs t) (rw place at past) (omega arith) in
      rw (n, ih, width, here, take_at c (joined cs ++ tail) (length c) refl)

-- THE FRONT OF A BUFFER, once the components q are appended: how long it is, and what stands where.
pub partial_length : (count : ℕ) (q : Path) → length q ≤ count → length (partial count q) ≡ size_of (path_length q) count
unfolding partial size_of
partial_length count q h = simp (length-append, le_length, length_zeros, accumulated_length, joined_length) (omega arith)

module _ (count : ℕ) (out : List ℕ) (q : Path) (few : length q ≤ count) (begins : take (length (partial count q)) out ≡ partial count q) where
  abbrev pub rest : List ℕ
  rest = drop (length (partial count q)) out

  abbrev pub blanks : List ℕ
  blanks = zeros (8 * (count - length q))

  pub front_whole : out ≡ le 8 count ++ (accumulated 0 q ++ (blanks ++ (joined q ++ rest)))
  unfolding partial
  front_whole = sym (take-append-drop (length (partial count q)) out) ∙ ap (λ l. l ++ rest) begins ∙ simp append_assoc

  front_table : drop 8 out ≡ accumulated 0 q ++ (blanks ++ (joined q ++ rest))
  front_table = ap (drop 8) front_whole ∙ drop_at (le 8 count) _ 8 (le_length 8 count)

  front_blanks : drop (8 + 8 * length q) out ≡ blanks ++ (joined q ++ rest)
  front_blanks =
      sym (drop-drop (8 * length q) 8 out)
      ∙ ap (drop (8 * length q)) front_table
      ∙ drop_at (accumulated 0 q) (blanks ++ (joined q ++ rest)) (8 * length q) (accumulated_length 0 q)

  front_bytes : drop (8 + 8 * count) out ≡ joined q ++ rest
  front_bytes =
      let m : ℕ = 8 * (count - length q) in
      let z : 8 + 8 * count ≡ 8 + 8 * length q + m = omega arith in
      rw z (sym (drop-drop m (8 + 8 * length q) out) ∙ ap (drop m) front_blanks ∙ drop_at blanks (joined q ++ rest) m (length_zeros m))

  -- it agrees, and is read back
  pub front_agrees : (mcl most : ℕ) → count ≤ max_word → most ≤ max_word → path_length q ≤ most → All (λ c. length c ≤ mcl) q
      → agrees_with mcl most count (length q) out ≡ true
  front_agrees mcl most w w' short sizes =
      let m : ℕ = 8 * (count - length q) in
      let zero_part : take m (drop (8 + 8 * length q) out) ≡ zeros m = ap (take m) front_blanks ∙ take_at blanks (joined q ++ rest) m (length_zeros m) in
      (agreed mcl most count (length q) out).1 (record {
        counted = number_here out 0 count _ front_whole w;
        few = few;
        steps = steps_pass out (blanks ++ (joined q ++ rest)) mcl most q 8 0 w' front_table sizes (omega arith);
        blank = ap all_zero zero_part ∙ all_zero_zeros m;
      })

  pub front_read : path_length q ≤ max_word → components_in count (length q) out ≡ q
  unfolding components_in
  front_read w =
      let z : 8 + 8 * count + 0 ≡ 8 + 8 * count = omega arith in
      components_back out (blanks ++ (joined q ++ rest)) (8 + 8 * count) rest q 8 0 front_table (rw z front_bytes) (omega arith)

-- A BUFFER THAT AGREES. What is known of the components read from it:
pub record Known (mcl most count appended : ℕ) (out : List ℕ) : Type 0 where
  pub as_many : length (components_in count appended out) ≡ appended
  pub few : appended ≤ count
  pub short : path_length (components_in count appended out) ≤ most
  pub sizes : All (λ c. length c ≤ mcl) (components_in count appended out)
  pub last : path_length (components_in count appended out) ≡ length_before out appended

module _ (mcl most count appended : ℕ) (out : List ℕ) (agree : agrees_with mcl most count appended out ≡ true) (room : size_of most count ≤ length out) where
  room_bytes : 8 + 8 * count + most ≤ length out
  unfolding size_of
  room_bytes = room

  pub known : Known mcl most count appended out
  unfolding components_in
  known =
      let a = (agreed mcl most count appended out).0 agree in
      let r = read mcl most out (8 + 8 * count) room_bytes appended 8 0 a.steps in
      record {
        as_many = components_count out (8 + 8 * count) appended 8 0;
        few = a.few;
        short = let u = r.under in omega arith;
        sizes = r.sizes;
        last = let l = r.last in omega arith;
      }

  -- it begins with what stands there once they are appended
  pub agrees_begins : Bytes out → take (length (partial count (components_in count appended out))) out ≡ partial count (components_in count appended out)
  unfolding partial components_in size_of
  agrees_begins bs =
      let q : Path = components_from out (8 + 8 * count) appended 8 0 in
      let a = (agreed mcl most count appended out).0 agree in
      let n : length q ≡ appended = components_count out (8 + 8 * count) appended 8 0 in
      let r = read mcl most out (8 + 8 * count) room_bytes appended 8 0 a.steps in
      let z : 8 + 8 * count + 0 ≡ 8 + 8 * count = omega arith in
      let m : ℕ = 8 * (count - appended) in
      let l = known.few in
      let counted : take 8 out ≡ le 8 count = sym (ap (le 8) (sym a.counted) ∙ number_bytes out 0 bs (omega arith)) in
      let table : take (8 * appended) (drop 8 out) ≡ accumulated 0 q = table_read mcl most out (8 + 8 * count) room_bytes bs appended 8 0 (omega arith) a.steps in
      let blank : take m (drop (8 + 8 * appended) out) ≡ zeros m =
      (all_zero_exactly (take m (drop (8 + 8 * appended) out))).0 a.blank ∙ ap zeros (length_part out (8 + 8 * appended) m (omega arith)) in
      let bytes : take (path_length q) (drop (8 + 8 * count) out) ≡ joined q = rw z at r.bytes in
      let size : length (partial count q) ≡ 8 + (8 * appended + (m + path_length q)) = partial_length count q (omega arith) ∙ omega arith in
      let place : 8 + 8 * appended + m ≡ 8 + 8 * count = omega arith in
      rw (
        size,
        n,
        take-add 8 (8 * appended + (m + path_length q)) out,
        counted,
        take-add (8 * appended) (m + path_length q) (drop 8 out),
        table,
        drop-drop (8 * appended) 8 out,
        take-add m (path_length q) (drop (8 + 8 * appended) out),
        blank,
        drop-drop m (8 + 8 * appended) out,
        place,
        bytes,
      )
