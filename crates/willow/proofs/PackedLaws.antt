-- Packing and reading back are inverse. Both ways the proof walks the table of accumulated lengths, with what stands behind a
-- place of the buffer: there the rest of the table, and from the end of the bytes read so far the rest of the bytes.
use Prim.Native.Nat.{ℕ, zero, suc, ◌+◌, ◌-◌, ◌*◌, ◌≤◌, ◌<◌}
use mathlib.Core.Path.{◌≡◌, refl, sym, ◌∙◌, ap}
use mathlib.Core.Logic.{◌↔◌}
use mathlib.Core.List.{List, [], ◌∷◌, ◌++◌, append_assoc}
use mathlib.Core.Option.{Option, none, some}
use mathlib.Core.Bool.{Bool, true, false, ◌&&◌, cond, and-false}
use native.Mathlib.Omega.{arith}
use lib.Dec.{leb}
use lib.ListN.{length, take, drop, length-append, length-take, length-drop, take-append-drop}
use lib.Seq.{take_at, drop_at, drop-drop, drop-length, length-take-le}
use borrow.Author.Tests.{le-leb, lt-leb, eq-eqb, leb-true, eqb-true}
use Rattle.willow.specs.declared.Limits.{Limits}
use Rattle.willow.specs.Limits.{max_word, Words}
use Rattle.willow.specs.Lists.{All}
use Rattle.willow.specs.Numbers.{Bytes, le, number_at}
use Rattle.willow.specs.Paths.{Component, Path, path_length, ValidComponent, Valid}
use Rattle.willow.specs.Packed.{accumulated, joined, pack, packed_count, components_from, unpack, steps_fit, well_formed, lent, Lent, PackedForm}
use Rattle.willow.proofs.Bools.{both_true}
use Rattle.willow.proofs.ListLaws.{all_both}
use Rattle.willow.proofs.NumberLaws.{bytes_append, bytes_take, bytes_drop, le_length, le_bytes, number_here, number_bytes}
use Rattle.willow.proofs.ValidLaws.{valid_take, valid_bytes}

-- THE PARTS OF A PACKED FORM. Their lengths:
pub accumulated_length : (before : ℕ) (p : Path) → length (accumulated before p) ≡ 8 * length p
accumulated_length before [] = refl
accumulated_length before (c ∷ cs) = simp (length-append, le_length, accumulated_length (before + length c) cs) (omega arith)

pub joined_length : (p : Path) → length (joined p) ≡ path_length p
joined_length [] = refl
joined_length (c ∷ cs) = length-append c (joined cs) ∙ ap (λ n. length c + n) (joined_length cs)

pub pack_length : (p : Path) → length (pack p) ≡ 8 + 8 * length p + path_length p
unfolding pack
pack_length p = simp (length-append, le_length, accumulated_length, joined_length) (omega arith)

-- all of it is bytes
pub accumulated_bytes : (before : ℕ) (p : Path) → Bytes (accumulated before p)
accumulated_bytes before [] = tt
accumulated_bytes before (c ∷ cs) =
    let end : ℕ = before + length c in
    bytes_append (le 8 end) (accumulated end cs) (le_bytes 8 end) (accumulated_bytes end cs)

pub joined_bytes : (p : Path) → All Bytes p → Bytes (joined p)
joined_bytes [] h = tt
joined_bytes (c ∷ cs) h = bytes_append c (joined cs) h.0 (joined_bytes cs h.1)

pub pack_bytes : (p : Path) → All Bytes p → Bytes (pack p)
unfolding pack
pack_bytes p h =
    bytes_append (le 8 (length p)) (accumulated 0 p ++ joined p) (le_bytes 8 (length p))
    (bytes_append (accumulated 0 p) (joined p) (accumulated_bytes 0 p) (joined_bytes p h))

pub pack_valid_bytes : (L : Limits) (p : Path) → Valid L p → Bytes (pack p)
pack_valid_bytes L p v = pack_bytes p (valid_bytes L p v)

-- behind the count stands the table, and behind that the bytes
pub pack_table : (p : Path) → drop 8 (pack p) ≡ accumulated 0 p ++ joined p
unfolding pack
pack_table p = drop_at (le 8 (length p)) (accumulated 0 p ++ joined p) 8 (le_length 8 (length p))

pub pack_joined : (p : Path) → drop (8 + 8 * length p) (pack p) ≡ joined p
pack_joined p =
    sym (drop-drop (8 * length p) 8 (pack p))
    ∙ ap (drop (8 * length p)) (pack_table p)
    ∙ drop_at (accumulated 0 p) (joined p) (8 * length p) (accumulated_length 0 p)

-- the count reads as the number of components
pub pack_count : (p : Path) → length p ≤ max_word → packed_count (pack p) ≡ length p
unfolding pack packed_count
pack_count p h = number_here (pack p) 0 (length p) (accumulated 0 p ++ joined p) refl h

-- THE TABLE of accumulated lengths in a buffer: the one that stands first, and the table behind it.
module _ (b rest : List ℕ) (at from : ℕ) (c : Component) (cs : Path) (t : drop at b ≡ accumulated from (c ∷ cs) ++ rest) where
  table_here : drop at b ≡ le 8 (from + length c) ++ (accumulated (from + length c) cs ++ rest)
  table_here = t ∙ append_assoc (le 8 (from + length c)) (accumulated (from + length c) cs) rest

  table_number : from + length c ≤ max_word → number_at b at ≡ from + length c
  table_number h = number_here b at (from + length c) (accumulated (from + length c) cs ++ rest) table_here h

  table_next : drop (at + 8) b ≡ accumulated (from + length c) cs ++ rest
  table_next =
      sym (drop-drop 8 at b)
      ∙ ap (drop 8) table_here
      ∙ drop_at (le 8 (from + length c)) (accumulated (from + length c) cs ++ rest) 8 (le_length 8 (from + length c))

-- WHAT IS PACKED IS READ BACK.
module _ (b rest : List ℕ) (base : ℕ) where
  components_read : (p : Path) (at from : ℕ) → drop at b ≡ accumulated from p ++ rest → drop (base + from) b ≡ joined p
      → from + path_length p ≤ max_word → components_from b base (length p) at from ≡ p
  components_read [] at from t d h = refl
  components_read (c ∷ cs) at from t d h =
      let n = table_number b rest at from c cs t (omega arith) in
      let width : from + length c - from ≡ length c = omega arith in
      let place : base + from + length c ≡ base + (from + length c) = omega arith in
      let past = sym (drop-drop (length c) (base + from) b) ∙ ap (drop (length c)) d ∙ drop_at c (joined cs) (length c) refl in
      let ih = components_read cs (at + 8) (from + length c) (table_next b rest at from c cs t) (rw place at past) (omega arith) in
      rw (n, ih, width, d, take_at c (joined cs) (length c) refl)

pub unpack_pack : (p : Path) → length p ≤ max_word → path_length p ≤ max_word → unpack (pack p) ≡ p
unfolding unpack
unpack_pack p h k =
    let z : 8 + 8 * length p + 0 ≡ 8 + 8 * length p = omega arith in
    rw (pack_count p h) (components_read (pack p) (joined p) (8 + 8 * length p) p 8 0 (pack_table p) (rw z (pack_joined p)) (omega arith))

-- so two paths with one packed form are equal
pub pack_injective : (p q : Path) → length p ≤ max_word → path_length p ≤ max_word → length q ≤ max_word → path_length q ≤ max_word
    → pack p ≡ pack q → p ≡ q
pack_injective p q h k h' k' e = sym (unpack_pack p h k) ∙ ap unpack e ∙ unpack_pack q h' k'

-- THE TEST, taken apart.
pub record Tested (L : Limits) (b : List ℕ) : Type 0 where
  pub long : 8 ≤ length b
  pub few : packed_count b ≤ L.mcc
  pub room : 8 + 8 * packed_count b ≤ length b
  pub steps : steps_fit L b (packed_count b) 8 0 ≡ true

pub tested : (L : Limits) (b : List ℕ) → (well_formed L b ≡ true) ↔ Tested L b
unfolding well_formed
tested L b = (to, from)
  where
    to : well_formed L b ≡ true → Tested L b
    to h =
        let h₁ = both_true _ _ h in
        let h₂ = both_true _ _ h₁.1 in
        let h₃ = both_true _ _ h₂.1 in
        record { long = leb-true _ _ h₁.0; few = leb-true _ _ h₂.0; room = leb-true _ _ h₃.0; steps = h₃.1 }

    from : Tested L b → well_formed L b ≡ true
    from t = rw (le-leb 8 (length b) t.long, le-leb (packed_count b) L.mcc t.few, le-leb (8 + 8 * packed_count b) (length b) t.room) t.steps

-- WHAT IS PACKED PASSES THE TEST.
module _ (L : Limits) (b rest : List ℕ) where
  steps_pass : (p : Path) (at from : ℕ) → drop at b ≡ accumulated from p ++ rest → L.mpl ≤ max_word → All (ValidComponent L) p
      → from + path_length p ≤ L.mpl → at + 8 * length p + (from + path_length p) ≡ length b → steps_fit L b (length p) at from ≡ true
  steps_pass [] at from t w each total full =
      let most = le-leb from L.mpl (omega arith) in
      let whole = eq-eqb (at + from) (length b) (omega arith) in
      λ i. most i && whole i
  steps_pass (c ∷ cs) at from t w each total full =
      let n = table_number b rest at from c cs t (omega arith) in
      let ih = steps_pass cs (at + 8) (from + length c) (table_next b rest at from c cs t) w each.1 (omega arith) (omega arith) in
      rw (n, le-leb from (from + length c) (omega arith), le-leb (from + length c - from) L.mcl (omega arith)) ih

pub pack_passes : (L : Limits) (p : Path) → Words L → Valid L p → well_formed L (pack p) ≡ true
pack_passes L p w v =
    let n = pack_count p (omega arith) in
    let l = pack_length p in
    let steps = steps_pass L (pack p) (joined p) p 8 0 (pack_table p) w.mpl_word v.each (omega arith) (omega arith) in
    (tested L (pack p)).1 (record { long = omega arith; few = omega arith; room = omega arith; steps = rw n steps })

-- WHAT PASSES THE TEST IS PACKED. What a step that passed says, and the end:
pub record StepPassed (L : Limits) (b : List ℕ) (r at from : ℕ) : Type 0 where
  pub up : from ≤ number_at b at
  pub low : number_at b at - from ≤ L.mcl
  pub more : steps_fit L b r (at + 8) (number_at b at) ≡ true

pub step_passed : (L : Limits) (b : List ℕ) (r at from : ℕ) → steps_fit L b (suc r) at from ≡ true → StepPassed L b r at from
step_passed L b r at from h =
    let h₁ = both_true _ _ h in
    let h₂ = both_true _ _ h₁.1 in
    record { up = leb-true _ _ h₁.0; low = leb-true _ _ h₂.0; more = h₂.1 }

pub record EndPassed (L : Limits) (b : List ℕ) (at from : ℕ) : Type 0 where
  pub under : from ≤ L.mpl
  pub full : at + from ≡ length b

pub end_passed : (L : Limits) (b : List ℕ) (at from : ℕ) → steps_fit L b 0 at from ≡ true → EndPassed L b at from
end_passed L b at from h = let k = both_true _ _ h in record { under = leb-true _ _ k.0; full = eqb-true _ _ k.1 }

-- no step goes past the bytes
pub steps_within_lem : (L : Limits) (b : List ℕ) (r at from : ℕ) → steps_fit L b r at from ≡ true → at + 8 * r + from ≤ length b
steps_within_lem L b zero at from h = let e = end_passed L b at from h in omega arith
steps_within_lem L b (suc r) at from h =
    let s = step_passed L b r at from h in
    let ih = steps_within_lem L b r (at + 8) (number_at b at) s.more in
    omega arith

-- reading gives as many components as it is asked for
pub components_count : (b : List ℕ) (base r at from : ℕ) → length (components_from b base r at from) ≡ r
components_count b base zero at from = refl
components_count b base (suc r) at from = ap suc (components_count b base r (at + 8) (number_at b at))

pub unpack_count : (b : List ℕ) → length (unpack b) ≡ packed_count b
unfolding unpack
unpack_count b = components_count b (8 + 8 * packed_count b) (packed_count b) 8 0

-- what is known of the components read behind a place of the table, where the steps from there on passed
record Read (L : Limits) (b : List ℕ) (base r at from : ℕ) : Type 0 where
  sizes : All (λ c. length c ≤ L.mcl) (components_from b base r at from)
  under : from + path_length (components_from b base r at from) ≤ L.mpl
  full : at + 8 * r + (from + path_length (components_from b base r at from)) ≡ length b
  bytes : drop (base + from) b ≡ joined (components_from b base r at from)

read : (L : Limits) (b : List ℕ) (base r at from : ℕ) → base ≡ at + 8 * r → steps_fit L b r at from ≡ true → Read L b base r at from
read L b base zero at from e h =
    let k = end_passed L b at from h in
    let whole : base + from ≡ length b = omega arith in
    record { sizes = tt; under = omega arith; full = omega arith; bytes = rw whole (drop-length b) }
read L b base (suc r) at from e h =
    let s = step_passed L b r at from h in
    let n : ℕ = number_at b at in
    let w = steps_within_lem L b r (at + 8) n s.more in
    let ih = read L b base r (at + 8) n (omega arith) s.more in
    let size : length (take (n - from) (drop (base + from) b)) ≡ n - from = simp (length-take, length-drop) (omega arith) in
    let place : base + from + (n - from) ≡ base + n = omega arith in
    record {
      sizes = (omega arith, ih.sizes);
      under = omega arith;
      full = omega arith;
      bytes = rw (← ih.bytes, ← place, ← drop-drop (n - from) (base + from) b) (sym (take-append-drop (n - from) (drop (base + from) b)));
    }

-- the table of bytes is that of the components read
table_read : (L : Limits) (b : List ℕ) → Bytes b → (base r at from : ℕ) → base ≡ at + 8 * r → steps_fit L b r at from ≡ true
    → drop at b ≡ accumulated from (components_from b base r at from) ++ drop base b
table_read L b bs base zero at from e h = let here : at ≡ base = omega arith in ap (λ n. drop n b) here
table_read L b bs base (suc r) at from e h =
    let s = step_passed L b r at from h in
    let n : ℕ = number_at b at in
    let w = steps_within_lem L b r (at + 8) n s.more in
    let ih = table_read L b bs base r (at + 8) n (omega arith) s.more in
    let size : length (take (n - from) (drop (base + from) b)) ≡ n - from = simp (length-take, length-drop) (omega arith) in
    let sum : from + (n - from) ≡ n = omega arith in
    rw (size, sum) (rw append_assoc (rw (← ih, number_bytes b at bs (omega arith), ← drop-drop 8 at b) (sym (take-append-drop 8 (drop at b)))))

-- the components read from bytes are bytes
pub components_bytes : (b : List ℕ) → Bytes b → (base r at from : ℕ) → All Bytes (components_from b base r at from)
components_bytes b bs base zero at from = tt
components_bytes b bs base (suc r) at from = (
  bytes_take (number_at b at - from) (drop (base + from) b) (bytes_drop (base + from) b bs),
  components_bytes b bs base r (at + 8) (number_at b at),
)

-- the count's bytes stand first
pub count_bytes : (b : List ℕ) → Bytes b → 8 ≤ length b → le 8 (packed_count b) ≡ take 8 b
unfolding packed_count
count_bytes b bs h = number_bytes b 0 bs (omega arith)

-- A BUFFER THAT PASSED.
module _ (L : Limits) (b : List ℕ) (h : well_formed L b ≡ true) where
  unpack_read : Read L b (8 + 8 * packed_count b) (packed_count b) 8 0
  unpack_read = read L b (8 + 8 * packed_count b) (packed_count b) 8 0 refl ((tested L b).0 h).steps

  -- its length, by the path that it holds
  pub well_formed_length : length b ≡ 8 + 8 * packed_count b + path_length (unpack b)
  unfolding unpack
  well_formed_length = let r = unpack_read in omega arith

  module _ (bs : Bytes b) where
    pub unpack_valid : Valid L (unpack b)
    unfolding unpack
    unpack_valid =
        let base : ℕ = 8 + 8 * packed_count b in
        let t = (tested L b).0 h in
        let r = unpack_read in
        let n = components_count b base (packed_count b) 8 0 in
        record {
          count = omega arith;
          total = omega arith;
          each = all_both (λ c. length c ≤ L.mcl) Bytes (components_from b base (packed_count b) 8 0) r.sizes (components_bytes b bs base (packed_count b) 8 0);
        }

    pub pack_unpack : pack (unpack b) ≡ b
    unfolding pack unpack
    pack_unpack =
        let base : ℕ = 8 + 8 * packed_count b in
        let t = (tested L b).0 h in
        let z : base + 0 ≡ base = omega arith in
        let d : drop base b ≡ joined (components_from b base (packed_count b) 8 0) = rw z at unpack_read.bytes in
        rw (components_count b base (packed_count b) 8 0, ← d, ← table_read L b bs base (packed_count b) 8 0 refl t.steps)
        (rw (count_bytes b bs t.long) (take-append-drop 8 b))

-- THE PACKED FORM OF A VALID PATH is well formed, made of bytes, and read as that path.
pub record Holds (L : Limits) (b : List ℕ) (p : Path) : Type 0 where
  pub passes : well_formed L b ≡ true
  pub count : packed_count b ≡ length p
  pub back : unpack b ≡ p
  pub bytes : Bytes b

pub pack_holds : (L : Limits) (b : List ℕ) (p : Path) → Words L → Valid L p → b ≡ pack p → Holds L b p
pack_holds L b p w v e = rw e (record {
  passes = pack_passes L p w v;
  count = pack_count p (omega arith);
  back = unpack_pack p (omega arith) (omega arith);
  bytes = pack_valid_bytes L p v;
})

-- LENT PATHS. What the test of a lent path gives:
pub lent_path : (L : Limits) (b : List ℕ) (k : ℕ) → well_formed L b ≡ true → k ≤ packed_count b → lent L b k ≡ some (take k (unpack b))
unfolding lent
lent_path L b k h w = let within = le-leb k (packed_count b) w in λ i. cond (h i && within i) (some (take k (unpack b))) none

pub lent_malformed : (L : Limits) (b : List ℕ) (k : ℕ) → well_formed L b ≡ false → lent L b k ≡ none
unfolding lent
lent_malformed L b k h = rw h

pub lent_above : (L : Limits) (b : List ℕ) (k : ℕ) → packed_count b < k → lent L b k ≡ none
unfolding lent
lent_above L b k h = rw (lt-leb k (packed_count b) h, and-false (well_formed L b))

-- it has as many components as the count beside it says
pub lent_count : (L : Limits) (b : List ℕ) (k : ℕ) (p : Path) → Lent L b k p → length p ≡ k
lent_count L b k p l = ap length l.first ∙ length-take-le k l.whole l.within

-- a path was given, so the test passed
some_then : {A : Type 0} (t : Bool) (x y : A) → cond t (some x) none ≡ some y → (t ≡ true) × (y ≡ x)
some_then true x y e = (refl, cc)
some_then false x y e = absurd (let z : ◌≡◌ {A = ℕ} 0 1 = cc in omega arith)

some_lent : (L : Limits) (b : List ℕ) (k : ℕ) → Bytes b → (p : Path) → lent L b k ≡ some p → Lent L b k p
unfolding lent
some_lent L b k bs p e =
    let t = some_then (well_formed L b && leb k (packed_count b)) (take k (unpack b)) p e in
    let h = both_true (well_formed L b) (leb k (packed_count b)) t.0 in
    let n = unpack_count b in
    let m = leb-true k (packed_count b) h.1 in
    record {
      whole = unpack b;
      valid = unpack_valid L b h.0 bs;
      packed = sym (pack_unpack L b h.0 bs);
      within = omega arith;
      first = t.1;
    }

lent_some : (L : Limits) (b : List ℕ) (k : ℕ) → Words L → (p : Path) → Lent L b k p → lent L b k ≡ some p
lent_some L b k w p l =
    let h = pack_holds L b l.whole w l.valid l.packed in
    lent_path L b k h.passes (omega arith) ∙ rw (h.back, l.first)

none_lent : (L : Limits) (b : List ℕ) (k : ℕ) → Bytes b → ((p : Path) → Lent L b k p → ⊥) → lent L b k ≡ none
none_lent L b k bs h = go (lent L b k) refl
  where
    go : (o : Option Path) → lent L b k ≡ o → lent L b k ≡ none
    go none e = e
    go (some p) e = absurd (h p (some_lent L b k bs p e))

lent_none : (L : Limits) (b : List ℕ) (k : ℕ) → Words L → lent L b k ≡ none → (p : Path) → Lent L b k p → ⊥
lent_none L b k w e p l = let s = lent_some L b k w p l in let z : ◌≡◌ {A = ℕ} 0 1 = cc in omega arith

-- THEOREM 4.
pub packed_form : PackedForm
packed_form = record {
  read_back = unpack_pack;
  exactly = λ L b w bs. (
    λ h. (unpack b, unpack_valid L b h bs, sym (pack_unpack L b h bs)),
    λ t. (pack_holds L b t.0 w t.1 t.2).passes,
  );
  pack_back = λ L b bs h. pack_unpack L b h bs;
  lent_some = λ L b k w bs p. (some_lent L b k bs p, lent_some L b k w p);
  lent_none = λ L b k w bs. (lent_none L b k w, none_lent L b k bs);
  lent_valid = λ L b k w bs p l. rw l.first (valid_take L k l.whole l.valid);
}
