-- The tests of a state and the buffer beside it: that what is sound passes, and what is known of a state that passed.
use Prim.Native.Nat.{ℕ, ◌+◌, ◌*◌, ◌≤◌}
use mathlib.Core.Path.{◌≡◌, refl, sym, ◌∙◌}
use mathlib.Core.List.{List}
use mathlib.Core.Option.{none, some}
use mathlib.Core.Bool.{Bool, true, false, ◌&&◌, not, cond}
use native.Mathlib.Omega.{arith}
use lib.Dec.{ltb}
use lib.ListN.{length}
use borrow.Author.Tests.{le-ltb, ltb-false, leb-true}
use Rattle.willow.specs.declared.Refusal.{Refusal}
use Rattle.willow.specs.declared.Refusal.TheVariants.{BadPath, PathTooLong, TooManyComponents}
use Rattle.willow.specs.Answers.{or_else, limits_refusal}
use Rattle.willow.specs.Limits.{Accepted, accepted_limits}
use Rattle.willow.specs.Packed.{length_before}
use Rattle.willow.specs.Paths.{path_length}
use Rattle.willow.proofs.AnswerLaws.{limits_passed, or_else_none}
use Rattle.builder_parts.specs.Buffer.{size_of}
use Rattle.builder_parts.proofs.BufferLaws.{Known, known}
use Rattle.builder_law.specs.Building.{State, limits_of, agrees, appended_path, long_enough, declared_refusal, buffer_refusal, state_refusal, known_length}

-- a refusal under a test was not given
pub not_if : (t : Bool) (r : Refusal) → cond t (some r) none ≡ none → t ≡ false
not_if true r e = cc
not_if false r e = refl

pub not_unless : (t : Bool) (r : Refusal) → cond t none (some r) ≡ none → t ≡ true
not_unless true r e = refl
not_unless false r e = cc

-- 7 AND 8.
module _ (s : State) where
  module _ (short : s.length ≤ s.mpl) where
    pub declared_fine : s.count ≤ s.mcc → none ≡ declared_refusal s
    declared_fine h = rw (le-ltb s.mpl s.length short, le-ltb s.mcc s.count h)

  pub declared_passed : declared_refusal s ≡ none → (s.length ≤ s.mpl) × (s.count ≤ s.mcc)
  declared_passed e = go (ltb s.mpl s.length) (ltb s.mcc s.count) refl refl e
    where
      go : (t u : Bool) → ltb s.mpl s.length ≡ t → ltb s.mcc s.count ≡ u
          → cond t (some PathTooLong) (cond u (some TooManyComponents) none) ≡ none → (s.length ≤ s.mpl) × (s.count ≤ s.mcc)
      go true u p q e = let z : ◌≡◌ {A = ℕ} 0 1 = cc in absurd (omega arith)
      go false true p q e = let z : ◌≡◌ {A = ℕ} 0 1 = cc in absurd (omega arith)
      go false false p q e = (ltb-false s.mpl s.length p, ltb-false s.mcc s.count q)

-- THE STATE: 1, 5, 7, 8.
module _ (s : State) (out : List ℕ) where
  -- the buffer is as long as the test says
  pub room_there : long_enough s out ≡ true → 8 + 8 * s.count + s.length ≤ length out
  unfolding size_of
  room_there h = leb-true (8 + 8 * s.count + s.length) (length out) h

  pub table_room : long_enough s out ≡ true → 8 + 8 * s.count ≤ length out
  table_room h = let r = room_there h in omega arith

  module _ (fine : accepted_limits (limits_of s) ≡ true) where
    pub state_right : long_enough s out ≡ true → agrees s out ≡ true → state_refusal s out ≡ declared_refusal s
    unfolding state_refusal limits_refusal
    state_right h k = rw (fine, h, k)

  -- what is known of a state that passed
  pub record Sound : Type 0 where
    pub accepted : Accepted (limits_of s)
    pub agreed : long_enough s out ≡ true → agrees s out ≡ true
    pub short : s.length ≤ s.mpl
    pub few : s.count ≤ s.mcc

  pub sound : state_refusal s out ≡ none → Sound
  unfolding state_refusal
  sound e =
      let h = or_else_none (limits_refusal (limits_of s)) (or_else (buffer_refusal s out) (declared_refusal s)) e in
      let k = or_else_none (buffer_refusal s out) (declared_refusal s) h.1 in
      let d = declared_passed s k.1 in
      record {
        accepted = limits_passed (limits_of s) h.0;
        agreed = λ l. go (long_enough s out) (agrees s out) l (not_if (long_enough s out && not (agrees s out)) BadPath k.0);
        short = d.0;
        few = d.1;
      }
    where
      go : (l a : Bool) → l ≡ true → l && not a ≡ false → a ≡ true
      go true true e f = refl
      go true false e f = sym f
      go false a e f = cc

  -- THE BYTES THAT ARE KNOWN to be appended.
  pub known_none : long_enough s out ≡ false → 0 ≡ known_length s out
  unfolding known_length
  known_none h = rw h

  pub known_read : long_enough s out ≡ true → known_length s out ≡ path_length (appended_path s out)
  unfolding known_length
  known_read h = rw h

  module _ (e : state_refusal s out ≡ none) where
    pub buffer_known : long_enough s out ≡ true → Known s.mcl s.length s.count s.appended out
    buffer_known h = known s.mcl s.length s.count s.appended out ((sound e).agreed h) (leb-true (size_of s.length s.count) (length out) h)

    -- the table has as many lengths, and the last of them is the number of bytes
    pub table_there : long_enough s out ≡ true → 8 + 8 * s.appended ≤ length out
    table_there h = let k = buffer_known h in let r = room_there h in omega arith

    pub known_last : (n : ℕ) → long_enough s out ≡ true → n ≡ length_before out s.appended → n ≡ known_length s out
    known_last n h f = f ∙ sym (buffer_known h).last ∙ sym (known_read h)

    -- they are within the declared length
    pub known_within : known_length s out ≤ s.length
    known_within = go (long_enough s out) refl
      where
        go : (l : Bool) → long_enough s out ≡ l → known_length s out ≤ s.length
        go true h = let k = buffer_known h in let r = known_read h in omega arith
        go false h = let k = known_none h in omega arith
