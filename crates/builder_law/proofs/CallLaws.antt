-- The builder's calls: that what is sound is not refused, and what is known of a call that was not refused.
use Prim.Native.Nat.{ℕ, ◌+◌, ◌-◌, ◌*◌, ◌≤◌, ◌<◌}
use mathlib.Core.Path.{◌≡◌, refl, sym, ◌∙◌, ap}
use mathlib.Core.List.{List}
use mathlib.Core.Option.{Option, none, some}
use mathlib.Core.Bool.{true, false, ◌&&◌, ◌||◌, cond}
use native.Mathlib.Omega.{arith}
use lib.Dec.{ltb, eqb}
use lib.ListN.{length}
use borrow.Author.Tests.{le-ltb, ltb-false, leb-true}
use Rattle.willow.specs.declared.Limits.{Limits}
use Rattle.willow.specs.declared.Refusal.{Refusal}
use Rattle.willow.specs.declared.Refusal.TheVariants.{ComponentTooLong, NoSuchPrefix, Overfilled, Unfinished, OutTooSmall}
use Rattle.willow.specs.Answers.{or_else, limits_refusal, path_refusal, path_in}
use Rattle.willow.specs.Limits.{accepted_limits}
use Rattle.willow.specs.Paths.{Component, path_length}
use Rattle.willow.proofs.AnswerLaws.{or_else_none}
use Rattle.willow.proofs.Bools.{neither_true}
use Rattle.packed.specs.Readable.{Readable}
use Rattle.lent_path.proofs.LentLaws.{readable_prefix}
use Rattle.lent_path.proofs.TestLaws.{readable}
use Rattle.builder_parts.specs.Buffer.{size_of, Next}
use Rattle.builder_law.specs.Building.{State, limits_of, appended_path, long_enough, declared_refusal, room_refusal, state_refusal, known_length, overfilled, length_short, unfinished, state_of, new_refusal, prefix_refusal, append_refusal, build_refusal}
use Rattle.builder_law.proofs.StateLaws.{not_if, not_unless, room_there, table_room, sound, known_read, known_within}

-- 11 AND 15, passed.
overfilled_passed : (s : State) (count bytes more extra : ℕ) → overfilled s count bytes more extra ≡ none → (count + more ≤ s.count) × (bytes + extra ≤ s.length)
overfilled_passed s count bytes more extra e =
    let h = neither_true (ltb s.count (count + more)) (ltb s.length (bytes + extra)) (not_if (ltb s.count (count + more) || ltb s.length (bytes + extra)) Overfilled e) in
    (ltb-false s.count (count + more) h.0, ltb-false s.length (bytes + extra) h.1)

room_passed : (s : State) (out : List ℕ) → room_refusal s out ≡ none → long_enough s out ≡ true
room_passed s out e = not_unless (long_enough s out) OutTooSmall e

-- A START: 1, 7, 8, 15.
module _ (s : State) (out : List ℕ) where
  module _ (fine : accepted_limits (limits_of s) ≡ true) where
    pub start_tested : or_else (declared_refusal s) (room_refusal s out) ≡ new_refusal (limits_of s) s.length s.count out
    unfolding new_refusal limits_refusal
    start_tested = rw fine

    module _ (declared : declared_refusal s ≡ none) where
      pub start_fine : long_enough s out ≡ true → none ≡ new_refusal (limits_of s) s.length s.count out
      start_fine h = rw (← start_tested, declared, h)

-- what a start that was not refused says
pub record StartKnown (s : State) (out : List ℕ) : Type 0 where
  pub limits : limits_refusal (limits_of s) ≡ none
  pub declared : declared_refusal s ≡ none
  pub long : long_enough s out ≡ true

pub start_known : (s : State) (out : List ℕ) → new_refusal (limits_of s) s.length s.count out ≡ none → StartKnown s out
unfolding new_refusal
start_known s out e =
    let e₁ = or_else_none (limits_refusal (limits_of s)) (or_else (declared_refusal s) (room_refusal s out)) e in
    let e₂ = or_else_none (declared_refusal s) (room_refusal s out) e₁.1 in
    record { limits = e₁.0; declared = e₂.0; long = room_passed s out e₂.1 }

pub start_passed : (L : Limits) (bytes count : ℕ) (out : List ℕ) → new_refusal L bytes count out ≡ none → 8 + 8 * count ≤ length out
start_passed L bytes count out e = let s : State = state_of L bytes count 0 in table_room s out (start_known s out e).long

-- A START FROM A PREFIX: 1, 5, 7, 8, 10, 11, 15. The state counts the prefix as appended.
module _ (s : State) (b : List ℕ) (k : ℕ) (out : List ℕ) where
  abbrev refusal : Option Refusal
  refusal = prefix_refusal (limits_of s) s.length s.count b k s.appended out

  pub prefix_tested : or_else (path_refusal (limits_of s) b k) (or_else (declared_refusal s) (or_else (cond (ltb k s.appended) (some NoSuchPrefix) none)
      (or_else (overfilled s 0 0 s.appended (path_length (path_in b s.appended))) (room_refusal s out)))) ≡ refusal
  unfolding prefix_refusal
  prefix_tested = refl

  module _ (path : path_refusal (limits_of s) b k ≡ none) where
    pub prefix_declared : or_else (declared_refusal s) (or_else (cond (ltb k s.appended) (some NoSuchPrefix) none)
        (or_else (overfilled s 0 0 s.appended (path_length (path_in b s.appended))) (room_refusal s out))) ≡ refusal
    prefix_declared = rw (← prefix_tested, path)

    module _ (declared : declared_refusal s ≡ none) where
      module _ (there : s.appended ≤ k) where
        -- the prefix can be read
        pub prefix_readable : Readable b s.appended
        prefix_readable = readable_prefix b k s.appended (readable (limits_of s) b k path) there

        module _ (few : s.appended ≤ s.count) (len : ℕ) (e : len ≡ path_length (path_in b s.appended)) where
          module _ (short : len ≤ s.length) where
            pub prefix_fine : long_enough s out ≡ true → none ≡ refusal
            prefix_fine h =
                rw (
                  ← prefix_declared,
                  declared,
                  le-ltb k s.appended there,
                  le-ltb s.count (0 + s.appended) (omega arith),
                  le-ltb s.length (0 + path_length (path_in b s.appended)) (omega arith),
                  h,
                )

-- what such a start says that was not refused
pub record PrefixKnown (s : State) (b : List ℕ) (k : ℕ) (out : List ℕ) : Type 0 where
  pub path : path_refusal (limits_of s) b k ≡ none
  pub declared : declared_refusal s ≡ none
  pub there : s.appended ≤ k
  pub few : s.appended ≤ s.count
  pub short : path_length (path_in b s.appended) ≤ s.length
  pub long : long_enough s out ≡ true

pub prefix_known : (s : State) (b : List ℕ) (k : ℕ) (out : List ℕ) → prefix_refusal (limits_of s) s.length s.count b k s.appended out ≡ none
    → PrefixKnown s b k out
unfolding prefix_refusal
prefix_known s b k out e =
    let n : ℕ = s.appended in
    let e₁ = or_else_none (path_refusal (limits_of s) b k) _ e in
    let e₂ = or_else_none (declared_refusal s) _ e₁.1 in
    let e₃ = or_else_none (cond (ltb k n) (some NoSuchPrefix) none) _ e₂.1 in
    let e₄ = or_else_none (overfilled s 0 0 n (path_length (path_in b n))) (room_refusal s out) e₃.1 in
    let o = overfilled_passed s 0 0 n (path_length (path_in b n)) e₄.0 in
    record {
      path = e₁.0;
      declared = e₂.0;
      there = ltb-false k n (not_if (ltb k n) NoSuchPrefix e₃.0);
      few = omega arith;
      short = omega arith;
      long = room_passed s out e₄.1;
    }

pub prefix_passed : (L : Limits) (bytes count : ℕ) (b : List ℕ) (k n : ℕ) (out : List ℕ) → prefix_refusal L bytes count b k n out ≡ none
    → Readable b n × (n ≤ count) × (8 + 8 * count + path_length (path_in b n) ≤ length out)
prefix_passed L bytes count b k n out e =
    let s : State = state_of L bytes count n in
    let p = prefix_known s b k out e in
    let r = room_there s out p.long in
    (prefix_readable s b k out p.path p.declared p.there, p.few, omega arith)

-- AN APPEND: behind the state 9, 11, 15.
module _ (s : State) (c : Component) (out : List ℕ) where
  pub append_tested : or_else (state_refusal s out) (or_else (cond (ltb s.mcl (length c)) (some ComponentTooLong) none)
      (or_else (overfilled s s.appended (known_length s out) 1 (length c)) (room_refusal s out))) ≡ append_refusal s c out
  unfolding append_refusal
  append_tested = refl

  module _ (state : state_refusal s out ≡ none) where
    module _ (narrow : length c ≤ s.mcl) where
      module _ (few : s.appended < s.count) (n : ℕ) (e : n ≡ known_length s out) where
        module _ (short : length c ≤ s.length - n) where
          fits : ltb s.length (known_length s out + length c) ≡ false
          fits = let w = known_within s out state in le-ltb s.length (known_length s out + length c) (omega arith)

          pub append_fine : long_enough s out ≡ true → none ≡ append_refusal s c out
          append_fine h =
              rw (← append_tested, state, le-ltb s.mcl (length c) narrow, le-ltb s.count (s.appended + 1) (omega arith), fits, h)

  -- what an append says that was not refused
  pub record AppendKnown : Type 0 where
    pub state : state_refusal s out ≡ none
    pub narrow : length c ≤ s.mcl
    pub few : s.appended < s.count
    pub short : known_length s out + length c ≤ s.length
    pub long : long_enough s out ≡ true

  pub append_known : append_refusal s c out ≡ none → AppendKnown
  unfolding append_refusal
  append_known e =
      let e₁ = or_else_none (state_refusal s out) _ e in
      let e₂ = or_else_none (cond (ltb s.mcl (length c)) (some ComponentTooLong) none) _ e₁.1 in
      let e₃ = or_else_none (overfilled s s.appended (known_length s out) 1 (length c)) (room_refusal s out) e₂.1 in
      let o = overfilled_passed s s.appended (known_length s out) 1 (length c) e₃.0 in
      record {
        state = e₁.0;
        narrow = ltb-false s.mcl (length c) (not_if (ltb s.mcl (length c)) ComponentTooLong e₂.0);
        few = omega arith;
        short = o.1;
        long = room_passed s out e₃.1;
      }

  pub append_passed : append_refusal s c out ≡ none → Next s.count s.appended c out
  append_passed e =
      let a = append_known e in
      let k = known_read s out a.long in
      record {
        mcl = s.mcl;
        most = s.length;
        agreed = (sound s out a.state).agreed a.long;
        room = leb-true (size_of s.length s.count) (length out) a.long;
        more = a.few;
        fits = let f = a.short in omega arith;
      }

-- A BUILD: behind the state 12, 15.
module _ (s : State) (out : List ℕ) where
  -- 12 by the length: of the components that are read, or where none can be read, of nothing
  pub short_read : long_enough s out ≡ true → length_short s out ≡ ltb (path_length (appended_path s out)) s.length
  unfolding length_short
  short_read h = ap (λ b. cond b (ltb (path_length (appended_path s out)) s.length) (eqb s.appended 0 && ltb 0 s.length)) h

  pub short_unread : long_enough s out ≡ false → length_short s out ≡ (eqb s.appended 0 && ltb 0 s.length)
  unfolding length_short
  short_unread h = ap (λ b. cond b (ltb (path_length (appended_path s out)) s.length) (eqb s.appended 0 && ltb 0 s.length)) h

  pub build_tested : or_else (state_refusal s out) (or_else (unfinished s out) (room_refusal s out)) ≡ build_refusal s out
  unfolding build_refusal
  build_tested = refl

  module _ (state : state_refusal s out ≡ none) where
    module _ (all : s.count ≤ s.appended) where
      module _ (long : long_enough s out ≡ true) (n : ℕ) (e : n ≡ known_length s out) where
        pub build_fine : s.length ≤ n → none ≡ build_refusal s out
        build_fine h =
            let k = known_read s out long in
            rw (← build_tested, state, le-ltb s.appended s.count all, short_read long, long, le-ltb (path_length (appended_path s out)) s.length (omega arith))

  -- what a build says that was not refused
  pub record BuildKnown : Type 0 where
    pub state : state_refusal s out ≡ none
    pub all : s.count ≤ s.appended
    pub full : s.length ≤ path_length (appended_path s out)
    pub long : long_enough s out ≡ true

  pub build_known : build_refusal s out ≡ none → BuildKnown
  unfolding build_refusal
  build_known e =
      let e₁ = or_else_none (state_refusal s out) (or_else (unfinished s out) (room_refusal s out)) e in
      let e₂ = or_else_none (unfinished s out) (room_refusal s out) e₁.1 in
      let l = room_passed s out e₂.1 in
      let u = neither_true (ltb s.appended s.count) (length_short s out) (not_if (ltb s.appended s.count || length_short s out) Unfinished e₂.0) in
      let f : ltb (path_length (appended_path s out)) s.length ≡ false = sym (short_read l) ∙ u.1 in
      record { state = e₁.0; all = ltb-false s.appended s.count u.0; full = ltb-false (path_length (appended_path s out)) s.length f; long = l }

  pub build_passed : build_refusal s out ≡ none → 8 + 8 * s.count + s.length ≤ length out
  build_passed e = room_there s out (build_known e).long
