-- What the calls accept. One way, the tests that passed say what stands in the buffer, since it agrees; the other way, what
-- stands there passes each of the tests.
use Prim.Native.Nat.{ℕ, ◌≤◌}
use mathlib.Core.Path.{◌≡◌, refl, sym, ◌∙◌, ap}
use mathlib.Core.List.{List, [], ◌∷◌, ◌++◌}
use mathlib.Core.Option.{none}
use mathlib.Core.Bool.{true}
use native.Mathlib.Omega.{arith}
use lib.ListN.{length, take, drop, length-append, length-take}
use lib.Seq.{take_at}
use borrow.Author.Tests.{le-leb, leb-true}
use Rattle.willow.specs.Answers.{path_in}
use Rattle.willow.specs.Limits.{Accepted}
use Rattle.willow.specs.Numbers.{Bytes}
use Rattle.willow.specs.Packed.{pack}
use Rattle.willow.specs.Paths.{Component, Path, path_length, ValidComponent}
use Rattle.willow.proofs.AnswerLaws.{accepted_words, limits_passed, path_passed}
use Rattle.willow.proofs.LimitLaws.{limit_laws}
use Rattle.willow.proofs.ListLaws.{all_append}
use Rattle.willow.proofs.PackedLaws.{packed_form, pack_length}
use Rattle.willow.proofs.ValidLaws.{path_length_append}
use Rattle.number.specs.Overwriting.{overwrite}
use Rattle.number.proofs.OverwritingLaws.{overwrite_at_front}
use Rattle.lent_path.proofs.LentLaws.{prefix_in}
use Rattle.builder_parts.specs.Buffer.{size_of, partial}
use Rattle.builder_law.specs.Building.{State, limits_of, declared_size, Holds, long_enough, declared_refusal, state_refusal, known_length, state_of, new_refusal, prefix_refusal, append_refusal, grown, grown_buffer, build_refusal}
use Rattle.builder_law.specs.Runs.{Words}
use Rattle.builder_law.specs.Acceptance.{Declared, Begun, Follows, Whole, BuilderAcceptance}
use Rattle.builder_law.proofs.StateLaws.{declared_passed, declared_fine, state_right, sound, known_read}
use Rattle.builder_law.proofs.CallLaws.{start_known, start_fine, prefix_known, prefix_fine, append_known, append_fine, build_known, build_fine}
use Rattle.builder_law.proofs.HoldsLaws.{agrees_holds, holds_agrees, holds_read, partial_whole, lent_read}

-- SOUND SIZES. What the tests say, and what passes them.
module _ (s : State) (out : List ℕ) where
  to_declared : Accepted (limits_of s) → (s.length ≤ s.mpl) × (s.count ≤ s.mcc) → long_enough s out ≡ true → Declared s out
  to_declared a d l = record { limits = a; short = d.0; few = d.1; room = leb-true (declared_size s) (length out) l }

  state_declared : state_refusal s out ≡ none → long_enough s out ≡ true → Declared s out
  state_declared e l = let k = sound s out e in to_declared k.accepted (k.short, k.few) l

  module _ (d : Declared s out) where
    pub words : Words s
    words =
        let a = d.limits in
        record { length_word = omega arith; count_word = omega arith }

    long : long_enough s out ≡ true
    long = le-leb (declared_size s) (length out) d.room

    sizes : declared_refusal s ≡ none
    sizes = sym (declared_fine s d.short d.few)

    -- with what the buffer holds, the state passes, and as many bytes are known
    module _ (q : Path) (h : Holds s out q) where
      state_fine : state_refusal s out ≡ none
      state_fine = state_right s out ((limit_laws.limits_means (limits_of s)).1 d.limits) long (holds_agrees s out words q h) ∙ sizes

      known_bytes : path_length q ≡ known_length s out
      known_bytes = sym (known_read s out long ∙ ap path_length (holds_read s out words q h))

-- A START.
module _ (s : State) (out : List ℕ) where
  start_to : new_refusal (limits_of s) s.length s.count out ≡ none → Declared s out
  start_to e =
      let k = start_known s out e in
      to_declared s out (limits_passed (limits_of s) k.limits) (declared_passed s k.declared) k.long

  pub start_from : Declared s out → new_refusal (limits_of s) s.length s.count out ≡ none
  start_from d = sym (start_fine s out ((limit_laws.limits_means (limits_of s)).1 d.limits) (sizes s out d) (long s out d))

-- A START FROM A PREFIX.
module _ (s : State) (b : List ℕ) (k : ℕ) (out : List ℕ) (bs : Bytes b) where
  prefix_to : prefix_refusal (limits_of s) s.length s.count b k s.appended out ≡ none → Declared s out × Begun s b k s.appended
  prefix_to e =
      let p = prefix_known s b k out e in
      let a = path_passed (limits_of s) b k p.path in (
        to_declared s out a.0 (declared_passed s p.declared) p.long,
        record {
          reference = path_in b k;
          lent = (packed_form.lent_some (limits_of s) b k (accepted_words (limits_of s) a.0) bs (path_in b k)).0 a.1.path;
          there = p.there;
          few = p.few;
          short = rw (prefix_in b k s.appended p.there) p.short;
        },
      )

  pub prefix_from : Declared s out × Begun s b k s.appended → prefix_refusal (limits_of s) s.length s.count b k s.appended out ≡ none
  prefix_from t =
      let g = t.1 in
      let r = lent_read (limits_of s) b k g.reference t.0.limits bs g.lent in
      let l : path_length (take s.appended g.reference) ≡ path_length (path_in b s.appended) =
      ap (λ q. path_length (take s.appended q)) (sym r.1) ∙ ap path_length (prefix_in b k s.appended g.there) in
      sym (prefix_fine s b k out r.0 (sizes s out t.0) g.there g.few (path_length (take s.appended g.reference)) l g.short (long s out t.0))

-- AN APPEND.
module _ (s : State) (c : Component) (out : List ℕ) where
  append_to : Bytes out → append_refusal s c out ≡ none → Declared s out × Follows s c out
  append_to bs e =
      let a = append_known s c out e in
      let d = state_declared s out a.state a.long in
      let h = agrees_holds s out bs d.room ((sound s out a.state).agreed a.long) in
      let n = h.1.as_many in
      let k = known_bytes s out d h.0 h.1 in
      (d, record { held = h.0; holds = h.1; narrow = a.narrow; few = omega arith; short = omega arith })

  pub append_from : Declared s out × Follows s c out → append_refusal s c out ≡ none
  append_from t =
      let d = t.0 in
      let f = t.1 in
      let n = f.holds.as_many in
      let w = f.short in
      sym (append_fine s c out (state_fine s out d f.held f.holds) f.narrow (omega arith) (path_length f.held) (known_bytes s out d f.held f.holds) (omega arith) (long s out d))

  -- what it leaves
  append_leaves : (q : Path) → Bytes c → append_refusal s c out ≡ none → Holds s out q → Holds (grown s) (grown_buffer s c out) (q ++ (c ∷ []))
  append_leaves q bc e h =
      let a = append_known s c out e in
      let d = state_declared s out a.state a.long in
      let k = known_bytes s out d q h in
      let n = h.as_many in
      let l = length-append q (c ∷ []) in
      let m = path_length_append q (c ∷ []) in
      let v : List ℕ = partial s.count (q ++ (c ∷ [])) in
      let w : grown_buffer s c out ≡ v ++ drop (length v) out =
      ap (λ p. overwrite out 0 (partial s.count (p ++ (c ∷ [])))) (holds_read s out (words s out d) q h) ∙ overwrite_at_front out v in
      record {
        as_many = omega arith;
        few = omega arith;
        short = omega arith;
        each = all_append (ValidComponent (limits_of s)) q (c ∷ []) h.each ((a.narrow, bc), tt);
        begins = ap (take (length v)) w ∙ take_at v (drop (length v) out) (length v) refl;
      }

-- A BUILD.
module _ (s : State) (out : List ℕ) where
  build_to : Bytes out → build_refusal s out ≡ none → Accepted (limits_of s) × (s.appended ≡ s.count) × Whole s out
  build_to bs e =
      let b = build_known s out e in
      let d = state_declared s out b.state b.long in
      let t = agrees_holds s out bs d.room ((sound s out b.state).agreed b.long) in
      let q : Path = t.0 in
      let h = t.1 in
      let same = ap path_length (holds_read s out (words s out d) q h) in
      let n = h.as_many in
      let f = h.few in
      let count : length q ≡ s.count = omega arith in
      let packed : partial s.count q ≡ pack q = rw count at (partial_whole q) in (
        d.limits,
        omega arith,
        record {
          path = q;
          valid = record { count = omega arith; total = omega arith; each = h.each };
          count = count;
          bytes = omega arith;
          begins = rw packed at h.begins;
        },
      )

  pub build_from : Accepted (limits_of s) × (s.appended ≡ s.count) × Whole s out → build_refusal s out ≡ none
  unfolding size_of
  build_from t =
      let a = t.0 in
      let all = t.1 in
      let w = t.2 in
      let v = w.valid in
      let count = w.count in
      let bytes = w.bytes in
      let packed : pack w.path ≡ partial s.count w.path = sym (rw count at (partial_whole w.path)) in
      let l = pack_length w.path in
      let m = ap length w.begins in
      let k = length-take (length (pack w.path)) out in
      let d : Declared s out = record { limits = a; short = omega arith; few = omega arith; room = omega arith } in
      let h : Holds s out w.path = record { as_many = omega arith; few = omega arith; short = omega arith; each = v.each; begins = rw packed at w.begins } in
      sym (build_fine s out (state_fine s out d w.path h) (omega arith) (long s out d) (path_length w.path) (known_bytes s out d w.path h) (omega arith))

pub builder_acceptance : BuilderAcceptance
builder_acceptance = record {
  new_accepts = λ L bytes count out. (start_to (state_of L bytes count 0) out, start_from (state_of L bytes count 0) out);
  prefix_accepts = λ L bytes count b k n out bs. (prefix_to (state_of L bytes count n) b k out bs, prefix_from (state_of L bytes count n) b k out bs);
  append_accepts = λ s c out bs. (append_to s c out bs, append_from s c out);
  append_holds = λ s c out q bc e h. append_leaves s c out q bc e h;
  build_accepts = λ s out bs. (build_to s out bs, build_from s out);
}
