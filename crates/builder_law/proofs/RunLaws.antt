-- The builder's theorem. A run over the components of a valid path keeps, after each of them, that the buffer holds as many of
-- the path as were appended, written over the front of the buffer that the run began with; so each append and the build are
-- accepted.
use Prim.Native.Nat.{ℕ, ◌+◌, ◌≤◌, ◌<◌}
use mathlib.Core.Path.{◌≡◌, refl, sym, ◌∙◌, ap}
use mathlib.Core.List.{List, [], ◌∷◌, ◌++◌}
use mathlib.Core.Option.{none}
use native.Mathlib.Omega.{arith}
use lib.ListN.{length, take, drop, length-drop}
use lib.Seq.{take_all, take_at, take-add, drop-drop, length-take-le}
use borrow.Author.Tests.{le-leb}
use Rattle.willow.specs.declared.Limits.{Limits}
use Rattle.willow.specs.Answers.{limits_refusal, path_in}
use Rattle.willow.specs.Construction.{Slices}
use Rattle.willow.specs.Limits.{Accepted}
use Rattle.willow.specs.Numbers.{Bytes}
use Rattle.willow.specs.Packed.{pack, Lent}
use Rattle.willow.specs.Paths.{Component, Path, path_length, ValidComponent, Valid}
use Rattle.willow.specs.Refusals.{value}
use Rattle.willow.proofs.ConstructionLaws.{construction, valid_admitted}
use Rattle.willow.proofs.LimitLaws.{limit_laws}
use Rattle.willow.proofs.ListLaws.{all_take, all_drop}
use Rattle.willow.proofs.PackedLaws.{pack_length}
use Rattle.willow.proofs.ValidLaws.{path_length_append, path_length_take}
use Rattle.number.specs.Overwriting.{overwrite}
use Rattle.number.proofs.OverwritingLaws.{length_overwrite, overwrite_at_front, overwrite_twice}
use Rattle.lent_path.proofs.LentLaws.{prefix_in}
use Rattle.construction.specs.Making.{under_limits, slices_outcome}
use Rattle.builder_parts.specs.Buffer.{size_of, partial}
use Rattle.builder_parts.proofs.BufferLaws.{partial_length}
use Rattle.builder_law.specs.Building.{State, Holds, state_of, new_refusal, new_buffer, prefix_refusal, prefix_buffer, append_refusal, grown_buffer}
use Rattle.builder_law.specs.Runs.{Runs, Builds, BuilderTheorem}
use Rattle.builder_law.specs.Acceptance.{Declared}
use Rattle.builder_law.proofs.HoldsLaws.{agrees_holds, holds_agrees, holds_read, partial_whole, lent_read}
use Rattle.builder_law.proofs.AcceptanceLaws.{words, start_from, prefix_from, append_from, build_from}

-- RUNS over the components of a valid path, declared by its length and count, in a buffer that it fits into.
module _ (L : Limits) (p : Path) (out : List ℕ) (a : Accepted L) (v : Valid L p) (fit : length (pack p) ≤ length out) where
  abbrev state : ℕ → State
  state n = state_of L (path_length p) (length p) n

  -- the declared sizes are sound with every buffer as long
  declared : (n : ℕ) (b : List ℕ) → length b ≡ length out → Declared (state n) b
  unfolding size_of
  declared n b e = let l = pack_length p in record { limits = a; short = v.total; few = v.count; room = omega arith }

  -- the first n components are written over the front
  module _ (n : ℕ) (b : List ℕ) (few : n ≤ length p) (e : b ≡ overwrite out 0 (partial (length p) (take n p))) where
    abbrev front : List ℕ
    front = partial (length p) (take n p)

    front_size : length front ≡ size_of (path_length (take n p)) (length p)
    front_size = partial_length (length p) (take n p) (let l = length-take-le n p few in omega arith)

    same_size : length b ≡ length out
    unfolding size_of
    same_size =
        let f = front_size in
        let t = path_length_take n p in
        let l = pack_length p in
        ap length e ∙ length_overwrite out 0 front (omega arith)

    holds : Holds (state n) b (take n p)
    holds = record {
      as_many = length-take-le n p few;
      few = few;
      short = path_length_take n p;
      each = all_take (ValidComponent L) n p v.each;
      begins = ap (take (length front)) (e ∙ overwrite_at_front out front) ∙ take_at front (drop (length front) out) (length front) refl;
    }

    -- one more component is accepted, and is written behind them
    module _ (c : Component) (cs : Path) (left : drop n p ≡ c ∷ cs) where
      more : n < length p
      more = let l = length-drop n p in let m = ap length left in omega arith

      longer : take (n + 1) p ≡ take n p ++ (c ∷ [])
      longer = take-add n 1 p ∙ rw left

      narrow : length c ≤ L.mcl
      narrow = let h = (rw left at (all_drop (ValidComponent L) n p v.each)) in h.0.0

      sum : path_length (take (n + 1) p) ≡ path_length (take n p) + length c
      sum = ap path_length longer ∙ path_length_append (take n p) (c ∷ []) ∙ omega arith

      accepted : append_refusal (state n) c b ≡ none
      accepted =
          let t = path_length_take (n + 1) p in
          let s = sum in
          let l = length-take-le n p few in
          let m = more in
          append_from (state n) c b (
            declared n b same_size,
            record { held = take n p; holds = holds; narrow = narrow; few = omega arith; short = omega arith },
          )

      appended : grown_buffer (state n) c b ≡ overwrite out 0 (partial (length p) (take (n + 1) p))
      unfolding size_of
      appended =
          let m = more in
          let s = sum in
          let t = path_length_take (n + 1) p in
          let l = pack_length p in
          let x = front_size in
          let y = partial_length (length p) (take (n + 1) p) (let k = length-take-le (n + 1) p (omega arith) in omega arith) in
          let there = holds_read (state n) b (words (state n) b (declared n b same_size)) (take n p) holds in
          rw (there, ← longer, e) (overwrite_twice out 0 front (partial (length p) (take (n + 1) p)) (omega arith) (omega arith))

    -- all are there: the path is built
    module _ (left : drop n p ≡ []) where
      all : n ≡ length p
      all = let l = length-drop n p in let m = ap length left in omega arith

      packed_there : b ≡ pack p ++ drop (length (pack p)) out
      packed_there =
          let whole : take n p ≡ p = take_all n p (let h = all in omega arith) in
          e ∙ ap (λ q. overwrite out 0 (partial (length p) q)) whole ∙ ap (overwrite out 0) (partial_whole p) ∙ overwrite_at_front out (pack p)

      built : Builds p out (state n) b
      built = record {
        not_refused = build_from (state n) b (
          a,
          all,
          record {
            path = p;
            valid = v;
            count = refl;
            bytes = refl;
            begins = ap (take (length (pack p))) packed_there ∙ take_at (pack p) (drop (length (pack p)) out) (length (pack p)) refl;
          },
        );
        size = sym (partial_length (length p) p (omega arith)) ∙ ap length (partial_whole p);
        packed = packed_there;
      }

  -- so a run over what is left builds it
  run : (cs : Path) (n : ℕ) (b : List ℕ) → n ≤ length p → drop n p ≡ cs → b ≡ overwrite out 0 (partial (length p) (take n p))
      → (s : State) × (end : List ℕ) × Runs (state n) b cs s end × Builds p out s end
  run [] n b few left e = (state n, b, (refl, refl), built n b few e left)
  run (c ∷ cs) n b few left e =
      let next : drop (n + 1) p ≡ cs = sym (drop-drop 1 n p) ∙ ap (drop 1) left in
      let r = run cs (n + 1) (grown_buffer (state n) c b) (let m = more n b few e c cs left in omega arith) next (appended n b few e c cs left) in
      (r.0, r.1, (accepted n b few e c cs left, r.2), r.3)

  -- from the start
  start_accepted : new_refusal L (path_length p) (length p) out ≡ none
  start_accepted = start_from (state 0) out (declared 0 out refl)

  -- from a prefix of a reference that is lent
  module _ (b : List ℕ) (k n : ℕ) (r : Path) (bs : Bytes b) (lent : Lent L b k r) (there : n ≤ k) (few : n ≤ length p) (same : take n r ≡ take n p) where
    prefix_is : path_in b n ≡ take n p
    prefix_is = sym (prefix_in b k n there) ∙ ap (take n) (lent_read L b k r a bs lent).1 ∙ same

    prefix_accepted : prefix_refusal L (path_length p) (length p) b k n out ≡ none
    prefix_accepted =
        prefix_from (state n) b k out bs (
          declared n out refl,
          record { reference = r; lent = lent; there = there; few = few; short = rw same (path_length_take n p) },
        )

-- `from_slices` makes the same path.
slices_made : (L : Limits) (p : Path) (lengths bytes : List ℕ) → Accepted L → Valid L p → Slices lengths bytes p → slices_outcome L lengths bytes ≡ value p
unfolding under_limits limits_refusal
slices_made L p lengths bytes a v s = rw ((limit_laws.limits_means L).1 a) (construction.made_as L lengths bytes p s ∙ valid_admitted L p v)

pub builder_theorem : BuilderTheorem
builder_theorem = record {
  agrees_means = λ s out w bs room. (agrees_holds s out bs room, λ t. holds_agrees s out w t.0 t.1);
  holds_read = λ s out q w h. holds_read s out w q h;
  built = λ L p out a v fit. (
    start_accepted L p out a v fit,
    run L p out a v fit p 0 (new_buffer (length p) out) (omega arith) refl refl,
  );
  built_from_prefix = λ L p out b k n r a v fit bs lent there few same. (
    prefix_accepted L p out a v fit b k n r bs lent there few same,
    run L p out a v fit (drop n p) n (prefix_buffer (length p) b n out) few refl (ap (λ q. overwrite out 0 (partial (length p) q)) (prefix_is L p out a v fit b k n r bs lent there few same)),
  );
  as_from_slices = λ L p out lengths bytes a v fit s. rw (slices_made L p lengths bytes a v s, le-leb (length (pack p)) (length out) fit);
}
