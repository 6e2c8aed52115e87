-- What a buffer that agrees holds: the components that are read from it, and no others; and what is read of a lent reference.
use Prim.Native.Nat.{ℕ, ◌+◌, ◌-◌, ◌*◌, ◌≤◌}
use mathlib.Core.Path.{◌≡◌, refl}
use mathlib.Core.List.{List}
use mathlib.Core.Option.{Option, none, some}
use mathlib.Core.Bool.{true}
use native.Mathlib.Omega.{arith}
use lib.ListN.{length}
use Rattle.willow.specs.declared.Limits.{Limits}
use Rattle.willow.specs.declared.Refusal.{Refusal}
use Rattle.willow.specs.Answers.{unless, path_in, path_refusal, on_path}
use Rattle.willow.specs.Limits.{Accepted}
use Rattle.willow.specs.Lists.{All}
use Rattle.willow.specs.Numbers.{Bytes}
use Rattle.willow.specs.Packed.{pack, Lent}
use Rattle.willow.specs.Paths.{Path, ValidComponent}
use Rattle.willow.specs.Refusals.{value}
use Rattle.willow.proofs.AnswerLaws.{path_questions}
use Rattle.willow.proofs.ListLaws.{all_also, all_both}
use Rattle.willow.proofs.PackedLaws.{components_bytes}
use Rattle.builder_parts.specs.Buffer.{partial, components_in}
use Rattle.builder_parts.proofs.BufferLaws.{front_agrees, front_read, known, agrees_begins}
use Rattle.builder_law.specs.Building.{State, limits_of, declared_size, Holds, agrees, appended_path}
use Rattle.builder_law.specs.Runs.{Words}

-- WHAT AGREEMENT MEANS.
components_read_bytes : (count appended : ℕ) (out : List ℕ) → Bytes out → All Bytes (components_in count appended out)
unfolding components_in
components_read_bytes count appended out bs = components_bytes out bs (8 + 8 * count) appended 8 0

module _ (s : State) (out : List ℕ) where
  pub agrees_holds : Bytes out → declared_size s ≤ length out → agrees s out ≡ true → (q : Path) × Holds s out q
  agrees_holds bs room h =
      let q : Path = appended_path s out in
      let k = known s.mcl s.length s.count s.appended out h room in (
        q,
        record {
          as_many = k.as_many;
          few = k.few;
          short = k.short;
          each = all_both (λ c. length c ≤ s.mcl) Bytes q k.sizes (components_read_bytes s.count s.appended out bs);
          begins = agrees_begins s.mcl s.length s.count s.appended out h room bs;
        },
      )

  module _ (w : Words s) (q : Path) (h : Holds s out q) where
    counts : length q ≤ s.count
    counts = let n = h.as_many in let f = h.few in omega arith

    pub holds_agrees : agrees s out ≡ true
    holds_agrees =
        rw h.as_many at (front_agrees s.count out q counts h.begins s.mcl s.length w.count_word w.length_word h.short
        (all_also (ValidComponent (limits_of s)) (λ c. length c ≤ s.mcl) (λ c v. v.0) q h.each))

    pub holds_read : appended_path s out ≡ q
    holds_read =
        let l = h.short in
        let m = w.length_word in
        rw h.as_many at (front_read s.count out q counts h.begins (omega arith))

-- A WHOLE PATH, appended, is packed.
pub partial_whole : (p : Path) → partial (length p) p ≡ pack p
unfolding partial pack
partial_whole p = let z : 8 * (length p - length p) ≡ 0 = omega arith in rw z

-- A REFERENCE THAT IS LENT is not refused, and is read.
pub lent_read : (L : Limits) (b : List ℕ) (k : ℕ) (r : Path) → Accepted L → Bytes b → Lent L b k r → (path_refusal L b k ≡ none) × (path_in b k ≡ r)
unfolding on_path
lent_read L b k r a bs lent = go (path_refusal L b k) (path_questions.one_asked L b k (λ q. value q) bs a r lent)
  where
    go : (o : Option Refusal) → unless o (value (path_in b k)) ≡ value r → (o ≡ none) × (path_in b k ≡ r)
    go (some x) e = (cc, cc)
    go none e = (refl, cc)
