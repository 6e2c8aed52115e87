-- An answer that is not refused comes of a path that was lent: either it has no next greater path, and the end is open and nothing was
-- written; or the packed form of that path stands in the bytes that were written. Both are what `ConversionTheorem` asks.
use Prim.Native.Nat.{ℕ}
use mathlib.Core.Path.{◌≡◌, refl, sym, ◌∙◌, ap}
use mathlib.Core.List.{List, ◌++◌}
use mathlib.Core.Option.{Option, none, some}
use mathlib.Core.Bool.{Bool, true, false, cond}
use native.Mathlib.Omega.{arith}
use lib.Dec.{leb}
use lib.ListN.{length, take, drop}
use lib.Seq.{take-append_seam}
use Rattle.willow.specs.declared.Limits.{Limits}
use Rattle.willow.specs.declared.Refusal.{Refusal}
use Rattle.willow.specs.declared.Refusal.TheVariants.{OutTooSmall}
use Rattle.willow.specs.Answers.{unless, path_refusal, path_in, on_path, packed_outcome, written_length, written_buffer}
use Rattle.willow.specs.LeastPaths.{Least, GreaterNotPrefixed, next_greater}
use Rattle.willow.specs.Limits.{Accepted}
use Rattle.willow.specs.Numbers.{Bytes}
use Rattle.willow.specs.Packed.{pack, Lent}
use Rattle.willow.specs.Paths.{Path}
use Rattle.willow.specs.Ranges3d.{end_at, range3d_from}
use Rattle.willow.specs.Refusals.{Outcome, refused, value}
use Rattle.willow.proofs.AnswerLaws.{accepted_words, path_passed}
use Rattle.tables.proofs.BufferLaws.{apart}
use Rattle.willow.proofs.LeastPathLaws.{least_paths}
use Rattle.willow.proofs.PackedLaws.{lent_count, packed_form}
use Rattle.least_writing.specs.Written.{path_or}
use Rattle.range_3d_intersection.specs.Sides3d.{Counts3d, converted_after, counts_of, HoldsEnd}
use Rattle.range_3d_intersection.proofs.ConversionLaws.{conversion_theorem}
use Rattle.answer_law.specs.Conversions.{ConversionReadBack}

-- WHAT AN ANSWER SAYS, of a test t and a path that there may not be.
abbrev EndWritten : Option Path → List ℕ → Type 0
EndWritten none bytes = Unit {0}
EndWritten (some q) bytes = bytes ≡ pack q

record Said (t : Option Refusal) (next : Option Path) (c d : Counts3d) (bytes : List ℕ) : Type 0 where
  passed : t ≡ none
  counts : d ≡ c
  end : EndWritten next bytes

pair_same : {A B : Type 0} (a c : A) (b d : B) → ◌≡◌ {A = Outcome (A × B)} (value (a, b)) (value (c, d)) → (a ≡ c) × (b ≡ d)
pair_same {A} {B} a c b d e = let s : ◌≡◌ {A = A × B} (a, b) (c, d) = cc in (ap (λ p. p.0) s, ap (λ p. p.1) s)

said : (t : Option Refusal) (next : Option Path) (out : List ℕ) (c d : Counts3d) (n : ℕ)
    → converted_after (written_length (packed_outcome (unless t (path_or next))) out) c ≡ value (d, n)
    → Said t next c d (take n (written_buffer (packed_outcome (unless t (path_or next))) out))
said (some r) next out c d n e = apart (refused r) (value (d, n)) e (λ h. omega arith)
said none none out c d n e = record { passed = refl; counts = sym (pair_same c d 0 n e).0; end = tt }
said none (some q) out c d n e = go (leb (length (pack q)) (length out)) e
  where
    go : (b : Bool) → converted_after (cond b (value (length (pack q))) (refused OutTooSmall)) c ≡ value (d, n)
        → Said none (some q) c d (take n (cond b (pack q ++ drop (length (pack q)) out) out))
    go true h =
        let s = pair_same c d (length (pack q)) n h in
        record {
          passed = refl;
          counts = sym s.0;
          end = ap (λ k. take k (pack q ++ drop (length (pack q)) out)) (sym s.1) ∙ take-append_seam (pack q) (drop (length (pack q)) out);
        }
    go false h = apart (refused OutTooSmall) (value (d, n)) h (λ k. omega arith)

-- THE PREMISES of the theorem.
module _ (L : Limits) (b : List ℕ) (k : ℕ) (bytes : Bytes b) (e : path_refusal L b k ≡ none) where
  accepted : Accepted L
  accepted = (path_passed L b k e).0

  lent_there : Lent L b k (path_in b k)
  lent_there = (packed_form.lent_some L b k (accepted_words L accepted) bytes (path_in b k)).0 (path_passed L b k e).1.path

  start_there : path_in b (length (path_in b k)) ≡ path_in b k
  start_there = ap (path_in b) (lent_count L b k (path_in b k) lent_there)

  end_there : (next : Option Path) (s : List ℕ) → Least (GreaterNotPrefixed L (path_in b k)) next → EndWritten next s → HoldsEnd (end_at next) s
  end_there none s h w = tt
  end_there (some q) s h w =
      let v = h.0.0 in
      let count = v.count in
      let total = v.total in
      let few = accepted.mcc_within in
      let short = accepted.mpl_within in
      (w, omega arith, omega arith)

  next_least : Least (GreaterNotPrefixed L (path_in b k)) (next_greater L (path_in b k))
  next_least = (least_paths L).next_greater_lem (path_in b k) (packed_form.lent_valid L b k (accepted_words L accepted) bytes (path_in b k) lent_there)

pub conversion_read_back : ConversionReadBack
unfolding on_path range3d_from
conversion_read_back L a base out m n bytes e =
    let next = next_greater L (path_in base a.count) in
    let s = said (path_refusal L base a.count) next out _ (counts_of m) n e in
    conversion_theorem.reads_back _ m base _ s.counts
    (start_there L base a.count bytes s.passed)
    (end_there L base a.count bytes s.passed next _ (next_least L base a.count bytes s.passed) s.end)
