-- An area as a 3d range: what the written path says of the counts, and that the counts with their buffers are the 3d range.
use Prim.Native.Nat.{ℕ, ◌+◌, ◌≤◌}
use mathlib.Core.Path.{◌≡◌, refl, sym, ◌∙◌, ap, subst}
use mathlib.Core.List.{List, ◌++◌}
use mathlib.Core.Option.{Option, none, some}
use mathlib.Core.Bool.{Bool, true, false, cond}
use native.Mathlib.Omega.{arith}
use lib.Dec.{leb}
use lib.ListN.{length, drop, length-append}
use lib.Seq.{take_all}
use borrow.Author.Tests.{leb-true}
use Rattle.std.specs.Prelude.{Result, Ok, Err}
use Rattle.std.specs.Prelude as code
use Rattle.willow.specs.declared.Limits.{Limits}
use Rattle.willow.specs.declared.Refusal.{Refusal}
use Rattle.willow.specs.declared.Refusal.TheVariants.{OutTooSmall}
use Rattle.willow.specs.Answers.{optional_outcome, unless, path_refusal, path_in, on_path, packed_outcome, written_length, written_buffer}
use Rattle.willow.specs.LeastPaths.{Least, GreaterNotPrefixed, next_greater}
use Rattle.willow.specs.Limits.{max_word}
use Rattle.willow.specs.Numbers.{Bytes, number_at}
use Rattle.willow.specs.Packed.{pack, packed_count, Lent}
use Rattle.willow.specs.Paths.{Path}
use Rattle.willow.specs.Ranges.{End, closed, endless, Range, end_of, end_value}
use Rattle.willow.specs.Ranges3d.{end_at, subspace_range, range3d_from}
use Rattle.willow.specs.Refusals.{refused, absent, value}
use Rattle.willow.proofs.AnswerLaws.{accepted_words, path_passed}
use Rattle.willow.proofs.LeastPathLaws.{least_paths}
use Rattle.willow.proofs.PackedLaws.{pack_count, pack_length, unpack_pack, lent_count, packed_form}
use Rattle.number.proofs.OverwritingLaws.{overwrite_at_front, number_in_written}
use Rattle.least_writing.specs.Written.{path_or}
use Rattle.least.specs.Places.{next_greater_of}
use Rattle.range.specs.declared.Range as numbers
use Rattle.range.specs.NumberRanges.{range_of}
use Rattle.area.specs.declared.Area as area
use Rattle.area.specs.LentAreas.{area_in}
use Rattle.willow.specs.declared.RangeEnd.{RangeEnd}
use Rattle.willow.specs.declared.RangeEnd.TheVariants.{Closed, Open}
use Rattle.path_bounds.specs.LentRanges.{path_end_of}
use Rattle.range_3d.specs.declared.Range3d as lent
use Rattle.range_3d_intersection.specs.Sides3d.{Counts3d, end_count, counts_at, converted_after, counts_of, HoldsEnd, ConversionTheorem}

-- WHAT THE ANSWER SAYS OF THE PATH, for a test t and a path n that there may not be: none was written because there is none, ..
told_nothing : (t : Option Refusal) (n : Option Path) (out : List ℕ) → absent ≡ written_length (packed_outcome (unless t (path_or n))) out → (t ≡ none) × (n ≡ none)
told_nothing (some r) n out e = let z : ◌≡◌ {A = ℕ} 0 1 = cc in absurd (omega arith)
told_nothing none none out e = (refl, refl)
told_nothing none (some q) out e = absurd (go (leb (length (pack q)) (length out)) e)
  where
    go : (b : Bool) → absent ≡ cond b (value (length (pack q))) (refused OutTooSmall) → ⊥
    go true e = let z : ◌≡◌ {A = ℕ} 0 1 = cc in omega arith
    go false e = let z : ◌≡◌ {A = ℕ} 0 1 = cc in omega arith

-- .. or the packed form of the path stands at the front of the buffer.
record Written (t : Option Refusal) (n : Option Path) (out behind : List ℕ) : Type 0 where
  path : Path
  passed : t ≡ none
  is : n ≡ some path
  room : length (pack path) ≤ length out
  buffer : behind ≡ pack path ++ drop (length (pack path)) out

told_written : (t : Option Refusal) (n : Option Path) (out behind : List ℕ) (k : ℕ)
    → value k ≡ written_length (packed_outcome (unless t (path_or n))) out
    → behind ≡ written_buffer (packed_outcome (unless t (path_or n))) out → Written t n out behind
told_written (some r) n out behind k e w = let z : ◌≡◌ {A = ℕ} 0 1 = cc in absurd (omega arith)
told_written none none out behind k e w = let z : ◌≡◌ {A = ℕ} 0 1 = cc in absurd (omega arith)
told_written none (some q) out behind k e w = go (leb (length (pack q)) (length out)) refl e w
  where
    go : (b : Bool) → leb (length (pack q)) (length out) ≡ b → value k ≡ cond b (value (length (pack q))) (refused OutTooSmall)
        → behind ≡ cond b (pack q ++ drop (length (pack q)) out) out → Written none (some q) out behind
    go true f e w = record { path = q; passed = refl; is = refl; room = leb-true _ _ f; buffer = w }
    go false f e w = let z : ◌≡◌ {A = ℕ} 0 1 = cc in absurd (omega arith)

-- The number at the front of the packed form is the count of components.
front_count : (q : Path) (out behind : List ℕ) → length q ≤ max_word → length (pack q) ≤ length out → behind ≡ pack q ++ drop (length (pack q)) out
    → (number_at behind 0 ≡ length q) × (8 ≤ length behind)
unfolding packed_count
front_count q out behind few room w =
    let l = pack_length q in
    let inside : 0 + length (pack q) ≤ length out = omega arith in
    let n : number_at behind 0 ≡ number_at (pack q) 0 =
    ap (λ s. number_at s 0) (w ∙ sym (overwrite_at_front out (pack q))) ∙ number_in_written out 0 (pack q) inside 0 (omega arith) in
    let s : length behind ≡ length (pack q) + length (drop (length (pack q)) out) = ap length w ∙ length-append (pack q) _ in
    (n ∙ pack_count q few, omega arith)

-- A lent path that passed has as many components as are counted, and the next greater one has few enough to be counted.
module _ (L : Limits) (b : List ℕ) (k : ℕ) (bytes : Bytes b) (e : path_refusal L b k ≡ none) where
  lent_there : Lent L b k (path_in b k)
  lent_there =
      let h = path_passed L b k e in
      (packed_form.lent_some L b k (accepted_words L h.0) bytes (path_in b k)).0 h.1.path

  counted_there : length (path_in b k) ≡ k
  counted_there = lent_count L b k (path_in b k) lent_there

  next_few : (q : Path) → next_greater L (path_in b k) ≡ some q → length q ≤ max_word
  next_few q f =
      let a = (path_passed L b k e).0 in
      let v = packed_form.lent_valid L b k (accepted_words L a) bytes (path_in b k) lent_there in
      let g : Least (GreaterNotPrefixed L (path_in b k)) (some q) = subst (Least (GreaterNotPrefixed L (path_in b k))) f ((least_paths L).next_greater_lem (path_in b k) v) in
      let c = g.0.0.count in
      let m = a.mcc_within in
      omega arith

-- THE ANSWER.
module _ (L : Limits) (a : area.Area) (b out behind : List ℕ) (bytes : Bytes b) (c : Result (code.Option ℕ) Refusal)
    (answered : optional_outcome c ≡ written_length (packed_outcome (on_path L b a.count (next_greater_of L))) out)
    (written : behind ≡ written_buffer (packed_outcome (on_path L b a.count (next_greater_of L))) out) where
  written_there : (n : ℕ) → c ≡ Ok (code.Some n) → Written (path_refusal L b a.count) (next_greater L (path_in b a.count)) out behind
  unfolding on_path
  written_there n h =
      told_written (path_refusal L b a.count) (next_greater L (path_in b a.count)) out behind n (sym (ap optional_outcome h) ∙ answered) written

  nothing_there : c ≡ (Ok code.None) → (path_refusal L b a.count ≡ none) × (next_greater L (path_in b a.count) ≡ none)
  unfolding on_path
  nothing_there h = told_nothing (path_refusal L b a.count) (next_greater L (path_in b a.count)) out (sym (ap optional_outcome h) ∙ answered)

  -- the number that is read back
  pub count_there : (n : ℕ) → c ≡ Ok (code.Some n) → 8 ≤ length behind
  count_there n h =
      let w = written_there n h in
      (front_count w.path out behind (next_few L b a.count bytes w.passed w.path w.is) w.room w.buffer).1

  -- the counts of a 3d range that is made with an end
  module _ (u : numbers.Range ℕ) (p : numbers.Range ℕ) (m : lent.Range3d ℕ) (subspaces : range_of u ≡ subspace_range a.subspace)
      (made : m ≡ record { subspaces = u; paths = p; times = a.times }) where
    counts_made : (d : End ℕ) → range_of p ≡ record { start = a.count; end = d } → path_refusal L b a.count ≡ none
        → d ≡ end_count (end_at (next_greater L (path_in b a.count))) → counts_of m ≡ counts_at (range3d_from L (area_in a b))
    unfolding range3d_from
    counts_made d f e g =
        let start : p.start ≡ a.count = ap (λ (x : Range ℕ). x.start) f in
        let end : end_of p.end ≡ d = ap (λ (x : Range ℕ). x.end) f in
        rw (made, start, end, subspaces, g, counted_there L b a.count bytes e)

    pub convert_open : c ≡ (Ok code.None) → range_of p ≡ record { start = a.count; end = endless }
        → value (counts_of m, 0) ≡ converted_after (written_length (packed_outcome (on_path L b a.count (next_greater_of L))) out) (counts_at (range3d_from L (area_in a b)))
    convert_open h f =
        let g = nothing_there h in
        ap (λ x. value (x, 0)) (counts_made endless f g.0 (sym (ap (λ x. end_count (end_at x)) g.1)))
        ∙ ap (λ o. converted_after o (counts_at (range3d_from L (area_in a b)))) (sym (ap optional_outcome h) ∙ answered)

    pub convert_closed : (n k : ℕ) → c ≡ Ok (code.Some n) → k ≡ number_at behind 0 → range_of p ≡ record { start = a.count; end = closed k }
        → value (counts_of m, n) ≡ converted_after (written_length (packed_outcome (on_path L b a.count (next_greater_of L))) out) (counts_at (range3d_from L (area_in a b)))
    convert_closed n k h e f =
        let w = written_there n h in
        let g = (front_count w.path out behind (next_few L b a.count bytes w.passed w.path w.is) w.room w.buffer).0 in
        ap (λ x. value (x, n)) (counts_made (closed k) f w.passed (ap closed (e ∙ g) ∙ sym (ap (λ x. end_count (end_at x)) w.is)))
        ∙ ap (λ o. converted_after o (counts_at (range3d_from L (area_in a b)))) (sym (ap optional_outcome h) ∙ answered)

-- WHAT IT MEANS. The end by its count is the end that its buffer holds.
whole_path : (o : List ℕ) (k : ℕ) (p : Path) → k ≡ length p → HoldsEnd (closed p) o → path_in o k ≡ p
unfolding path_in
whole_path o k p e h = rw (h.0, unpack_pack p h.1 h.2) (take_all k p (omega (arith, e)))

end_back : (d : RangeEnd ℕ) (x : End Path) (o : List ℕ) → end_of d ≡ end_count x → HoldsEnd x o → path_end_of (end_of d) o ≡ x
end_back (Closed k) (closed p) o e h = ap closed (whole_path o k p (ap end_value e) h)
end_back (Closed k) endless o e h = let z : ◌≡◌ {A = ℕ} 0 1 = cc in absurd (omega arith)
end_back Open (closed p) o e h = let z : ◌≡◌ {A = ℕ} 0 1 = cc in absurd (omega arith)
end_back Open endless o e h = refl

pub conversion_theorem : ConversionTheorem
conversion_theorem = record {
  reads_back = λ r m b o e start end.
      let u : range_of m.subspaces ≡ r.subspaces = ap (λ (x : Counts3d). x.subspaces) e in
      let t : range_of m.times ≡ r.times = ap (λ (x : Counts3d). x.times) e in
      let s : path_in b m.paths.start ≡ r.paths.start = ap (λ (x : Counts3d). path_in b x.start) e ∙ start in
      let d : path_end_of (end_of m.paths.end) o ≡ r.paths.end = end_back m.paths.end r.paths.end o (ap (λ (x : Counts3d). x.end) e) end in
      λ i. record { subspaces = u i; paths = record { start = s i; end = d i }; times = t i };
}
