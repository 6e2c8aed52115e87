-- The component is the bytes between the accumulated lengths before and behind it, and these lie inside the buffer.
use Rattle.std.proofs.Common.{◌≡◌, ℕ, suc, ◌+◌, ◌-◌, ◌*◌, ◌<◌, ◌≤◌, List, [], length, get_or, take, drop, sym, refl, add-one, arith}
use Rattle.willow.specs.Packed.{packed_count, length_before, unpack, widest, Packed}
use Rattle.willow.proofs.PackedLaws.{tested}
use Rattle.willow.proofs.PackedPlaces.{place}
use Rattle.packed.proofs.inner.component.Goals as goal
use Rattle.packed.proofs.inner.component.Goals.{Start}

-- where component i stands, in the numbers of the code
record Stands (b : List ℕ) (i base start end : ℕ) : Type 0 where
  room : base ≤ length b
  up : start ≤ end
  inside : end ≤ length b
  is : get_or (unpack b) i [] ≡ take (end - start) (drop start b)

stands : (b : List ℕ) (i base : ℕ) → Packed b → i < packed_count b → base ≡ 8 + 8 * packed_count b
    → Stands b i base (base + length_before b i) (base + length_before b (i + 1))
stands b i base h k e =
    let p = place widest b h i k in
    let t = (tested widest b).0 h in
    let width : base + length_before b (suc i) - (base + length_before b i) ≡ length_before b (suc i) - length_before b i = omega arith in
    rw (add-one i) (record { room = omega arith; up = omega arith; inside = omega arith; is = rw (width, e) p.is })

facts : (c : Start)
    → Stands c.args.b.now c.args.i (8 + 8 * packed_count c.args.b.now)
    (8 + 8 * packed_count c.args.b.now + length_before c.args.b.now c.args.i)
    (8 + 8 * packed_count c.args.b.now + length_before c.args.b.now (c.args.i + 1))
facts c = stands c.args.b.now c.args.i _ c.requires.0 c.requires.1 refl

pub overflow_mul-base : goal.overflow_mul-base
overflow_mul-base c = omega (arith, facts (goal.at.overflow_mul-base c).Start)

pub overflow_add-base : goal.overflow_add-base
overflow_add-base c = omega (arith, facts (goal.at.overflow_add-base c).Start)

pub length_before-requires : goal.length_before-requires
length_before-requires c = omega (arith, facts (goal.at.length_before-requires c).Start)

pub overflow_add-start : goal.overflow_add-start
overflow_add-start c = omega (arith, facts (goal.at.overflow_add-start c).Start)

pub length_before-requires-2 : goal.length_before-requires-2
length_before-requires-2 c = omega (arith, facts (goal.at.length_before-requires-2 c).Start)

pub overflow_add-end : goal.overflow_add-end
overflow_add-end c = omega (arith, facts (goal.at.overflow_add-end c).Start)

pub slice_bounds-result-count : goal.slice_bounds-result-count
slice_bounds-result-count c = omega (arith, facts (goal.at.slice_bounds-result-count c).Start)

pub slice_bounds-result-start : goal.slice_bounds-result-start
slice_bounds-result-start c = omega (arith, facts (goal.at.slice_bounds-result-start c).Start)

pub slice_bounds-result-end : goal.slice_bounds-result-end
slice_bounds-result-end c = omega (arith, facts (goal.at.slice_bounds-result-end c).Start)

pub returns : goal.returns
returns c =
    rw (c.component_count.ensures, c.length_before-2.ensures, c.length_before.ensures)
    (sym (facts (goal.at.returns c).Start).is)
