use Rattle.std.proofs.Common.{◌*◌, ◌+◌, ◌<◌, [], length, ◌∙◌, arith, refl, ◌≡◌, ◌≤◌, ◌/◌, ◌%◌, get_or, rules}
use Rattle.keyread.proofs.HexLaws.{hex_odd, hex_start, hex_no_high, hex_no_low, hex_on, hex_none, hex_same_length, hex_again, hex_end, pair_of}
use Rattle.keyread.proofs.inner.read_hex.Goals as goal
use Rattle.keyread.proofs.inner.read_hex.Goals.{In-loop-k, After-as_chunks}

-- How many pairs there are.
half : (c : After-as_chunks) → length c.as_chunks.result.0.now ≡ length c.args.s.now / 2
half c = c.as_chunks.ensures.front_len

odd : (c : After-as_chunks) → length c.as_chunks.result.1.now ≡ length c.args.s.now % 2
odd c = c.as_chunks.ensures.back_len

-- The two bytes of a turn's pair.
pair : (c : In-loop-k)
    → (let s = c.args.s.now in
    let p = get_or c.as_chunks.result.0.now c.loop-k.k [] in
    let k = c.loop-k.k in
    (get_or p 0 0 ≡ get_or s (2 * k) 0) × (get_or p 1 0 ≡ get_or s (2 * k + 1) 0) × (2 * k + 1 < length s))
pair c =
    let n : length c.as_chunks.result.0.now ≡ length c.args.s.now / 2 = c.as_chunks.ensures.front_len in
    let p = pair_of _ _ c.loop-k.k c.as_chunks.ensures.front (omega (arith, n, c.loop-k-test.true)) in
    (p.0, p.1, omega (arith, n, c.loop-k-test.true))

pub returns-then-not-is_empty : goal.returns-then-not-is_empty
returns-then-not-is_empty c =
    let some_left : length c.as_chunks.result.1.now ≡ 0 → ⊥ = λ e. search rules in
    let o = odd (goal.at.returns-then-not-is_empty c).After-as_chunks in
    (hex_odd c.args.s.now (λ e. some_left (omega arith)), refl)

pub loop-k-init : goal.loop-k-init
loop-k-init c = ([], hex_start _ _ _)

pub returns-in_err-high : goal.returns-in_err-high
returns-in_err-high c =
    let p = pair (goal.at.returns-in_err-high c).In-loop-k in
    let no = hex_no_high c.args.s.now c.loop-k.k p.2 (rw p.0 at c.in_err-high.ensures.value) in
    rw c.from_residual.ensures (hex_none _ _ _ _ _ _ c.loop-k.invariant.1 c.requires no, hex_same_length _ _ _ _ _ _ c.loop-k.invariant.1 c.requires)

pub returns-in_err-low : goal.returns-in_err-low
returns-in_err-low c =
    let p = pair (goal.at.returns-in_err-low c).In-loop-k in
    let no = hex_no_low c.args.s.now c.loop-k.k p.2 c.in_ok-high.high c.in_ok-high.ensures.below (rw p.0 at c.in_ok-high.ensures.value) (rw p.1 at c.in_err-low.ensures.value) in
    rw c.from_residual-in_err-low.ensures (hex_none _ _ _ _ _ _ c.loop-k.invariant.1 c.requires no, hex_same_length _ _ _ _ _ _ c.loop-k.invariant.1 c.requires)

pub loop-k-preserved : goal.loop-k-preserved
loop-k-preserved c =
    let p = pair (goal.at.loop-k-preserved c).In-loop-k in
    let e = hex_on c.args.s.now c.loop-k.k p.2 c.in_ok-high.high c.in_ok-high.ensures.below (rw p.0 at c.in_ok-high.ensures.value) c.in_ok-low.low c.in_ok-low.ensures.below (rw p.1 at c.in_ok-low.ensures.value) in
    (_, hex_again _ _ _ _ _ _ c.loop-k.invariant.1 c.requires _ p.2 e)

pub returns : goal.returns
returns c =
    let n = half (goal.at.returns c).After-as_chunks in
    let o = odd (goal.at.returns c).After-as_chunks in
    let empty : length c.as_chunks.result.1.now ≡ 0 = search rules in
    let all : length c.as_chunks.result.0.now ≡ c.loop-k.k = omega arith in
    let even : length c.args.s.now ≤ 2 * c.loop-k.k = omega arith in
    let f = c.loop-k.invariant.1 in
    (_, hex_end _ _ _ _ _ _ f c.requires even, f.written, all ∙ f.count)
