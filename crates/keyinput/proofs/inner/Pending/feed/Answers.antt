-- The newline that is found ends a line; where none is found, the rest is only held.
use Rattle.std.proofs.Common.{◌≡◌, ◌<◌, ◌++◌, ◌∷◌, [], ℕ, length, take, take_all, arith, rules, slice_index_or}
use Rattle.keyform.specs.Texts.{newline}
use Rattle.keyinput.specs.Held.{held_in}
use Rattle.keyinput.proofs.HeldLaws.{before_found, feed_start, feed_again, line_taken, stopped_over}
use Rattle.keyinput.proofs.inner.Pending.feed.Goals as goal

pub loop-n-init : goal.loop-n-init
loop-n-init c = ([], feed_start (held_in c.args.self.now) c.args.chunk.now c.args.out.now)

pub loop-n-preserved : goal.loop-n-preserved
loop-n-preserved c =
    let rest = c.loop-n.rest.now in
    let n = c.in-Some.n in
    let within : n < length rest = search rules in
    let found : slice_index_or rest n 0 ≡ newline = search rules in
    let before : (k : ℕ) → k < n → slice_index_or rest k 0 ≡ newline → ⊥ = search rules in
    let e = c.take_line-at.ensures in
    let t = line_taken _ _ _ _ _ _ _ (before_found rest n before) (omega arith) e.value e.out_after e.anew in
    (c.loop-n.invariant.0 ++ (take n rest ++ (newline ∷ [])), feed_again _ _ _ _ _ _ _ _ c.loop-n.invariant.1 n _ _ _ within found t)

pub returns : goal.returns
returns c =
    let rest = c.loop-n.rest.now in
    let none : (k : ℕ) → k < length rest → slice_index_or rest k 0 ≡ newline → ⊥ = search rules in
    let w = rw (take_all (length rest) rest (omega arith)) at (before_found rest (length rest) none) in
    stopped_over _ _ _ _ _ _ _ _ c.loop-n.invariant.1 _ w c.extend.ensures
