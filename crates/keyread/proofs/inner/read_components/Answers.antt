-- The iterator gives the text up to the next slash: a piece, and those of the rest behind it.
use Rattle.std.proofs.Common.{[], ◌∙◌, ap, rules}
use lib.Dec.{eqb}
use Rattle.std.proofs.lemmas.List.Sorted.{answers_always}
use Rattle.keyform.specs.Texts.{slash}
use Rattle.keyread.proofs.PieceLaws.{Comes, piece_comes, path_start, sizes_same, bytes_same, size_room, piece_room, path_none, path_again, path_whole}
use Rattle.keyread.proofs.inner.read_components.Goals as goal
use Rattle.keyread.proofs.inner.read_components.Goals.{In-Some}

comes : (c : In-Some) → Comes c.loop-piece.piece-iterator.done c.loop-piece.piece-iterator.rest.now c.in-Some.piece.now c.next.new.self.done c.next.new.self.rest.now
comes c =
    let s = c.in-Some.ensures.steps in
    piece_comes _ _ _ _ _ s.0 s.1 (s.2 (λ b. eqb b slash) (answers_always _ _ _ (λ f a r g e. search rules))).1

pub loop-piece-init : goal.loop-piece-init
loop-piece-init c =
    let i = c.into_iter-piece-iterator.ensures.into_iter_gives in
    ([], path_start _ _ _ _ _ (ap (λ x. x.done) i ∙ c.split-piece-items.ensures.done) (ap (λ x. x.rest.now) i ∙ c.split-piece-items.ensures.rest))

pub read_component-requires : goal.read_component-requires
read_component-requires c = piece_room _ _ _ _ _ _ _ _ _ _ c.loop-piece.invariant.1 c.requires.0 c.requires.1 _ _ _ (comes (goal.at.read_component-requires c).In-Some)

pub returns-in_err-m : goal.returns-in_err-m
returns-in_err-m c =
    let f = c.loop-piece.invariant.1 in
    let bad = c.in_err-m.ensures in
    rw c.from_residual.ensures (
      path_none _ _ _ _ _ _ _ _ _ _ f c.requires.0 c.requires.1 _ _ _ (comes (goal.at.returns-in_err-m c).In-Some) bad.0,
      sizes_same _ _ _ _ _ _ _ _ _ _ f c.requires.0 c.requires.1,
      bad.1 ∙ bytes_same _ _ _ _ _ _ _ _ _ _ f c.requires.0 c.requires.1,
    )

pub write_u64-requires : goal.write_u64-requires
write_u64-requires c = size_room _ _ _ _ _ _ _ _ _ _ c.loop-piece.invariant.1 c.requires.0 c.requires.1 _ _ _ (comes (goal.at.write_u64-requires c).In-Some)

pub overflow_mul-k : goal.overflow_mul-k
overflow_mul-k c =
    let r = size_room _ _ _ _ _ _ _ _ _ _ c.loop-piece.invariant.1 c.requires.0 c.requires.1 _ _ _ (comes (goal.at.overflow_mul-k c).In-Some) in
    search rules

pub overflow_add-k : goal.overflow_add-k
overflow_add-k c =
    let r = size_room _ _ _ _ _ _ _ _ _ _ c.loop-piece.invariant.1 c.requires.0 c.requires.1 _ _ _ (comes (goal.at.overflow_add-k c).In-Some) in
    search rules

pub overflow_add-n : goal.overflow_add-n
overflow_add-n c =
    let r = piece_room _ _ _ _ _ _ _ _ _ _ c.loop-piece.invariant.1 c.requires.0 c.requires.1 _ _ _ (comes (goal.at.overflow_add-n c).In-Some) in
    let h = c.in_ok-m.ensures.4 in
    search rules

pub loop-piece-preserved : goal.loop-piece-preserved
loop-piece-preserved c =
    path_again _ _ _ _ _ _ _ _ _ _ c.loop-piece.invariant.1 c.requires.0 c.requires.1 _ _ _ (comes (goal.at.loop-piece-preserved c).In-Some) _ _ _ c.in_ok-m.ensures c.write_u64.ensures

pub returns : goal.returns
returns c = path_whole _ _ _ _ _ _ _ _ _ _ c.loop-piece.invariant.1 c.requires.0 c.requires.1 c.in-None.ensures.steps.0
