-- A line that is too long gets 3, another its answer.
use Rattle.std.proofs.Common.{◌<◌, length, rules}
use Rattle.willow.specs.declared.Refusal.TheVariants.{BadKind}
use Rattle.keyform.specs.Answering.{refused_text}
use Rattle.keyline.proofs.AnswerLaws.{answer_room, refused_bound, newline_room, newline_written}
use Rattle.keyinput.proofs.inner.Pending.end_line.Goals as goal
use Rattle.keyinput.proofs.inner.Pending.end_line.Goals.{After-put_refused-at}

place : (c : After-put_refused-at) → c.put_refused-at.result < length c.put_refused-at.new.out
place c = newline_room (refused_text BadKind) c.args.out.now _ _ _ c.put_refused-at.ensures.value c.put_refused-at.ensures.out_after (refused_bound BadKind) c.requires

pub put_refused-at-requires : goal.put_refused-at-requires
put_refused-at-requires c = answer_room (refused_text BadKind) _ _ (refused_bound BadKind) c.requires

pub bounds-out-at : goal.bounds-out-at
bounds-out-at c = place (goal.at.bounds-out-at c).After-put_refused-at

pub overflow_add-result : goal.overflow_add-result
overflow_add-result c = let r = place (goal.at.overflow_add-result c).After-put_refused-at in search rules

pub returns-in_default-clause-out_after : goal.returns-in_default-clause-out_after
returns-in_default-clause-out_after c =
    rw c.in_default.is
    (newline_written (refused_text BadKind) c.args.out.now _ _ _ c.put_refused-at.ensures.value c.put_refused-at.ensures.out_after (refused_bound BadKind) c.requires)
