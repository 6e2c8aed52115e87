-- A line that is too long gets 3; of another the answer stands before the newline.
use Rattle.willow.specs.declared.Refusal.TheVariants.{BadKind}
use Rattle.keyform.specs.Answering.{refused_text}
use Rattle.keyline.proofs.AnswerLaws.{answer_room, refused_bound, refused_front, answer_front}
use Rattle.keyline.proofs.inner.answer_any.Goals as goal

pub put_refused-requires : goal.put_refused-requires
put_refused-requires c = answer_room (refused_text BadKind) 0 _ (refused_bound BadKind) c.requires

pub returns-then-line-gt-MAX_LINE : goal.returns-then-line-gt-MAX_LINE
returns-then-line-gt-MAX_LINE c = refused_front c.args.line.now c.args.out.now _ _ c.if-line-gt-MAX_LINE.true c.requires c.put_refused.ensures.value c.put_refused.ensures.out_after

pub overflow_sub-result : goal.overflow_sub-result
overflow_sub-result c = (answer_front c.args.line.now c.args.out.now _ _ c.requires c.answer_line.ensures.value c.answer_line.ensures.out_after).0

pub returns : goal.returns
returns c = let a = answer_front c.args.line.now c.args.out.now _ _ c.requires c.answer_line.ensures.value c.answer_line.ensures.out_after in (a.1, a.2, a.3)
