-- What was found shows the line's answer, which has room; the newline is written behind it.
use Rattle.std.proofs.Common.{rules}
use Rattle.keyline.proofs.AnswerLaws.{found_room, Ended, line_ended}
use Rattle.keyline.proofs.inner.answer_line.Goals as goal
use Rattle.keyline.proofs.inner.answer_line.Goals.{After-put_found-at}

ended : (c : After-put_found-at) → Ended c.args.line.now c.args.out.now c.args.to c.put_found-at.new.out c.put_found-at.result
ended c = line_ended _ _ _ _ _ _ c.ask-found.ensures.outcome c.put_found-at.ensures.value c.put_found-at.ensures.out_after c.requires.1

pub put_found-at-requires : goal.put_found-at-requires
put_found-at-requires c = found_room _ _ _ _ c.ask-found.ensures.outcome c.requires.1

pub bounds-out-at : goal.bounds-out-at
bounds-out-at c = (ended (goal.at.bounds-out-at c).After-put_found-at).room

pub overflow_add-result : goal.overflow_add-result
overflow_add-result c = let r = (ended (goal.at.overflow_add-result c).After-put_found-at).room in search rules

pub returns : goal.returns
returns c =
    let e = ended (goal.at.returns c).After-put_found-at in
    record { value = e.place; out_after = e.written }
