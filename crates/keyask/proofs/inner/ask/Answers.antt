-- The path that the call has written stands at the front of the room: it fits, so no line is refused for room.
use Rattle.std.proofs.Common.{length, ◌≤◌, arith, refl, sym}
use Rattle.std.proofs.lemmas.Result.{err_from_is_err_and}
use Rattle.keyform.specs.Answering.{line_outcome}
use Rattle.keyask.specs.Found.{Lends, max_packed}
use Rattle.keyask.proofs.FoundLaws.{wrote_found}
use Rattle.keyask.proofs.LineLaws.{line_sound}
use Rattle.keyask.proofs.inner.ask.Goals as goal
use Rattle.keyask.proofs.inner.ask.Goals.{After-put_question}

lends : (c : After-put_question) → Lends (line_sound c.args.line.now).0 (line_outcome c.args.line.now) c.put_question.result c.put_question.new.room.next
lends c =
    let room : max_packed ≤ length c.args.room.now.next = omega arith in
    wrote_found _ _ _ _ _ (line_sound c.args.line.now).1 room (record { answered = c.put_question.ensures.result_value; written = c.put_question.ensures.next_after })

pub returns-in_err-size-clause-outcome : goal.returns-in_err-size-clause-outcome
returns-in_err-size-clause-outcome c =
    let p = err_from_is_err_and c.from_residual.result c.from_residual.ensures.1 in
    let m = lends (goal.at.returns-in_err-size-clause-outcome c).After-put_question in
    let f = rw c.in_err-size.was at m in
    rw (f, p.1, p.2) refl

pub written-requires : goal.written-requires
written-requires c =
    let m = lends (goal.at.written-requires c).After-put_question in
    let f = rw (c.in_ok-size.was, c.in-Some.is) at m in
    (f.0, f.1)

pub returns-in-Some : goal.returns-in-Some
returns-in-Some c =
    let m = lends (goal.at.returns-in-Some c).After-put_question in
    let f = rw (c.in_ok-size.was, c.in-Some.is) at m in
    rw (c.written.ensures.bytes, c.written.ensures.count) record { outcome = sym f.3; packed = f.4; counted = f.5 }

pub returns-in-None : goal.returns-in-None
returns-in-None c =
    let m = lends (goal.at.returns-in-None c).After-put_question in
    let f = rw (c.in_ok-size.was, c.in-None.is) at m in
    record { outcome = sym f; packed = tt; counted = tt }
