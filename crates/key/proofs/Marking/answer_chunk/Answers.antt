-- Each turn takes at least a byte of the rest, and what is held goes on with it.
use Rattle.std.proofs.Common.{◌<◌, ◌≤◌, ◌+◌, ◌∙◌, length, arith, rules}
use Rattle.keyform.specs.Answering.{max_answer}
use Rattle.key.proofs.ChunkLaws.{fed_some, fed_on}
use Rattle.key.proofs.Marking.answer_chunk.Goals as goal

pub loop-rest-preserved : goal.loop-rest-preserved
loop-rest-preserved c = fed_on _ _ _ _ _ _ c.feed-fed.ensures ∙ c.loop-rest.invariant

pub loop-rest-smaller : goal.loop-rest-smaller
loop-rest-smaller c =
    let more : 0 < length c.loop-rest.rest.now = search rules in
    let room : max_answer + 1 ≤ length c.loop-rest.self.1.1.1.1.0 = omega arith in
    let some = fed_some _ _ _ _ _ _ c.feed-fed.ensures more room in
    search rules
