-- What is written stands behind what was held.
use Rattle.std.proofs.Common.{◌≡◌, ◌≤◌, ◌+◌, arith, length, rules}
use Rattle.number.proofs.OverwritingLaws.{take_written}
use Rattle.replay_text.specs.Sizes.{max_buffer}
use Rattle.replay_text.proofs.inner.buffers.Buffer.extend.Goals as goal

pub returns-clause-fits : goal.returns-clause-fits
returns-clause-fits c =
    let bytes = c.args.self.now.bytes in
    let whole : length bytes ≡ max_buffer = search rules in
    let fits : c.args.self.now.len + length c.args.part.now ≤ max_buffer = search rules in
    rw c.put.ensures (take_written bytes c.args.self.now.len c.args.part.now (omega arith))
