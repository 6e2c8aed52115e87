-- The length before component n is that of the first n components.
use Rattle.std.proofs.Common.{sym, ◌∙◌, arith}
use Rattle.packed.proofs.PrefixLaws.{Front, front}
use Rattle.packed.proofs.inner.path_length.Goals as goal
use Rattle.packed.proofs.inner.path_length.Goals.{Start}

facts : (c : Start) → Front c.args.b.now c.args.n
facts c = front c.args.b.now c.args.n c.requires

pub length_before-requires : goal.length_before-requires
length_before-requires c = omega (arith, facts (goal.at.length_before-requires c).Start)

pub returns : goal.returns
returns c = c.length_before.ensures ∙ sym (facts (goal.at.returns c).Start).bytes
