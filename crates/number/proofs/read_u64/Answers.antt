use mathlib.Core.Path.{◌∙◌}
use Rattle.number.proofs.LibraryLaws.{number_read}
use Rattle.number.proofs.read_u64.Goals as goal

pub returns : goal.returns
returns c =
    let a = c.args in
    let read = rw c.unwrap.ensures at c.try_into.ensures in
    c.from_le_bytes.ensures ∙ number_read a.s.now a.at c.unwrap.result c.requires read.1.same
