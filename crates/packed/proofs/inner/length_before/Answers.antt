-- Before component 0 there is nothing; before any other stands number i of the table, which begins at 8.
use Rattle.std.proofs.Common.{sym, ◌∙◌}
use Rattle.packed.proofs.PrefixLaws.{length_before_more}
use Rattle.packed.proofs.inner.length_before.Goals as goal

pub returns : goal.returns
returns c = c.read_u64.ensures ∙ sym (length_before_more _ _ c.if-i-eq0.false)
