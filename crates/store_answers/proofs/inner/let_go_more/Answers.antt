-- One number is written.
use Rattle.store_answers.proofs.inner.let_go_more.Goals as goal

pub returns : goal.returns
returns c = c.write_u64.ensures
