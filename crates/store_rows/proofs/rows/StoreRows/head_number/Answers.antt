-- A number in the head of row i.
use Rattle.std.proofs.Common.{◌∙◌, ap}
use Rattle.willow.specs.Numbers.{number_at}
use Rattle.store_rows.proofs.rows.StoreRows.head_number.Goals as goal

pub returns : goal.returns
returns c = c.read_u64.ensures ∙ ap (λ l. number_at l c.args.at) c.head_bytes.ensures.part
