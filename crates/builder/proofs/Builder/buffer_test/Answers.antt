-- A buffer that is long enough has room for its table.
use Rattle.std.proofs.Common.{sym, ◌∙◌}
use Rattle.builder_law.proofs.StateLaws.{table_room}
use Rattle.builder.specs.Calls.{state_in}
use Rattle.builder.proofs.Builder.buffer_test.Goals as goal

pub agrees-requires : goal.agrees-requires
agrees-requires c = table_room (state_in c.args.self.now) c.args.out.now (sym c.has_room.ensures ∙ c.if-has_room.true)
