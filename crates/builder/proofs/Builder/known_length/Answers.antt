-- Of a state that passed, a buffer that is long enough agrees, so that its table can be read and its last length is the sum.
use Rattle.std.proofs.Common.{sym, ◌∙◌}
use Rattle.builder_law.proofs.StateLaws.{known_last, table_there}
use Rattle.builder.specs.Calls.{state_in}
use Rattle.builder.proofs.Builder.known_length.Goals as goal

pub length_before-requires : goal.length_before-requires
length_before-requires c = table_there (state_in c.args.self.now) c.args.out.now c.requires (sym c.has_room.ensures ∙ c.if-has_room.true)

pub returns-then-has_room : goal.returns-then-has_room
returns-then-has_room c = known_last (state_in c.args.self.now) c.args.out.now c.requires _ (sym c.has_room.ensures ∙ c.if-has_room.true) c.length_before.ensures
