-- What the exported calls of the builder return: a status as every exported call has (convention/specs/Exports.antt), and the
-- state by value.
--
-- "A refusal leaves all lent memory byte for byte as found; a builder state comes back equal."
use Rattle.std.specs.Prelude.{ℕ}
use Rattle.std.proofs.Math.Option.{Option, none, some}
use Rattle.willow.specs.declared.Refusal.{Refusal}
use Rattle.willow.specs.Refusals.{refusal_number, Outcome, refused, absent, value}
use Rattle.convention.specs.Exports.{answered_status, none_status, refusal_status, given, itself}
use Rattle.builder.specs.declared.Builder.{Builder}
use Rattle.host_builder.specs.declared.BuilderAnswer.{BuilderAnswer}
use Rattle.host_builder.specs.declared.BuiltAnswer.{BuiltAnswer}

-- What stands where there is no state: zeros.
abbrev pub no_state : Builder
no_state = record { mcl = 0; mcc = 0; mpl = 0; length = 0; count = 0; appended = 0 }

abbrev pub state_or_zeros : Option Builder → Builder
state_or_zeros none = no_state
state_or_zeros (some s) = s

-- A start: the state, or zeros where it is refused, for then none was handed in.
abbrev pub started_answer : Outcome Builder → BuilderAnswer
started_answer (refused r) = record { status = refusal_number r; state = no_state }
started_answer absent = record { status = none_status; state = no_state }
started_answer (value s) = record { status = answered_status; state = s }

-- An append: the state that is handed back, refused or not.
abbrev pub appended_answer : Option Refusal → Builder → BuilderAnswer
appended_answer refusal s = record { status = refusal_status refusal; state = s }

-- A build: the length of the path, and zeros for the state, which is used up; where it is refused 0 and the state that is handed
-- back.
abbrev pub built_answer : Outcome ℕ → Option Builder → BuiltAnswer
built_answer o s = record { status = (given itself o).status; value = (given itself o).value; state = state_or_zeros s }
