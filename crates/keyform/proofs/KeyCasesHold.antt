-- Every row is computed, of document 01's key lines and of the form's.
use mathlib.Core.Path.{refl}
use Rattle.willow.specs.Answers.{limits_refusal}
use Rattle.willow.specs.Construction.{admitted}
use Rattle.willow.specs.LeastPaths.{next_greater, successor, greatest}
use Rattle.willow.specs.Limits.{accepted_limits}
use Rattle.construction.specs.Making.{under_limits}
use Rattle.keyform.specs.Answering.{line_outcome, answer_text, ended_answer, printed}
use Rattle.keyform.specs.FormCases.{FormCasesHold}
use Rattle.keyform.specs.KeyCases.{KeyCasesHold}
use Rattle.keyform.specs.Reading.{read_field, read_component, read_path, read_line}
use Rattle.keyform.specs.Splitting.{pieces, lines_of}
use Rattle.keyform.specs.Texts.{decimal_text}

pub key_cases_lem : KeyCasesHold
unfolding limits_refusal admitted next_greater successor greatest accepted_limits under_limits line_outcome answer_text ended_answer printed read_field read_component read_path read_line pieces lines_of decimal_text
key_cases_lem = record { each = refl; document = refl }

pub form_cases : FormCasesHold
unfolding limits_refusal admitted next_greater successor greatest accepted_limits under_limits line_outcome answer_text ended_answer printed read_field read_component read_path read_line pieces lines_of decimal_text
form_cases = record { numbers = refl; paths = refl; questions = refl; longest = refl; too_long = refl; inputs = refl; chunks = refl }
