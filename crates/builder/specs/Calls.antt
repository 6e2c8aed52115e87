-- What the builder's calls answer and leave. The numbers of the struct that they take are a state, and what is refused of a state
-- and what an append leaves in the buffer are said in builder_law/specs/Building.antt.
use Rattle.std.specs.Prelude.{ℕ, ◌+◌, ◌≡◌, List, Result, Ok, Err}
use Rattle.std.proofs.Math.Option.{Option, none, some}
use Rattle.willow.specs.declared.Limits.{Limits}
use Rattle.willow.specs.declared.Refusal.{Refusal}
use Rattle.willow.specs.Paths.{Component}
use Rattle.willow.specs.Refusals.{Outcome, refused, value}
use Rattle.builder_law.specs.Building as law
use Rattle.builder.specs.declared.Builder.{Builder}
use Rattle.builder.specs.declared.Rejected.{Rejected}

-- WHAT THE ANSWERS MEAN. An append hands a state back, refused or not.
abbrev pub appended_refusal : Result Builder Rejected → Option Refusal
appended_refusal (Err e) = some e.refusal
appended_refusal (Ok s) = none

abbrev pub appended_state : Result Builder Rejected → Builder
appended_state (Err e) = e.builder
appended_state (Ok s) = s

-- A build gives the length of the path that stands at the front of the buffer; where it is refused the state comes back.
abbrev pub built_outcome : Result ℕ Rejected → Outcome ℕ
built_outcome (Err e) = refused e.refusal
built_outcome (Ok n) = value n

abbrev pub built_state : Result ℕ Rejected → Option Builder
built_state (Err e) = some e.builder
built_state (Ok n) = none

-- A state handed back with a refusal, and none with an answer.
abbrev pub kept_state : Option Refusal → Builder → Option Builder
kept_state (some r) s = some s
kept_state none s = none

-- THE STRUCT AND ITS STATE. A fresh struct for a declared length and count, with so many components appended; and the same struct
-- with one more.
abbrev pub state_of : Limits → ℕ → ℕ → ℕ → Builder
state_of L length count appended =
    record { mcl = L.mcl; mcc = L.mcc; mpl = L.mpl; length = length; count = count; appended = appended }

abbrev pub grown : Builder → Builder
grown s = record { mcl = s.mcl; mcc = s.mcc; mpl = s.mpl; length = s.length; count = s.count; appended = s.appended + 1 }

-- Its numbers:
abbrev pub state_in : Builder → law.State
state_in s = record { mcl = s.mcl; mcc = s.mcc; mpl = s.mpl; length = s.length; count = s.count; appended = s.appended }

-- What is said of a state is said of the struct.
abbrev pub declared_size : Builder → ℕ
declared_size s = law.declared_size (state_in s)

abbrev pub append_refusal : Builder → Component → List ℕ → Option Refusal
append_refusal s c out = law.append_refusal (state_in s) c out

abbrev pub grown_buffer : Builder → Component → List ℕ → List ℕ
grown_buffer s c out = law.grown_buffer (state_in s) c out

abbrev pub build_refusal : Builder → List ℕ → Option Refusal
build_refusal s out = law.build_refusal (state_in s) out

-- THE THEOREMS ON STATES ARE THEOREMS ON THE CALLS. What a call hands back holds the state that `BuilderTheorem`,
-- `BuilderAcceptance` and `BuilderTable` (crate builder_law) speak of: a start the state of its numbers, an append the grown
-- state.
pub record StatesAgree : Type 0 where
  pub at_the_start : (L : Limits) (length count appended : ℕ) → state_in (state_of L length count appended) ≡ law.state_of L length count appended
  pub after_an_append : (s : Builder) → state_in (grown s) ≡ law.grown (state_in s)
