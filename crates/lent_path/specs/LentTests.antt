-- The tests of what is lent: a path, and a component.
use Rattle.std.specs.Prelude.{ℕ, ◌≡◌, List, cond, leb, length}
use Rattle.std.proofs.Math.Option.{Option, none, some}
use Rattle.willow.specs.declared.Limits.{Limits}
use Rattle.willow.specs.declared.Refusal.{Refusal}
use Rattle.willow.specs.declared.Refusal.TheVariants.{ComponentTooLong}
use Rattle.willow.specs.Answers.{or_else, limits_refusal}
use Rattle.willow.specs.Paths.{Component}
use Rattle.packed.specs.declared.lent.LentPath.{LentPath}

-- What a lent path is made of: the buffer and the count.
abbrev pub MadeOf : LentPath → List ℕ → ℕ → Type 0
MadeOf p b k = (p.bytes.now ≡ b) × (p.count ≡ k)

-- `Component::new` as a test: 1, then 9 for "a component over MCL bytes".
unfoldable pub component_refusal : Limits → Component → Option Refusal
component_refusal L c = or_else (limits_refusal L) (cond (leb (length c) L.mcl) none (some ComponentTooLong))
