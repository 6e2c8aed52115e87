-- What the tests refuse is the outcome's refusal; what they admit is its path, within the bounds since the limits are.
use Rattle.willow.proofs.AnswerLaws.{path_passed}
use Rattle.extension.proofs.AdmissionLaws.{extendable}
use Rattle.extension.proofs.extended.Extended.admit.Goals as goal

pub admit-requires : goal.admit-requires
admit-requires c = (path_passed _ _ _ c.requires).1.formed

pub invariant_of-result : goal.invariant_of-result
invariant_of-result c = record { extendable = extendable _ _ _ _ c.in_ok-admit.ensures.admitted (path_passed _ _ _ c.requires).0 }
