-- Theorem 11, from its parts.
use Rattle.keyform.proofs.AnsweringLaws.{answered}
use Rattle.keyform.proofs.PrintingLaws.{lines}
use Rattle.keyform.proofs.ShownLaws.{shown}
use Rattle.keyform.proofs.WordingLaws.{one_wording}
use Rattle.keyform.specs.KeyTheorem.{KeyTheorem}

pub key_theorem : KeyTheorem
key_theorem = record { one_wording = one_wording; answered = answered; shown = shown; lines = lines }
