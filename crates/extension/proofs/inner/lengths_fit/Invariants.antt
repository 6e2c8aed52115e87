-- What is left of the bytes is what the lengths not yet read have to add up to; a length over it decides at once.
use Rattle.std.proofs.Common.{◌≡◌}
use Rattle.willow.specs.Construction.{lengths_fit}
use Rattle.extension.proofs.LengthLaws.{rest_fits}
use Rattle.extension.proofs.inner.lengths_fit.Given as goal

abbrev pub invariant-loop-i : goal.invariant-loop-i
invariant-loop-i l = rest_fits l.lengths l.i l.left ≡ lengths_fit l.lengths l.bytes
