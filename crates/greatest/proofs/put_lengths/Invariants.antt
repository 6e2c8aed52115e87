-- What is left to write, written from where the last sum ended, gives the whole table; no sum passes MPL.
use Prim.Native.Nat.{◌+◌, ◌-◌, ◌*◌, ◌≤◌}
use mathlib.Core.Path.{◌≡◌}
use lib.ListN.{length}
use Rattle.willow.specs.LeastPaths.{filled, greatest}
use Rattle.willow.specs.Packed.{accumulated}
use Rattle.number.specs.Overwriting.{overwrite}
use Rattle.greatest.proofs.put_lengths.Given as goal

abbrev pub invariant-loop-i : goal.invariant-loop-i
invariant-loop-i l = record {
  rest : overwrite l.out (8 + 8 * l.i) (accumulated l.sum (filled l.limits.mcl (l.limits.mcc - l.i) (l.limits.mpl - l.sum))) ≡ overwrite l.initial.out 8 (accumulated 0 (greatest l.limits));
  within : l.sum ≤ l.limits.mpl;
  same_length : length l.out ≡ length l.initial.out;
}
