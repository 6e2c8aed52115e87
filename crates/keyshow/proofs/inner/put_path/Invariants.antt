-- With no component the text is `()`. Else, behind the first component, what is left to write from here gives all that stands
-- behind it; a turn writes a slash and the next component.
use Prim.Native.Nat.{◌+◌, ◌≤◌}
use mathlib.Core.Path.{◌≡◌}
use lib.ListN.{length}
use Rattle.number.specs.Overwriting.{overwrite}
use Rattle.packed.specs.LentPaths.{path_of}
use Rattle.keyshow.proofs.ShowLaws.{rest_text}
use Rattle.keyshow.proofs.inner.put_path.Given as goal

abbrev pub invariant-loop-i : goal.invariant-loop-i
invariant-loop-i l =
    (l.at + length (rest_text (path_of l.path) l.i) ≡ l.initial.at + length (rest_text (path_of l.path) 1))
    × (l.initial.at + length (rest_text (path_of l.path) 1) ≤ length l.out)
    × (length l.out ≡ length l.initial.out)
    × (overwrite l.out l.at (rest_text (path_of l.path) l.i) ≡ overwrite l.initial.out l.initial.at (rest_text (path_of l.path) 1))
