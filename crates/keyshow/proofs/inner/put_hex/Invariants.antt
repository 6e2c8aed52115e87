-- What is left to write from here gives what was to be written at first; a turn writes the two digits of a byte.
use Rattle.std.proofs.Common.{◌≡◌, ◌+◌, ◌*◌, drop}
use Rattle.number.specs.Overwriting.{overwrite}
use Rattle.keyform.specs.Texts.{hex_text}
use Rattle.keyshow.proofs.inner.put_hex.Given as goal

abbrev pub invariant-loop-i : goal.invariant-loop-i
invariant-loop-i l = overwrite l.out (l.to + 2 * l.i) (hex_text (drop l.i l.c)) ≡ overwrite l.initial.out l.to (hex_text l.c)
