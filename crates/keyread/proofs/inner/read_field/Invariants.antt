-- What is left to read from a place on decides as the whole does; a number of so many digits is below a power of ten.
use Rattle.std.proofs.Common.{◌≡◌, ◌<◌, ◌≤◌, ◌-◌, ◌^◌, drop}
use Rattle.keyform.specs.Reading.{field_from, read_field}
use Rattle.keyread.proofs.inner.read_field.Given as goal

abbrev pub invariant-loop-i : goal.invariant-loop-i
invariant-loop-i l = (field_from (10 - l.i) l.v (drop l.i l.line) ≡ read_field l.line) × (l.i ≤ 10) × (l.v < 10 ^ l.i)
