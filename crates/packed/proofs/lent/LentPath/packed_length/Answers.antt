-- Table and bytes of the first components lie inside the buffer, which is as long as a number can say.
use Rattle.std.proofs.Common.{◌+◌, ◌*◌, ◌<◌, length, arith}
use Rattle.willow.proofs.PackedLaws.{pack_length}
use Rattle.willow.specs.Paths.{path_length}
use Rattle.packed.specs.declared.lent.LentPath.{LentPath}
use Rattle.packed.proofs.PrefixLaws.{front}
use Rattle.packed.specs.LentPaths.{path_of}
use Rattle.packed.proofs.lent.LentPath.packed_length.Goals as goal

fits : (p : LentPath) → length p.bytes.now < 18446744073709551616 → 8 + 8 * p.count + path_length (path_of p) < 18446744073709551616
fits p h = let f = front _ _ p.readable in omega arith

pub overflow_mul-result : goal.overflow_mul-result
overflow_mul-result c = omega (arith, fits c.args.self c.ranges.self.0)

pub overflow_add-result : goal.overflow_add-result
overflow_add-result c = omega (arith, fits c.args.self c.ranges.self.0)

pub overflow_add-result-2 : goal.overflow_add-result-2
overflow_add-result-2 c = omega (arith, fits c.args.self c.ranges.self.0, c.path_length.ensures)

pub returns : goal.returns
returns c =
    let f = front _ _ c.args.self.readable in
    let l = pack_length (path_of c.args.self) in
    omega (arith, c.path_length.ensures)
