-- The length that the function asks for is that of the packed form.
use Rattle.std.proofs.Common.{arith}
use Rattle.willow.proofs.PackedLaws.{pack_length}
use Rattle.packed.proofs.PrefixLaws.{front}
use Rattle.packed.specs.LentPaths.{path_of}
use Rattle.packed.proofs.lent.LentPath.put.Goals as goal

pub put_prefix-requires : goal.put_prefix-requires
put_prefix-requires c =
    let f = front _ _ c.args.self.readable in
    let l = pack_length (path_of c.args.self) in
    (c.args.self.readable, omega (arith, c.requires))
