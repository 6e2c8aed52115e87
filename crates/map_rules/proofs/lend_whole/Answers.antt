-- A packed path has as many components as its first number says, and it is what they are packed to.
use mathlib.Core.Path.{◌≡◌, sym}
use native.Mathlib.Omega.{arith}
use lib.Seq.{take_all}
use Rattle.willow.specs.Answers.{path_in}
use Rattle.willow.specs.Packed.{packed_count, unpack, widest}
use Rattle.willow.proofs.NumberLaws.{bytes_by_index}
use Rattle.willow.proofs.PackedLaws.{tested, unpack_count, pack_unpack}
use Rattle.map_rules.proofs.lend_whole.Goals as goal
use Rattle.map_rules.proofs.lend_whole.Goals.{After-read_u64}

counted : (c : After-read_u64) → c.read_u64.result ≡ packed_count c.args.bytes.now
unfolding packed_count
counted c = c.read_u64.ensures

pub read_u64-requires : goal.read_u64-requires
read_u64-requires c = ((tested widest _).0 c.requires).long

pub invariant_of-result : goal.invariant_of-result
invariant_of-result c =
    let e = counted (goal.at.invariant_of-result c).After-read_u64 in
    record { readable = record { packed = c.requires; within = omega arith } }

pub returns-clause-path : goal.returns-clause-path
unfolding path_in
returns-clause-path c =
    let e = counted (goal.at.returns-clause-path c).After-read_u64 in
    let n = unpack_count c.args.bytes.now in
    take_all _ (unpack c.args.bytes.now) (omega arith)

pub returns-clause-bytes : goal.returns-clause-bytes
returns-clause-bytes c = sym (pack_unpack widest c.args.bytes.now c.requires (bytes_by_index _ (λ i. (c.shared_slice_known-1.given i).fits)))
