-- Each number stands at its place in the header, and the count there is that of the entries, since the store passed.
use Rattle.std.proofs.Common.{arith}
use Rattle.willow.proofs.NumberLaws.{bytes_by_index}
use Rattle.store_form.proofs.TestedLaws.{known}
use Rattle.store_reading.proofs.EntryAtLaws.{numbers_are}
use Rattle.store_reading.proofs.inner.numbers.Goals as goal

pub read-requires : goal.read-requires
read-requires c = (known _ c.requires).long

pub read_u64-requires : goal.read_u64-requires
read_u64-requires c = omega (arith, (known _ c.requires).long)

pub read_u64-requires-2 : goal.read_u64-requires-2
read_u64-requires-2 c = omega (arith, (known _ c.requires).long)

pub read_u64-requires-3 : goal.read_u64-requires-3
read_u64-requires-3 c = omega (arith, (known _ c.requires).long)

pub read_u64-requires-4 : goal.read_u64-requires-4
read_u64-requires-4 c = omega (arith, (known _ c.requires).long)

pub read_u64-requires-5 : goal.read_u64-requires-5
read_u64-requires-5 c = (known _ c.requires).long

pub returns : goal.returns
returns c =
    numbers_are _ c.requires (bytes_by_index c.args.sheet.now (λ i. (c.type_inv.sheet i).fits)) _
    c.read.ensures.0
    c.read_u64.ensures
    c.read_u64-2.ensures
    c.read_u64-3.ensures
    c.read_u64-4.ensures
    c.read_u64-5.ensures
