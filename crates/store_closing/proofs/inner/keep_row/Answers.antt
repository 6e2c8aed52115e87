-- Where the offer prunes the row, nothing is done, nor where it stands in its place; else the one row is moved.
use Rattle.std.proofs.Common.{◌≡◌, ◌∙◌, refl, ap, arith}
use Rattle.willow.specs.Entries.{prunes}
use Rattle.entry.specs.LentEntries.{entry_of}
use Rattle.store_rows.specs.EntryRows.{row_entry}
use Rattle.store_closing.proofs.PassLaws.{room_in, stays_put}
use Rattle.store_closing.proofs.inner.keep_row.Goals as goal
use Rattle.store_closing.proofs.inner.keep_row.Goals.{After-prunes}

-- the row's entry was asked about
asked : (c : After-prunes) → c.prunes.result ≡ prunes (entry_of c.args.offered.now) (row_entry c.args.sizes.limits c.args.sizes.capacity c.args.s.now c.args.i)
asked c = c.prunes.ensures ∙ ap (prunes (entry_of c.args.offered.now)) c.entry.ensures

pub invariant_of-rows : goal.invariant_of-rows
invariant_of-rows c = record { readable = c.requires.0 }

pub returns-then-prunes : goal.returns-then-prunes
returns-then-prunes c = rw (← asked (goal.at.returns-then-prunes c).After-prunes, c.if-prunes.true) record { value = refl; s_after = refl }

pub returns-then-i-k : goal.returns-then-i-k
returns-then-i-k c =
    let a = c.args in
    rw (← asked (goal.at.returns-then-i-k c).After-prunes, c.if-prunes.false)
    record { value = refl; s_after = stays_put a.sizes.limits a.sizes.capacity a.n a.s.now a.i a.k c.requires.0 c.requires.1 c.if-i-k.true }

pub move_rows-requires : goal.move_rows-requires
move_rows-requires c =
    let r = c.requires.0 in
    let e : c.shape.result.capacity ≡ c.args.sizes.capacity = ap (λ z. z.capacity) c.shape.ensures in
    (room_in _ _ _ c.shape.ensures r.room, omega (arith, r.count, c.requires), omega (arith, r.count, c.requires))

pub returns : goal.returns
returns c = rw (← asked (goal.at.returns c).After-prunes, c.if-prunes.false) record { value = refl; s_after = rw c.shape.ensures at c.move_rows.ensures }
