-- Too small for the layout of no entries; or that layout is what the zeros and the five numbers leave.
use mathlib.Core.Path.{refl, ◌∙◌, ap}
use Rattle.willow.specs.Store.{Sizes}
use Rattle.number.specs.Overwriting.{overwrite, zeros}
use Rattle.store_making.proofs.FreshLaws.{fresh_small, fresh_written, fresh_made}
use Rattle.store_making.proofs.inner.make.Goals as goal
use Rattle.store_making.proofs.inner.make.Goals.{Start}

abbrev sizes : Start → Sizes
sizes c = record { limits = c.args.limits; capacity = c.args.capacity; namespace = c.args.namespace }

pub returns-then-out-length : goal.returns-then-out-length
returns-then-out-length c = let p = fresh_small (sizes (goal.at.returns-then-out-length c).Start) _ _ c.sheet_length-length.ensures c.if-out-length.true in record { result_value = p.0; out_after = p.1 }

pub returns : goal.returns
returns c = let p = let z = sizes (goal.at.returns c).Start in
    let n = c.sheet_length-length in
    let cleared = c.zero.ensures ∙ ap (λ k. overwrite c.args.out.now 0 (zeros k)) n.ensures in
    fresh_made z _ _ _ n.ensures c.if-out-length.false
    (fresh_written z _ _ _ _ _ _ _ cleared refl refl refl c.write_sizes.ensures c.write_u64.ensures) in record { result_value = p.0; out_after = p.1 }
