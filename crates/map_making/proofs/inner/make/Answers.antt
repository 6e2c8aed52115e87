-- Too small for the layout of no rules; or that layout is what the zeros and the four numbers leave.
use mathlib.Core.Path.{refl, ◌∙◌, ap}
use Rattle.number.specs.Overwriting.{overwrite, zeros}
use Rattle.map_law.proofs.FreshLaws.{fresh_small, fresh_written, fresh_made}
use Rattle.map_making.proofs.inner.make.Goals as goal

pub returns-then-out-length : goal.returns-then-out-length
returns-then-out-length c = let p = fresh_small _ _ _ c.sheet_length-length.ensures c.if-out-length.true in record { result_value = p.0; out_after = p.1 }

pub returns : goal.returns
returns c =
    let n = c.sheet_length-length in
    let cleared = c.zero.ensures ∙ ap (λ k. overwrite c.args.out.now 0 (zeros k)) n.ensures in
    let written = fresh_written _ _ _ _ _ _ _ cleared refl refl refl c.write_sizes.ensures in
    let p = fresh_made _ _ _ _ n.ensures c.if-out-length.false written in
    record { result_value = p.0; out_after = p.1 }
