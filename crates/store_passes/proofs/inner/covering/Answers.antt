use Rattle.std.proofs.Common.{◌≡◌, ◌-◌, ◌+◌, refl, sym, ◌∙◌, ap, arith}
use Rattle.store_form.specs.Apart.{covering}
use Rattle.store_rows.specs.HeldRows.{held_entry}
use Rattle.store_passes.specs.Positions.{entries_at}
use Rattle.store_passes.proofs.CarryLaws.{covering_stop, covering_next}
use Rattle.store_passes.proofs.inner.covering.Goals as goal

pub loop-k-init : goal.loop-k-init
loop-k-init c = refl

pub covers-requires : goal.covers-requires
covers-requires c = (omega (arith, c.requires.1.below (c.loop-k.k - 1) (omega arith), c.requires.0), c.requires.0)

pub returns-then-covers : goal.returns-then-covers
returns-then-covers c =
    let e : c.loop-k.k - 1 + 1 ≡ c.loop-k.k = omega arith in (
      omega arith,
      ap (entries_at c.args.rows c.args.carried.now) e
          ∙ sym (covering_stop c.args.rows c.args.carried.now (held_entry c.args.rows c.args.i) _ c.loop-k-test.true _ c.covers.ensures c.if-covers.true)
          ∙ c.loop-k.invariant,
    )

pub loop-k-preserved : goal.loop-k-preserved
loop-k-preserved c =
    sym (covering_next c.args.rows c.args.carried.now (held_entry c.args.rows c.args.i) _ c.loop-k-test.true _ c.covers.ensures c.if-covers.false) ∙ c.loop-k.invariant

pub returns : goal.returns
returns c =
    let z : c.loop-k.k ≡ 0 = omega arith in
    (omega arith, ap (λ d. covering (held_entry c.args.rows c.args.i) (entries_at c.args.rows c.args.carried.now d)) (sym z) ∙ c.loop-k.invariant)
