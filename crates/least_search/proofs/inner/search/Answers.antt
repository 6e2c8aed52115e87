-- Of the components that are left the last is lengthened, raised at its last byte below ff, or passed over.
use Rattle.std.proofs.Common.{◌∙◌, ap, arith, sym}
use Rattle.willow.specs.Paths.{path_length}
use Rattle.least_search.proofs.RaiseLaws.{last_left, lengthened, nothing_left, passed_over, raised}
use Rattle.least_search.proofs.inner.search.Goals as goal

pub components-preserved : goal.components-preserved
components-preserved c = (
  c.loop-j.invariant.0,
  sym (passed_over _ _ _ (omega arith) _ _ c.component-c.ensures (c.path_length-end.ensures ∙ ap path_length c.prefix.ensures.path)
      (sym c.has_room.ensures ∙ c.if-has_room.false) (λ k h. c.loop-j.invariant.1 k (omega arith) h))
      ∙ sym (last_left _ _ _ (omega arith)) ∙ c.components.invariant.1,
)

pub returns-after-components-clause-path : goal.returns-after-components-clause-path
returns-after-components-clause-path c =
    rw c.components.invariant.0 (sym c.components.invariant.1 ∙ nothing_left _ _ _ (omega (arith, c.components-test.false)))

pub returns-then-has_room-clause-path : goal.returns-then-has_room-clause-path
returns-then-has_room-clause-path c =
    sym c.components.invariant.1
    ∙ last_left _ _ _ (omega arith)
    ∙ lengthened _ _ _ (omega arith) _ _ c.component-c.ensures (c.path_length-end.ensures ∙ ap path_length c.prefix.ensures.path)
    (sym c.has_room.ensures ∙ c.if-has_room.true)

pub returns-then-c-j-lt255-clause-path : goal.returns-then-c-j-lt255-clause-path
returns-then-c-j-lt255-clause-path c =
    sym c.components.invariant.1
    ∙ last_left _ _ _ (omega arith)
    ∙ raised _ _ _ (omega arith) _ _ c.component-c.ensures (c.path_length-end.ensures ∙ ap path_length c.prefix.ensures.path)
    (sym c.has_room.ensures ∙ c.if-has_room.false) _ (omega arith) c.if-c-j-lt255.true (λ k h l. c.loop-j.invariant.1 k (omega arith) l)
