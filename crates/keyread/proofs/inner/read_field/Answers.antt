use Rattle.std.proofs.Common.{refl, sym, ◌∙◌, arith, rules}
use Rattle.keyform.specs.Reading.{read_field}
use Rattle.keyread.proofs.DigitLaws.{digits_fit, digits_more, field_ended, field_on, field_empty, field_full, field_below, field_above}
use Rattle.keyread.proofs.inner.read_field.Goals as goal
use Rattle.keyread.proofs.inner.read_field.Goals.{in_default-via-in-32+else-i-gt0, in_default-via-in_default+then-b-lt48, in_default-via-in-48-to-57+else-i-lt-MOST_DIGITS, in_default-via-in_default+else-b-lt48+else-b-lt58}

pub loop-i-init : goal.loop-i-init
unfolding read_field
loop-i-init c = (refl, omega arith, omega arith)

pub returns-in-32-clause-value : goal.returns-in-32-clause-value
returns-in-32-clause-value c = sym (field_ended _ _ _ _ c.loop-i-test.true refl c.in-32.is c.if-i-gt0.true) ∙ c.loop-i.invariant.0

pub overflow_mul-v : goal.overflow_mul-v
overflow_mul-v c = let k = digits_fit _ _ c.loop-i.invariant.1 c.loop-i.invariant.2 in omega arith

pub overflow_add-v : goal.overflow_add-v
overflow_add-v c = let k = digits_fit _ _ c.loop-i.invariant.1 c.loop-i.invariant.2 in let t = c.type_inv.line c.loop-i.i in let r = c.from.ensures in search rules

pub returns-in_default-clause-value : goal.returns-in_default-clause-value
returns-in_default-clause-value c =
    elim c.in_default.branch [ in_default-via-in-32+else-i-gt0 w ↦ sym (field_empty _ _ _ _ c.loop-i-test.true refl w.in-32.is w.if-i-gt0.false) ∙ c.loop-i.invariant.0 | in_default-via-in_default+then-b-lt48 w ↦ sym (field_below c.args.line.now c.loop-i.i c.loop-i.v _ c.loop-i-test.true refl (omega arith) (omega arith)) ∙ c.loop-i.invariant.0 | in_default-via-in-48-to-57+else-i-lt-MOST_DIGITS w ↦ sym (field_full c.args.line.now c.loop-i.i c.loop-i.v _ c.loop-i-test.true refl (omega arith) (omega arith) w.if-i-lt-MOST_DIGITS.false) ∙ c.loop-i.invariant.0 | in_default-via-in_default+else-b-lt48+else-b-lt58 w ↦ sym (field_above c.args.line.now c.loop-i.i c.loop-i.v _ c.loop-i-test.true refl (omega arith)) ∙ c.loop-i.invariant.0 ]

pub loop-i-preserved : goal.loop-i-preserved
loop-i-preserved c =
    let on = field_on c.args.line.now c.loop-i.i c.loop-i.v _ c.loop-i-test.true refl (omega arith) (omega arith) c.if-i-lt-MOST_DIGITS.true in
    let e = c.from.ensures in
    (rw e (sym on ∙ c.loop-i.invariant.0), omega arith, rw e (digits_more c.loop-i.i c.loop-i.v _ c.loop-i.invariant.2 (omega arith)))
