-- A dash, or hexadecimal: each return is one law.
use Rattle.std.proofs.Common.{◌≡◌, true, false, length, [], refl, sym, ◌∙◌, arith, rules}
use Rattle.number.proofs.OverwritingLaws.{overwrite_nil}
use Rattle.keyform.specs.Reading.{is_dash}
use Rattle.keyread.proofs.PieceLaws.{dash_same, component_dash, component_hex, component_of_hex}
use Rattle.keyread.proofs.inner.read_component.Goals as goal

pub returns-then-eq : goal.returns-then-eq
returns-then-eq c =
    let some_byte : length c.args.s.now ≡ 0 → ⊥ = λ e. search rules in
    let d : is_dash c.args.s.now ≡ true = dash_same c.args.s.now ∙ rw (← c.as_slice.ensures) (sym c.eq.ensures ∙ c.if-eq.true) in
    ([], component_dash c.args.s.now some_byte d, sym (overwrite_nil _ _), refl, omega arith, omega arith)

pub returns : goal.returns
returns c =
    let some_byte : length c.args.s.now ≡ 0 → ⊥ = λ e. search rules in
    let d : is_dash c.args.s.now ≡ false = dash_same c.args.s.now ∙ rw (← c.as_slice.ensures) (sym c.eq.ensures ∙ c.if-eq.false) in
    component_of_hex _ _ _ _ _ (component_hex c.args.s.now some_byte d) some_byte c.read_hex.ensures
