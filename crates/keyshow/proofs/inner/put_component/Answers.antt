-- An empty component's text is a dash, and any other's the digits of its bytes.
use mathlib.Core.Path.{◌≡◌, ap}
use native.Mathlib.Omega.{arith}
use borrow.Author.Rules.{rules}
use lib.ListN.{length}
use Rattle.number.proofs.OverwritingLaws.{store_overwrite}
use Rattle.keyshow.proofs.ShowLaws.{component_dash, component_hex}
use Rattle.keyshow.proofs.inner.put_component.Goals as goal

pub bounds-out-to : goal.bounds-out-to
bounds-out-to c =
    let empty : length c.args.c.now ≡ 0 = search rules in
    omega (arith, ap length (component_dash _ empty))

pub returns-then-is_empty : goal.returns-then-is_empty
returns-then-is_empty c =
    let a = c.args in
    let empty : length c.args.c.now ≡ 0 = search rules in
    let e = component_dash _ empty in
    let l = ap length e in
    record { value = omega arith; out_after = rw e (store_overwrite a.out.now a.to _ (omega arith)) }

pub put_hex-requires : goal.put_hex-requires
put_hex-requires c =
    let some_byte : length c.args.c.now ≡ 0 → ⊥ = λ e. search rules in
    rw (← component_hex _ some_byte) c.requires

pub returns : goal.returns
returns c =
    let some_byte : length c.args.c.now ≡ 0 → ⊥ = λ e. search rules in
    rw (component_hex _ some_byte) record { value = c.put_hex.ensures.value; out_after = c.put_hex.ensures.out_after }
