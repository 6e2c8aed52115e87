use Prim.Native.Nat.{suc, ◌+◌}
use mathlib.Core.Path.{◌≡◌, refl, ◌∙◌, ap}
use native.Mathlib.Omega.{arith}
use mathlib.Core.List.{[]}
use lib.ListN.{length, get_or, length-set}
use Rattle.packed.specs.LentPaths.{path_of}
use Rattle.keyform.specs.Texts.{slash, component_text, path_text}
use Rattle.keyshow.proofs.ShowLaws.{two_stored, nothing_left, rest_text, none_shown, all_shown, first_length, first_written, next_length, next_written}
use Rattle.keyshow.proofs.inner.put_path.Goals as goal
use Rattle.keyshow.proofs.inner.put_path.Goals.{After-component, In-loop-i, Then-k-eq0}

-- How long the text is: of no component; of the first and the rest; of what is left in a turn, a slash, a component and the rest.
empty_room : (c : Then-k-eq0) → length (path_text (path_of c.args.path)) ≡ 2
empty_room c = ap length (none_shown (path_of c.args.path) (omega (arith, c.component_count-k.ensures, c.if-k-eq0.true)))

first_room : (c : After-component)
    → length (path_text (path_of c.args.path)) ≡ length (component_text c.component.result.now) + length (rest_text (path_of c.args.path) 1)
first_room c = first_length _ _ (omega (arith, c.component_count-k.ensures, c.if-k-eq0.false)) c.component.ensures

next_room : (c : In-loop-i)
    → (let p = path_of c.args.path in
    let rest = rest_text p in
    let i = c.loop-i.i in
    length (rest i) ≡ suc (length (component_text (get_or p i [])) + length (rest (i + 1))))
next_room c = next_length _ _ c.loop-i.i (omega (arith, c.component_count-k.ensures, c.loop-i-test.true)) refl

pub bounds-out-to-then-k-eq0 : goal.bounds-out-to-then-k-eq0
bounds-out-to-then-k-eq0 c = let l = empty_room (goal.at.bounds-out-to-then-k-eq0 c).Then-k-eq0 in simp length-set (omega arith)

pub returns-then-k-eq0 : goal.returns-then-k-eq0
returns-then-k-eq0 c =
    let a = c.args in
    let e = none_shown (path_of a.path) (omega (arith, c.component_count-k.ensures, c.if-k-eq0.true)) in
    let l = empty_room (goal.at.returns-then-k-eq0 c).Then-k-eq0 in
    record { value = omega arith; out_after = rw e (two_stored a.out.now a.to _ _ (omega arith)) }

pub put_component-at-requires : goal.put_component-at-requires
put_component-at-requires c = omega (arith, first_room (goal.at.put_component-at-requires c).After-component)

pub loop-i-init : goal.loop-i-init
loop-i-init c =
    let l = first_room (goal.at.loop-i-init c).After-component in
    let k = c.put_component-at.auto in
    (refl, omega arith, refl, refl)

pub bounds-out-at : goal.bounds-out-at
bounds-out-at c = omega (arith, next_room (goal.at.bounds-out-at c).In-loop-i)

pub put_component-at-requires-in-loop-i : goal.put_component-at-requires-in-loop-i
put_component-at-requires-in-loop-i c =
    let l = next_room (goal.at.put_component-at-requires-in-loop-i c).In-loop-i in
    let r = ap (λ x. length (component_text x)) c.component-in-loop-i.ensures in
    simp length-set (omega arith)

pub loop-i-preserved : goal.loop-i-preserved
loop-i-preserved c =
    let l = next_room (goal.at.loop-i-preserved c).In-loop-i in
    let r = ap (λ x. length (component_text x)) c.component-in-loop-i.ensures in
    let k = c.put_component-at-in-loop-i.auto in
    let m = length-set c.loop-i.out c.loop-i.at slash in
    let written = next_written _ _ c.loop-i.i (omega (arith, c.component_count-k.ensures, c.loop-i-test.true)) c.component-in-loop-i.ensures c.loop-i.out _ c.loop-i.at _ c.put_component-at-in-loop-i.ensures.value (omega arith) c.put_component-at-in-loop-i.ensures.out_after in
    (omega arith, omega arith, omega arith, written ∙ c.loop-i.invariant.3)

pub returns : goal.returns
returns c =
    let l = first_room (goal.at.returns c).After-component in
    let none_left = all_shown (path_of c.args.path) c.loop-i.i (omega (arith, c.component_count-k.ensures, c.loop-i-test.false)) in
    let n = ap length none_left in
    let behind = nothing_left c.loop-i.out _ _ c.loop-i.at none_left c.loop-i.invariant.3 in
    record { value = omega arith; out_after = first_written _ _ (omega (arith, c.component_count-k.ensures, c.if-k-eq0.false)) c.component.ensures c.args.out.now _ _ c.args.to _ c.put_component-at.ensures.value (omega arith) c.put_component-at.ensures.out_after behind }
