use Prim.Native.Nat.{◌-◌, min}
use mathlib.Core.Path.{◌≡◌, refl, sym, ◌∙◌}
use native.Mathlib.Omega.{arith}
use Rattle.greatest.proofs.GreatestLaws.{lengths_start, lengths_on, lengths_end}
use Rattle.greatest.proofs.put_lengths.Goals as goal

pub loop-i-init : goal.loop-i-init
loop-i-init c = record { rest = lengths_start _ _; within = omega arith; same_length = refl }

pub loop-i-preserved : goal.loop-i-preserved
loop-i-preserved c =
    let b = c.loop-i in
    let i = b.invariant in
    let k = c.write_u64.auto in
    let same = i.same_length in
    let within = i.within in
    let n : c.min-sum.result ≡ min c.args.limits.mcl (c.args.limits.mpl - b.sum) = omega (arith, c.min-sum.ensures) in
    record {
      rest = lengths_on _ _ _ _ _ _ _ _ _ _ (omega arith) (omega arith) within n (omega arith) c.write_u64.ensures ∙ i.rest;
      within = omega arith;
      same_length = omega arith;
    }

pub returns : goal.returns
returns c = let b = c.loop-i in sym (lengths_end _ _ b.sum _ _ b.out (omega arith)) ∙ b.invariant.rest
