-- The part from record i's first byte to its last is the record.
use Prim.Native.Nat.{ℕ, ◌+◌, ◌-◌, ◌*◌}
use mathlib.Core.Path.{◌≡◌, sym, ◌∙◌, ap}
use native.Mathlib.Omega.{arith}
use lib.ListN.{take, drop}
use Rattle.number.proofs.RecordLaws.{record_is}
use Rattle.sheet.proofs.inner.record_part.Goals as goal

pub returns : goal.returns
returns c =
    let s = c.args in
    let at : ℕ = s.base + s.size * s.i in
    let width : at + s.size - at ≡ s.size = omega arith in
    ap (λ n. take n (drop at s.s.now)) width ∙ sym (record_is s.base s.size s.i s.s.now)
