-- The part fits behind what is held, or the line is too long with it, or was so already.
use Rattle.std.proofs.Common.{◌≡◌, ◌≤◌, ◌+◌, ◌<◌, ◌∙◌, ap, arith, length, take, None, rules, sym}
use Rattle.std.proofs.lemmas.List.{length-take-le}
use Rattle.number.proofs.OverwritingLaws.{take_written}
use Rattle.keyform.specs.Answering.{kept}
use Rattle.keyform.specs.Wording.{max_line}
use Rattle.keyinput.proofs.HeldLaws.{longer_fits, longer_passes, longer_overlong}
use Rattle.keyinput.proofs.inner.Pending.extend.Goals as goal

pub returns-in_default : goal.returns-in_default
returns-in_default c =
    let z : c.args.self.now.held ≡ None = search rules in
    rw z (sym (longer_overlong c.args.part.now))

pub returns-then-n-part : goal.returns-then-n-part
returns-then-n-part c =
    let bytes = c.args.self.now.bytes in
    let n = c.in-Some.n in
    let whole : length bytes ≡ max_line = search rules in
    let w : n ≤ max_line = c.args.self.now.within n c.in-Some.is in
    let l = length-take-le n bytes (omega arith) in
    let passes : max_line < n + length c.args.part.now = search rules in
    rw c.in-Some.is (sym (longer_passes (take n bytes) c.args.part.now (omega arith) (omega arith)))

pub returns : goal.returns
returns c =
    let bytes = c.args.self.now.bytes in
    let n = c.in-Some.n in
    let whole : length bytes ≡ max_line = search rules in
    let w : n ≤ max_line = c.args.self.now.within n c.in-Some.is in
    let l = length-take-le n bytes (omega arith) in
    let fits : n + length c.args.part.now ≤ max_line = search rules in
    rw (c.in-Some.is, c.put.ensures)
    (ap kept (take_written bytes n c.args.part.now (omega arith)) ∙ sym (longer_fits (take n bytes) c.args.part.now (omega arith)))
