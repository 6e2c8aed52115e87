-- No store, no such entry, or the one of row i.
use Rattle.std.proofs.Common.{◌≡◌, ◌<◌, ◌∙◌, sym, ap, arith, rules, lt-ltb, le-ltb}
use Rattle.std.specs.Prelude.{Err}
use Rattle.willow.specs.Packed.{pack}
use Rattle.willow.specs.Refusals.{refused, value}
use Rattle.willow.proofs.NumberLaws.{bytes_by_index}
use Rattle.store_form.specs.Stores.{count_in}
use Rattle.store_reading.specs.Held.{entry_outcome}
use Rattle.store_reading.proofs.EntryAtLaws.{found, found_whole}
use Rattle.store_reading.proofs.ReadCallLaws.{entry_bad, entry_none, entry_there}
use Rattle.store_reading.proofs.inner.find.Goals as goal

pub returns-in_err-rows-clause-found : goal.returns-in_err-rows-clause-found
returns-in_err-rows-clause-found c =
    let e : c.from_residual.result ≡ Err c.in_err-rows.field-0.0 = search rules in
    let x = c.in_err-rows.ensures.err in
    ap entry_outcome e ∙ ap refused x.1 ∙ entry_bad _ x.0 _

pub returns-then-rows-i-clause-found : goal.returns-then-rows-i-clause-found
returns-then-rows-i-clause-found c =
    let k = c.in_ok-rows.ensures.ok in
    entry_none _ k.0 (bytes_by_index c.args.sheet.now (λ j. (c.type_inv.sheet j).fits)) _ (le-ltb _ _ (omega (arith, k.1.1.1.1, c.if-rows-i.true)))

pub returns-clause-found : goal.returns-clause-found
returns-clause-found c =
    let k = c.in_ok-rows.ensures.ok in
    let b = bytes_by_index c.args.sheet.now (λ j. (c.type_inv.sheet j).fits) in
    let h : c.args.i < count_in c.args.sheet.now = omega (arith, k.1.1.1.1, c.if-rows-i.false) in
    ap value (found _ k.0 b _ h c.in_ok-rows.rows k.1 (record { namespace = c.read_u64.result; head = c.head.result; path = c.path.result }) c.read_u64.ensures c.head.ensures c.path.ensures.path) ∙ entry_there _ k.0 b _ (lt-ltb _ _ h)

pub returns-clause-whole : goal.returns-clause-whole
returns-clause-whole c =
    let k = c.in_ok-rows.ensures.ok in
    let b = bytes_by_index c.args.sheet.now (λ j. (c.type_inv.sheet j).fits) in
    let h : c.args.i < count_in c.args.sheet.now = omega (arith, k.1.1.1.1, c.if-rows-i.false) in
    found_whole _ k.0 b _ h c.in_ok-rows.rows k.1 _ c.path.ensures.bytes ∙ sym (ap (λ e. pack e.path) (found _ k.0 b _ h c.in_ok-rows.rows k.1 (record { namespace = c.read_u64.result; head = c.head.result; path = c.path.result }) c.read_u64.ensures c.head.ensures c.path.ensures.path))
