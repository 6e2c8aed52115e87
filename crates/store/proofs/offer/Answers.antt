-- One law for each way out: no store, another namespace, no path, or as the inner function answers for the entry that is offered.
use Rattle.std.proofs.Common.{◌≡◌, ap, ◌∙◌, rules}
use Rattle.std.specs.Prelude.{Err}
use Rattle.willow.specs.Answers.{path_in}
use Rattle.willow.specs.Numbers.{Bytes}
use Rattle.willow.specs.Store.{Offer, refused}
use Rattle.willow.proofs.NumberLaws.{bytes_by_index}
use Rattle.packed.specs.LentPaths.{path_of}
use Rattle.entry.specs.Heads.{entry_at}
use Rattle.store_form.specs.Stores.{sizes_in}
use Rattle.store_answers.specs.Calls.{answer_of, offer_of}
use Rattle.store_taking.specs.Taking.{entry_answer, entry_leaves}
use Rattle.store_taking.proofs.TakingLaws.{path_fits}
use Rattle.store.proofs.OfferLaws.{not_a_store, wrong_namespace_lem, path_refused, as_entry, fits_as}
use Rattle.store.proofs.offer.Goals as goal
use Rattle.store.proofs.offer.Goals.{After-lend, Start}

bytes : (c : After-lend) → Bytes c.args.sheet.now
bytes c = bytes_by_index c.args.sheet.now (λ i. (c.slice_known-1.given i).fits)

abbrev called : Start → Offer
called c = offer_of c.args.namespace c.args.head c.args.path.now c.args.count

pub returns-in_err-limits : goal.returns-in_err-limits
returns-in_err-limits c =
    let g = goal.at.returns-in_err-limits c in
    let e : c.from_residual.result ≡ Err c.in_err-limits.field-0.0 = search rules in
    let x = c.in_err-limits.ensures.err in
    let p = not_a_store _ (called g.Start) (bytes g.After-lend) x.0 in
    record { result_value = ap answer_of e ∙ ap refused x.1 ∙ p.0; sheet_after = p.1 }

pub returns-then-read_u64-namespace : goal.returns-then-read_u64-namespace
returns-then-read_u64-namespace c =
    let g = goal.at.returns-then-read_u64-namespace c in
    let p = wrong_namespace_lem _ (called g.Start) (bytes g.After-lend) c.in_ok-limits.ensures.ok.0 _ c.read_u64.ensures c.if-read_u64-namespace.true in
    record { result_value = p.0; sheet_after = p.1 }

pub returns-in_err-path : goal.returns-in_err-path
returns-in_err-path c =
    let g = goal.at.returns-in_err-path c in
    let e : c.from_residual-in_err-path.result ≡ Err c.in_err-path.field-0.0 = search rules in
    let k = c.in_ok-limits.ensures.ok in
    let p = path_refused _ (called g.Start) (bytes g.After-lend) k.0 _ c.read_u64.ensures c.if-read_u64-namespace.false _ k.1.1.0 _ c.in_err-path.ensures.err in
    record { result_value = ap answer_of e ∙ p.0; sheet_after = p.1 }

pub take_offer-requires : goal.take_offer-requires
take_offer-requires c =
    let k = c.in_ok-limits.ensures.ok in
    let m = c.in_ok-path.ensures.ok in
    (k.0, fits_as _ _ _ _ _ _ k.1.1.0 m.1.0 m.1.1 (path_fits _ _ _ (bytes_by_index c.args.path.now (λ i. (c.type_inv.path i).fits)) m.0))

pub returns : goal.returns
returns c =
    let g = goal.at.returns c in
    let s = c.args.sheet.now in
    let k = c.in_ok-limits.ensures.ok in
    let m = c.in_ok-path.ensures.ok in
    let q : path_of c.in_ok-path.path ≡ path_in c.args.path.now c.args.count = λ i. path_in (m.1.0 i) (m.1.1 i) in
    let n = (sizes_in s).namespace in
    let p = as_entry _ (called g.Start) (bytes g.After-lend) k.0 _ c.read_u64.ensures c.if-read_u64-namespace.false _ k.1.1.0 m.0 _ _ (
      c.take_offer.ensures.result_value ∙ ap (λ y. entry_answer s (entry_at n c.args.head y)) q,
      c.take_offer.ensures.sheet_after ∙ ap (λ y. entry_leaves s (entry_at n c.args.head y)) q,
    ) in
    record { result_value = p.0; sheet_after = p.1 }
