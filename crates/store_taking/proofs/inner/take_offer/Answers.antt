-- One law for each way out: the totals are full; or what the pass met decides, and nothing, let-go, or the rows and all counts are written.
use Rattle.std.proofs.Common.{◌≡◌, ap, ◌∙◌, arith, rules}
use Rattle.std.specs.Prelude.{Ok, Err}
use Rattle.willow.specs.Numbers.{Bytes}
use Rattle.willow.proofs.NumberLaws.{bytes_by_index}
use Rattle.packed.specs.LentPaths.{path_of}
use Rattle.entry.specs.Heads.{entry_at}
use Rattle.store_form.proofs.TestedLaws.{known}
use Rattle.store_answers.specs.Calls.{answer_of}
use Rattle.store_taking.proofs.TakingLaws.{Numbers, numbers_in, totals, payloads_word, rows_readable, Filing, full, pruned_few, refused_so, let_go_so, filing, taken_so}
use Rattle.store_taking.proofs.inner.take_offer.Goals as goal
use Rattle.store_taking.proofs.inner.take_offer.Goals.{After-read_u64-let_go, In-Taken}

-- the bytes of the sheet, and what was read of them
bytes : (c : After-read_u64-let_go) → Bytes c.args.sheet.now
bytes c = bytes_by_index c.args.sheet.now (λ i. (c.slice_known-1.given i).fits)

abbrev read : After-read_u64-let_go → Numbers
read c = record { limits = c.read-sizes.result.limits; capacity = c.read-sizes.result.capacity; count = c.read_u64-n.result; held = c.read_u64-held.result; let_go = c.read_u64-let_go.result }

same : (c : After-read_u64-let_go) → read c ≡ numbers_in c.args.sheet.now
same c = λ i. record { limits = c.read-sizes.ensures.0 i; capacity = c.read-sizes.ensures.1 i; count = c.read_u64-n.ensures i; held = c.read_u64-held.ensures i; let_go = c.read_u64-let_go.ensures i }

-- an offer that is filed
filed : (c : In-Taken) → Filing (read (goal.at-In-Taken c).After-read_u64-let_go) c.scan_rows-met.result (entry_at 0 c.args.head (path_of c.args.path)) c.args.sheet.now
filed c =
    let t = (goal.at-In-Taken c).After-read_u64-let_go in
    filing c.args.sheet.now (bytes t) c.requires.0 c.args.head (path_of c.args.path) (read t) (same t) c.scan_rows-met.result c.scan_rows-met.ensures c.if-held-let_go.false
    c.decided.result c.decided.ensures _ (c.in_ok-answer.was ∙ ap Ok c.in-Taken.is)

pub read-sizes-requires : goal.read-sizes-requires
read-sizes-requires c = (known c.args.sheet.now c.requires.0).long

pub read_u64-n-requires : goal.read_u64-n-requires
read_u64-n-requires c = omega (arith, (known c.args.sheet.now c.requires.0).long)

pub read_u64-held-requires : goal.read_u64-held-requires
read_u64-held-requires c = omega (arith, (known c.args.sheet.now c.requires.0).long)

pub read_u64-let_go-requires : goal.read_u64-let_go-requires
read_u64-let_go-requires c = omega (arith, (known c.args.sheet.now c.requires.0).long)

pub overflow_sub-held-2 : goal.overflow_sub-held-2
overflow_sub-held-2 c = omega (arith, totals c.args.sheet.now c.requires.0 _ (same (goal.at.overflow_sub-held-2 c).After-read_u64-let_go))

pub returns-then-held-let_go : goal.returns-then-held-let_go
returns-then-held-let_go c =
    let t = (goal.at.returns-then-held-let_go c).After-read_u64-let_go in
    let p = full c.args.sheet.now (bytes t) c.requires.0 c.args.head (path_of c.args.path) (read t) (same t) c.if-held-let_go.true in
    record { result_value = p.0; sheet_after = p.1 }

pub invariant_of-rows : goal.invariant_of-rows
invariant_of-rows c = record { readable = rows_readable c.args.sheet.now c.requires.0 _ (same (goal.at.invariant_of-rows c).After-read_u64-let_go) }

pub scan_rows-met-requires : goal.scan_rows-met-requires
scan_rows-met-requires c = payloads_word c.args.sheet.now c.requires.0 _ (same (goal.at.scan_rows-met-requires c).After-read_u64-let_go)

pub overflow_sub-left : goal.overflow_sub-left
overflow_sub-left c =
    let t = (goal.at.overflow_sub-left c).After-read_u64-let_go in
    pruned_few c.args.sheet.now (bytes t) c.requires.0 c.args.head (path_of c.args.path) (read t) (same t) c.scan_rows-met.result c.scan_rows-met.ensures

pub returns-in_err-answer : goal.returns-in_err-answer
returns-in_err-answer c =
    let t = (goal.at.returns-in_err-answer c).After-read_u64-let_go in
    let e : c.from_residual.result ≡ Err c.in_err-answer.field-0.0 = search rules in
    let p = refused_so c.args.sheet.now (bytes t) c.requires.0 c.args.head (path_of c.args.path) (read t) (same t) c.scan_rows-met.result c.scan_rows-met.ensures
    c.if-held-let_go.false c.decided.result c.decided.ensures _ c.in_err-answer.was in
    record { result_value = ap answer_of e ∙ p.0; sheet_after = p.1 }

pub let_go_more-requires : goal.let_go_more-requires
let_go_more-requires c =
    let t = (goal.at.let_go_more-requires c).After-read_u64-let_go in
    (omega (arith, (known c.args.sheet.now c.requires.0).long), omega (arith, totals c.args.sheet.now c.requires.0 _ (same t), c.if-held-let_go.false))

pub returns-in-Outdated : goal.returns-in-Outdated
returns-in-Outdated c =
    let t = (goal.at.returns-in-Outdated c).After-read_u64-let_go in
    let p = let_go_so c.args.sheet.now (bytes t) c.requires.0 c.args.head (path_of c.args.path) (read t) (same t) c.scan_rows-met.result c.scan_rows-met.ensures
    c.if-held-let_go.false c.decided.result c.decided.ensures _ c.let_go_more.ensures _ c.in_ok-answer.was c.in-Outdated.is in
    record { result_value = p.0; sheet_after = p.1 }

pub file_rows-requires : goal.file_rows-requires
file_rows-requires c =
    let t = (goal.at.file_rows-requires c).After-read_u64-let_go in
    let f = filed (goal.at.file_rows-requires c).In-Taken in
    record {
      rows_readable = (rows_readable c.args.sheet.now c.requires.0 _ (same t), rw c.read-sizes.ensures.0 c.requires.1);
      sheet_len_bound = (f.free, f.there);
    }

pub overflow_sub-held-in-Taken : goal.overflow_sub-held-in-Taken
overflow_sub-held-in-Taken c = omega (arith, (filed (goal.at.overflow_sub-held-in-Taken c).In-Taken).freed)

pub overflow_add-let_go : goal.overflow_add-let_go
overflow_add-let_go c =
    let t = (goal.at.overflow_add-let_go c).After-read_u64-let_go in
    omega (arith, (filed (goal.at.overflow_add-let_go c).In-Taken).freed, totals c.args.sheet.now c.requires.0 _ (same t))

pub set_counts-requires : goal.set_counts-requires
set_counts-requires c = omega (arith, c.file_rows.auto.sheet, (known c.args.sheet.now c.requires.0).long)

pub returns-in-Taken : goal.returns-in-Taken
returns-in-Taken c =
    let t = (goal.at.returns-in-Taken c).After-read_u64-let_go in
    let p = taken_so c.args.sheet.now (bytes t) c.requires.0 c.args.head (path_of c.args.path) (read t) (same t) c.scan_rows-met.result c.scan_rows-met.ensures
    c.if-held-let_go.false c.decided.result c.decided.ensures _ (c.in_ok-answer.was ∙ ap Ok c.in-Taken.is) _ _ c.file_rows.ensures c.set_counts.ensures in
    record { result_value = ap (λ o. answer_of (Ok o)) c.in-Taken.is ∙ p.0; sheet_after = p.1 }
