-- An offer as the code goes through it, a law for each way out: what is answered, and the bytes that are left. What the code read of
-- the header stands beside the sheet as numbers that are equal to its own.
use Prim.Native.Nat.{ℕ, ◌+◌, ◌-◌, ◌≤◌, ◌<◌}
use mathlib.Core.Path.{◌≡◌, refl, sym, ◌∙◌, ap}
use mathlib.Core.List.{List, ◌++◌, map}
use mathlib.Core.Logic.{◌⊎◌, inl, inr}
use mathlib.Core.Option.{none}
use mathlib.Core.Bool.{true, false}
use native.Mathlib.Omega.{arith}
use lib.Dec.{eqb}
use lib.ListN.{length, take, drop, length-map}
use borrow.Author.Tests.{lt-ltb, eqb-false}
use Rattle.std.specs.Prelude.{Result, Ok, Err}
use Rattle.willow.specs.declared.Limits.{Limits}
use Rattle.willow.specs.declared.Refusal.{Refusal}
use Rattle.willow.specs.declared.Refusal.TheVariants.{TotalFull}
use Rattle.willow.specs.Answers.{path_in, path_refusal}
use Rattle.willow.specs.Entries.{Entry}
use Rattle.willow.specs.Limits.{max_word}
use Rattle.willow.specs.Numbers.{Bytes, le}
use Rattle.willow.specs.Packed.{pack}
use Rattle.willow.specs.Paths.{Path}
use Rattle.willow.specs.Store.{Answer, refused, outdated, repeated, taken, payloads, left_by, file, answer_by, answer_entry, after_answer}
use Rattle.willow.proofs.AnswerLaws.{path_passed}
use Rattle.willow.proofs.PackedLaws.{unpack_valid}
use Rattle.willow.proofs.ValidLaws.{valid_take}
use Rattle.number.specs.Overwriting.{overwrite}
use Rattle.entry.specs.declared.Head.{Head}
use Rattle.entry.specs.Heads.{entry_at}
use Rattle.sheet.specs.Cells.{cell_size_of}
use Rattle.sheet.specs.Rows.{Shape, Row, rows_of, sheet_length, with_rows}
use Rattle.sheet.proofs.CellProofs.{cell_room}
use Rattle.sheet.proofs.LayoutLaws.{filled, length_used, filled_used}
use Rattle.store_form.specs.Stores.{store_shape, store_layout, entry_head, entry_row, sizes_in, count_in, held_in, let_go_in, entry_in, used_rows, state_in}
use Rattle.store_form.specs.StoreTest.{is_store}
use Rattle.store_form.proofs.ReadingLaws.{used_passed}
use Rattle.store_form.proofs.TestedLaws.{known}
use Rattle.store_rows.specs.EntryRows.{sizes_of, RowsReadable}
use Rattle.store_rows.proofs.RowEntryLaws.{store_readable}
use Rattle.store_scan.specs.declared.Scan.{Scan}
use Rattle.store_scan.specs.Scans.{nothing_met, scanned}
use Rattle.store_closing.specs.Filing.{stays_by, put_at}
use Rattle.store_answers.specs.declared.Offered.{Offered}
use Rattle.store_answers.specs.declared.Offered.TheVariants as offered
use Rattle.store_answers.specs.Calls.{answer_of}
use Rattle.store_writing.specs.Filed.{rows_left, filed_rows, with_counts}
use Rattle.store_taking.specs.Taking.{entry_answer, entry_leaves}
use Rattle.store_writing.proofs.FiledLaws.{with_at, length_with_at, map_with_at, closed_filled, put_filled}
use Rattle.store_taking.proofs.MeetingLaws as meeting
use Rattle.store_taking.proofs.NamedLaws.{rows_stay}
use Rattle.store_answers.proofs.TableLaws.{taken_means}
use Rattle.store_taking.proofs.WriteLaws.{as_found, let_go_put, counts_put}

-- THE PATH of an offer is packed in no more bytes than a cell has.
pub path_fits : (L : Limits) (b : List ℕ) (k : ℕ) → Bytes b → path_refusal L b k ≡ none → length (pack (path_in b k)) ≤ cell_size_of L
unfolding path_in
path_fits L b k bytes e = cell_room L _ (valid_take L k _ (unpack_valid L b (path_passed L b k e).1.formed bytes))

-- WHAT WAS READ of a header.
pub record Numbers : Type 0 where
  pub limits : Limits
  pub capacity : ℕ
  pub count : ℕ
  pub held : ℕ
  pub let_go : ℕ

abbrev pub numbers_in : List ℕ → Numbers
numbers_in s = record { limits = (sizes_in s).limits; capacity = (sizes_in s).capacity; count = count_in s; held = held_in s; let_go = let_go_in s }

module _ (s : List ℕ) (stored : is_store s ≡ true) (x : Numbers) (same : x ≡ numbers_in s) where
  pub totals : x.held + x.let_go ≤ max_word
  totals = rw same (known s stored).sizes.totals

  pub payloads_word : payloads (map (entry_in 0) (take x.count (rows_of (store_shape (sizes_of x.limits x.capacity)) s))) ≤ max_word
  payloads_word = rw same (meeting.payloads_word s stored)

  pub rows_readable : RowsReadable x.limits x.capacity x.count s
  rows_readable = rw same (store_readable s stored)

-- What is known of an offer that is filed: a row is free, its place is among the rows that are left, and the new numbers do not wrap.
pub record Filing (x : Numbers) (a : Scan) (o : Entry) (s : List ℕ) : Type 0 where
  pub free : length (rows_left x.limits x.capacity x.count o s) < x.capacity
  pub there : a.place ≤ length (rows_left x.limits x.capacity x.count o s)
  pub freed : a.freed ≤ x.held
  pub word : x.count - a.pruned + 1 ≤ max_word

-- THE ROWS of a store once an offer is filed at its place.
module _ (s : List ℕ) (b : Bytes s) (stored : is_store s ≡ true) (head : Head) (p : Path) where
  abbrev e : Entry
  e = entry_at (sizes_in s).namespace head p

  abbrev left : List Entry
  left = left_by e (state_in s).entries

  abbrev row : Entry → Row
  row = entry_row (sizes_in s).limits

  left_rows : rows_left (sizes_in s).limits (sizes_in s).capacity (count_in s) (entry_at 0 head p) s ≡ map row left
  unfolding state_in
  left_rows = rows_stay (sizes_in s).limits e (used_rows s) (used_passed s b (known s stored))

  left_count : length (rows_left (sizes_in s).limits (sizes_in s).capacity (count_in s) (entry_at 0 head p) s) ≡ length left
  left_count = ap length left_rows ∙ length-map left row

  same_row : entry_row (sizes_in s).limits (entry_at 0 head p) ≡ row e
  unfolding entry_row entry_head
  same_row = refl

  filed_rows_lem : (at : ℕ) → at ≤ length left → length left < (sizes_in s).capacity → file e left ≡ with_at at e left
      → filed_rows (sizes_in s).limits (sizes_in s).capacity (count_in s) at (entry_at 0 head p) s ≡ filled (store_shape (sizes_in s)) (map row (file e left))
  unfolding filed_rows
  filed_rows_lem at h k f =
      let z : Shape = store_shape (sizes_in s) in
      let o : Entry = entry_at 0 head p in
      let kept : List Row = rows_left (sizes_in s).limits (sizes_in s).capacity (count_in s) o s in
      let q = known s stored in
      let l = left_count in
      let all = sym (filled_used z s q.room (count_in s) q.sizes.count q.rows.heads_zero q.rows.cells_zero) in
      let used = length_used z s q.room (count_in s) q.sizes.count q.rows.heads_zero q.rows.cells_zero in
      ap (put_at at (length kept) (entry_row (sizes_in s).limits o)) (closed_filled z (stays_by o) (count_in s) (rows_of z s) (used_rows s) used q.sizes.count all)
      ∙ put_filled z kept at (entry_row (sizes_in s).limits o) (omega arith) (omega arith)
      ∙ (λ i. filled z (with_at at (same_row i) (left_rows i)))
      ∙ ap (filled z) (map_with_at row at e left ∙ ap (map row) (sym f))

  -- WHAT IS ANSWERED AND LEFT.
  abbrev pub Case : Answer → List ℕ → Type 0
  Case a u = (a ≡ entry_answer s e) × (u ≡ entry_leaves s e)

  case : (a : Answer) (u : List ℕ) → a ≡ entry_answer s e
      → u ≡ store_layout (sizes_in s) (after_answer (state_in s) e a) ++ drop (sheet_length (store_shape (sizes_in s))) s → Case a u
  unfolding entry_leaves
  case a u h k = (h, k ∙ ap (λ y. store_layout (sizes_in s) (after_answer (state_in s) e y) ++ drop (sheet_length (store_shape (sizes_in s))) s) h)

  module _ (x : Numbers) (same : x ≡ numbers_in s) where
    -- 13
    pub full : max_word - x.held - x.let_go < head.payload_length → Case (refused TotalFull) s
    unfolding answer_entry state_in
    full h =
        let eh : x.held ≡ held_in s = ap (λ y. y.held) same in
        let eg : x.let_go ≡ let_go_in s = ap (λ y. y.let_go) same in
        let over = lt-ltb max_word (held_in s + let_go_in s + head.payload_length) (omega (arith, totals s stored x same)) in
        case (refused TotalFull) s (sym (rw over)) (as_found s b stored)

    -- THE PASS.
    module _ (a : Scan) (scan : a ≡ scanned (entry_at 0 head p) nothing_met (map (entry_in 0) (take x.count (rows_of (store_shape (sizes_of x.limits x.capacity)) s)))) where
      scan_in : a ≡ scanned (entry_at 0 head p) nothing_met (map (entry_in 0) (used_rows s))
      scan_in = (rw same at scan)

      pub pruned_few : a.pruned ≤ x.count
      pruned_few = rw same (meeting.pruned_few s stored b head p a scan_in)

      module _ (room : head.payload_length ≤ max_word - x.held - x.let_go) (d : Result Offered Refusal)
          (decided : answer_of d ≡ answer_by false a.outdated a.repeat (eqb (x.count - a.pruned) x.capacity) a.pruned) where
        fits : held_in s + let_go_in s + head.payload_length ≤ max_word
        fits =
            let eh : x.held ≡ held_in s = ap (λ y. y.held) same in
            let eg : x.let_go ≡ let_go_in s = ap (λ y. y.let_go) same in
            omega (arith, totals s stored x same)

        answered : answer_of d ≡ entry_answer s e
        answered = (rw same at decided) ∙ meeting.answer_is s stored b head p a scan_in fits

        -- 14
        pub refused_so : (r : Refusal) → d ≡ Err r → Case (refused r) s
        refused_so r h = case (refused r) s (sym (ap answer_of h) ∙ answered) (as_found s b stored)

        -- not filed
        module _ (u : List ℕ) (written : u ≡ overwrite s 56 (le 8 (x.let_go + head.payload_length))) where
          let_go_lem : u ≡ store_layout (sizes_in s) (after_answer (state_in s) e outdated) ++ drop (sheet_length (store_shape (sizes_in s))) s
          unfolding state_in
          let_go_lem = (rw same at written) ∙ let_go_put s b stored (let_go_in s + head.payload_length)

          pub let_go_so : (o : Offered) → d ≡ Ok o → (o ≡ offered.Outdated) ⊎ (o ≡ offered.Repeat) → Case (answer_of (Ok o)) u
          let_go_so o h (inl f) = rw f (case outdated u (sym (ap answer_of (h ∙ ap Ok f)) ∙ answered) let_go_lem)
          let_go_so o h (inr f) = rw f (case repeated u (sym (ap answer_of (h ∙ ap Ok f)) ∙ answered) let_go_lem)

        -- filed
        module _ (k : ℕ) (h : d ≡ Ok (offered.Taken k)) where
          means : (a.outdated ≡ false) × (a.repeat ≡ false) × (eqb (x.count - a.pruned) x.capacity ≡ false) × (a.pruned ≡ k)
          means = taken_means a.outdated a.repeat (eqb (x.count - a.pruned) x.capacity) a.pruned k (sym decided ∙ ap answer_of h)

          left_is : count_in s - a.pruned ≡ length left
          left_is = meeting.left_is s stored b head p a scan_in means.0

          few : length left < (sizes_in s).capacity
          few =
              let l = left_is in
              let c = (known s stored).sizes.count in
              let other : count_in s - a.pruned ≡ (sizes_in s).capacity → ⊥ = eqb-false (count_in s - a.pruned) (sizes_in s).capacity (rw same at means.2) in
              omega arith

          place_within_lem : a.place ≤ length left
          place_within_lem = meeting.place_within_lem s stored b head p a scan_in means.0

          pub filing : Filing x a (entry_at 0 head p) s
          filing =
              let l = left_is in
              let k = left_count in
              let f = few in
              let w = place_within_lem in
              let c = (known s stored).sizes.capacity_accepted in
              rw same
              (record {
                free = omega arith;
                there = omega arith;
                freed = meeting.freed_held s stored b head p a scan_in means.0;
                word = omega arith;
              })

          filed : file e left ≡ with_at a.place e left
          filed = meeting.files_at s stored b head p a scan_in means.0 means.1

          pub taken_so : (u v : List ℕ)
              → u ≡ with_rows (store_shape (sizes_of x.limits x.capacity)) s (filed_rows x.limits x.capacity x.count a.place (entry_at 0 head p) s)
              → v ≡ with_counts (x.count - a.pruned + 1) (x.held + head.payload_length - a.freed) (x.let_go + a.freed) u → Case (taken k) v
          unfolding state_in
          taken_so u v eu ev =
              let z : Shape = store_shape (sizes_in s) in
              let n : ℕ = count_in s - a.pruned + 1 in
              let held : ℕ = held_in s + head.payload_length - a.freed in
              let g : ℕ = let_go_in s + a.freed in
              let count : n ≡ length (file e left) = ap (λ m. m + 1) left_is ∙ sym (ap length filed ∙ length_with_at a.place e left place_within_lem) in
              let rows = (rw same at eu) ∙ ap (with_rows z s) (filed_rows_lem a.place place_within_lem few filed) in
              case (taken k) v (sym (ap answer_of h) ∙ answered)
              ((rw same at ev) ∙ ap (with_counts n held g) rows ∙ counts_put s b stored (file e left) n held g count
              ∙ ap (λ m. store_layout (sizes_in s) (record { entries = file e left; held = held_in s + head.payload_length - m; let_go = let_go_in s + m }) ++ drop (sheet_length z) s)
              (meeting.freed_is s stored b head p a scan_in means.0))
