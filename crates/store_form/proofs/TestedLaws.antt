-- The test of a store, taken apart into what it says of the bytes, for sizes and totals that stand beside it.
use Prim.Native.Nat.{ℕ, ◌+◌, ◌*◌, ◌-◌, ◌≤◌}
use mathlib.Core.Path.{◌≡◌, refl, sym, ◌∙◌}
use mathlib.Core.Logic.{◌↔◌}
use mathlib.Core.List.{List, [], map}
use mathlib.Core.Bool.{Bool, true, ◌&&◌}
use lib.Dec.{eqb, leb}
use lib.ListN.{length, take, drop}
use borrow.Author.Tests.{leb-true, le-leb, eqb-true, eq-eqb}
use Rattle.willow.specs.declared.Limits.{Limits}
use Rattle.willow.specs.Entries.{Entry}
use Rattle.willow.specs.Limits.{Accepted, max_capacity, max_word}
use Rattle.willow.specs.Lists.{All}
use Rattle.willow.specs.Store.{Sizes, payloads}
use Rattle.willow.proofs.Bools.{both_true}
use Rattle.willow.proofs.LimitLaws.{limit_laws}
use Rattle.willow.proofs.ListLaws.{every_means}
use Rattle.number.specs.Overwriting.{all_zero}
use Rattle.sheet.specs.Cells.{cell_fits}
use Rattle.sheet.specs.Rows.{Shape, cell, Room, rows_of, cells_from, sheet_length}
use Rattle.store_form.specs.Apart.{ascends, clear_from}
use Rattle.store_form.specs.Stores.{store_numbers, store_shape, sizes_in, count_in, held_in, let_go_in, entry_in}
use Rattle.store_form.specs.StoreTest.{entries_fit, rows_fit, sizes_fit, is_store}

-- THE ENTRIES.
pub record EntriesTested (held : ℕ) (es : List Entry) : Type 0 where
  pub ascending : ascends es ≡ true
  pub clear : clear_from [] es ≡ true
  pub held_sum : payloads es ≡ held

entries_tested : (held : ℕ) (es : List Entry) → (entries_fit held es ≡ true) ↔ EntriesTested held es
unfolding entries_fit
entries_tested held es = (
  λ h.
      let a = both_true (ascends es) (clear_from [] es && eqb (payloads es) held) h in
      let b = both_true (clear_from [] es) (eqb (payloads es) held) a.1 in
      record { ascending = a.0; clear = b.0; held_sum = eqb-true (payloads es) held b.1 },
  λ t. rw (t.ascending, t.clear) (eq-eqb (payloads es) held t.held_sum),
)

-- THE ROWS in use and the others.
pub record RowsTested (L : Limits) (z : Shape) (n held : ℕ) (s : List ℕ) : Type 0 where
  pub cells_fit : All (λ r. cell_fits L (cell r) ≡ true) (take n (rows_of z s))
  pub entries : EntriesTested held (map (entry_in 0) (take n (rows_of z s)))
  pub heads_zero : all_zero (take (z.head_size * (z.capacity - n)) (drop (z.front + z.head_size * n) s)) ≡ true
  pub cells_zero : all_zero (take (z.cell_size * (z.capacity - n)) (drop (cells_from z + z.cell_size * n) s)) ≡ true

rows_tested : (L : Limits) (z : Shape) (n held : ℕ) (s : List ℕ) → (rows_fit L z n held s ≡ true) ↔ RowsTested L z n held s
unfolding rows_fit
rows_tested L z n held s = (
  λ h.
      let a = both_true _ _ h in
      let b = both_true _ _ a.1 in
      let c = both_true _ _ b.1 in
      record {
        cells_fit = (every_means (λ r. cell_fits L (cell r)) (take n (rows_of z s))).0 a.0;
        entries = (entries_tested held (map (entry_in 0) (take n (rows_of z s)))).0 b.0;
        heads_zero = c.0;
        cells_zero = c.1;
      },
  λ t. rw (
    (every_means (λ r. cell_fits L (cell r)) (take n (rows_of z s))).1 t.cells_fit,
    (entries_tested held (map (entry_in 0) (take n (rows_of z s)))).1 t.entries,
    t.heads_zero,
  ) t.cells_zero,
)

-- THE SIZES.
pub record SizesTested (z : Sizes) (n held let_go_lem : ℕ) : Type 0 where
  pub limits_accepted : Accepted z.limits
  pub capacity_accepted : z.capacity ≤ max_capacity
  pub count : n ≤ z.capacity
  pub totals : held + let_go_lem ≤ max_word

sizes_tested : (z : Sizes) (n held let_go_lem : ℕ) → (sizes_fit z n held let_go_lem ≡ true) ↔ SizesTested z n held let_go_lem
unfolding sizes_fit
sizes_tested z n held let_go_lem = (
  λ h.
      let a = both_true _ _ h in
      let b = both_true _ _ a.1 in
      let c = both_true _ _ b.1 in
      record {
        limits_accepted = (limit_laws.limits_means z.limits).0 a.0;
        capacity_accepted = (limit_laws.capacity_means z.capacity).0 b.0;
        count = leb-true n z.capacity c.0;
        totals = leb-true (held + let_go_lem) max_word c.1;
      },
  λ t. rw (
    (limit_laws.limits_means z.limits).1 t.limits_accepted,
    (limit_laws.capacity_means z.capacity).1 t.capacity_accepted,
    le-leb n z.capacity t.count,
  ) (le-leb (held + let_go_lem) max_word t.totals),
)

-- THE WHOLE, for sizes, count and totals that may be other than those read.
abbrev pub passes : List ℕ → Sizes → ℕ → ℕ → ℕ → Bool
passes s z n held let_go_lem =
    leb (8 * store_numbers) (length s)
    && (sizes_fit z n held let_go_lem && (leb (sheet_length (store_shape z)) (length s) && rows_fit z.limits (store_shape z) n held s))

pub record Tested (s : List ℕ) (z : Sizes) (n held let_go_lem : ℕ) : Type 0 where
  pub long : 8 * store_numbers ≤ length s
  pub sizes : SizesTested z n held let_go_lem
  pub room : Room (store_shape z) s
  pub rows : RowsTested z.limits (store_shape z) n held s

pub tested : (s : List ℕ) (z : Sizes) (n held let_go_lem : ℕ) → (passes s z n held let_go_lem ≡ true) ↔ Tested s z n held let_go_lem
tested s z n held let_go_lem = (
  λ h.
      let a = both_true _ _ h in
      let b = both_true _ _ a.1 in
      let c = both_true _ _ b.1 in
      record {
        long = leb-true (8 * store_numbers) (length s) a.0;
        sizes = (sizes_tested z n held let_go_lem).0 b.0;
        room = leb-true (sheet_length (store_shape z)) (length s) c.0;
        rows = (rows_tested z.limits (store_shape z) n held s).0 c.1;
      },
  λ t. rw (
    le-leb (8 * store_numbers) (length s) t.long,
    (sizes_tested z n held let_go_lem).1 t.sizes,
    le-leb (sheet_length (store_shape z)) (length s) t.room,
  ) ((rows_tested z.limits (store_shape z) n held s).1 t.rows),
)

pub is_store_passes : (s : List ℕ) → is_store s ≡ passes s (sizes_in s) (count_in s) (held_in s) (let_go_in s)
unfolding is_store
is_store_passes s = refl

-- A STORE THAT PASSED, by the sizes and totals that stand in it.
pub known : (s : List ℕ) → is_store s ≡ true → Tested s (sizes_in s) (count_in s) (held_in s) (let_go_in s)
known s h = (tested s (sizes_in s) (count_in s) (held_in s) (let_go_in s)).0 (sym (is_store_passes s) ∙ h)
