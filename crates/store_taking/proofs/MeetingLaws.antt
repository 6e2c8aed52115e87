-- What a store's numbers, rows and entries are to an offer: what a pass over its rows meets is what the table asks of the state.
use Prim.Native.Nat.{ℕ, ◌+◌, ◌-◌, ◌≤◌}
use mathlib.Core.Path.{◌≡◌, refl, sym, ◌∙◌, ap}
use mathlib.Core.List.{List, [], ◌∷◌, map}
use mathlib.Core.Bool.{Bool, true, false}
use native.Mathlib.Omega.{arith}
use lib.Dec.{eqb, ltb}
use lib.ListN.{length}
use borrow.Author.Tests.{le-ltb}
use Rattle.std.specs.declared.cmp.Ordering.{Ordering}
use Rattle.std.specs.declared.cmp.Ordering.TheVariants.{Less, Equal, Greater}
use Rattle.willow.specs.Entries.{Entry, prunes, same_entry, compare_places}
use Rattle.willow.specs.Limits.{max_word}
use Rattle.willow.specs.Lists.{any}
use Rattle.willow.specs.Numbers.{Bytes}
use Rattle.willow.specs.Paths.{Path}
use Rattle.willow.specs.Store.{payloads, pruned_by, left_by, file, answer_by, answer_entry}
use Rattle.willow.proofs.FilingLaws.{filter_payloads}
use Rattle.willow.proofs.ListLaws.{all_also}
use Rattle.entry.specs.declared.Head.{Head}
use Rattle.entry.specs.Heads.{entry_at}
use Rattle.store_form.specs.Apart.{OneNamespace}
use Rattle.store_form.specs.Stores.{Stands, ProperStore, sizes_in, count_in, held_in, let_go_in, entry_in, used_rows, state_in}
use Rattle.store_form.specs.StoreTest.{is_store}
use Rattle.store_form.proofs.EntryRows.{named, named_rows_lem}
use Rattle.store_form.proofs.ReadingLaws.{store_reading, used_count}
use Rattle.store_form.proofs.TestedLaws.{known}
use Rattle.store_scan.specs.declared.Scan.{Scan}
use Rattle.store_scan.specs.Scans.{nothing_met, met_by, met, scanned}
use Rattle.store_scan.proofs.ScanLaws.{scan_theorem}
use Rattle.store_writing.proofs.FiledLaws.{with_at}
use Rattle.store_taking.proofs.NamedLaws.{named_scanned}

-- NO MORE ARE PRUNED THAN THERE ARE, also where a held entry prunes the offer.
met_pruned : (e h : Entry) (a : Scan) → (met e a h).pruned ≤ a.pruned + 1
unfolding met
met_pruned e h a = go (prunes h e) (prunes e h) (compare_places h e)
  where
    go : (p q : Bool) (o : Ordering) → (met_by p q o h.payload_length a).pruned ≤ a.pruned + 1
    go true q o = omega arith
    go false true o = omega arith
    go false false Less = omega arith
    go false false Equal = omega arith
    go false false Greater = omega arith

scanned_pruned : (e : Entry) (a : Scan) (hs : List Entry) → (scanned e a hs).pruned ≤ a.pruned + length hs
scanned_pruned e a [] = omega arith
scanned_pruned e a (h ∷ hs) = let k = met_pruned e h a in let l = scanned_pruned e (met e a h) hs in omega arith

module _ (s : List ℕ) (stored : is_store s ≡ true) where
  pub payloads_word : payloads (map (entry_in 0) (used_rows s)) ≤ max_word
  payloads_word = let t = (known s stored).sizes.totals in let h = (known s stored).rows.entries.held_sum in omega arith

  module _ (b : Bytes s) where
    pub proper : ProperStore (sizes_in s) (state_in s)
    proper = (store_reading.read s b stored).proper

    pub entries_count : length (state_in s).entries ≡ count_in s
    entries_count = used_count s b (known s stored)

    -- THE PASS of an offer, over the rows.
    module _ (head : Head) (p : Path) (a : Scan) (scan : a ≡ scanned (entry_at 0 head p) nothing_met (map (entry_in 0) (used_rows s))) where
      abbrev e : Entry
      e = entry_at (sizes_in s).namespace head p

      abbrev es : List Entry
      es = (state_in s).entries

      names : OneNamespace (sizes_in s).namespace (e ∷ es)
      names = (refl, all_also (Stands (sizes_in s)) (λ x. x.namespace ≡ (sizes_in s).namespace) (λ x k. k.of_store) es proper.entries_stand)

      scan_is : a ≡ scanned e nothing_met es
      unfolding state_in
      scan_is =
          scan ∙ ap (scanned (named 0 e) nothing_met) (sym (named_rows_lem 0 (sizes_in s).namespace (used_rows s)))
          ∙ named_scanned 0 (sizes_in s).namespace e es nothing_met names

      pub pruned_few : a.pruned ≤ count_in s
      pruned_few =
          let h = ap (λ x. x.pruned) scan_is in
          let k = scanned_pruned e nothing_met es in
          let l = entries_count in
          omega arith

      outdated_is : a.outdated ≡ any (λ h. prunes h e) es
      outdated_is = ap (λ x. x.outdated) scan_is ∙ scan_theorem.finds_outdated e es

      -- WHERE NO HELD ENTRY PRUNES IT.
      module _ (none : a.outdated ≡ false) where
        spared : any (λ h. prunes h e) es ≡ false
        spared = sym outdated_is ∙ none

        repeat_is : a.repeat ≡ any (λ h. same_entry h e) es
        repeat_is = ap (λ x. x.repeat) scan_is ∙ scan_theorem.finds_repeat (sizes_in s).namespace e es names spared

        pub pruned_is : a.pruned ≡ length (pruned_by e es)
        pruned_is = ap (λ x. x.pruned) scan_is ∙ scan_theorem.counts_pruned e es spared

        pub freed_is : a.freed ≡ payloads (pruned_by e es)
        freed_is = ap (λ x. x.freed) scan_is ∙ scan_theorem.sums_freed e es spared

        pub freed_held : a.freed ≤ held_in s
        unfolding state_in
        freed_held =
            let h = proper.held_sum in
            let f = freed_is in
            let k = filter_payloads (λ x. prunes e x) es in
            omega arith

        pub left_is : count_in s - a.pruned ≡ length (left_by e es)
        left_is =
            let h = scan_theorem.left e es in
            let k = pruned_is in
            let l = entries_count in
            omega arith

        pub place_within_lem : a.place ≤ length (left_by e es)
        place_within_lem = let h = ap (λ x. x.place) scan_is in let k = scan_theorem.place_within_lem e es spared in omega arith

        -- and none is the offer
        pub files_at : a.repeat ≡ false → file e (left_by e es) ≡ with_at a.place e (left_by e es)
        files_at new =
            scan_theorem.files_at (sizes_in s).namespace e es names proper.ascending spared (sym repeat_is ∙ new)
            ∙ ap (λ k. with_at k e (left_by e es)) (sym (ap (λ x. x.place) scan_is))

      -- THE ANSWER, where the totals have room for it.
      pub answer_is : held_in s + let_go_in s + head.payload_length ≤ max_word
          → answer_by false a.outdated a.repeat (eqb (count_in s - a.pruned) (sizes_in s).capacity) a.pruned ≡ answer_entry (sizes_in s) (state_in s) e
      unfolding answer_entry state_in
      answer_is fits =
          let full : ltb max_word (held_in s + let_go_in s + head.payload_length) ≡ false = le-ltb max_word (held_in s + let_go_in s + head.payload_length) fits in
          go a.outdated refl full
        where
          go : (o : Bool) → a.outdated ≡ o → ltb max_word (held_in s + let_go_in s + head.payload_length) ≡ false
              → answer_by false a.outdated a.repeat (eqb (count_in s - a.pruned) (sizes_in s).capacity) a.pruned
              ≡ answer_by (ltb max_word (held_in s + let_go_in s + head.payload_length)) (any (λ h. prunes h e) es) (any (λ h. same_entry h e) es) (eqb (length (left_by e es)) (sizes_in s).capacity) (length (pruned_by e es))
          go true h full = rw (full, ← outdated_is, h)
          go false h full =
              let r = repeat_is h in
              let l = left_is h in
              let k = pruned_is h in
              λ i. answer_by (sym full i) (outdated_is i) (r i) (eqb (l i) (sizes_in s).capacity) (k i)
