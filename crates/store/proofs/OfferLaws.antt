-- An offer's tests, a law for each way out: no store, another namespace, no path; and else it is answered and leaves what its entry does.
use Prim.Native.Nat.{ℕ, ◌*◌, ◌+◌, ◌≤◌}
use mathlib.Core.Path.{◌≡◌, sym, ◌∙◌, ap}
use mathlib.Core.List.{List}
use mathlib.Core.Option.{Option, none, some}
use mathlib.Core.Bool.{true, false}
use native.Mathlib.Omega.{arith}
use lib.ListN.{length}
use borrow.Author.Tests.{eq-eqb, ne_eqb}
use Rattle.willow.specs.declared.Limits.{Limits}
use Rattle.willow.specs.declared.Refusal.{Refusal}
use Rattle.willow.specs.declared.Refusal.TheVariants.{BadSheet, WrongNamespace, BadPath}
use Rattle.willow.specs.Answers.{limits_refusal, path_missing, lent_refusal, path_in, path_refusal}
use Rattle.willow.specs.Entries.{Entry}
use Rattle.willow.specs.Numbers.{Bytes}
use Rattle.willow.specs.Packed.{lent, pack}
use Rattle.willow.specs.Paths.{Path}
use Rattle.sheet.specs.Cells.{cell_size_of}
use Rattle.willow.specs.Store.{Offer, offer, Answer, refused, is_refused, entry_with, entry_from, offered, answer_offered, answer, after}
use Rattle.willow.proofs.AnswerLaws.{path_passed}
use Rattle.willow.proofs.LimitLaws.{limit_laws}
use Rattle.store_form.specs.Stores.{sizes_in, state_in}
use Rattle.store_form.specs.StoreTest.{is_store}
use Rattle.store_form.proofs.EntryRows.{named}
use Rattle.store_form.proofs.TestedLaws.{known}
use Rattle.store_law.specs.Offers.{answer_in, leaves_in}
use Rattle.store_law.proofs.Demand3BytesLaws.{refused_unchanged}
use Rattle.store_taking.specs.Taking.{entry_answer, entry_leaves}

-- a path that fits a cell, by equal limits, bytes and counts
pub fits_as : (L M : Limits) (a b : List ℕ) (j k : ℕ) → L ≡ M → a ≡ b → j ≡ k → length (pack (path_in b k)) ≤ cell_size_of L
    → length (pack (path_in a j)) ≤ cell_size_of M
fits_as L M a b j k l e f h = rw (← l, e, f) h

module _ (s : List ℕ) (o : Offer) where
  -- WHAT IS ANSWERED AND LEFT. Where it is a refusal, nothing is written.
  abbrev pub OfferCase : Answer → List ℕ → Type 0
  OfferCase a u = (a ≡ answer_in s (offer o)) × (u ≡ leaves_in s (offer o))

  refused_case : Bytes s → (r : Refusal) → answer_in s (offer o) ≡ refused r → OfferCase (refused r) s
  refused_case b r h = (sym h, sym (refused_unchanged s (offer o) b (ap is_refused h)))

  no_store_lem : is_store s ≡ false → answer_in s (offer o) ≡ refused BadSheet
  unfolding answer_in
  no_store_lem h = rw h

  -- 2
  pub not_a_store : Bytes s → is_store s ≡ false → OfferCase (refused BadSheet) s
  not_a_store b h = refused_case b BadSheet (no_store_lem h)

  module _ (b : Bytes s) (stored : is_store s ≡ true) where
    -- 4
    other_namespace : (o.namespace ≡ (sizes_in s).namespace → ⊥) → answer_in s (offer o) ≡ refused WrongNamespace
    unfolding answer_in answer
    other_namespace h = rw (stored, ne_eqb o.namespace (sizes_in s).namespace h)

    module _ (n : ℕ) (read : n ≡ (sizes_in s).namespace) where
      pub wrong_namespace_lem : (n ≡ o.namespace → ⊥) → OfferCase (refused WrongNamespace) s
      wrong_namespace_lem h = refused_case b WrongNamespace (other_namespace (λ k. h (read ∙ sym k)))

      -- of the store's namespace: as its entry is answered, if it makes one
      module _ (own : n ≡ o.namespace) (L : Limits) (eL : L ≡ (sizes_in s).limits) where
        of_store : o.namespace ≡ (sizes_in s).namespace
        of_store = sym own ∙ read

        answer_is : answer_in s (offer o) ≡ answer_offered (sizes_in s) (state_in s) (offered (sizes_in s) o)
        unfolding answer_in answer
        answer_is = rw (stored, eq-eqb o.namespace (sizes_in s).namespace of_store)

        -- the test of a path with the store's limits is 5 alone
        five_alone : path_refusal L o.buffer o.count ≡ lent_refusal (sizes_in s).limits o.buffer o.count
        unfolding path_refusal limits_refusal
        five_alone = rw (eL, (limit_laws.limits_means (sizes_in s).limits).1 (known s stored).sizes.limits_accepted)

        -- 5
        pub path_refused : (r : Refusal) → path_refusal L o.buffer o.count ≡ some r → OfferCase (refused r) s
        path_refused r e = refused_case b r (answer_is ∙ no_path_lem (sym five_alone ∙ e))
          where
            go : (m : Option Path) → path_missing m ≡ some r → answer_offered (sizes_in s) (state_in s) (entry_from o m) ≡ refused r
            go none h = let k : BadPath ≡ r = cc in ap refused k
            go (some p) h = absurd (let z : ◌≡◌ {A = ℕ} 0 1 = cc in omega arith)

            no_path_lem : lent_refusal (sizes_in s).limits o.buffer o.count ≡ some r → answer_offered (sizes_in s) (state_in s) (offered (sizes_in s) o) ≡ refused r
            no_path_lem = unfold lent_refusal offered in go (lent (sizes_in s).limits o.buffer o.count)

        -- ITS ENTRY.
        module _ (fine : path_refusal L o.buffer o.count ≡ none) where
          abbrev e : Entry
          e = named (sizes_in s).namespace (entry_with o (path_in o.buffer o.count))

          path_lent : lent (sizes_in s).limits o.buffer o.count ≡ some (path_in o.buffer o.count)
          path_lent = (rw eL at (path_passed L o.buffer o.count fine).1.path)

          same_entry_lem : entry_with o (path_in o.buffer o.count) ≡ e
          same_entry_lem = λ i. record {
            namespace = of_store i;
            subspace = o.subspace;
            path = path_in o.buffer o.count;
            timestamp = o.timestamp;
            payload_length = o.payload_length;
            digest = o.digest;
          }

          makes : offered (sizes_in s) o ≡ some e
          unfolding offered
          makes = rw path_lent (ap some same_entry_lem)

          entry_answer_lem : entry_answer s e ≡ answer_in s (offer o)
          entry_answer_lem = sym (answer_is ∙ ap (answer_offered (sizes_in s) (state_in s)) makes)

          entry_leaves_lem : entry_leaves s e ≡ leaves_in s (offer o)
          unfolding entry_leaves leaves_in after answer_in
          entry_leaves_lem =
              let said : answer (sizes_in s) (state_in s) (offer o) ≡ entry_answer s e = rw stored at (sym entry_answer_lem) in
              rw (stored, said, makes)

          pub as_entry : (a : Answer) (u : List ℕ) → (a ≡ entry_answer s e) × (u ≡ entry_leaves s e) → OfferCase a u
          as_entry a u w = (w.0 ∙ entry_answer_lem, w.1 ∙ entry_leaves_lem)
