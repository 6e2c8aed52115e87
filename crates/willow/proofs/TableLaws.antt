-- Document 01's table by meaning. From each row's condition the tests come out so that the row's answer is computed; and the
-- answer computed carries its own row's condition, since a test that fails denies what it decides.
use Prim.Native.Nat.{ℕ, ◌+◌}
use mathlib.Core.Path.{◌≡◌, refl, sym, ◌∙◌, ap, subst}
use mathlib.Core.Logic.{◌⊎◌, inl, inr, ◌↔◌}
use mathlib.Core.List.{[]}
use mathlib.Core.Option.{Option, none, some}
use mathlib.Core.Bool.{Bool, true, false, cond}
use native.Mathlib.Omega.{arith}
use lib.Dec.{eqb, ltb}
use lib.ListN.{length}
use borrow.Author.Tests.{eqb-true, eqb-false, ltb-true, lt-ltb, eq-eqb, ne_eqb}
use Rattle.willow.specs.declared.Refusal.{Refusal}
use Rattle.willow.specs.declared.Refusal.TheVariants.{BadLimits, BadSheet, BadKind, WrongNamespace, BadPath, BadLengths, PathTooLong, TooManyComponents, ComponentTooLong, NoSuchPrefix, Overfilled, Unfinished, TotalFull, NoRoom, OutTooSmall}
use Rattle.willow.specs.Demand3.{OtherNamespace, NoPath, Makes, Full, Outdated, Repeat, Crowded, ByTable}
use Rattle.willow.specs.Entries.{Entry, Prunes, prunes, same_entry}
use Rattle.willow.specs.Limits.{max_word, Words}
use Rattle.willow.specs.Lists.{In, Number, any}
use Rattle.willow.specs.Packed.{lent}
use Rattle.willow.specs.Paths.{Path}
use Rattle.willow.specs.Store.{Sizes, State, Offer, Passed, offer, Answer, refused, outdated, repeated, taken, entry_with, entry_from, offered, pruned_by, left_by, answer_by, answer_entry, answer_offered, answer}
use Rattle.willow.proofs.Bools.{decided_false}
use Rattle.willow.proofs.EntryLaws.{prunes_means, same_means}
use Rattle.willow.proofs.ListLaws.{any_means, number_filter, sum_unique, filter_lengths}
use Rattle.willow.proofs.PackedLaws.{packed_form}

-- THE TESTS, of an entry against a state.
module _ (z : Sizes) (t : State) (e : Entry) where
  abbrev full_test : Bool
  full_test = ltb max_word (t.held + t.let_go + e.payload_length)

  abbrev outdated_test : Bool
  outdated_test = any (λ h. prunes h e) t.entries

  abbrev repeat_test : Bool
  repeat_test = any (λ h. same_entry h e) t.entries

  abbrev crowded_test : Bool
  crowded_test = eqb (length (left_by e t.entries)) z.capacity

  full_means : (full_test ≡ true) ↔ Full t e
  full_means = (ltb-true max_word (t.held + t.let_go + e.payload_length), lt-ltb max_word (t.held + t.let_go + e.payload_length))

  outdated_means : (outdated_test ≡ true) ↔ Outdated t e
  outdated_means = any_means (λ h. prunes h e) (λ h. Prunes h e) (λ h. prunes_means h e) t.entries

  repeat_means : (repeat_test ≡ true) ↔ Repeat t e
  repeat_means = (
    λ h. let r = same.0 h in rw (← r.2) r.1,
    λ i. same.1 (e, i, refl),
  )
    where
      same : (repeat_test ≡ true) ↔ ((h : Entry) × In h t.entries × (h ≡ e))
      same = any_means (λ h. same_entry h e) (λ h. h ≡ e) (λ h. same_means h e) t.entries

  -- as many as e prunes
  pruned_number : Number (Prunes e) t.entries (length (pruned_by e t.entries))
  pruned_number = number_filter (λ h. prunes e h) (Prunes e) (λ h. prunes_means e h) t.entries

  one_number : (k : ℕ) → Number (Prunes e) t.entries k → k ≡ length (pruned_by e t.entries)
  one_number k n = sum_unique (λ x. 1) (λ b x. Prunes e x) [] t.entries k (length (pruned_by e t.entries)) n pruned_number

  crowded_means : (crowded_test ≡ true) ↔ Crowded z t e
  crowded_means = (
    λ h. let x = eqb-true (length (left_by e t.entries)) z.capacity h in (length (pruned_by e t.entries), pruned_number, omega (arith, both)),
    λ c. let x = one_number c.0 c.1 in let y = c.2 in eq-eqb (length (left_by e t.entries)) z.capacity (omega (arith, both)),
  )
    where
      both : length (left_by e t.entries) + length (pruned_by e t.entries) ≡ length t.entries
      both = filter_lengths (λ h. prunes e h) t.entries

  -- THE ROWS of an entry: each condition gives its answer.
  full-row : Full t e → answer_entry z t e ≡ refused TotalFull
  unfolding answer_entry
  full-row f = rw (full_means.1 f)

  outdated-row : (Full t e → ⊥) → Outdated t e → answer_entry z t e ≡ outdated
  unfolding answer_entry
  outdated-row f o = rw ((decided_false full_test full_means).1 f, outdated_means.1 o)

  repeat-row : (Full t e → ⊥) → (Outdated t e → ⊥) → Repeat t e → answer_entry z t e ≡ repeated
  unfolding answer_entry
  repeat-row f o r = rw ((decided_false full_test full_means).1 f, (decided_false outdated_test outdated_means).1 o, repeat_means.1 r)

  crowded-row : (Full t e → ⊥) → (Outdated t e → ⊥) → (Repeat t e → ⊥) → Crowded z t e → answer_entry z t e ≡ refused NoRoom
  unfolding answer_entry
  crowded-row f o r c = rw (
    (decided_false full_test full_means).1 f,
    (decided_false outdated_test outdated_means).1 o,
    (decided_false repeat_test repeat_means).1 r,
    crowded_means.1 c,
  )

  taken-row : (k : ℕ) → (Full t e → ⊥) → (Outdated t e → ⊥) → (Repeat t e → ⊥) → (Crowded z t e → ⊥) → Number (Prunes e) t.entries k
      → answer_entry z t e ≡ taken k
  unfolding answer_entry
  taken-row k f o r c n = rw (
    (decided_false full_test full_means).1 f,
    (decided_false outdated_test outdated_means).1 o,
    (decided_false repeat_test repeat_means).1 r,
    (decided_false crowded_test crowded_means).1 c,
  ) (ap taken (sym (one_number k n)))

-- THE ROWS of an offer, answer by answer.
module _ (z : Sizes) (t : State) (o : Offer) where
  abbrev RefusedRow : Refusal → Type 0
  RefusedRow BadLimits = ⊥
  RefusedRow BadSheet = ⊥
  RefusedRow BadKind = ⊥
  RefusedRow WrongNamespace = OtherNamespace z o
  RefusedRow BadPath = (o.namespace ≡ z.namespace) × NoPath z o
  RefusedRow BadLengths = ⊥
  RefusedRow PathTooLong = ⊥
  RefusedRow TooManyComponents = ⊥
  RefusedRow ComponentTooLong = ⊥
  RefusedRow NoSuchPrefix = ⊥
  RefusedRow Overfilled = ⊥
  RefusedRow Unfinished = ⊥
  RefusedRow TotalFull = (e : Entry) × Makes z o e × Full t e
  RefusedRow NoRoom = (e : Entry) × Makes z o e × (Full t e → ⊥) × (Outdated t e → ⊥) × (Repeat t e → ⊥) × Crowded z t e
  RefusedRow OutTooSmall = ⊥

  abbrev Row : Answer → Type 0
  Row (refused r) = RefusedRow r
  Row outdated = (e : Entry) × Makes z o e × (Full t e → ⊥) × Outdated t e
  Row repeated = (e : Entry) × Makes z o e × (Full t e → ⊥) × (Outdated t e → ⊥) × Repeat t e
  Row (taken k) = (e : Entry) × Makes z o e × (Full t e → ⊥) × (Outdated t e → ⊥) × (Repeat t e → ⊥) × (Crowded z t e → ⊥) × Number (Prunes e) t.entries k

  no_other : (r : Refusal) → RefusedRow r → (r ≡ WrongNamespace) ⊎ ((r ≡ BadPath) ⊎ ((r ≡ TotalFull) ⊎ (r ≡ NoRoom)))
  no_other BadLimits h = absurd h
  no_other BadSheet h = absurd h
  no_other BadKind h = absurd h
  no_other WrongNamespace h = inl refl
  no_other BadPath h = inr (inl refl)
  no_other BadLengths h = absurd h
  no_other PathTooLong h = absurd h
  no_other TooManyComponents h = absurd h
  no_other ComponentTooLong h = absurd h
  no_other NoSuchPrefix h = absurd h
  no_other Overfilled h = absurd h
  no_other Unfinished h = absurd h
  no_other TotalFull h = inr (inr (inl refl))
  no_other NoRoom h = inr (inr (inr refl))
  no_other OutTooSmall h = absurd h

  -- the row of the answer to an entry that the offer makes
  entry_row : (e : Entry) → Makes z o e → Row (answer_entry z t e)
  unfolding answer_entry
  entry_row e m = go (full_test z t e) (outdated_test z t e) (repeat_test z t e) (crowded_test z t e) refl refl refl refl
    where
      go : (f d r c : Bool) → full_test z t e ≡ f → outdated_test z t e ≡ d → repeat_test z t e ≡ r → crowded_test z t e ≡ c
          → Row (answer_by f d r c (length (pruned_by e t.entries)))
      go true d r c pf pd pr pc = (e, m, (full_means z t e).0 pf)
      go false true r c pf pd pr pc = (e, m, (decided_false (full_test z t e) (full_means z t e)).0 pf, (outdated_means z t e).0 pd)
      go false false true c pf pd pr pc = (
        e,
        m,
        (decided_false (full_test z t e) (full_means z t e)).0 pf,
        (decided_false (outdated_test z t e) (outdated_means z t e)).0 pd,
        (repeat_means z t e).0 pr,
      )
      go false false false true pf pd pr pc = (
        e,
        m,
        (decided_false (full_test z t e) (full_means z t e)).0 pf,
        (decided_false (outdated_test z t e) (outdated_means z t e)).0 pd,
        (decided_false (repeat_test z t e) (repeat_means z t e)).0 pr,
        (crowded_means z t e).0 pc,
      )
      go false false false false pf pd pr pc = (
        e,
        m,
        (decided_false (full_test z t e) (full_means z t e)).0 pf,
        (decided_false (outdated_test z t e) (outdated_means z t e)).0 pd,
        (decided_false (repeat_test z t e) (repeat_means z t e)).0 pr,
        (decided_false (crowded_test z t e) (crowded_means z t e)).0 pc,
        pruned_number z t e,
      )

  module _ (w : Words z.limits) (p : Passed o) where
    -- the row of the answer
    answer-row : Row (answer z t (offer o))
    unfolding answer offered
    answer-row = go (eqb o.namespace z.namespace) (lent z.limits o.buffer o.count) refl refl
      where
        go : (b : Bool) (m : Option Path) → eqb o.namespace z.namespace ≡ b → lent z.limits o.buffer o.count ≡ m
            → Row (cond b (answer_offered z t (entry_from o m)) (refused WrongNamespace))
        go true none e f = (
          eqb-true o.namespace z.namespace e,
          (packed_form.lent_none z.limits o.buffer o.count w p.buffer_bytes).0 f,
        )
        go true (some q) e f = entry_row (entry_with o q) (
          eqb-true o.namespace z.namespace e,
          (q, (packed_form.lent_some z.limits o.buffer o.count w p.buffer_bytes q).0 f, refl),
        )
        go false m e f = eqb-false o.namespace z.namespace e

    -- an offer that makes an entry is answered for it
    made : (e : Entry) → Makes z o e → answer z t (offer o) ≡ answer_entry z t e
    unfolding answer offered
    made e m =
        let l = (packed_form.lent_some z.limits o.buffer o.count w p.buffer_bytes m.1.0).1 m.1.1 in
        rw (eq-eqb o.namespace z.namespace m.0, l) (ap (answer_entry z t) (sym m.1.2))

    wrong_namespace_lem : OtherNamespace z o → answer z t (offer o) ≡ refused WrongNamespace
    unfolding answer
    wrong_namespace_lem n = rw (ne_eqb o.namespace z.namespace n)

    bad_path_lem : (o.namespace ≡ z.namespace) × NoPath z o → answer z t (offer o) ≡ refused BadPath
    unfolding answer offered
    bad_path_lem h =
        let l = (packed_form.lent_none z.limits o.buffer o.count w p.buffer_bytes).1 h.1 in
        rw (eq-eqb o.namespace z.namespace h.0, l)

    pub by_table : ByTable z t o (answer z t (offer o))
    by_table = record {
      wrong_namespace_lem = (λ e. subst Row e answer-row, wrong_namespace_lem);
      bad_path_lem = (λ e. subst Row e answer-row, bad_path_lem);
      total-full = (λ e. subst Row e answer-row, λ h. made h.0 h.1 ∙ full-row z t h.0 h.2);
      is-outdated = (λ e. subst Row e answer-row, λ h. made h.0 h.1 ∙ outdated-row z t h.0 h.2 h.3);
      is-repeat = (λ e. subst Row e answer-row, λ h. made h.0 h.1 ∙ repeat-row z t h.0 h.2 h.3 h.4);
      no_room_lem = (λ e. subst Row e answer-row, λ h. made h.0 h.1 ∙ crowded-row z t h.0 h.2 h.3 h.4 h.5);
      is-taken = λ k. (λ e. subst Row e answer-row, λ h. made h.0 h.1 ∙ taken-row z t h.0 k h.2 h.3 h.4 h.5 h.6);
      no_other = λ r e. no_other r (subst Row e answer-row);
    }
