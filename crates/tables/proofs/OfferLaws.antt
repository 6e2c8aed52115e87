-- The table of an offer: each test decides its row's condition.
use Prim.Native.Nat.{ℕ, ◌+◌, ◌<◌}
use mathlib.Core.Path.{◌≡◌, refl, sym, ◌∙◌, ap}
use mathlib.Core.Logic.{◌↔◌}
use mathlib.Core.List.{[], ◌∷◌}
use mathlib.Core.Option.{Option, none, some}
use mathlib.Core.Bool.{Bool, true, false, cond}
use native.Mathlib.Omega.{arith}
use lib.Dec.{eqb, ltb}
use lib.ListN.{length}
use borrow.Author.Tests.{eqb-true, ltb-true, lt-ltb, eq-eqb}
use Rattle.willow.specs.declared.Refusal.{Refusal}
use Rattle.willow.specs.declared.Refusal.TheVariants.{WrongNamespace, BadPath, TotalFull, NoRoom}
use Rattle.willow.specs.Demand3.{NoPath, Makes, Outdated, Repeat, Crowded}
use Rattle.willow.specs.Entries.{Entry, Prunes, prunes, same_entry}
use Rattle.willow.specs.Limits.{max_word, Words}
use Rattle.willow.specs.Lists.{In, Number, any}
use Rattle.willow.specs.Packed.{lent}
use Rattle.willow.specs.Paths.{Path}
use Rattle.willow.specs.Store.{Sizes, State, Offer, Passed, offer, Answer, refused, taken, entry_with, entry_from, offered, pruned_by, left_by, answer_by, answer_entry, answer_offered, answer}
use Rattle.willow.proofs.Bools.{decided_false}
use Rattle.willow.proofs.EntryLaws.{prunes_means, same_means}
use Rattle.willow.proofs.ListLaws.{any_means, number_filter, sum_unique, filter_lengths}
use Rattle.willow.proofs.PackedLaws.{packed_form}
use Rattle.tables.specs.Offers.{Full, RoomMissing, refused_with, store_at, offer_rows, Tells, ByTable, OffersByTable}
use Rattle.tables.specs.Tables.{◌when◌}
use Rattle.tables.proofs.Rows.{First, gives, passes, no_row, row, row_not, answered}

-- THE TESTS, of an entry against a state.
module _ (z : Sizes) (t : State) (e : Entry) where
  abbrev full_test : Bool
  full_test = ltb max_word (t.held + t.let_go + e.payload_length)

  abbrev outdated_test : Bool
  outdated_test = any (λ h. prunes h e) t.entries

  abbrev repeat_test : Bool
  repeat_test = any (λ h. same_entry h e) t.entries

  abbrev crowded_test : Bool
  crowded_test = eqb (length (left_by e t.entries)) z.capacity

  full_means : (full_test ≡ true) ↔ (max_word < t.held + t.let_go + e.payload_length)
  full_means = (ltb-true max_word (t.held + t.let_go + e.payload_length), lt-ltb max_word (t.held + t.let_go + e.payload_length))

  outdated_means : (outdated_test ≡ true) ↔ Outdated t e
  outdated_means = any_means (λ h. prunes h e) (λ h. Prunes h e) (λ h. prunes_means h e) t.entries

  repeat_means : (repeat_test ≡ true) ↔ Repeat t e
  repeat_means = (
    λ h. let r = same.0 h in rw (← r.2) r.1,
    λ i. same.1 (e, i, refl),
  )
    where
      same : (repeat_test ≡ true) ↔ ((h : Entry) × In h t.entries × (h ≡ e))
      same = any_means (λ h. same_entry h e) (λ h. h ≡ e) (λ h. same_means h e) t.entries

  -- as many as e prunes
  pruned_number : Number (Prunes e) t.entries (length (pruned_by e t.entries))
  pruned_number = number_filter (λ h. prunes e h) (Prunes e) (λ h. prunes_means e h) t.entries

  one_number : (k : ℕ) → Number (Prunes e) t.entries k → k ≡ length (pruned_by e t.entries)
  one_number k n = sum_unique (λ x. 1) (λ b x. Prunes e x) [] t.entries k (length (pruned_by e t.entries)) n pruned_number

  crowded_means : (crowded_test ≡ true) ↔ Crowded z t e
  crowded_means = (
    λ h. let x = eqb-true (length (left_by e t.entries)) z.capacity h in (length (pruned_by e t.entries), pruned_number, omega (arith, both)),
    λ c. let x = one_number c.0 c.1 in let y = c.2 in eq-eqb (length (left_by e t.entries)) z.capacity (omega (arith, both)),
  )
    where
      both : length (left_by e t.entries) + length (pruned_by e t.entries) ≡ length t.entries
      both = filter_lengths (λ h. prunes e h) t.entries

-- THE OFFER.
module _ (z : Sizes) (t : State) (o : Offer) (w : Words z.limits) (p : Passed o) where
  -- it makes one entry
  pub one_entry : (e f : Entry) → Makes z o e → Makes z o f → e ≡ f
  one_entry e f m n =
      let a = (packed_form.lent_some z.limits o.buffer o.count w p.buffer_bytes m.1.0).1 m.1.1 in
      let b = (packed_form.lent_some z.limits o.buffer o.count w p.buffer_bytes n.1.0).1 n.1.1 in
      let q : m.1.0 ≡ n.1.0 = cc in
      m.1.2 ∙ ap (entry_with o) q ∙ sym n.1.2

  -- 14, of that entry: where it is outdated or a repeat no room is asked for
  room_row : (e : Entry) → Makes z o e → (d r : Bool) → outdated_test z t e ≡ d → repeat_test z t e ≡ r → (k : ℕ)
      → First (NoRoom when RoomMissing z t o ∷ []) (refused_with (answer_by false d r (crowded_test z t e) k))
  room_row e m true r pd pr k = passes (λ x. x.3 (rw (one_entry x.0 e x.1 m) ((outdated_means z t e).0 pd))) (no_row refl)
  room_row e m false true pd pr k = passes (λ x. x.4 (rw (one_entry x.0 e x.1 m) ((repeat_means z t e).0 pr))) (no_row refl)
  room_row e m false false pd pr k =
      row refused_with (crowded_test z t e) NoRoom (refused NoRoom) (taken k) refl (
        λ c. (
          e,
          m,
          (crowded_means z t e).0 c,
          (decided_false (outdated_test z t e) (outdated_means z t e)).0 pd,
          (decided_false (repeat_test z t e) (repeat_means z t e)).0 pr,
        ),
        λ x. (crowded_means z t e).1 (rw (one_entry x.0 e x.1 m) at x.2),
      ) (λ n. no_row refl)

  -- 4, 5, 13, 14
  pub offer_rows_lem : First (offer_rows (store_at z t) o) (refused_with (answer z t (offer o)))
  unfolding answer offered answer_entry
  offer_rows_lem =
      row_not refused_with (eqb o.namespace z.namespace) WrongNamespace (refused WrongNamespace) _ refl
      (eqb-true o.namespace z.namespace, eq-eqb o.namespace z.namespace) (λ n. go n (lent z.limits o.buffer o.count) refl)
    where
      go : o.namespace ≡ z.namespace → (m : Option Path) → lent z.limits o.buffer o.count ≡ m
          → First (BadPath when NoPath z o ∷ TotalFull when Full t o ∷ NoRoom when RoomMissing z t o ∷ []) (refused_with (answer_offered z t (entry_from o m)))
      go n none f = gives ((packed_form.lent_none z.limits o.buffer o.count w p.buffer_bytes).0 f) refl
      go n (some q) f =
          let e : Entry = entry_with o q in
          let l = (packed_form.lent_some z.limits o.buffer o.count w p.buffer_bytes q).0 f in
          passes (λ x. x q l)
          (row refused_with (full_test z t e) TotalFull (refused TotalFull) _ refl (full_means z t e)
          (λ x. room_row e (n, (q, l, refl)) (outdated_test z t e) (repeat_test z t e) refl refl (length (pruned_by e t.entries))))

  -- and what is answered else
  abbrev Told : Answer → Type 0
  Told a = refused_with a ≡ none → (e : Entry) × Makes z o e × Tells t e a

  refused_told : (r : Refusal) → Told (refused r)
  refused_told r e = let x : ◌≡◌ {A = ℕ} 0 1 = cc in absurd (omega arith)

  entry_told : (e : Entry) → Makes z o e → (f d r c : Bool) → outdated_test z t e ≡ d → repeat_test z t e ≡ r
      → Told (answer_by f d r c (length (pruned_by e t.entries)))
  entry_told e m true d r c pd pr = refused_told TotalFull
  entry_told e m false true r c pd pr = λ n. (e, m, (outdated_means z t e).0 pd)
  entry_told e m false false true c pd pr = λ n. (e, m, ((decided_false (outdated_test z t e) (outdated_means z t e)).0 pd, (repeat_means z t e).0 pr))
  entry_told e m false false false true pd pr = refused_told NoRoom
  entry_told e m false false false false pd pr = λ n. (
    e,
    m,
    (
      (decided_false (outdated_test z t e) (outdated_means z t e)).0 pd,
      (decided_false (repeat_test z t e) (repeat_means z t e)).0 pr,
      pruned_number z t e,
    ),
  )

  offer_told : Told (answer z t (offer o))
  unfolding answer offered answer_entry
  offer_told = go (eqb o.namespace z.namespace) (lent z.limits o.buffer o.count) refl refl
    where
      go : (b : Bool) (m : Option Path) → eqb o.namespace z.namespace ≡ b → lent z.limits o.buffer o.count ≡ m
          → Told (cond b (answer_offered z t (entry_from o m)) (refused WrongNamespace))
      go false m e f = refused_told WrongNamespace
      go true none e f = refused_told BadPath
      go true (some q) e f =
          let l = (packed_form.lent_some z.limits o.buffer o.count w p.buffer_bytes q).0 f in
          let x : Entry = entry_with o q in
          entry_told x (eqb-true o.namespace z.namespace e, (q, l, refl))
          (full_test z t x) (outdated_test z t x) (repeat_test z t x) (crowded_test z t x) refl refl

  pub by_table : ByTable z t o (answer z t (offer o))
  by_table = record { refusals = answered refl offer_rows_lem; told = offer_told }

pub offers_by_table : OffersByTable
offers_by_table z t o w p = by_table z t o w p
