-- A store that has the invariant of a history, within its bounds, is proper where the entries of the history are valid: what is held
-- stands in the history. A call whose arguments are what their types say adds only a valid entry to it.
use Prim.Native.Nat.{ℕ, ◌≤◌}
use mathlib.Core.Path.{◌≡◌, refl}
use mathlib.Core.List.{List, [], ◌∷◌}
use mathlib.Core.Option.{Option, none, some}
use mathlib.Core.Bool.{Bool, true, false, cond}
use native.Mathlib.Omega.{arith}
use Rattle.willow.specs.declared.Limits.{Limits}
use Rattle.willow.specs.Demand3.{with_entry, grown, CallPassed, Within}
use Rattle.willow.specs.Entries.{Entry, ValidEntry}
use Rattle.willow.specs.Limits.{Accepted, max_capacity, max_word, Words}
use Rattle.willow.specs.Lists.{In, All}
use Rattle.willow.specs.Packed.{lent}
use Rattle.willow.specs.Paths.{Path}
use Rattle.willow.specs.Store.{Sizes, State, fresh, Offer, Passed, Call, offer, Answer, is_refused, entry_with, entry_from, offered, answer, after}
use Rattle.willow.proofs.AnswerLaws.{accepted_words}
use Rattle.willow.proofs.Demand3Laws.{Inv, inv_fresh, step}
use Rattle.willow.proofs.FilingLaws.{sorted_means}
use Rattle.willow.proofs.ListLaws.{all_append, all_in, in_all}
use Rattle.willow.proofs.PackedLaws.{packed_form}
use Rattle.store_form.specs.Stores.{Stands, ProperStore}

-- What making a fresh store accepts.
pub record AcceptedSizes (z : Sizes) : Type 0 where
  pub limits : Accepted z.limits
  pub capacity : z.capacity ≤ max_capacity
  pub namespace : z.namespace ≤ max_word

-- A state, and a history that it comes from.
pub record Follows (z : Sizes) (base : ℕ) (t : State) (h : List Entry) : Type 0 where
  pub inv : Inv z base t h
  pub within : Within z t
  pub valid : All (ValidEntry z.limits) h

pub follows_fresh : (z : Sizes) → Follows z 0 fresh []
follows_fresh z = record { inv = inv_fresh z; within = record { count = omega arith; totals = omega arith }; valid = tt }

-- SUCH A STATE IS PROPER.
pub proper : (z : Sizes) (base : ℕ) (t : State) (h : List Entry) → AcceptedSizes z → Follows z base t h → ProperStore z t
proper z base t h a f =
    let v = f.inv in
    record {
      limits_accepted = a.limits;
      capacity_accepted = a.capacity;
      namespace_word = a.namespace;
      count = f.within.count;
      entries_stand = in_all (Stands z) t.entries (λ e i. stands e (v.sound e i).0);
      ascending = sorted_means t.entries v.ascending;
      none_prunes = λ o e i j. (v.sound e j).1 o (v.sound o i).0;
      held_sum = v.holds;
      totals = f.within.totals;
    }
  where
    stands : (e : Entry) → In e h → Stands z e
    stands e i = record { valid = all_in (ValidEntry z.limits) h f.valid e i; of_store = f.inv.names e i }

-- A CALL ADDS A VALID ENTRY, or none.
passed_valid : (L : Limits) (o : Offer) (p : Path) → Words L → Passed o → lent L o.buffer o.count ≡ some p → ValidEntry L (entry_with o p)
passed_valid L o p w a e = record {
  namespace_word = a.namespace_word;
  subspace_word = a.subspace_word;
  path_valid = packed_form.lent_valid L o.buffer o.count w a.buffer_bytes p ((packed_form.lent_some L o.buffer o.count w a.buffer_bytes p).0 e);
  timestamp_word = a.timestamp_word;
  payload_word = a.payload_word;
  digest_size = a.digest_size;
  digest_bytes = a.digest_bytes;
}

grown_valid : (z : Sizes) (h : List Entry) (o : Offer) (a : Answer) → Words z.limits → Passed o → All (ValidEntry z.limits) h
    → All (ValidEntry z.limits) (grown z h (offer o) a)
unfolding offered
grown_valid z h o a w q v = go (is_refused a) (lent z.limits o.buffer o.count) refl
  where
    go : (r : Bool) (m : Option Path) → lent z.limits o.buffer o.count ≡ m
        → All (ValidEntry z.limits) (cond r h (with_entry h (entry_from o m)))
    go true m e = v
    go false none e = v
    go false (some p) e = all_append (ValidEntry z.limits) h (entry_with o p ∷ []) v (passed_valid z.limits o p w q e, tt)

pub follows_step : (z : Sizes) (base : ℕ) (t : State) (h : List Entry) (c : Call) → AcceptedSizes z → CallPassed c → Follows z base t h
    → Follows z base (after z t c) (grown z h c (answer z t c))
follows_step z base t h (offer o) a q f =
    let k = step z base t h f.inv f.within o in
    record {
      inv = k.0;
      within = k.1;
      valid = grown_valid z h o (answer z t (offer o)) (accepted_words z.limits a.limits) q f.valid;
    }
