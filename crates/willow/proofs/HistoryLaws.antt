-- The history is what was passed: an offer of another namespace or without a path is refused and adds nothing, and any other makes the
-- entry that is computed from it, which is added unless the answer is a refusal.
use mathlib.Core.Path.{◌≡◌, refl, sym, subst}
use mathlib.Core.List.{List, [], ◌∷◌, ◌++◌, append-nil}
use mathlib.Core.Option.{Option, none, some}
use mathlib.Core.Bool.{Bool, true, false, cond}
use lib.Dec.{eqb}
use borrow.Author.Tests.{eqb-true}
use Rattle.willow.specs.declared.Refusal.TheVariants.{WrongNamespace}
use Rattle.willow.specs.Demand3.{with_entry, grown, history, Makes, Adds, HistoryOf, CallPassed}
use Rattle.willow.specs.Entries.{Entry}
use Rattle.willow.specs.Limits.{Words}
use Rattle.willow.specs.Lists.{All}
use Rattle.willow.specs.Packed.{lent}
use Rattle.willow.specs.Paths.{Path}
use Rattle.willow.specs.Store.{Sizes, State, Offer, Passed, Call, offer, Answer, refused, outdated, repeated, taken, is_refused, entry_with, entry_from, offered, answer_entry, answer_offered, answer, after, answers}
use Rattle.willow.proofs.PackedLaws.{packed_form}

-- WHAT ONE OFFER ADDS, where `next` is the history that is computed.
record Added (z : Sizes) (o : Offer) (h : List Entry) (a : Answer) (next : List Entry) : Type 0 where
  new : List Entry
  adds : Adds z (offer o) a new
  behind : next ≡ h ++ new

module _ (z : Sizes) (o : Offer) (h : List Entry) where
  -- by an answer to the entry that it makes
  entry_added : (e : Entry) → Makes z o e → (a : Answer) → Added z o h a (cond (is_refused a) h (with_entry h (some e)))
  entry_added e m (refused r) = record { new = []; adds = refl; behind = sym (append-nil h) }
  entry_added e m outdated = record { new = e ∷ []; adds = (e, m, refl); behind = refl }
  entry_added e m repeated = record { new = e ∷ []; adds = (e, m, refl); behind = refl }
  entry_added e m (taken k) = record { new = e ∷ []; adds = (e, m, refl); behind = refl }

  module _ (t : State) (w : Words z.limits) (p : Passed o) where
    -- by the namespace and the path
    answer_added : Added z o h (answer z t (offer o)) (grown z h (offer o) (answer z t (offer o)))
    unfolding answer offered
    answer_added = go (eqb o.namespace z.namespace) (lent z.limits o.buffer o.count) refl refl
      where
        answered_by : Bool → Option Path → Answer
        answered_by b q = cond b (answer_offered z t (entry_from o q)) (refused WrongNamespace)

        go : (b : Bool) (q : Option Path) → eqb o.namespace z.namespace ≡ b → lent z.limits o.buffer o.count ≡ q
            → Added z o h (answered_by b q) (cond (is_refused (answered_by b q)) h (with_entry h (entry_from o q)))
        go false q e l = record { new = []; adds = refl; behind = sym (append-nil h) }
        go true none e l = record { new = []; adds = refl; behind = sym (append-nil h) }
        go true (some q) e l =
            let made : Makes z o (entry_with o q) = (eqb-true o.namespace z.namespace e, (q, (packed_form.lent_some z.limits o.buffer o.count w p.buffer_bytes q).0 l, refl)) in
            entry_added (entry_with o q) made (answer_entry z t (entry_with o q))

-- A LIST OF CALLS.
pub history_passed : (z : Sizes) → Words z.limits → (cs : List Call) (s : State) (h : List Entry) → All CallPassed cs
    → HistoryOf z h cs (answers z s cs) (history z h cs (answers z s cs))
history_passed z w [] s h a = refl
history_passed z w (offer o ∷ cs) s h a =
    let d = answer_added z o h s w a.0 in
    let rest = history_passed z w cs (after z s (offer o)) (grown z h (offer o) (answer z s (offer o))) a.1 in
    (d.new, d.adds, subst (λ g. HistoryOf z g cs (answers z (after z s (offer o)) cs) (history z (grown z h (offer o) (answer z s (offer o))) cs (answers z (after z s (offer o)) cs))) d.behind rest)
