-- A listing in its buffer: each position is a record of 8 bytes, and a record that is laid out is read back at its place.
use Prim.Native.Nat.{ℕ, ◌+◌, ◌*◌, ◌≤◌, ◌<◌}
use mathlib.Core.Path.{◌≡◌, refl, sym, ◌∙◌, ap, subst}
use mathlib.Core.Logic.{inl, inr}
use mathlib.Core.List.{List, [], ◌∷◌, ◌++◌}
use mathlib.Core.Option.{none, some}
use mathlib.Core.Bool.{Bool, true, false, cond}
use native.Mathlib.Omega.{arith}
use lib.ListN.{length, drop, get_or}
use lib.Seq.{drop_at}
use borrow.Author.Tests.{le-leb, lt-leb}
use Rattle.willow.specs.declared.Refusal.TheVariants.{BadSheet, OutTooSmall}
use Rattle.willow.specs.Answers.{written_buffer}
use Rattle.willow.specs.Areas.{full_area}
use Rattle.willow.specs.Limits.{max_word}
use Rattle.willow.specs.Lists.{In, All}
use Rattle.willow.specs.Numbers.{Bytes, le, number_at}
use Rattle.willow.specs.Refusals.{refused, value}
use Rattle.tables.specs.Tables.{refusal_of}
use Rattle.tables.proofs.BufferLaws.{apart, value_same}
use Rattle.number.specs.Records.{laid}
use Rattle.number.proofs.RecordLaws.{number_laid}
use Rattle.sheet.proofs.LayoutLaws.{length_numbers}
use Rattle.map_form.specs.Maps.{Rule, sizes_in, rules_in}
use Rattle.map_form.specs.MapTest.{is_map}
use Rattle.map_form.proofs.MapProofs.{map_reading}
use Rattle.map_law.specs.Insertions.{AreaArgument}
use Rattle.listing_law.specs.Listings.{listing, listed_number, listed_bytes}
use Rattle.answer_law.specs.ListedBuffers.{ListedInBuffer, ListingInBuffer}
use Rattle.refusal_law.proofs.ListingTableLaws.{tabled, refused_as_none}

-- Past the last rule this stands in, and is not read.
abbrev no_rule : Rule
no_rule = record { area = full_area; value = 0 }

module _ (ps out : List ℕ) where
  long : length (laid (le 8) ps) ≡ 8 * length ps
  long = length_numbers ps

  -- room for all of them: they are written at the front
  module _ (room : 8 * length ps ≤ length out) where
    written : written_buffer (listed_bytes (value ps)) out ≡ laid (le 8) ps ++ drop (8 * length ps) out
    written =
        let l = long in
        let t = le-leb (length (laid (le 8) ps)) (length out) (omega arith) in
        rw t (ap (λ n. laid (le 8) ps ++ drop n out) l)

    counted : listed_number (value ps) out ≡ value (length ps)
    counted = rw (le-leb (8 * length ps) (length out) room)

    position : All (λ p. p ≤ max_word) ps → (k : ℕ) → k < length ps → number_at (written_buffer (listed_bytes (value ps)) out) (8 * k) ≡ get_or ps k 0
    position w k h = ap (λ s. number_at s (8 * k)) written ∙ read
      where
        read : number_at (laid (le 8) ps ++ drop (8 * length ps) out) (8 * k) ≡ get_or ps k 0
        read = let e : 0 + 8 * k ≡ 8 * k = omega arith in ap (number_at (laid (le 8) ps ++ drop (8 * length ps) out)) (sym e) ∙ number_laid [] (drop (8 * length ps) out) 0 ps k refl w h

    behind : drop (8 * length ps) (written_buffer (listed_bytes (value ps)) out) ≡ drop (8 * length ps) out
    behind = ap (drop (8 * length ps)) written ∙ drop_at (laid (le 8) ps) (drop (8 * length ps) out) (8 * length ps) long

  short : length out < 8 * length ps
      → (listed_number (value ps) out ≡ refused OutTooSmall) × (written_buffer (listed_bytes (value ps)) out ≡ out)
  short h =
      let l = long in
      (rw (lt-leb (8 * length ps) (length out) h), rw (lt-leb (length (laid (le 8) ps)) (length out) (omega arith)))

  listed : All (λ p. p ≤ max_word) ps → ListedInBuffer ps out (written_buffer (listed_bytes (value ps)) out) (listed_number (value ps) out)
  listed w = record { short = short; number = counted; position = λ room. position room w; behind = behind }

-- A position is below the number of rules, and so below N.
all_in : {A : Type 0} (P : A → Type 0) (l : List A) → ((y : A) → In y l → P y) → All P l
all_in P [] h = tt
all_in P (y ∷ ys) h = (h y (inl refl), all_in P ys (λ z i. h z (inr i)))

words : (s : List ℕ) (x : AreaArgument) (ps : List ℕ) → Bytes s → Bytes x.buffer → listing s x ≡ value ps → All (λ p. p ≤ max_word) ps
words s x ps bs bx e = go (is_map s) refl
  where
    go : (t : Bool) → is_map s ≡ t → All (λ p. p ≤ max_word) ps
    go true f =
        let m = map_reading.read s bs f in
        let l = (tabled s (sizes_in s) (rules_in s) x m bx).lists (ap refusal_of e) in
        let same : l.listed ≡ ps = value_same l.listed ps (sym l.answered ∙ e) in
        let count = m.proper.count in
        let most = m.proper.capacity_accepted in
        subst (All (λ p. p ≤ max_word)) same
        (all_in (λ p. p ≤ max_word) l.listed (λ i h. let k = ((l.exactly i no_rule).0 h).0 in omega arith))
    go false f =
        let no = (map_reading.refused_exactly s bs).0 (ap (λ t. cond t none (some BadSheet)) f) in
        apart (value ps) (refused BadSheet) (sym e ∙ refused_as_none s x bs no) (λ h. omega arith)

pub listing_in_buffer : ListingInBuffer
listing_in_buffer = record { listed = listed; refused_kept = λ r out. (refl, refl); words = words }
