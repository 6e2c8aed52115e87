-- A valid path under accepted limits fits into the buffers, packed; so a call that writes one is never refused for room, and what
-- it answers and writes is what its outcome says. A path read from a text is what `from_slices` makes of its lengths and bytes.
use Prim.Native.Nat.{ℕ, ◌≤◌}
use mathlib.Core.Bool.{true}
use mathlib.Core.List.{List, [], ◌∷◌, ◌++◌}
use mathlib.Core.Option.{Option, none, some}
use mathlib.Core.Path.{◌≡◌, refl, sym, ◌∙◌, ap}
use native.Mathlib.Omega.{arith}
use lib.Dec.{leb}
use lib.ListN.{length, take, drop, length-append}
use lib.Seq.{take_at, take_all}
use borrow.Author.Tests.{le-leb}
use Rattle.std.specs.Prelude.{None, Some, Result, Ok, Err}
use Rattle.std.specs.Prelude as code
use Rattle.willow.specs.declared.Limits.{Limits}
use Rattle.willow.specs.declared.Refusal.{Refusal}
use Rattle.willow.specs.Answers.{outcome, optional_outcome, on_path, path_in, path_refusal, limits_refusal, unless}
use Rattle.willow.specs.Construction.{admitted, Slices}
use Rattle.willow.specs.LeastPaths.{next_greater, successor, Least, GreaterPath, GreaterNotPrefixed}
use Rattle.willow.specs.Limits.{Accepted, max_word}
use Rattle.willow.specs.Lists.{All}
use Rattle.willow.specs.Numbers.{Bytes}
use Rattle.willow.specs.Packed.{pack, Packed, packed_count, unpack, joined}
use Rattle.willow.specs.Paths.{Path, path_length, Valid}
use Rattle.willow.specs.Refusals.{Outcome, refused, absent, value}
use Rattle.willow.proofs.AnswerLaws.{accepted_words, passed_packed, path_questions, limits_passed}
use Rattle.willow.proofs.ConstructionLaws.{construction}
use Rattle.willow.proofs.LeastPathLaws.{least_paths}
use Rattle.willow.proofs.PackedLaws.{pack_length, pack_count, pack_valid_bytes, packed_form}
use Rattle.construction.specs.Making.{under_limits, slices_outcome}
use Rattle.least_writing.specs.Written.{path_or}
use Rattle.least.specs.Places as least
use Rattle.keyread.specs.Parts.{sizes}
use Rattle.keyask.specs.Found.{max_packed, Lends, Wrote, Sound, as_optional}

-- outcomes of different kinds are apart
abbrev kind : Outcome ℕ → ℕ
kind (refused r) = 0
kind absent = 1
kind (value n) = 2

passed_by : (r : Option Refusal) → unless {A = ℕ} r (value 0) ≡ value 0 → r ≡ none
passed_by none e = refl
passed_by (some q) e = let z = ap kind e in absurd (omega arith)

-- A VALID PATH, packed: it fits, and passes the tests with all of its components
pub record PackedPath (L : Limits) (p : Path) : Type 0 where
  pub packed : Packed (pack p)
  pub count : packed_count (pack p) ≡ length p
  pub fits : length (pack p) ≤ max_packed
  pub read_back : path_in (pack p) (length p) ≡ p
  pub passes : path_refusal L (pack p) (length p) ≡ none

pub packed_path : (L : Limits) (p : Path) → Accepted L → Valid L p → PackedPath L p
unfolding path_in on_path
packed_path L p a v =
    let w = accepted_words L a in
    let l = pack_length p in
    let n = v.count in
    let t = v.total in
    let c = a.mcc_within in
    let m = a.mpl_within in
    let b = pack_valid_bytes L p v in
    let one : Outcome ℕ = value 0 in
    let f = (packed_form.exactly L (pack p) w b).1 (p, v, refl) in
    let r : unpack (pack p) ≡ p = packed_form.read_back p (omega arith) (omega arith) in
    let whole = take_all (length p) p (omega arith) in
    record {
      packed = passed_packed L (pack p) w f;
      count = pack_count p (omega arith);
      fits = omega arith;
      read_back = rw r whole;
      passes = passed_by (path_refusal L (pack p) (length p))
          (path_questions.one_asked L (pack p) (length p) (λ q. one) b a p (record { whole = p; valid = v; packed = refl; within = omega arith; first = sym whole }));
    }

-- WHAT A CALL WROTE. It is answered as its outcome says, for a path that there is has room.
refusal_same : (q r : Refusal) → ◌≡◌ {A = Outcome ℕ} (refused q) (refused r) → q ≡ r
refusal_same q r e = cc

count_same : (m n : ℕ) → ◌≡◌ {A = Outcome ℕ} (value m) (value n) → m ≡ n
count_same m n e = cc

wrote_path : (L : Limits) (p : Path) (c : Result (code.Option ℕ) Refusal) (before behind : List ℕ) → Accepted L → Valid L p → max_packed ≤ length before → Wrote (value p) c before behind
    → (optional_outcome c ≡ value (length (pack p))) × (behind ≡ pack p ++ drop (length (pack p)) before)
wrote_path L p c before behind a v room w =
    let f = (packed_path L p a v).fits in
    let h : leb (length (pack p)) (length before) ≡ true = le-leb (length (pack p)) (length before) (omega arith) in
    (rw h at w.answered, rw h at w.written)

pub wrote_found : (L : Limits) (o : Outcome Path) (c : Result (code.Option ℕ) Refusal) (before behind : List ℕ) → Sound L o → max_packed ≤ length before → Wrote o c before behind
    → Lends L o c behind
wrote_found L (refused r) (Err q) before behind s room w = ap refused (sym (refusal_same q r w.answered))
wrote_found L (refused r) (Ok None) before behind s room w = let z = ap kind w.answered in absurd (omega arith)
wrote_found L (refused r) (Ok (Some n)) before behind s room w = let z = ap kind w.answered in absurd (omega arith)
wrote_found L absent (Err q) before behind s room w = let z = ap kind w.answered in absurd (omega arith)
wrote_found L absent (Ok None) before behind s room w = refl
wrote_found L absent (Ok (Some n)) before behind s room w = let z = ap kind w.answered in absurd (omega arith)
wrote_found L (value p) (Err q) before behind s room w =
    let z = ap kind (wrote_path L p (Err q) before behind s.0 s.1 room w).0 in absurd (omega arith)
wrote_found L (value p) (Ok None) before behind s room w =
    let z = ap kind (wrote_path L p (Ok None) before behind s.0 s.1 room w).0 in absurd (omega arith)
wrote_found L (value p) (Ok (Some n)) before behind s room w =
    let f = packed_path L p s.0 s.1 in
    let h = wrote_path L p (Ok (Some n)) before behind s.0 s.1 room w in
    let e : n ≡ length (pack p) = count_same n (length (pack p)) h.0 in
    let t : take n behind ≡ pack p = rw h.1 (take_at (pack p) (drop (length (pack p)) before) n (sym e)) in
    let l = ap length h.1 ∙ length-append (pack p) (drop (length (pack p)) before) in
    (omega arith, rw t f.packed, rw (t, f.count) f.passes, rw (t, f.count, f.read_back) refl, rw (t, f.count, f.read_back) refl, rw (t, f.count, f.read_back) refl)

-- .. by a call that never says none
pub always_some : (c : Result ℕ Refusal) → optional_outcome (as_optional c) ≡ outcome c
always_some (Err r) = refl
always_some (Ok n) = refl

-- WHAT THE OUTCOMES ARE SOUND FOR. Under limits that are not accepted there is only a refusal.
pub under_sound : (L : Limits) (o : Outcome Path) → (Accepted L → Sound L o) → Sound L (under_limits L o)
unfolding under_limits
under_sound L o h = go (limits_refusal L) refl
  where
    go : (r : Option Refusal) → limits_refusal L ≡ r → Sound L (unless r o)
    go none e = h (limits_passed L e)
    go (some r) e = tt

admitted_sound : (L : Limits) (p : Path) → All Bytes p → Accepted L → Sound L (admitted L p)
admitted_sound L p b a = go (admitted L p) refl
  where
    go : (o : Outcome Path) → admitted L p ≡ o → Sound L o
    go (refused r) e = tt
    go absent e = tt
    go (value q) e = let v = ((construction.admission L p b).valid q).0 e in (a, rw v.0 v.1)

pub made_sound : (L : Limits) (p : Path) → All Bytes p → Sound L (under_limits L (admitted L p))
made_sound L p b = under_sound L (admitted L p) (admitted_sound L p b)

found_sound : (L : Limits) (P : Path → Type 0) (o : Option Path) → Accepted L → ((q : Path) → P q → Valid L q) → Least P o → Sound L (path_or o)
found_sound L P none a f h = tt
found_sound L P (some q) a f h = (a, f q h.0)

pub successor_sound : (L : Limits) (p : Path) → Accepted L → Valid L p → Sound L (least.successor_of L p)
successor_sound L p a v = found_sound L (GreaterPath L p) (successor L p) a (λ q h. h.0) ((least_paths L).least_successor p v)

pub next_greater_sound : (L : Limits) (p : Path) → Accepted L → Valid L p → Sound L (least.next_greater_of L p)
next_greater_sound L p a v = found_sound L (GreaterNotPrefixed L p) (next_greater L p) a (λ q h. h.0) ((least_paths L).next_greater_lem p v)

-- A PATH READ FROM A TEXT: its lengths and bytes are what `from_slices` takes for it.
components_short : (p : Path) → path_length p ≤ max_word → All (λ c. length c ≤ max_word) p
components_short [] h = tt
components_short (c ∷ cs) h = (omega arith, components_short cs (omega arith))

pub sizes_slices : (p : Path) → path_length p ≤ max_word → Slices (sizes p) (joined p) p
sizes_slices p h = record { sizes = refl; words = components_short p h; content = refl }

pub slices_made : (L : Limits) (p : Path) → path_length p ≤ max_word → slices_outcome L (sizes p) (joined p) ≡ under_limits L (admitted L p)
slices_made L p h = ap (under_limits L) (construction.made_as L (sizes p) (joined p) p (sizes_slices p h))
