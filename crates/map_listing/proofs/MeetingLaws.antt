-- The rules that meet an area, one after the other: the positions that are left to be counted or written from rule i on, in the
-- code's index. What is left from 0 on is the whole listing.
use Prim.Native.Nat.{ℕ, suc, ◌+◌, ◌*◌, ◌≤◌, ◌<◌}
use mathlib.Core.Path.{◌≡◌, refl, sym, ◌∙◌, ap}
use mathlib.Core.List.{List, [], ◌∷◌, ◌++◌}
use mathlib.Core.Bool.{Bool, true, false, cond}
use native.Mathlib.Omega.{arith}
use native.Mathlib.Numerals.{add-one}
use lib.ListN.{length, drop, get_or, drop_of_length-le, length-drop}
use lib.Seq.{drop-cons}
use borrow.Author.Tests.{le-leb, lt-leb}
use Rattle.std.specs.List.{filter, range_with_len}
use Rattle.willow.specs.declared.Refusal.TheVariants.{OutTooSmall}
use Rattle.willow.specs.Answers.{written_buffer}
use Rattle.willow.specs.Areas.{Area}
use Rattle.willow.specs.Numbers.{le}
use Rattle.willow.specs.Refusals.{refused, value}
use Rattle.willow.proofs.NumberLaws.{le_length}
use Rattle.number.specs.Overwriting.{overwrite}
use Rattle.number.specs.Records.{laid}
use Rattle.number.proofs.OverwritingLaws.{length_overwrite, overwrite_at_front, overwrite_nil, overwrite_append}
use Rattle.number.proofs.RecordLaws.{sized_all, length_laid}
use Rattle.map_form.specs.Maps.{Rule}
use Rattle.listing_law.specs.Listings.{meets, positions_from, positions, listed_number, listed_bytes}
use Rattle.map_rules.specs.RulePlaces.{no_rule}

-- there are no more positions than rules
positions_from_few : (a : Area) (i : ℕ) (rules : List Rule) → length (positions_from a i rules) ≤ length rules
positions_from_few a i [] = omega arith
positions_from_few a i (r ∷ rules) = go (meets a r) (positions_from_few a (suc i) rules)
  where
    go : (b : Bool) → length (positions_from a (suc i) rules) ≤ length rules
        → length (cond b (i ∷ positions_from a (suc i) rules) (positions_from a (suc i) rules)) ≤ suc (length rules)
    go true h = omega arith
    go false h = omega arith

module _ (a : Area) (rules : List Rule) where
  pub positions_few : length (positions a rules) ≤ length rules
  unfolding positions
  positions_few = positions_from_few a 0 rules

  -- WHAT IS LEFT from rule i on.
  abbrev pub left : ℕ → List ℕ
  left i = positions_from a i (drop i rules)

  pub left_all : left 0 ≡ positions a rules
  unfolding positions
  left_all = refl

  pub left_end : (i : ℕ) → length rules ≤ i → left i ≡ []
  left_end i h = ap (positions_from a i) (drop_of_length-le rules {i = i} h)

  module _ (i : ℕ) (h : i < length rules) where
    pub left_meets : meets a (get_or rules i no_rule) ≡ true → left i ≡ i ∷ left (i + 1)
    left_meets e = rw (add-one i, drop-cons rules i no_rule h, e)

    pub left_misses : meets a (get_or rules i no_rule) ≡ false → left i ≡ left (i + 1)
    left_misses e = rw (add-one i, drop-cons rules i no_rule h, e)

  -- THE POSITIONS are the numbers of the rules that meet.
  numbers_left : (i : ℕ) (rest : List Rule) → drop i rules ≡ rest
      → positions_from a i rest ≡ filter (λ k. meets a (get_or rules k no_rule)) (range_with_len i (length rest))
  numbers_left i [] e = refl
  numbers_left i (r ∷ rest) e =
      let l = ap length e ∙ refl in
      let h : i < length rules = let m = length-drop i rules in omega arith in
      let f : get_or rules i no_rule ∷ drop (i + 1) rules ≡ r ∷ rest = rw add-one (sym (drop-cons rules i no_rule h) ∙ e) in
      let here : get_or rules i no_rule ≡ r = cc in
      let ih = numbers_left (i + 1) rest (let g : drop (i + 1) rules ≡ rest = cc in g) in
      rw here (ap (λ ps. cond (meets a r) (i ∷ ps) ps) (ap (λ k. positions_from a k rest) (sym (add-one i)) ∙ ih))

  pub positions_numbers : positions a rules ≡ filter (λ k. meets a (get_or rules k no_rule)) (range_with_len 0 (length rules))
  unfolding positions
  positions_numbers = numbers_left 0 rules refl

  -- WRITING: what is left, written from the place on that was reached, gives what the whole listing gives.
  pub record Writing (before out : List ℕ) (at i : ℕ) : Type 0 where
    pub within : i ≤ length rules
    pub long : length out ≡ length before
    pub fits : 8 * length (positions a rules) ≤ length before
    pub place : at + 8 * length (left i) ≡ 8 * length (positions a rules)
    pub same : overwrite out at (laid (le 8) (left i)) ≡ overwrite before 0 (laid (le 8) (positions a rules))

  pub writing_starts : (before : List ℕ) → 8 * length (positions a rules) ≤ length before → Writing before before 0 0
  writing_starts before h = record {
    within = omega arith;
    long = refl;
    fits = h;
    place = let l = ap length left_all in omega arith;
    same = ap (λ l. overwrite before 0 (laid (le 8) l)) left_all;
  }

  module _ (before out : List ℕ) (at i : ℕ) (k : Writing before out at i) (h : i < length rules) where
    -- there is room for one that is still to be written
    pub room_here : meets a (get_or rules i no_rule) ≡ true → at + 8 ≤ length out
    room_here e =
        let l = ap length (left_meets i h e) in
        let r = k.place in
        let f = k.fits in
        let n = k.long in
        omega arith

    pub writes : meets a (get_or rules i no_rule) ≡ true → (next : List ℕ) → next ≡ overwrite out at (le 8 i) → Writing before next (at + 8) (i + 1)
    writes e next w =
        let l = ap length (left_meets i h e) in
        let r = k.place in
        let f = k.fits in
        let n = k.long in
        let z = le_length 8 i in
        let inside : at + length (le 8 i) ≤ length out = omega arith in
        let end : at + length (le 8 i) ≡ at + 8 = omega arith in
        record {
          within = omega arith;
          long = ap length w ∙ length_overwrite out at (le 8 i) inside ∙ n;
          fits = f;
          place = omega arith;
          same =
              ap (λ t. overwrite t (at + 8) (laid (le 8) (left (i + 1)))) w
              ∙ ap (λ p. overwrite (overwrite out at (le 8 i)) p (laid (le 8) (left (i + 1)))) (sym end)
              ∙ overwrite_append out at (le 8 i) (laid (le 8) (left (i + 1))) inside
              ∙ sym (ap (λ t. overwrite out at (laid (le 8) t)) (left_meets i h e))
              ∙ k.same;
        }

    pub writes_none : meets a (get_or rules i no_rule) ≡ false → Writing before out at (i + 1)
    writes_none e =
        let l = ap length (left_misses i h e) in
        let r = k.place in
        record {
          within = omega arith;
          long = k.long;
          fits = k.fits;
          place = omega arith;
          same = ap (λ t. overwrite out at (laid (le 8) t)) (sym (left_misses i h e)) ∙ k.same;
        }

  pub written_many : (before out : List ℕ) (n i : ℕ) → Writing before out (8 * n) i → length rules ≤ i → n ≡ length (positions a rules)
  written_many before out n i k h =
      let l = ap length (left_end i h) in
      let r = k.place in
      omega arith

  pub written_all : (before out : List ℕ) (at i : ℕ) → Writing before out at i → length rules ≤ i
      → out ≡ overwrite before 0 (laid (le 8) (positions a rules))
  written_all before out at i k h =
      sym (ap (λ t. overwrite out at (laid (le 8) t)) (left_end i h) ∙ overwrite_nil out at) ∙ k.same

-- THE ANSWER, where the buffer is too short for the n positions that were found, and where it is not: 8 bytes for each.
module _ (ps out : List ℕ) (n : ℕ) (e : n ≡ length ps) where
  bytes_count : length (laid (le 8) ps) ≡ 8 * length ps
  bytes_count = length_laid (le 8) 8 ps (sized_all (le 8) 8 (le_length 8) ps)

  pub listed_short : length out < 8 * n → (refused OutTooSmall ≡ listed_number (value ps) out) × (out ≡ written_buffer (listed_bytes (value ps)) out)
  listed_short h =
      let k = lt-leb (8 * length ps) (length out) (omega arith) in
      (rw k, rw (bytes_count, k))

  pub listed_all : 8 * n ≤ length out → (next : List ℕ) → next ≡ overwrite out 0 (laid (le 8) ps)
      → (value n ≡ listed_number (value ps) out) × (next ≡ written_buffer (listed_bytes (value ps)) out)
  listed_all h next w =
      let k = le-leb (8 * length ps) (length out) (omega arith) in (
        rw k (ap value e),
        rw (bytes_count, k) (w ∙ overwrite_at_front out (laid (le 8) ps) ∙ ap (λ m. laid (le 8) ps ++ drop m out) bytes_count),
      )
