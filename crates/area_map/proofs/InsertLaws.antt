-- An insertion as the code goes through it, a law for each way out: what is answered, and the bytes that are left.
use Prim.Native.Nat.{ℕ, ◌≤◌, ◌<◌}
use mathlib.Core.Path.{◌≡◌, refl, sym, ◌∙◌, ap}
use mathlib.Core.List.{List, [], ◌∷◌, ◌++◌}
use mathlib.Core.Option.{Option, none, some}
use mathlib.Core.Bool.{true}
use native.Mathlib.Omega.{arith}
use lib.ListN.{length}
use borrow.Author.Tests.{eq-eqb, ne_eqb}
use Rattle.willow.specs.declared.Limits.{Limits}
use Rattle.willow.specs.declared.Refusal.{Refusal}
use Rattle.willow.specs.declared.Refusal.TheVariants.{BadKind, NoRoom}
use Rattle.willow.specs.Answers.{unless, lent_refusal, path_in, path_refusal}
use Rattle.willow.specs.Numbers.{Bytes}
use Rattle.willow.specs.Packed.{pack}
use Rattle.willow.specs.Refusals.{Outcome, refused, value}
use Rattle.willow.proofs.AnswerLaws.{path_passed, limits_fine}
use Rattle.willow.proofs.LimitLaws.{limit_laws}
use Rattle.willow.proofs.PackedLaws.{unpack_valid}
use Rattle.willow.proofs.ValidLaws.{valid_take}
use Rattle.sheet.specs.Cells.{cell_size_of}
use Rattle.sheet.proofs.CellProofs.{cell_room}
use Rattle.kinds.specs.Kinds.{of_kinds, on_kinds}
use Rattle.map_law.proofs.AskedKindLaws.{kinds_fine}
use Rattle.area_kinds.specs.AreaKinds.{Parts, area_with}
use Rattle.map_form.specs.Maps.{MapSizes, Rule, sizes_in, count_in, rules_in}
use Rattle.map_form.specs.MapTest.{is_map, MapPassed}
use Rattle.map_law.specs.Insertions.{Insertion, parts_in, area_refusal, insert_refusal, insert_answer, insert_leaves, leaves_for, with_rules}
use Rattle.map_putting.specs.PutRows.{with_row}
use Rattle.area_map.specs.Putting.{leaves_unless, parts_refusal, area_answer, area_leaves}
use Rattle.area_map.proofs.AddedLaws.{rule_added}
use Rattle.map_law.proofs.ArgumentLaws.{parts_stand}

-- What is answered and left: behind 2 and 3, of an area's parts; and of a whole insertion.
abbrev pub AreaCase : List ℕ → Parts → List ℕ → ℕ → Outcome ℕ → List ℕ → Type 0
AreaCase s a b v o t = (o ≡ area_answer s a b) × (t ≡ area_leaves s a b v)

abbrev pub InsertCase : List ℕ → Insertion → Outcome ℕ → List ℕ → Type 0
InsertCase s x o t = (o ≡ insert_answer s x) × (t ≡ insert_leaves s x)

-- The rule of an area's parts, the buffer of its path and a value.
abbrev pub rule_of : Parts → List ℕ → ℕ → Rule
rule_of a b v = record { area = area_with a (path_in b a.count); value = v }

-- THE PATH. It is packed in no more bytes than a cell has.
pub path_fits : (L : Limits) (b : List ℕ) (k : ℕ) → Bytes b → path_refusal L b k ≡ none → length (pack (path_in b k)) ≤ cell_size_of L
unfolding path_in
path_fits L b k bytes e = let h = (path_passed L b k e).1 in cell_room L _ (valid_take L k _ (unpack_valid L b h.formed bytes))

-- A MAP THAT PASSED ITS TEST, by the sizes that were read.
module _ (s : List ℕ) (known : MapPassed s) (z : MapSizes) (same : z ≡ sizes_in s) (a : Parts) (b : List ℕ) (v : ℕ) where
  -- the test of a path with the map's limits is 5 alone
  five_alone : path_refusal z.limits b a.count ≡ lent_refusal (sizes_in s).limits b a.count
  unfolding path_refusal
  five_alone = rw (same, limits_fine (sizes_in s).limits known.sizes.limits_accepted)

  -- 5
  pub path_refused : (r : Refusal) → path_refusal z.limits b a.count ≡ some r → AreaCase s a b v (refused r) s
  unfolding area_answer area_leaves parts_refusal
  path_refused r e = let f = sym five_alone ∙ e in (rw f, rw f)

  module _ (fine : path_refusal z.limits b a.count ≡ none) where
    lent_fine : lent_refusal (sizes_in s).limits b a.count ≡ none
    lent_fine = sym five_alone ∙ fine

    -- 14
    pub no_room_lem : (n : ℕ) → n ≡ count_in s → n ≡ z.capacity → AreaCase s a b v (refused NoRoom) s
    unfolding area_answer area_leaves parts_refusal
    no_room_lem n en e =
        let full = eq-eqb (count_in s) (sizes_in s).capacity (sym en ∙ e ∙ ap (λ y. y.capacity) same) in
        (rw (lent_fine, full), rw (lent_fine, full))

    -- the rule behind the others
    pub taken : (n : ℕ) → n ≡ count_in s → (n ≡ z.capacity → ⊥) → Bytes s → Bytes b
        → (t : List ℕ) → t ≡ with_row z s n (rule_of a b v) → AreaCase s a b v (value n) t
    unfolding area_answer area_leaves parts_refusal
    taken n en ne bytes path_bytes t e =
        let other = ne_eqb (count_in s) (sizes_in s).capacity (λ f. ne (en ∙ f ∙ sym (ap (λ y. y.capacity) same))) in
        let free : count_in s < (sizes_in s).capacity = let w = known.sizes.count in let f = ap (λ y. y.capacity) same in omega arith in
        let fits : length (pack (path_in b a.count)) ≤ cell_size_of (sizes_in s).limits = rw same at (path_fits z.limits b a.count path_bytes fine) in
        let added = rule_added s bytes known.tested (rule_of a b v) free fits in (
          rw (lent_fine, other) (ap value en),
          rw (lent_fine, other) (e ∙ ap (λ y. with_row y s n (rule_of a b v)) same ∙ ap (λ k. with_row (sizes_in s) s k (rule_of a b v)) en ∙ added),
        )

-- THE WHOLE CALL. 2, where the test fails:

module _ (s : List ℕ) (x : Insertion) (known : MapPassed s) (z : MapSizes) (same : z ≡ sizes_in s) where
  passed : is_map s ≡ true
  passed = known.tested

  three_alone : on_kinds z.limits (parts_in x.area) value ≡ of_kinds (parts_in x.area) value
  three_alone = kinds_fine z.limits (parts_in x.area) value ((limit_laws.limits_means z.limits).1 (rw same known.sizes.limits_accepted))

  -- 3
  pub kinds_refused : (r : Refusal) → refused r ≡ on_kinds z.limits (parts_in x.area) value → InsertCase s x (refused r) s
  unfolding insert_answer insert_leaves insert_refusal area_refusal
  kinds_refused r e = go (parts_in x.area) refl (e ∙ three_alone)
    where
      go : (o : Option Parts) → parts_in x.area ≡ o → refused r ≡ of_kinds o value → InsertCase s x (refused r) s
      go none f g = let h : r ≡ BadKind = cc in (rw (passed, f, h), rw (passed, f))
      go (some a) f g = absurd (let z : ◌≡◌ {A = ℕ} 0 1 = cc in omega arith)

  -- else as its parts are answered
  module _ (a : Parts) (e : value a ≡ on_kinds z.limits (parts_in x.area) value) where
    parts_read : parts_in x.area ≡ some a
    parts_read = go (parts_in x.area) (e ∙ three_alone)
      where
        go : (o : Option Parts) → value a ≡ of_kinds o value → o ≡ some a
        go none g = absurd (let z : ◌≡◌ {A = ℕ} 0 1 = cc in omega arith)
        go (some c) g = cc

    same_count : a.count ≡ x.area.count
    same_count = (parts_stand x.area a parts_read).count

    refusal_is : insert_refusal s x ≡ parts_refusal s a x.area.buffer
    unfolding insert_refusal area_refusal parts_refusal
    refusal_is = rw (passed, parts_read, ← same_count)

    leaves_is : insert_leaves s x ≡ area_leaves s a x.area.buffer x.value
    unfolding insert_leaves area_leaves
    leaves_is = rw (refusal_is, parts_read) (go (parts_refusal s a x.area.buffer))
      where
        go : (o : Option Refusal) → leaves_for s x o (some a) ≡ leaves_unless s o (with_rules s (rules_in s ++ (rule_of a x.area.buffer x.value ∷ [])))
        go (some r) = refl
        go none = ap (λ k. with_rules s (rules_in s ++ (record { area = area_with a (path_in x.area.buffer k); value = x.value } ∷ []))) (sym same_count)

    pub as_parts : (o : Outcome ℕ) (t : List ℕ) → AreaCase s a x.area.buffer x.value o t → InsertCase s x o t
    unfolding insert_answer area_answer
    as_parts o t w = (w.0 ∙ ap (λ r. unless r (value (count_in s))) (sym refusal_is), w.1 ∙ sym leaves_is)
