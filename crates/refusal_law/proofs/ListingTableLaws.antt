-- The table of a listing: one of its kinds is bad, or it lends no path, or it lists; and each of the three is what the listing's own table
-- asks. On any bytes 2 stands before it, and 15 behind.
use Prim.Native.Nat.{ℕ, ◌*◌}
use mathlib.Core.Path.{◌≡◌, refl, sym, ◌∙◌, ap}
use mathlib.Core.Logic.Iff
use mathlib.Core.Logic.{◌⊎◌, inl, inr}
use mathlib.Core.List.{List, [], ◌∷◌}
use mathlib.Core.Option.{Option, none, some}
use mathlib.Core.Bool.{Bool, true, false, cond}
use native.Mathlib.Omega.{arith}
use lib.Dec.{leb}
use lib.ListN.{length}
use borrow.Author.Tests.{leb-true, leb-false}
use Rattle.willow.specs.declared.Refusal.TheVariants.{BadSheet, OutTooSmall}
use Rattle.willow.specs.Answers.{or_else}
use Rattle.willow.specs.Kinds.{GoodKind}
use Rattle.willow.specs.Numbers.{Bytes, le}
use Rattle.willow.specs.Packed.{lent}
use Rattle.willow.specs.Paths.{Path}
use Rattle.willow.specs.Refusals.{Outcome, refused, absent, value}
use Rattle.willow.proofs.AnswerLaws.{accepted_words}
use Rattle.willow.proofs.PackedLaws.{packed_form}
use Rattle.number.specs.Records.{laid}
use Rattle.sheet.proofs.LayoutLaws.{length_numbers}
use Rattle.map_form.specs.Maps.{MapSizes, Rule, IsMap, sizes_in, rules_in}
use Rattle.map_form.specs.MapTest.{is_map}
use Rattle.map_form.proofs.MapProofs.{map_reading}
use Rattle.map_law.specs.Insertions.{AreaArgument}
use Rattle.map_law.specs.MapTheorem.{GoodKinds, LendsPath}
use Rattle.listing_law.specs.Listings.{listing, listed_number, listed_bytes}
use Rattle.listing_law.specs.ListingTable as landed
use Rattle.listing_law.specs.ListingTable.{Lists}
use Rattle.listing_law.proofs.ListingTableLaws.{listing_on_bytes}
use Rattle.refusal_law.specs.Listing.{listing_rows, ListedByTable, ListingTables}
use Rattle.refusal_law.specs.Maps.{map_at, map_in, bad_map, area_kinds, bad_area_path}
use Rattle.refusal_law.proofs.FitLaws.{kind_decided}
use Rattle.refusal_law.proofs.MapTableLaws.{some_bad, none_bad_if, of_map, map_there, no_map_there}
use Rattle.tables.specs.TableRows.{bad_kind, out_too_small}
use Rattle.tables.specs.Tables.{refusal_of}
use Rattle.tables.proofs.BufferLaws.{apart, value_same}
use Rattle.tables.proofs.Rows.{First, gives, passes, no_row, same, behind, answered}

module _ (s : List ℕ) (z : MapSizes) (rules : List Rule) (x : AreaArgument) (m : IsMap s z rules) (b : Bytes x.buffer) where
  pub record Tabled : Type 0 where
    pub rows : First (listing_rows (map_at z rules) x) (refusal_of (listing s x))
    pub lists : refusal_of (listing s x) ≡ none → Lists z rules x (listing s x)

  own : landed.ListedByTable z rules x (listing s x)
  own = listing_on_bytes.by_table s z rules x b m

  bad_kinds : (GoodKinds x → ⊥) → Tabled
  bad_kinds n =
      let e = own.bad_kind_lem.1 n in
      record { rows = gives (some_bad x n) (ap refusal_of e); lists = λ f. let c : ◌≡◌ {A = ℕ} 0 1 = cc (sym (ap refusal_of e) ∙ f) in absurd (omega arith) }

  by_path : GoodKinds x → (o : Option Path) → lent z.limits x.buffer x.count ≡ o → Tabled
  by_path k none e =
      let l = (packed_form.lent_none z.limits x.buffer x.count (accepted_words z.limits m.proper.limits_accepted) b).0 e in
      let n : LendsPath z x → ⊥ = λ p. l p.0 p.1 in
      let g = own.bad_path_lem.1 (k, n) in
      record {
        rows = passes (none_bad_if x k) (gives n (ap refusal_of g));
        lists = λ h. let c : ◌≡◌ {A = ℕ} 0 1 = cc (sym (ap refusal_of g) ∙ h) in absurd (omega arith);
      }
  by_path k (some q) e =
      let p : LendsPath z x = (q, (packed_form.lent_some z.limits x.buffer x.count (accepted_words z.limits m.proper.limits_accepted) b q).0 e) in
      let l = own.lists k p in
      record { rows = passes (none_bad_if x k) (passes (λ n. n p) (no_row (ap refusal_of l.answered))); lists = λ h. l }

  pub tabled : Tabled
  tabled = go (kind_decided x.kind) (kind_decided x.end_kind)
    where
      go : GoodKind x.kind ⊎ (GoodKind x.kind → ⊥) → GoodKind x.end_kind ⊎ (GoodKind x.end_kind → ⊥) → Tabled
      go (inr n) e = bad_kinds (λ g. n g.0)
      go (inl a) (inr n) = bad_kinds (λ g. n g.1)
      go (inl a) (inl e) = by_path (a, e) (lent z.limits x.buffer x.count) refl

  pub table : ListedByTable z rules x (listing s x)
  table = let h = tabled in record { refusals = answered refl h.rows; lists = h.lists }

-- NO MAP: 2.
pub refused_as_none : (s : List ℕ) (x : AreaArgument) → Bytes s → ((z : MapSizes) (rules : List Rule) → IsMap s z rules → ⊥) → listing s x ≡ refused BadSheet
refused_as_none s x bs n = (listing_on_bytes.no_map s x bs).1 n

-- THE CALL. 15 behind the others: of what is listed, if something is.
too_short : (o : Outcome (List ℕ)) (out : List ℕ) → refusal_of o ≡ none
    → First (out_too_small (λ v. listed_bytes o ≡ value v) out ∷ []) (refusal_of (listed_number o out))
too_short (refused r) out e = let c : ◌≡◌ {A = ℕ} 0 1 = cc in absurd (omega arith)
too_short absent out e = passes (λ t. apart absent (value t.0) t.1 (λ h. omega arith)) (no_row refl)
too_short (value ps) out e = go (leb (8 * length ps) (length out)) refl
  where
    l : length (laid (le 8) ps) ≡ 8 * length ps
    l = length_numbers ps

    go : (t : Bool) → leb (8 * length ps) (length out) ≡ t
        → First (out_too_small (λ v. value (laid (le 8) ps) ≡ value v) out ∷ []) (refusal_of (cond t (value (length ps)) (refused OutTooSmall)))
    go true f =
        let m = leb-true (8 * length ps) (length out) f in
        let n = l in
        passes (λ t. let k = t.2 in let w = ap length (value_same (laid (le 8) ps) t.0 t.1) in omega arith) (no_row refl)
    go false f = let m = leb-false (8 * length ps) (length out) f in let n = l in gives (laid (le 8) ps, refl, omega arith) refl

refusal_before : (o : Outcome (List ℕ)) (out : List ℕ) → refusal_of (listed_number o out) ≡ or_else (refusal_of o) (refusal_of (listed_number o out))
refusal_before (refused r) out = refl
refusal_before absent out = refl
refusal_before (value ps) out = refl

call_rows : (s : List ℕ) (x : AreaArgument) (out : List ℕ) → Bytes s → Bytes x.buffer
    → First (bad_map s ∷ bad_kind (area_kinds x) ∷ bad_area_path (map_in s) x ∷ out_too_small (λ v. listed_bytes (listing s x) ≡ value v) out ∷ [])
    (refusal_of (listed_number (listing s x) out))
call_rows s x out bs bx = rw (refusal_before (listing s x) out) (behind (go (is_map s) refl) (λ e p. too_short (listing s x) out e))
  where
    in_map : (z : MapSizes) (rules : List Rule) (m : IsMap s z rules) → First (listing_rows (map_in s) x) (refusal_of (listing s x))
    in_map z rules m = same (refl, (Iff.rfl, (refl, (of_map s z rules m _, tt)))) (tabled s z rules x m bx).rows

    go : (t : Bool) → is_map s ≡ t → First (bad_map s ∷ listing_rows (map_in s) x) (refusal_of (listing s x))
    go true e =
        let m = map_reading.read s bs e in
        passes (map_there s (sizes_in s) (rules_in s) m) (in_map (sizes_in s) (rules_in s) m)
    go false e =
        let no : (z : MapSizes) (rules : List Rule) → IsMap s z rules → ⊥ =
        (map_reading.refused_exactly s bs).0 (ap (λ t. cond t none (some BadSheet)) e) in
        rw (refused_as_none s x bs no) (gives (no_map_there s no) refl)

pub listing_tables : ListingTables
listing_tables = record {
  by_table = λ s z rules x bx m. table s z rules x m bx;
  call_table = λ s x out bs bx. answered refl (call_rows s x out bs bx);
}
