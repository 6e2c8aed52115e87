-- The table of an insertion: one of its kinds is bad, or it lends no path, or the map is full, or none of these; and each of the four is what
-- the map's own table asks. On any bytes: where they begin with a map, that is the one that is read of them, and so what a row asks of a map
-- is asked of it; where they do not, 2 is given. A fresh map is tested, and then the buffer against its length.
use Prim.Native.Nat.{ℕ, ◌≤◌, ◌<◌}
use mathlib.Core.Path.{◌≡◌, refl, sym, ◌∙◌, ap}
use mathlib.Core.Logic.Iff
use mathlib.Core.Logic.{◌⊎◌, inl, inr, ⊎_elim, ◌↔◌}
use mathlib.Core.List.{List, [], ◌∷◌}
use mathlib.Core.Option.{Option, none, some}
use mathlib.Core.Bool.{Bool, true, false, cond}
use native.Mathlib.Omega.{arith}
use lib.Dec.{eqb}
use lib.ListN.{length}
use borrow.Author.Tests.{eqb-true, eqb-false}
use Rattle.willow.specs.declared.Refusal.TheVariants.{BadSheet}
use Rattle.willow.specs.Answers.{or_else, limits_refusal, capacity_refusal, written_length}
use Rattle.willow.specs.Kinds.{GoodKind}
use Rattle.willow.specs.Limits.{Words}
use Rattle.willow.specs.Lists.{In}
use Rattle.willow.specs.Numbers.{Bytes}
use Rattle.willow.specs.Packed.{lent}
use Rattle.willow.specs.Paths.{Path}
use Rattle.willow.specs.Refusals.{Outcome, value}
use Rattle.willow.proofs.AnswerLaws.{accepted_words}
use Rattle.willow.proofs.PackedLaws.{packed_form}
use Rattle.map_form.specs.Maps.{MapSizes, Rule, map_layout, IsMap, sizes_in, rules_in}
use Rattle.map_form.specs.MapTest.{is_map}
use Rattle.map_form.proofs.MapProofs.{map_reading}
use Rattle.map_law.specs.Insertions.{fresh_map, AreaArgument, Insertion, insert_answer}
use Rattle.map_law.specs.MapTheorem as landed
use Rattle.map_law.specs.MapTheorem.{GoodKinds, LendsPath}
use Rattle.map_law.proofs.FreshLaws.{fresh_length}
use Rattle.map_law.proofs.RefusalLaws.{refused_as_no_map}
use Rattle.map_law.proofs.StepLaws.{step}
use Rattle.refusal_law.specs.Maps.{map_at, map_in, bad_map, area_kinds, insert_rows, Table, InsertionsByTable, InsertionRefusals, FreshMapTable}
use Rattle.refusal_law.proofs.FitLaws.{kind_decided}
use Rattle.tables.specs.Tables.{AnsweredBy, refusal_of}
use Rattle.tables.proofs.LentLaws.{sizes_row, unless_chain, written_row}
use Rattle.tables.proofs.Rows.{First, gives, passes, no_row, same_condition, behind, answered, in_front}

-- KINDS. One of them is bad exactly if not both are good.
abbrev SomeBad : AreaArgument → Type 0
SomeBad x = (kind : ℕ) × In kind (area_kinds x) × (GoodKind kind → ⊥)

pub some_bad : (x : AreaArgument) → (GoodKinds x → ⊥) → SomeBad x
some_bad x n = go (kind_decided x.kind) (kind_decided x.end_kind)
  where
    go : GoodKind x.kind ⊎ (GoodKind x.kind → ⊥) → GoodKind x.end_kind ⊎ (GoodKind x.end_kind → ⊥) → SomeBad x
    go (inr a) e = (x.kind, inl refl, a)
    go (inl a) (inr b) = (x.end_kind, inr (inl refl), b)
    go (inl a) (inl b) = absurd (n (a, b))

pub none_bad_if : (x : AreaArgument) → GoodKinds x → SomeBad x → ⊥
none_bad_if x g b = ⊎_elim (λ e. b.2 (rw e g.0)) (⊎_elim (λ e. b.2 (rw e g.1)) absurd) b.1

-- AN INSERTION into a map of these rules.
module _ (z : MapSizes) (rules : List Rule) (x : Insertion) (a : Outcome ℕ) (w : Words z.limits) (b : Bytes x.area.buffer)
    (within : length rules ≤ z.capacity) (t : landed.Table z rules x a) where
  record Tabled : Type 0 where
    rows : First (insert_rows (map_at z rules) x) (refusal_of a)
    taken : refusal_of a ≡ none → a ≡ value (length rules)

  bad_kinds : (GoodKinds x.area → ⊥) → Tabled
  bad_kinds n =
      let e = t.bad_kind_lem.1 n in
      record { rows = gives (some_bad x.area n) (ap refusal_of e); taken = λ f. let c : ◌≡◌ {A = ℕ} 0 1 = cc (sym (ap refusal_of e) ∙ f) in absurd (omega arith) }

  by_room : GoodKinds x.area → LendsPath z x.area → (full : Bool) → eqb (length rules) z.capacity ≡ full → Tabled
  by_room k p true e =
      let f = eqb-true (length rules) z.capacity e in
      let g = t.no_room_lem.1 (k, p, f) in
      record {
        rows = passes (none_bad_if x.area k) (passes (λ n. n p) (gives f (ap refusal_of g)));
        taken = λ h. let c : ◌≡◌ {A = ℕ} 0 1 = cc (sym (ap refusal_of g) ∙ h) in absurd (omega arith);
      }
  by_room k p false e =
      let f = eqb-false (length rules) z.capacity e in
      let g = t.taken.1 (k, p, below f) in
      record { rows = passes (none_bad_if x.area k) (passes (λ n. n p) (passes f (no_row (ap refusal_of g)))); taken = λ h. g }
    where
      below : (length rules ≡ z.capacity → ⊥) → length rules < z.capacity
      below n = let h = within in omega arith

  by_path : GoodKinds x.area → (m : Option Path) → lent z.limits x.area.buffer x.area.count ≡ m → Tabled
  by_path k none e =
      let l = (packed_form.lent_none z.limits x.area.buffer x.area.count w b).0 e in
      let n : LendsPath z x.area → ⊥ = λ p. l p.0 p.1 in
      let g = t.bad_path_lem.1 (k, n) in
      record {
        rows = passes (none_bad_if x.area k) (gives n (ap refusal_of g));
        taken = λ h. let c : ◌≡◌ {A = ℕ} 0 1 = cc (sym (ap refusal_of g) ∙ h) in absurd (omega arith);
      }
  by_path k (some q) e =
      by_room k (q, (packed_form.lent_some z.limits x.area.buffer x.area.count w b q).0 e) (eqb (length rules) z.capacity) refl

  tabled : Tabled
  tabled = go (kind_decided x.area.kind) (kind_decided x.area.end_kind)
    where
      go : GoodKind x.area.kind ⊎ (GoodKind x.area.kind → ⊥) → GoodKind x.area.end_kind ⊎ (GoodKind x.area.end_kind → ⊥) → Tabled
      go (inr n) e = bad_kinds (λ g. n g.0)
      go (inl a) (inr n) = bad_kinds (λ g. n g.1)
      go (inl a) (inl e) = by_path (a, e) (lent z.limits x.area.buffer x.area.count) refl

  pub table : Table z rules x a
  table = let h = tabled in record { refusals = answered refl h.rows; taken = h.taken }

pub insertions_by_table : InsertionsByTable
insertions_by_table s z rules x m p =
    let t = step z rules m.rest s m.proper m.laid_out x p in
    table z rules x (insert_answer s x) (accepted_words z.limits m.proper.limits_accepted) p.area_passed_lem.buffer_bytes m.proper.count t.tabled

-- THE MAP in the bytes is the one that is read of them.
pub of_map : (s : List ℕ) (z : MapSizes) (rules : List Rule) → IsMap s z rules → (Asked : MapSizes → List Rule → Type 0)
    → Asked z rules ↔ map_in s Asked
of_map s z rules m Asked = (
  λ h. (z, rules, m, h),
  λ x.
      let a = sym (map_reading.sizes_back s x.0 x.1 x.2) ∙ map_reading.sizes_back s z rules m in
      let b = sym (map_reading.rules_back s x.0 x.1 x.2) ∙ map_reading.rules_back s z rules m in
      rw (← a, ← b) x.3,
)

pub map_there : (s : List ℕ) (z : MapSizes) (rules : List Rule) → IsMap s z rules → (map_in s (λ z rules. Unit {0}) → ⊥) → ⊥
map_there s z rules m n = n (z, rules, m, tt)

pub no_map_there : (s : List ℕ) → ((z : MapSizes) (rules : List Rule) → IsMap s z rules → ⊥) → map_in s (λ z rules. Unit {0}) → ⊥
no_map_there s n x = n x.0 x.1 x.2

-- AN INSERTION on any bytes.
pub insertion_refusals : InsertionRefusals
insertion_refusals s x b p = go (is_map s) refl
  where
    go : (t : Bool) → is_map s ≡ t → AnsweredBy (bad_map s ∷ insert_rows (map_in s) x) (refusal_of (insert_answer s x))
    go true e =
        let m = map_reading.read s b e in
        let z = sizes_in s in
        let r = rules_in s in
        let t = insertions_by_table s z r x m p in
        in_front (map_there s z r m) (refl, (Iff.rfl, (refl, (of_map s z r m _, (refl, (of_map s z r m _, tt)))))) t.refusals
    go false e =
        let no : (z : MapSizes) (rules : List Rule) → IsMap s z rules → ⊥ =
        (map_reading.refused_exactly s b).0 (ap (λ t. cond t none (some BadSheet)) e) in
        rw ((refused_as_no_map s x b).1 no) (answered refl (gives (no_map_there s no) refl))

-- A FRESH MAP.
pub fresh_map_table : FreshMapTable
unfolding fresh_map
fresh_map_table L N out =
    let z : MapSizes = record { limits = L; capacity = N } in
    let l = fresh_length z in
    answered refl
    (rw (unless_chain (λ o. refusal_of (written_length o out)) (λ r. refl) (or_else (limits_refusal L) (capacity_refusal N)) (value (map_layout z [])))
    (behind (sizes_row L N) (λ e p.
    same_condition (λ h. omega arith, λ h. omega arith) (written_row (map_layout z []) out))))
