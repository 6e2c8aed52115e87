-- The tables of the calls that start a builder: the builder's own rows, one behind the other, are rows of a table.
use Prim.Native.Nat.{ℕ}
use mathlib.Core.Path.{refl}
use mathlib.Core.Logic.Iff
use mathlib.Core.Logic.{◌↔◌}
use mathlib.Core.List.{List, ◌∷◌}
use mathlib.Core.Option.{Option}
use Rattle.willow.specs.declared.Refusal.{Refusal}
use Rattle.builder_law.specs.Building.{State, limits_of, state_of, new_refusal, prefix_refusal}
use Rattle.builder_law.specs.Table as own
use Rattle.builder_law.specs.Table.{applies, passes}
use Rattle.builder_law.proofs.TableLaws.{builder_table}
use Rattle.refusal_law.specs.Builders.{new_rows, prefix_rows, BuilderTables}
use Rattle.tables.specs.TableRows.{NoneLent}
use Rattle.tables.specs.Tables.{Row, ◌when◌}
use Rattle.tables.proofs.LentLaws.{in_one}
use Rattle.tables.proofs.Rows as rows
use Rattle.tables.proofs.Rows.{First, no_row, answered}

-- A row of the builder's own, in the same words or in others.
one : {C D : Type 0} {r : Refusal} {others : Option Refusal → Type 0} {behind : List Row} {a : Option Refusal} → C ↔ D
    → own.Row C r others a → (others a → First behind a) → First (r when D ∷ behind) a
one m (applies c e) k = rows.gives (m.0 c) e
one m (passes n h) k = rows.passes (λ d. n (m.1 d)) (k h)

new_first : (s : State) (out : List ℕ) (a : Option Refusal) → own.NewTable s out a → First (new_rows s out) a
new_first s out a t = one Iff.rfl t (λ t. one Iff.rfl t (λ t. one Iff.rfl t (λ t. one Iff.rfl t (λ e. no_row e))))

prefix_first : (s : State) (b : List ℕ) (k n : ℕ) (out : List ℕ) (a : Option Refusal) → own.PrefixTable s b k n out a → First (prefix_rows s b k n out) a
prefix_first s b k n out a t =
    one Iff.rfl t (λ t.
    one (in_one (NoneLent (limits_of s)) (b, k)) t (λ t.
    one Iff.rfl t (λ t. one Iff.rfl t (λ t. one Iff.rfl t (λ t. one Iff.rfl t (λ t. one Iff.rfl t (λ e. no_row e)))))))

pub builder_tables : BuilderTables
builder_tables = record {
  new_refused = λ L bytes count out. answered refl (new_first (state_of L bytes count 0) out (new_refusal L bytes count out) (builder_table.new_refused L bytes count out));
  prefix_refused = λ L bytes count b k n out h.
      answered refl (prefix_first (state_of L bytes count n) b k n out (prefix_refusal L bytes count b k n out) (builder_table.prefix_refused L bytes count b k n out h));
}
