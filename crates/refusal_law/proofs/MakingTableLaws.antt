-- There is at most one path to be made, so what its rows say of it (7, 8, 9 and 15) is what `admitted` tests of that one. Before it stands 6,
-- which says that there are no components to make it of, and before that 1, or 1 and 5 where a path is lent.
use Prim.Native.Nat.{ℕ, ◌<◌}
use mathlib.Core.Path.{◌≡◌, refl, sym, ◌∙◌, ap, subst}
use mathlib.Core.Logic.Iff
use mathlib.Core.Logic.{◌↔◌}
use mathlib.Core.List.{List, [], ◌∷◌, ◌++◌}
use mathlib.Core.Option.{Option}
use mathlib.Core.Bool.{Bool, true, false, cond}
use lib.Dec.{ltb, eqb}
use lib.ListN.{length}
use borrow.Author.Tests.{eqb-true, eqb-false}
use Rattle.willow.specs.declared.Limits.{Limits}
use Rattle.willow.specs.declared.Refusal.{Refusal}
use Rattle.willow.specs.declared.Refusal.TheVariants.{BadLengths, PathTooLong, TooManyComponents, ComponentTooLong}
use Rattle.willow.specs.Answers.{limits_refusal, path_in, path_refusal, on_path, written_length, packed_outcome}
use Rattle.willow.specs.Construction.{admitted, lengths_in, lengths_fit, cut, from_slices, append, append_slice, Slices, SomeTooLong}
use Rattle.willow.specs.Lists.{In, any}
use Rattle.willow.specs.Numbers.{Bytes}
use Rattle.willow.specs.Packed.{pack}
use Rattle.willow.specs.Paths.{Component, Path, path_length}
use Rattle.willow.specs.Refusals.{Outcome, refused, value}
use Rattle.tables.specs.TableRows.{bad_limits, bad_path, among, bad_lengths, part_of, out_too_small}
use Rattle.tables.specs.Tables.{refusal_of}
use Rattle.willow.proofs.AnswerLaws.{path_passed}
use Rattle.willow.proofs.ConstructionLaws.{some_too_long, slices_read, slices_length, slices_cut}
use Rattle.tables.proofs.Rows.{First, gives, row, row_not, below, behind, answered}
use Rattle.construction.specs.Making.{under_limits, slices_outcome, iter_outcome, empty_outcome, singleton_outcome, appended_of, slices_appended_of}
use Rattle.refusal_law.specs.MakingTables.{Summed, Only, Appended, SlicesAppended, PackedMade, made_rows, MakingTables}
use Rattle.tables.proofs.RefusalLaws.{held, said_row}
use Rattle.tables.proofs.LentLaws.{limits_row, one_rows, unless_chain}
use Rattle.refusal_law.proofs.FitLaws.{fits_means}

-- the refusal in what is answered for an outcome
abbrev answer : List ℕ → Outcome Path → Option Refusal
answer out o = refusal_of (written_length (packed_outcome o) out)

-- THE ONE PATH that is to be made: its rows.
module _ (L : Limits) (Made : Path → Type 0) (out : List ℕ) (p : Path) (made : Made p) (one : (q : Path) → Made q → q ≡ p) where
  -- what is said of it is said of the path that is made
  of_made : (P : Path → Type 0) → P p ↔ ((q : Path) × Made q × P q)
  of_made P = (λ h. (p, made, h), λ t. subst P (one t.0 t.1) t.2)

  -- its components
  parts_made : SomeTooLong L p ↔ ((c : Component) × part_of Made c × (L.mcl < length c))
  parts_made = (
    λ t. (t.0, (p, made, t.1), t.2),
    λ t. (t.0, subst (In t.0) (one t.1.0 t.1.1) t.1.2, t.2),
  )

  -- and its packed form
  packed_made : (v : List ℕ) → (value (pack p) ≡ value v) ↔ PackedMade Made v
  packed_made v = (λ e. (p, made, same e), λ t. ap value (sym (t.2 ∙ ap pack (one t.0 t.1))))
    where
      same : value (pack p) ≡ value v → v ≡ pack p
      same e = cc

  admitted_rows : First (made_rows L Made out) (answer out (admitted L p))
  unfolding admitted
  admitted_rows =
      row (answer out) (ltb L.mpl (path_length p)) PathTooLong (refused PathTooLong) _ refl
      (Iff.trans (below L.mpl (path_length p)) (of_made (λ q. L.mpl < path_length q))) (λ short.
      row (answer out) (ltb L.mcc (length p)) TooManyComponents (refused TooManyComponents) _ refl
      (Iff.trans (below L.mcc (length p)) (of_made (λ q. L.mcc < length q))) (λ few.
      row (answer out) (any (λ c. ltb L.mcl (length c)) p) ComponentTooLong (refused ComponentTooLong) (value p) refl
      (Iff.trans (some_too_long L p) parts_made) (λ narrow.
      said_row (PackedMade Made) out (value (pack p)) refl packed_made)))

-- SLICES: 6 where they stand for no components, and else the rows of what is made of them.
module _ (L : Limits) (lengths bytes out : List ℕ) (h : Bytes lengths) where
  only_pieces : (s : Path) → Slices lengths bytes s → s ≡ cut (lengths_in lengths) bytes
  only_pieces s d = slices_cut lengths bytes s (slices_read lengths bytes s d)

  fitting_rows : (Parts Made : Path → Type 0) (q : Path) → ((s : Path) → Parts s ↔ Slices lengths bytes s)
      → (Slices lengths bytes (cut (lengths_in lengths) bytes) → Made q) → ((r : Path) → Made r → r ≡ q)
      → First (bad_lengths Parts ∷ made_rows L Made out) (answer out (cond (lengths_fit lengths bytes) (admitted L q) (refused BadLengths)))
  fitting_rows Parts Made q m make one =
      let fits = fits_means lengths bytes h in
      row_not (answer out) (lengths_fit lengths bytes) BadLengths (refused BadLengths) (admitted L q) refl
      (λ e. let s = fits.0 e in (s.0, (m s.0).1 s.1), λ s. fits.1 (s.0, (m s.0).0 s.1)) (λ s.
      let d = (m s.0).0 s.1 in
      admitted_rows L Made out q (make (subst (Slices lengths bytes) (only_pieces s.0 d) d)) one)

  -- from_slices
  made_rows_lem : (Made : Path → Type 0) → ((p : Path) → Made p ↔ Slices lengths bytes p)
      → First (bad_lengths Made ∷ made_rows L Made out) (answer out (from_slices L lengths bytes))
  unfolding from_slices
  made_rows_lem Made m =
      fitting_rows Made Made (cut (lengths_in lengths) bytes) m
      (λ d. (m (cut (lengths_in lengths) bytes)).1 d) (λ r d. only_pieces r ((m r).0 d))

  slices_rows : First (bad_limits L ∷ bad_lengths (Slices lengths bytes) ∷ made_rows L (Slices lengths bytes) out) (answer out (slices_outcome L lengths bytes))
  unfolding under_limits
  slices_rows =
      rw (unless_chain (answer out) (λ r. refl) (limits_refusal L) (from_slices L lengths bytes))
      (behind (limits_row L) (λ e q. made_rows_lem (Slices lengths bytes) (λ p. Iff.rfl)))

  -- new_from_iter: where the total is the number of bytes it is the sum of the lengths, and else it is none
  summed_rows : (total : ℕ) (t : Bool) → eqb total (length bytes) ≡ t
      → First (bad_lengths (Summed total lengths bytes) ∷ made_rows L (Summed total lengths bytes) out)
      (answer out (cond t (from_slices L lengths bytes) (refused BadLengths)))
  summed_rows total true e =
      made_rows_lem (Summed total lengths bytes) (λ p. (
        λ s. s.1,
        λ s. (eqb-true total (length bytes) e ∙ sym (slices_length lengths bytes p (slices_read lengths bytes p s)), s),
      ))
  summed_rows total false e =
      gives (λ s. eqb-false total (length bytes) e (s.1.0 ∙ slices_length lengths bytes s.0 (slices_read lengths bytes s.0 s.1.1))) refl

  iter_rows : (total : ℕ)
      → First (bad_limits L ∷ bad_lengths (Summed total lengths bytes) ∷ made_rows L (Summed total lengths bytes) out) (answer out (iter_outcome L total lengths bytes))
  unfolding under_limits
  iter_rows total =
      rw (unless_chain (answer out) (λ r. refl) (limits_refusal L) (cond (eqb total (length bytes)) (from_slices L lengths bytes) (refused BadLengths)))
      (behind (limits_row L) (λ e q. summed_rows total (eqb total (length bytes)) refl))

  -- append_slice
  slices_appended_rows : (b : List ℕ) (k : ℕ) → Bytes b
      → First
      (bad_limits L
      ∷ bad_path L (among ((b, k) ∷ []))
      ∷ bad_lengths (Slices lengths bytes)
      ∷ made_rows L (SlicesAppended L b k lengths bytes) out)
      (answer out (on_path L b k (slices_appended_of L lengths bytes)))
  unfolding on_path append_slice
  slices_appended_rows b k g =
      rw (unless_chain (answer out) (λ r. refl) (path_refusal L b k) (append_slice L (path_in b k) lengths bytes))
      (behind (one_rows L b k g) (λ e r.
      let t = path_passed L b k e in
      let m = held L b k g t.0 t.1 in
      fitting_rows (Slices lengths bytes) (SlicesAppended L b k lengths bytes) (path_in b k ++ cut (lengths_in lengths) bytes) (λ s. Iff.rfl)
      (λ d. (path_in b k, cut (lengths_in lengths) bytes, (m (path_in b k)).1 refl, d, refl))
      (λ q d. d.4 ∙ (λ i. (m d.0).0 d.2 i ++ only_pieces d.1 d.3 i))))

-- append
appended_rows : (L : Limits) (b : List ℕ) (k : ℕ) (c : Component) (out : List ℕ) → Bytes b
    → First (bad_limits L ∷ bad_path L (among ((b, k) ∷ [])) ∷ made_rows L (Appended L b k c) out) (answer out (on_path L b k (appended_of L c)))
unfolding on_path append
appended_rows L b k c out h =
    rw (unless_chain (answer out) (λ r. refl) (path_refusal L b k) (append L (path_in b k) c))
    (behind (one_rows L b k h) (λ e r.
    let t = path_passed L b k e in
    let m = held L b k h t.0 t.1 in
    admitted_rows L (Appended L b k c) out (path_in b k ++ (c ∷ [])) (path_in b k, (m (path_in b k)).1 refl, refl)
    (λ q d. d.2 ∙ ap (λ p. p ++ (c ∷ [])) ((m d.0).0 d.1))))

-- A PATH OF GIVEN COMPONENTS: new_singleton, and new_empty, which admits the empty path untested.
singleton_rows : (L : Limits) (c : Component) (out : List ℕ)
    → First (bad_limits L ∷ made_rows L (Only (c ∷ [])) out) (answer out (singleton_outcome L c))
unfolding under_limits
singleton_rows L c out =
    rw (unless_chain (answer out) (λ r. refl) (limits_refusal L) (admitted L (c ∷ [])))
    (behind (limits_row L) (λ e q. admitted_rows L (Only (c ∷ [])) out (c ∷ []) refl (λ r d. d)))

empty_rows : (L : Limits) (out : List ℕ) → First (bad_limits L ∷ out_too_small (PackedMade (Only [])) out ∷ []) (answer out (empty_outcome L))
unfolding under_limits
empty_rows L out =
    rw (unless_chain (answer out) (λ r. refl) (limits_refusal L) (value []))
    (behind (limits_row L) (λ e q.
    said_row (PackedMade (Only [])) out (value (pack [])) refl (packed_made L (Only []) out [] refl (λ r d. d))))

pub making_tables : MakingTables
making_tables = record {
  from_slices_lem = λ L lengths bytes out h. answered refl (slices_rows L lengths bytes out h);
  new_from_iter = λ L total lengths bytes out h. answered refl (iter_rows L lengths bytes out h total);
  append = λ L b k c out h. answered refl (appended_rows L b k c out h);
  append_slice_lem = λ L b k lengths bytes out g h. answered refl (slices_appended_rows L lengths bytes out h b k g);
  new_empty = λ L out. answered refl (empty_rows L out);
  new_singleton = λ L c out. answered refl (singleton_rows L c out);
}
