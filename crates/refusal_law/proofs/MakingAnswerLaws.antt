-- What is made. Behind accepted limits a call answers what `admitted` answers of the one path that it is to make; and that is this path,
-- exactly where it is valid.
use Prim.Native.Nat.{ℕ}
use mathlib.Core.Path.{◌≡◌, refl, sym, ◌∙◌, ap, subst}
use mathlib.Core.Logic.Iff
use mathlib.Core.Logic.{◌↔◌}
use mathlib.Core.List.{List, [], ◌∷◌, ◌++◌}
use mathlib.Core.Bool.{Bool, true, false, cond}
use native.Mathlib.Omega.{arith}
use lib.Dec.{eqb}
use lib.ListN.{length}
use borrow.Author.Tests.{eqb-true, eq-eqb}
use Rattle.willow.specs.declared.Limits.{Limits}
use Rattle.willow.specs.declared.Refusal.TheVariants.{BadLimits, BadLengths}
use Rattle.willow.specs.Answers.{limits_refusal}
use Rattle.willow.specs.Construction.{admitted, lengths_in, lengths_fit, cut, from_slices, append, append_slice, Slices}
use Rattle.willow.specs.Limits.{Accepted, accepted_limits}
use Rattle.willow.specs.Lists.{All}
use Rattle.willow.specs.Numbers.{Bytes}
use Rattle.willow.specs.Paths.{Component, Path, path_length, Valid}
use Rattle.willow.specs.Refusals.{Outcome, refused, value}
use Rattle.tables.proofs.BufferLaws.{apart}
use Rattle.willow.proofs.ConstructionLaws.{construction, admission, valid_admitted, slices_read, slices_length, slices_cut}
use Rattle.willow.proofs.LimitLaws.{limit_laws}
use Rattle.construction.specs.Making.{under_limits, appended_of}
use Rattle.refusal_law.specs.MakingTables.{Summed, MakingAnswers}
use Rattle.refusal_law.proofs.FitLaws.{fits_means}

-- LIMITS: a value is given behind accepted ones alone.
under_value : {A : Type 0} (L : Limits) (o : Outcome A) (x : A) → (under_limits L o ≡ value x) ↔ (Accepted L × (o ≡ value x))
unfolding under_limits limits_refusal
under_value L o x = (λ e. go (accepted_limits L) refl e, λ t. rw ((limit_laws.limits_means L).1 t.0) t.1)
  where
    go : (b : Bool) → accepted_limits L ≡ b → under_limits L o ≡ value x → Accepted L × (o ≡ value x)
    go true h e = ((limit_laws.limits_means L).0 h, (rw h at e))
    go false h e = apart (refused BadLimits) (value x) (rw h at e) (λ k. omega arith)

-- THE PATHS of lengths and bytes: there is at most one, made of bytes.
bytes_of_both : (p q : Path) → All Bytes p → All Bytes q → All Bytes (p ++ q)
bytes_of_both [] q h k = k
bytes_of_both (c ∷ p) q h k = (h.0, bytes_of_both p q h.1 k)

module _ (L : Limits) (lengths bytes : List ℕ) (hl : Bytes lengths) (hb : Bytes bytes) where
  parts_bytes : (p : Path) → Slices lengths bytes p → All Bytes p
  parts_bytes p s = construction.slices_bytes lengths bytes p hb s

  -- behind a path, the empty one too
  behind_value : (p q : Path) → All Bytes p → (append_slice L p lengths bytes ≡ value q) ↔ ((s : Path) × Slices lengths bytes s × (q ≡ p ++ s) × Valid L q)
  unfolding append_slice
  behind_value p q hp = (to, from)
    where
      to : append_slice L p lengths bytes ≡ value q → (s : Path) × Slices lengths bytes s × (q ≡ p ++ s) × Valid L q
      to e = go (lengths_fit lengths bytes) refl e
        where
          go : (b : Bool) → lengths_fit lengths bytes ≡ b → cond b (admitted L (p ++ cut (lengths_in lengths) bytes)) (refused BadLengths) ≡ value q
              → (s : Path) × Slices lengths bytes s × (q ≡ p ++ s) × Valid L q
          go true f g =
              let t = (fits_means lengths bytes hl).0 f in
              let c = slices_cut lengths bytes t.0 (slices_read lengths bytes t.0 t.1) in
              let a = ((admission L (p ++ t.0) (bytes_of_both p t.0 hp (parts_bytes t.0 t.1))).valid q).0 (ap (λ x. admitted L (p ++ x)) c ∙ g) in
              (t.0, t.1, a.0, rw a.0 a.1)
          go false f g = apart (refused BadLengths) (value q) g (λ k. omega arith)

      from : (s : Path) × Slices lengths bytes s × (q ≡ p ++ s) × Valid L q → append_slice L p lengths bytes ≡ value q
      from t = construction.appended_as L p lengths bytes t.0 t.1 ∙ ap (admitted L) (sym t.2) ∙ valid_admitted L q t.3

  slices_value : (q : Path) → (from_slices L lengths bytes ≡ value q) ↔ (Slices lengths bytes q × Valid L q)
  unfolding from_slices
  slices_value q = (to, λ t. construction.made_as L lengths bytes q t.0 ∙ valid_admitted L q t.1)
    where
      to : from_slices L lengths bytes ≡ value q → Slices lengths bytes q × Valid L q
      to e = go (lengths_fit lengths bytes) refl e
        where
          go : (b : Bool) → lengths_fit lengths bytes ≡ b → cond b (admitted L (cut (lengths_in lengths) bytes)) (refused BadLengths) ≡ value q
              → Slices lengths bytes q × Valid L q
          go true f g =
              let t = (fits_means lengths bytes hl).0 f in
              let c = slices_cut lengths bytes t.0 (slices_read lengths bytes t.0 t.1) in
              let a = ((admission L t.0 (parts_bytes t.0 t.1)).valid q).0 (ap (admitted L) c ∙ g) in
              (subst (Slices lengths bytes) (sym a.0) t.1, rw a.0 a.1)
          go false f g = apart (refused BadLengths) (value q) g (λ k. omega arith)

  -- with the total beside them
  summed_value : (total : ℕ) (q : Path)
      → (cond (eqb total (length bytes)) (from_slices L lengths bytes) (refused BadLengths) ≡ value q) ↔ (Summed total lengths bytes q × Valid L q)
  summed_value total q = (λ e. go (eqb total (length bytes)) refl e, from)
    where
      long : (p : Path) → Slices lengths bytes p → path_length p ≡ length bytes
      long p s = slices_length lengths bytes p (slices_read lengths bytes p s)

      go : (b : Bool) → eqb total (length bytes) ≡ b → cond b (from_slices L lengths bytes) (refused BadLengths) ≡ value q
          → Summed total lengths bytes q × Valid L q
      go true f g = let t = (slices_value q).0 g in ((eqb-true total (length bytes) f ∙ sym (long q t.0), t.0), t.1)
      go false f g = apart (refused BadLengths) (value q) g (λ k. omega arith)

      from : Summed total lengths bytes q × Valid L q → cond (eqb total (length bytes)) (from_slices L lengths bytes) (refused BadLengths) ≡ value q
      from t = rw (eq-eqb total (length bytes) (t.0.0 ∙ long q t.0.1)) ((slices_value q).1 (t.0.1, t.1))

-- ONE COMPONENT, alone and behind a path.
one_value : (L : Limits) (p q : Path) → All Bytes p → (admitted L p ≡ value q) ↔ ((q ≡ p) × Valid L q)
one_value L p q h = (
  λ e. let t = ((admission L p h).valid q).0 e in (t.0, rw t.0 t.1),
  λ t. ap (admitted L) (sym t.0) ∙ valid_admitted L q t.1,
)

appended_value : (L : Limits) (c : Component) (p q : Path) → All Bytes p → Bytes c → (appended_of L c p ≡ value q) ↔ ((q ≡ p ++ (c ∷ [])) × Valid L q)
unfolding append
appended_value L c p q h k = one_value L (p ++ (c ∷ [])) q (bytes_of_both p (c ∷ []) h (k, tt))

both : {A B C : Type 0} → B ↔ C → (A × B) ↔ (A × C)
both m = (λ t. (t.0, m.0 t.1), λ t. (t.0, m.1 t.1))

pub making_answers : MakingAnswers
making_answers = record {
  from_slices_lem = λ L lengths bytes q h k. Iff.trans (under_value L (from_slices L lengths bytes) q) (both (slices_value L lengths bytes h k q));
  new_from_iter = λ L total lengths bytes q h k. Iff.trans (under_value L _ q) (both (summed_value L lengths bytes h k total q));
  new_empty = λ L q. Iff.trans (under_value L (value []) q) (both (λ e. let s : [] ≡ q = cc in sym s, λ e. ap value (sym e)));
  new_singleton = λ L c q h. Iff.trans (under_value L (admitted L (c ∷ [])) q) (both (one_value L (c ∷ []) q (h, tt)));
  append = appended_value;
  append_slice_lem = λ L lengths bytes p q hp hl hb. behind_value L lengths bytes hl hb p q hp;
}
