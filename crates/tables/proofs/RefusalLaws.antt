-- What the tables share. A question that refuses nothing by itself adds no row to those of the tests before it; an answer that is written
-- adds 15's row, of the one answer that there is; and the path that a tested buffer holds is the one that is lent.
use Prim.Native.Nat.{ℕ, ◌<◌}
use mathlib.Core.Path.{◌≡◌, refl, sym, ◌∙◌, ap, subst}
use mathlib.Core.Logic.{◌↔◌}
use mathlib.Core.List.{List, [], ◌∷◌}
use mathlib.Core.Option.{none, some}
use mathlib.Core.Bool.{Bool, true, false, cond}
use native.Mathlib.Omega.{arith}
use lib.ListN.{length}
use Rattle.willow.specs.declared.Limits.{Limits}
use Rattle.willow.specs.Answers.{path_in, written_length, packed_outcome}
use Rattle.willow.specs.Limits.{Accepted}
use Rattle.willow.specs.Numbers.{Bytes}
use Rattle.willow.specs.Packed.{Lent}
use Rattle.willow.specs.Paths.{Path}
use Rattle.willow.specs.Refusals.{Outcome, refused, absent, value}
use Rattle.tables.specs.TableRows.{out_too_small}
use Rattle.tables.specs.Tables.{refusal_of}
use Rattle.willow.proofs.AnswerLaws.{accepted_words, PathPassed}
use Rattle.willow.proofs.PackedLaws.{packed_form}
use Rattle.tables.proofs.LentLaws.{written_row}
use Rattle.tables.proofs.Rows.{First, passes, no_row, same_condition}

-- NOTHING IS REFUSED by an answer that is there or not,
pub may_be_there : {A : Type 0} (t : Bool) (x : A) → refusal_of (cond t (value x) absent) ≡ none
may_be_there true x = refl
may_be_there false x = refl

-- nor by a path that is packed, where none is by the path.
pub packed_refusal : (o : Outcome Path) → refusal_of (packed_outcome o) ≡ refusal_of o
packed_refusal (refused r) = refl
packed_refusal absent = refl
packed_refusal (value p) = refl

-- THE PATH THAT IS LENT, of a buffer that passed: the one that it holds, and no other.
pub held : (L : Limits) (b : List ℕ) (k : ℕ) → Bytes b → Accepted L → PathPassed L b k → (p : Path) → Lent L b k p ↔ (p ≡ path_in b k)
held L b k h a t p =
    let m = packed_form.lent_some L b k (accepted_words L a) h p in
    (λ l. same (sym (m.1 l) ∙ t.path), λ e. m.0 (t.path ∙ ap some (sym e)))
  where
    same : some p ≡ some (path_in b k) → p ≡ path_in b k
    same e = cc

-- 15, where `Says v` says that v are the bytes of the outcome.
pub said_row : (Says : List ℕ → Type 0) (out : List ℕ) (o : Outcome (List ℕ)) → refusal_of o ≡ none → ((v : List ℕ) → (o ≡ value v) ↔ Says v)
    → First (out_too_small Says out ∷ []) (refusal_of (written_length o out))
said_row Says out (refused r) e m = let z : ◌≡◌ {A = ℕ} 0 1 = cc in absurd (omega arith)
said_row Says out absent e m = passes (λ t. nothing t.0 ((m t.0).1 t.1)) (no_row refl)
  where
    nothing : (v : List ℕ) → absent ≡ value v → ⊥
    nothing v e = let z : ◌≡◌ {A = ℕ} 0 1 = cc in omega arith
said_row Says out (value w) e m =
    same_condition (λ h. (w, (m w).0 refl, h), λ t. subst (λ v. length out < length v) (sym (same t.0 ((m t.0).1 t.1))) t.2) (written_row w out)
  where
    same : (v : List ℕ) → value w ≡ value v → w ≡ v
    same v e = cc
