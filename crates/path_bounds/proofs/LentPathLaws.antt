-- What the questions on any number of lent paths mean.
use Prim.Native.Nat.{ℕ}
use mathlib.Core.Path.{◌≡◌, refl, sym, ◌∙◌, ap}
use mathlib.Core.List.{List, [], ◌∷◌}
use mathlib.Core.Option.{Option, none, some}
use native.Mathlib.Omega.{arith}
use lib.ListN.{take}
use Rattle.willow.specs.declared.Limits.{Limits}
use Rattle.willow.specs.declared.Refusal.TheVariants.{BadLimits, BadPath}
use Rattle.willow.specs.Answers.{lent_refusal, path_in}
use Rattle.willow.specs.Limits.{Accepted}
use Rattle.willow.specs.Lists.{All}
use Rattle.willow.specs.Packed.{unpack, lent, Lent}
use Rattle.willow.specs.Paths.{Path}
use Rattle.willow.proofs.AnswerLaws as limits
use Rattle.willow.proofs.AnswerLaws.{accepted_words}
use Rattle.willow.proofs.PackedLaws.{packed_form}
use Rattle.path_bounds.specs.LentPaths.{LentPath, any_bad_path, lent_paths_refusal, on_lent, HoldsBytes, IsLent, LentQuestions}

-- WHAT THE QUESTIONS MEAN. Limits that are not accepted are refused first; accepted ones leave the paths to be judged.
limits_refused : (L : Limits) (ps : List LentPath) → (Accepted L → ⊥) → lent_paths_refusal L ps ≡ some BadLimits
unfolding lent_paths_refusal
limits_refused L ps n = rw (limits.limits_refused L n)

limits_fine : (L : Limits) (ps : List LentPath) → Accepted L → lent_paths_refusal L ps ≡ any_bad_path L ps
unfolding lent_paths_refusal
limits_fine L ps a = rw (limits.limits_fine L a)

-- Paths that are all lent pass; and if not all are, the first that is none is refused.
all_lent : (L : Limits) (ps : List LentPath) → All HoldsBytes ps → Accepted L → All (IsLent L) ps → any_bad_path L ps ≡ none
unfolding lent_refusal
all_lent L [] h a l = refl
all_lent L (p ∷ ps) h a l =
    rw ((packed_form.lent_some L p.0 p.1 (accepted_words L a) h.0 l.0.0).1 l.0.1) (all_lent L ps h.1 a l.1)

one-not-lent : (L : Limits) (ps : List LentPath) → All HoldsBytes ps → Accepted L → (All (IsLent L) ps → ⊥) → any_bad_path L ps ≡ some BadPath
unfolding lent_refusal
one-not-lent L [] h a n = absurd (n tt)
one-not-lent L (p ∷ ps) h a n = go (lent L p.0 p.1) refl (one-not-lent L ps h.1 a)
  where
    go : (m : Option Path) → lent L p.0 p.1 ≡ m → ((All (IsLent L) ps → ⊥) → any_bad_path L ps ≡ some BadPath) → any_bad_path L (p ∷ ps) ≡ some BadPath
    go none e rest = rw e
    go (some q) e rest =
        let l = (packed_form.lent_some L p.0 p.1 (accepted_words L a) h.0 q).0 e in
        rw e (rest (λ ls. n ((q, l), ls)))

-- What is read of a lent path is that path: its packed form is read back.
lent_read : (L : Limits) (b : List ℕ) (k : ℕ) (q : Path) → Accepted L → Lent L b k q → path_in b k ≡ q
unfolding path_in
lent_read L b k q a l =
    let w = accepted_words L a in
    let m = w.mcc_word in
    let n = w.mpl_word in
    let v = l.valid in
    ap (λ x. take k (unpack x)) l.packed ∙ ap (take k) (packed_form.read_back l.whole (omega arith) (omega arith)) ∙ sym l.first

pub lent_questions : LentQuestions
unfolding on_lent
lent_questions = record {
  limits = λ L ps o n. rw (limits_refused L ps n);
  path = λ L ps o h a n. rw (limits_fine L ps a, one-not-lent L ps h a n);
  asked = λ L ps o h a l. rw (limits_fine L ps a, all_lent L ps h a l);
  read = lent_read;
}
