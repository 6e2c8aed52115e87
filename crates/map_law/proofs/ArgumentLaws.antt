-- An area as it is passed: its kinds are good exactly if they stand for something, and what they stand for is made of the numbers
-- that were passed.
use Prim.Native.Nat.{ℕ, ◌≤◌}
use mathlib.Core.Path.{◌≡◌, refl, sym, ◌∙◌, ap}
use mathlib.Core.Logic.{◌⊎◌, inl, inr}
use mathlib.Core.Option.{Option, none, some}
use native.Mathlib.Omega.{arith}
use Rattle.willow.specs.declared.AreaSubspace.{AreaSubspace}
use Rattle.willow.specs.declared.AreaSubspace.TheVariants.{Any, Id}
use Rattle.willow.specs.Areas.{subspace_from, SubspaceWord}
use Rattle.willow.specs.Kinds.{Says}
use Rattle.willow.specs.Limits.{max_word}
use Rattle.willow.specs.Packed.{Lent}
use Rattle.willow.specs.Paths.{Path}
use Rattle.willow.specs.Ranges.{End, closed, endless, EndHas, end_from}
use Rattle.willow.proofs.KindProofs.{kind_laws, says_good}
use Rattle.kinds.specs.Kinds.{both, from_start}
use Rattle.area_kinds.specs.AreaKinds.{Parts, parts_of, area_from, area_with}
use Rattle.map_form.specs.Maps.{MapSizes}
use Rattle.map_law.specs.Insertions.{AreaArgument, PassedArea, parts_in}
use Rattle.map_law.specs.MapTheorem.{GoodKinds, Means}

-- AN AREA. What is known of the parts that its arguments stand for:
pub record Stands (x : AreaArgument) (a : Parts) : Type 0 where
  pub subspace : subspace_from x.kind x.id ≡ some a.subspace
  pub count : a.count ≡ x.count
  pub start : a.times.start ≡ x.start
  pub end : end_from x.end_kind x.end ≡ some a.times.end

pub parts_stand : (x : AreaArgument) (a : Parts) → parts_in x ≡ some a → Stands x a
unfolding area_from
parts_stand x a e = go (subspace_from x.kind x.id) (end_from x.end_kind x.end) refl refl e
  where
    go : (o : Option AreaSubspace) (m : Option (End ℕ)) → subspace_from x.kind x.id ≡ o → end_from x.end_kind x.end ≡ m
        → parts_of x.count (both o (from_start x.start m)) ≡ some a → Stands x a
    go none m f g h = absurd (let z : ◌≡◌ {A = ℕ} 0 1 = cc in omega arith)
    go (some u) none f g h = absurd (let z : ◌≡◌ {A = ℕ} 0 1 = cc in omega arith)
    go (some u) (some v) f g h =
        let same : ◌≡◌ {A = Parts} (record { subspace = u; count = x.count; times = record { start = x.start; end = v } }) a = cc in
        record {
          subspace = f ∙ ap (λ p. some p.subspace) same;
          count = ap (λ p. p.count) (sym same);
          start = ap (λ p. p.times.start) (sym same);
          end = g ∙ ap (λ p. some p.times.end) same;
        }

-- and where they stand for none, one of the two kinds does
none_stand : (x : AreaArgument) → parts_in x ≡ none → (subspace_from x.kind x.id ≡ none) ⊎ (end_from x.end_kind x.end ≡ none)
unfolding area_from
none_stand x e = go (subspace_from x.kind x.id) (end_from x.end_kind x.end) refl refl e
  where
    go : (o : Option AreaSubspace) (m : Option (End ℕ)) → subspace_from x.kind x.id ≡ o → end_from x.end_kind x.end ≡ m
        → parts_of x.count (both o (from_start x.start m)) ≡ none
        → (subspace_from x.kind x.id ≡ none) ⊎ (end_from x.end_kind x.end ≡ none)
    go none m f g h = inl f
    go (some u) none f g h = inr g
    go (some u) (some v) f g h = absurd (let z : ◌≡◌ {A = ℕ} 0 1 = cc in omega arith)

-- What the two kinds say:
subspace_said : (x : AreaArgument) (a : Parts) → Stands x a → Says x.kind Any (Id x.id) a.subspace
unfolding subspace_from
subspace_said x a h = (kind_laws.says x.kind Any (Id x.id) a.subspace).0 h.subspace

end_said : (x : AreaArgument) (a : Parts) → Stands x a → Says x.end_kind endless (closed x.end) a.times.end
unfolding end_from
end_said x a h = (kind_laws.says x.end_kind endless (closed x.end) a.times.end).0 h.end

-- THE KINDS are good exactly if the arguments stand for something.
pub parts_good : (x : AreaArgument) (a : Parts) → parts_in x ≡ some a → GoodKinds x
parts_good x a e =
    let h = parts_stand x a e in
    (says_good x.kind Any (Id x.id) a.subspace (subspace_said x a h), says_good x.end_kind endless (closed x.end) a.times.end (end_said x a h))

pub none_bad : (x : AreaArgument) → parts_in x ≡ none → GoodKinds x → ⊥
unfolding subspace_from end_from
none_bad x e g = go (none_stand x e)
  where
    go : (subspace_from x.kind x.id ≡ none) ⊎ (end_from x.end_kind x.end ≡ none) → ⊥
    go (inl f) = (kind_laws.bad x.kind Any (Id x.id)).0 f g.0
    go (inr f) = (kind_laws.bad x.end_kind endless (closed x.end)).0 f g.1

-- THE AREA that they mean, with the path that is lent.
pub parts_mean : (z : MapSizes) (x : AreaArgument) (a : Parts) → parts_in x ≡ some a → (p : Path) → Lent z.limits x.buffer x.count p
    → Means z x (area_with a p)
parts_mean z x a e p l =
    let h = parts_stand x a e in
    record {
      subspace = subspace_said x a h;
      path = l;
      start = h.start;
      end = end_said x a h;
    }

-- ITS NUMBERS are of 64 bits where those passed are.
module _ (x : AreaArgument) (a : Parts) (e : parts_in x ≡ some a) (w : PassedArea x) where
  pub parts_subspace_word : SubspaceWord a.subspace
  parts_subspace_word = go (subspace_said x a (parts_stand x a e))
    where
      go : Says x.kind Any (Id x.id) a.subspace → SubspaceWord a.subspace
      go (inl f) = rw f.1 tt
      go (inr f) = rw f.1 w.id_word

  pub parts_start_word : a.times.start ≤ max_word
  parts_start_word = rw (parts_stand x a e).start w.start_word

  pub parts_end_word : EndHas (λ n. n ≤ max_word) a.times.end
  parts_end_word = go (end_said x a (parts_stand x a e))
    where
      go : Says x.end_kind endless (closed x.end) a.times.end → EndHas (λ n. n ≤ max_word) a.times.end
      go (inl f) = rw f.1 tt
      go (inr f) = rw f.1 w.end_word
