-- The table of an insertion, for each answer: where its condition holds, those of the other answers do not.
use Prim.Native.Nat.{ℕ, ◌<◌}
use mathlib.Core.Path.{◌≡◌, refl}
use mathlib.Core.List.{List}
use native.Mathlib.Omega.{arith}
use lib.ListN.{length}
use Rattle.willow.specs.declared.Refusal.TheVariants.{BadKind, BadPath, NoRoom}
use Rattle.willow.specs.Refusals.{Outcome, refused, value}
use Rattle.map_form.specs.Maps.{MapSizes, Rule}
use Rattle.map_law.specs.Insertions.{Insertion}
use Rattle.map_law.specs.MapTheorem.{GoodKinds, LendsPath, Table}

-- Two answers that differ.
differ : {A : Type 0} (a b : Outcome ℕ) → a ≡ b → (a ≡ b → ◌≡◌ {A = ℕ} 0 1) → A
differ a b e f = let z = f e in absurd (omega arith)

module _ (z : MapSizes) (rules : List Rule) (x : Insertion) where
  pub bad_kind_lem : (GoodKinds x.area → ⊥) → Table z rules x (refused BadKind)
  bad_kind_lem n = record {
    bad_kind_lem = (λ e. n, λ g. refl);
    bad_path_lem = (λ e. differ _ _ e (λ f. cc), λ g. absurd (n g.0));
    no_room_lem = (λ e. differ _ _ e (λ f. cc), λ g. absurd (n g.0));
    taken = (λ e. differ _ _ e (λ f. cc), λ g. absurd (n g.0));
  }

  pub bad_path_lem : GoodKinds x.area → (LendsPath z x.area → ⊥) → Table z rules x (refused BadPath)
  bad_path_lem k n = record {
    bad_kind_lem = (λ e. differ _ _ e (λ f. cc), λ g. absurd (g k));
    bad_path_lem = (λ e. (k, n), λ g. refl);
    no_room_lem = (λ e. differ _ _ e (λ f. cc), λ g. absurd (n g.1));
    taken = (λ e. differ _ _ e (λ f. cc), λ g. absurd (n g.1));
  }

  pub no_room_lem : GoodKinds x.area → LendsPath z x.area → length rules ≡ z.capacity → Table z rules x (refused NoRoom)
  no_room_lem k p full = record {
    bad_kind_lem = (λ e. differ _ _ e (λ f. cc), λ g. absurd (g k));
    bad_path_lem = (λ e. differ _ _ e (λ f. cc), λ g. absurd (g.1 p));
    no_room_lem = (λ e. (k, p, full), λ g. refl);
    taken = (λ e. differ _ _ e (λ f. cc), λ g. let l = g.2 in absurd (omega arith));
  }

  pub taken : GoodKinds x.area → LendsPath z x.area → length rules < z.capacity → Table z rules x (value (length rules))
  taken k p free = record {
    bad_kind_lem = (λ e. differ _ _ e (λ f. cc), λ g. absurd (g k));
    bad_path_lem = (λ e. differ _ _ e (λ f. cc), λ g. absurd (g.1 p));
    no_room_lem = (λ e. differ _ _ e (λ f. cc), λ g. let l = g.2 in absurd (omega arith));
    taken = (λ e. (k, p, free), λ g. refl);
  }
