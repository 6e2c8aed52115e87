-- The test of a map means refusal 2: what passes is a map and every map passes, so a buffer is refused exactly if it holds none.
use Prim.Native.Nat.{ℕ}
use mathlib.Core.Path.{◌≡◌, ap}
use mathlib.Core.Logic.{◌↔◌}
use mathlib.Core.List.{List}
use mathlib.Core.Option.{none, some}
use mathlib.Core.Bool.{Bool, true, cond}
use native.Mathlib.Omega.{arith}
use Rattle.willow.specs.declared.Refusal.TheVariants.{BadSheet}
use Rattle.willow.specs.Numbers.{Bytes}
use Rattle.willow.proofs.Bools.{not_true_false}
use Rattle.map_form.specs.Maps.{Rule, MapSizes, IsMap, sizes_in, rules_in}
use Rattle.map_form.specs.MapTest.{is_map, map_refusal, MapReading}
use Rattle.map_form.proofs.MapReads.{sizes_back, rules_back, passes}
use Rattle.map_form.proofs.MapSound.{read}

-- the refusal, by the test
refused_failed : (b : Bool) → cond b none (some BadSheet) ≡ some BadSheet → b ≡ true → ⊥
refused_failed b e h = let z : ◌≡◌ {A = ℕ} 0 1 = cc in omega arith

refused_exactly : (s : List ℕ) → Bytes s
    → (map_refusal s ≡ some BadSheet) ↔ ((z : MapSizes) (rules : List Rule) → IsMap s z rules → ⊥)
refused_exactly s bytes = (
  λ e z rules m. refused_failed (is_map s) e (passes s z rules m),
  λ n. ap (λ b. cond b none (some BadSheet)) (not_true_false (is_map s) (λ h. n (sizes_in s) (rules_in s) (read s bytes h))),
)

pub map_reading : MapReading
map_reading = record {
  passes = passes;
  read = read;
  sizes_back = sizes_back;
  rules_back = rules_back;
  refused_exactly = refused_exactly;
}
