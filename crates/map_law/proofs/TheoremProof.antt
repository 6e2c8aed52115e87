-- The map's theorem: a fresh map is a proper one of no rules, and each insertion leads from one such map to the next.
use Prim.Native.Nat.{ℕ, ◌≤◌}
use mathlib.Core.Path.{◌≡◌, refl, sym, ◌∙◌, ap}
use mathlib.Core.List.{List, [], ◌∷◌, ◌++◌}
use native.Mathlib.Omega.{arith}
use lib.ListN.{length, drop}
use borrow.Author.Tests.{le-leb}
use Rattle.willow.specs.declared.Limits.{Limits}
use Rattle.willow.specs.Answers.{written_buffer}
use Rattle.willow.specs.Limits.{Accepted, max_capacity}
use Rattle.willow.specs.Lists.{All}
use Rattle.willow.proofs.LimitLaws.{limit_laws}
use Rattle.sheet.specs.Rows.{sheet_length}
use Rattle.map_form.specs.Maps.{MapSizes, map_shape, Rule, map_layout, ProperMap}
use Rattle.map_law.specs.Insertions.{fresh_map, Insertion, Passed, insert_leaves}
use Rattle.map_law.specs.MapTheorem.{bytes_after, answers_to, Leads, MapTheorem}
use Rattle.map_law.proofs.FreshLaws.{fresh_fine, fresh_length}
use Rattle.map_law.proofs.StepLaws.{step}

-- A LIST of insertions from a proper map.
record Run (z : MapSizes) (rules : List Rule) (rest s : List ℕ) (xs : List Insertion) : Type 0 where
  last : List Rule
  leads : Leads z rules xs (answers_to s xs) last
  bytes : bytes_after s xs ≡ map_layout z last ++ rest
  within : length last ≤ z.capacity

run : (z : MapSizes) (rest : List ℕ) (xs : List Insertion) → All Passed xs → (rules : List Rule) (s : List ℕ) → ProperMap z rules
    → s ≡ map_layout z rules ++ rest → Run z rules rest s xs
run z rest [] w rules s p e = record { last = rules; leads = refl; bytes = e; within = p.count }
run z rest (x ∷ xs) w rules s p e =
    let t = step z rules rest s p e x w.0 in
    let r = run z rest xs w.1 t.next (insert_leaves s x) t.proper t.laid_out in
    record { last = r.last; leads = (t.tabled, (t.next, t.grown, r.leads)); bytes = r.bytes; within = r.within }

-- A FRESH MAP is one of no rules.
module _ (L : Limits) (N : ℕ) (a : Accepted L) (h : N ≤ max_capacity) where
  abbrev sizes : MapSizes
  sizes = record { limits = L; capacity = N }

  fresh_proper : ProperMap sizes []
  fresh_proper = record { limits_accepted = a; capacity_accepted = h; count = omega arith; rules_valid = tt }

  fresh_bytes : (out : List ℕ) → sheet_length (map_shape sizes) ≤ length out
      → written_buffer (fresh_map L N) out ≡ map_layout sizes [] ++ drop (sheet_length (map_shape sizes)) out
  fresh_bytes out room =
      let l = fresh_length sizes in
      let b = le-leb (length (map_layout sizes [])) (length out) (omega arith) in
      ap (λ o. written_buffer o out) (sym (fresh_fine L N ((limit_laws.limits_means L).1 a) ((limit_laws.capacity_means N).1 h))) ∙ rw (b, l)

pub map_theorem : MapTheorem
map_theorem L N out xs a h room w =
    let z : MapSizes = sizes L N a h in
    let r = run z (drop (sheet_length (map_shape z)) out) xs w [] (written_buffer (fresh_map L N) out) (fresh_proper L N a h) (fresh_bytes L N a h out room) in
    record { rules = r.last; leads = r.leads; bytes = r.bytes; within = r.within }
