-- WHAT A LISTING IS ANSWERED, by meaning, on the bytes of a map.
use Rattle.std.specs.Prelude.{ℕ, ◌<◌, ◌≡◌, ◌↔◌, List, length, get_or}
use Rattle.willow.specs.declared.Refusal.TheVariants.{BadSheet, BadKind, BadPath}
use Rattle.willow.specs.Areas.{Area, Triplet, InArea}
use Rattle.willow.specs.Lists.{In, Ascending}
use Rattle.willow.specs.Numbers.{Bytes}
use Rattle.willow.specs.Refusals.{Outcome, refused, value}
use Rattle.map_form.specs.Maps.{MapSizes, Rule, IsMap}
use Rattle.map_law.specs.Insertions.{AreaArgument}
use Rattle.map_law.specs.MapTheorem.{GoodKinds, LendsPath, Means}
use Rattle.listing_law.specs.Listings.{listing}

-- "The listing gives each rule whose area intersects, one time and in that order, as its position from 0": the positions, ascending,
-- of exactly the rules whose area has a triplet in common with the area that the arguments mean. Past the last rule `none` stands in,
-- and is not read.
pub record Lists (z : MapSizes) (rules : List Rule) (x : AreaArgument) (o : Outcome (List ℕ)) : Type 0 where
  pub asked : Area
  pub asked_meant : Means z x asked
  pub listed : List ℕ
  pub answered : o ≡ value listed
  pub in_order : Ascending ◌<◌ listed
  pub exactly : (i : ℕ) (none : Rule) → In i listed ↔ ((i < length rules) × ((t : Triplet) × InArea (get_or rules i none).area t × InArea asked t))

-- THE TABLE, for a buffer that begins with a map of these rules: 3, then 5, each exactly if its condition holds and that of no refusal
-- tested before it does; and else the listing.
pub record ListedByTable (z : MapSizes) (rules : List Rule) (x : AreaArgument) (o : Outcome (List ℕ)) : Type 0 where
  pub bad_kind_lem : (o ≡ refused BadKind) ↔ (GoodKinds x → ⊥)
  pub bad_path_lem : (o ≡ refused BadPath) ↔ (GoodKinds x × (LendsPath z x → ⊥))
  pub lists : GoodKinds x → LendsPath z x → Lists z rules x o

-- For every map, whatever follows it in its buffer, and every area that is passed; and 2 exactly if no map's layout begins the buffer.
-- The premises are that the buffers hold bytes and, for the table, that one begins with a map: 40 zero bytes are one, of limits 0 and no
-- rules, and an empty buffer lends no path.
pub record ListingOnBytes : Type 0 where
  pub by_table : (s : List ℕ) (z : MapSizes) (rules : List Rule) (x : AreaArgument) → Bytes x.buffer → IsMap s z rules
      → ListedByTable z rules x (listing s x)
  pub no_map : (s : List ℕ) (x : AreaArgument) → Bytes s
      → (listing s x ≡ refused BadSheet) ↔ ((z : MapSizes) (rules : List Rule) → IsMap s z rules → ⊥)
