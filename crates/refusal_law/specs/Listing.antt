-- WHICH NUMBER A LISTING IS REFUSED WITH, on the bytes of a map and on any bytes.
use Rattle.std.specs.Prelude.{ℕ, ◌≡◌, List, [], ◌∷◌}
use Rattle.std.proofs.Math.Option.{none}
use Rattle.willow.specs.Numbers.{Bytes}
use Rattle.willow.specs.Refusals.{Outcome, value}
use Rattle.map_form.specs.Maps.{MapSizes, Rule, IsMap}
use Rattle.map_law.specs.Insertions.{AreaArgument}
use Rattle.listing_law.specs.Listings.{listing, listed_number, listed_bytes}
use Rattle.listing_law.specs.ListingTable.{Lists}
use Rattle.refusal_law.specs.Maps.{map_at, map_in, bad_map, area_kinds, bad_area_path}
use Rattle.tables.specs.TableRows.{bad_kind, out_too_small}
use Rattle.tables.specs.Tables.{Row, AnsweredBy, refusal_of}

-- THE TABLE of a listing: 3 and 5, of the map that `Of` says (`map_at`, `map_in`).
abbrev pub listing_rows : ((MapSizes → List Rule → Type 0) → Type 0) → AreaArgument → List Row
listing_rows Of x = bad_kind (area_kinds x) ∷ bad_area_path Of x ∷ []

-- For a buffer that begins with a map of these rules: a listing is refused by the table, and else it lists.
pub record ListedByTable (z : MapSizes) (rules : List Rule) (x : AreaArgument) (o : Outcome (List ℕ)) : Type 0 where
  pub refusals : AnsweredBy (listing_rows (map_at z rules) x) (refusal_of o)
  pub lists : refusal_of o ≡ none → Lists z rules x o

-- For every map, whatever follows it in its buffer, and every area that is passed. The premises are that the buffers hold bytes and, for
-- the first, that one begins with a map: 40 zero bytes are one, of limits 0 and no capacity.
pub record ListingTables : Type 0 where
  pub by_table : (s : List ℕ) (z : MapSizes) (rules : List Rule) (x : AreaArgument) → Bytes x.buffer → IsMap s z rules
      → ListedByTable z rules x (listing s x)
  -- the table on any bytes, with the buffer for the answer: 2, 3, 5, 15
  pub call_table : (s : List ℕ) (x : AreaArgument) (out : List ℕ) → Bytes s → Bytes x.buffer
      → AnsweredBy (bad_map s ∷ bad_kind (area_kinds x) ∷ bad_area_path (map_in s) x ∷ out_too_small (λ v. listed_bytes (listing s x) ≡ value v) out ∷ [])
      (refusal_of (listed_number (listing s x) out))
