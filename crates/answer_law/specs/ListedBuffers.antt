-- WHAT A LISTING LEAVES IN ITS BUFFER, position by position.
use Rattle.std.specs.Prelude.{ℕ, ◌*◌, ◌≤◌, ◌<◌, ◌≡◌, List, length, drop, get_or}
use Rattle.willow.specs.declared.Refusal.{Refusal}
use Rattle.willow.specs.declared.Refusal.TheVariants.{OutTooSmall}
use Rattle.willow.specs.Answers.{written_buffer}
use Rattle.willow.specs.Limits.{max_word}
use Rattle.willow.specs.Lists.{All}
use Rattle.willow.specs.Numbers.{Bytes, number_at}
use Rattle.willow.specs.Refusals.{Outcome, refused, value}
use Rattle.map_law.specs.Insertions.{AreaArgument}
use Rattle.listing_law.specs.Listings.{listing, listed_number, listed_bytes}

-- THE ANSWER IN ITS BUFFER. Where positions are listed and the buffer has room for 8 bytes each, their number is answered, and position k
-- stands in bytes 8k to 8k + 8: these read as a number are that position; behind them stands what stood there. Else the buffer is as it
-- was. That a position is a number of 64 bits is asked, as 0 is: of a map there are at most 4,096.
pub record ListedInBuffer (ps out end : List ℕ) (given : Outcome ℕ) : Type 0 where
  pub short : length out < 8 * length ps → (given ≡ refused OutTooSmall) × (end ≡ out)
  pub number : 8 * length ps ≤ length out → given ≡ value (length ps)
  pub position : 8 * length ps ≤ length out → (k : ℕ) → k < length ps → number_at end (8 * k) ≡ get_or ps k 0
  pub behind : 8 * length ps ≤ length out → drop (8 * length ps) end ≡ drop (8 * length ps) out

pub record ListingInBuffer : Type 0 where
  pub listed : (ps out : List ℕ) → All (λ p. p ≤ max_word) ps
      → ListedInBuffer ps out (written_buffer (listed_bytes (value ps)) out) (listed_number (value ps) out)
  pub refused_kept : (r : Refusal) (out : List ℕ)
      → (listed_number (refused r) out ≡ refused r) × (written_buffer (listed_bytes (refused r)) out ≡ out)
  -- what a listing lists are numbers of 64 bits
  pub words : (s : List ℕ) (x : AreaArgument) (ps : List ℕ) → Bytes s → Bytes x.buffer → listing s x ≡ value ps → All (λ p. p ≤ max_word) ps
