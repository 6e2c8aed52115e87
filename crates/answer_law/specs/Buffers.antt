-- WHAT A CALL LEAVES IN THE BUFFER FOR ITS ANSWER, a line for each call that is lent one, in the terms of its own contract. What is left
-- is `InBuffer` (tables/specs/BufferAnswers.antt): 15 exactly if the buffer is shorter than the answer; on 15, on every other refusal and
-- on none the buffer as found; else the answer at its front and the rest as found. An exported call that writes has the contract of its
-- call, but for the last of these. What a builder leaves in its buffer is `PartAnswers`, with `BuilderAcceptance` (crate builder_law).
use Rattle.std.specs.Prelude.{ℕ, List}
use Rattle.willow.specs.declared.Limits.{Limits}
use Rattle.willow.specs.Answers.{on_path, on_paths, path_in, packed_outcome, written_length, written_buffer}
use Rattle.tables.specs.BufferAnswers.{InBuffer}
use Rattle.willow.specs.Paths.{Component}
use Rattle.willow.specs.Ranges3d.{range3d_from}
use Rattle.willow.specs.Refusals.{Outcome, value}
use Rattle.willow.specs.Store.{Sizes}
use Rattle.tables.specs.Tables.{refusal_of}
use Rattle.reading.specs.Reading.{component_of}
use Rattle.writing.specs.Writing.{prefix_of, common_prefix_of}
use Rattle.construction.specs.Making.{slices_outcome, iter_outcome, empty_outcome, singleton_outcome, appended_of, slices_appended_of}
use Rattle.least.specs.Places.{next_greater_of, successor_of}
use Rattle.greatest.specs.Greatest.{greatest_outcome}
use Rattle.kinds.specs.Kinds.{on_kinds}
use Rattle.area.specs.declared.Area.{Area}
use Rattle.area.specs.LentAreas.{area_in}
use Rattle.area_kinds.specs.AreaKinds.{area_from, area_with}
use Rattle.range_3d_intersection.specs.Sides3d.{counts_at, converted_after}
use Rattle.map_law.specs.Insertions.{fresh_map, AreaArgument}
use Rattle.listing_law.specs.Listings.{listing, listed_number, listed_bytes}
use Rattle.map_reading.specs.Rules.{rule_path}
use Rattle.store_law.specs.Offers.{fresh_store}
use Rattle.store_reading.specs.Held.{entry_read, packed_of}
use Rattle.keyform.specs.Answering.{answer_text}

-- A call whose contract has the length of what it writes and the buffer afterwards of one and the same outcome.
abbrev pub Left : Outcome (List ℕ) → List ℕ → Type 0
Left o out = InBuffer o out (refusal_of (written_length o out)) (written_buffer o out)

-- There are no premises.
pub record BuffersLeft : Type 0 where
  pub write_part : (part out : List ℕ) → Left (value part) out
  pub write_component : (L : Limits) (b : List ℕ) (k i : ℕ) (out : List ℕ) → Left (on_path L b k (component_of i)) out
  pub write_prefix : (L : Limits) (b : List ℕ) (k n : ℕ) (out : List ℕ) → Left (packed_outcome (on_path L b k (prefix_of n))) out
  pub write_longest_common_prefix : (L : Limits) (a : List ℕ) (j : ℕ) (b : List ℕ) (k : ℕ) (out : List ℕ)
      → Left (packed_outcome (on_paths L a j b k common_prefix_of)) out
  pub from_slices_lem : (L : Limits) (lengths bytes out : List ℕ) → Left (packed_outcome (slices_outcome L lengths bytes)) out
  pub new_from_iter : (L : Limits) (total : ℕ) (lengths bytes out : List ℕ) → Left (packed_outcome (iter_outcome L total lengths bytes)) out
  pub new_empty : (L : Limits) (out : List ℕ) → Left (packed_outcome (empty_outcome L)) out
  pub new_singleton : (L : Limits) (c : Component) (out : List ℕ) → Left (packed_outcome (singleton_outcome L c)) out
  pub append : (L : Limits) (b : List ℕ) (k : ℕ) (c : Component) (out : List ℕ) → Left (packed_outcome (on_path L b k (appended_of L c))) out
  pub append_slice_lem : (L : Limits) (b : List ℕ) (k : ℕ) (lengths bytes out : List ℕ)
      → Left (packed_outcome (on_path L b k (slices_appended_of L lengths bytes))) out
  pub greater_but_not_prefixed : (L : Limits) (b : List ℕ) (k : ℕ) (out : List ℕ) → Left (packed_outcome (on_path L b k (next_greater_of L))) out
  pub successor : (L : Limits) (b : List ℕ) (k : ℕ) (out : List ℕ) → Left (packed_outcome (on_path L b k (successor_of L))) out
  pub singleton_range_lem : (L : Limits) (b : List ℕ) (k : ℕ) (out : List ℕ) → Left (packed_outcome (on_path L b k (successor_of L))) out
  pub new_max : (L : Limits) (out : List ℕ) → Left (packed_outcome (greatest_outcome L)) out
  pub fresh_map_lem : (L : Limits) (N : ℕ) (out : List ℕ) → Left (fresh_map L N) out
  pub write_rule_path : (s : List ℕ) (i : ℕ) (out : List ℕ) → Left (rule_path s i) out
  pub fresh_store_lem : (z : Sizes) (out : List ℕ) → Left (fresh_store z) out
  pub write_entry_path : (s : List ℕ) (i : ℕ) (out : List ℕ) → Left (packed_of (entry_read s i)) out
  pub key_line : (line out : List ℕ) → Left (value (answer_text line)) out
  -- what a listing answers is how many positions it wrote (`ListingInBuffer` has what its bytes mean)
  pub intersecting : (s : List ℕ) (x : AreaArgument) (out : List ℕ)
      → InBuffer (listed_bytes (listing s x)) out (refusal_of (listed_number (listing s x) out)) (written_buffer (listed_bytes (listing s x)) out)
  -- an area turned into a 3d range answers the 3d range beside what it wrote; the call, and the exported one
  pub from_area : (L : Limits) (area : Area) (base out : List ℕ)
      → InBuffer (packed_outcome (on_path L base area.count (next_greater_of L))) out
      (refusal_of (converted_after (written_length (packed_outcome (on_path L base area.count (next_greater_of L))) out)
      (counts_at (range3d_from L (area_in area base)))))
      (written_buffer (packed_outcome (on_path L base area.count (next_greater_of L))) out)
  pub exported_from_area : (L : Limits) (kind id count start end_kind end : ℕ) (base out : List ℕ)
      → InBuffer (packed_outcome (on_kinds L (area_from kind id count start end_kind end) (λ a. on_path L base a.count (next_greater_of L)))) out
      (refusal_of (on_kinds L (area_from kind id count start end_kind end)
      (λ a. converted_after (written_length (packed_outcome (on_path L base a.count (next_greater_of L))) out)
      (counts_at (range3d_from L (area_with a (path_in base a.count)))))))
      (written_buffer (packed_outcome (on_kinds L (area_from kind id count start end_kind end) (λ a. on_path L base a.count (next_greater_of L)))) out)
