-- The marked cases (*) of document 01, with the pair at 4,096 and 4,097: a list of rows, and one theorem over all of them.
use Rattle.std.specs.Prelude.{ℕ, ◌≡◌, List, [], ◌∷◌, ◌++◌, map, length, replicate}
use Rattle.std.proofs.Math.Option.{Option, none, some}
use Rattle.willow.specs.declared.AreaSubspace.TheVariants.{Any}
use Rattle.willow.specs.declared.Limits.{Limits}
use Rattle.willow.specs.declared.Refusal.{Refusal}
use Rattle.willow.specs.Answers.{limits_refusal}
use Rattle.willow.specs.Areas.{Area, full_times}
use Rattle.willow.specs.Construction.{from_slices, length_buffer}
use Rattle.willow.specs.Entries.{digest_length}
use Rattle.willow.specs.LeastPaths.{next_greater, successor, greatest}
use Rattle.willow.specs.Orders.{compare_numbers}
use Rattle.willow.specs.Packed.{pack}
use Rattle.willow.specs.Paths.{Path}
use Rattle.willow.specs.Ranges.{End, closed, endless, Range, intersection}
use Rattle.willow.specs.Ranges3d.{range3d_from}
use Rattle.willow.specs.Refusals.{refusal_number, Outcome, refused, absent, value}
use Rattle.willow.specs.Store.{Sizes, fresh, Call, offer, Answer, outdated, taken, run, answers}

pub data Question : Type 0 where
  -- S, G and M of a key line
  successor_of next_greater_of : Limits → Path → Question
  greatest_under : Limits → Question
  -- `from_slices` of so many lengths, with zero bytes
  path_of_lengths : Limits → List ℕ → Question
  -- whether limits are accepted
  under_limits : Limits → Question
  -- intersection of two ranges of numbers
  both_ranges : Range ℕ → Range ℕ → Question
  -- the path end of the 3d range of an area with this path
  path_end : Limits → Path → Question
  -- offers to a fresh store of capacity N
  offers : Limits → ℕ → List Call → Question

pub data Reply : Type 0 where
  path : Path → Reply
  no_path : Reply
  refusal : ℕ → Reply
  accepted : Reply
  range : Option (Range ℕ) → Reply
  end : End Path → Reply
  totals : List Answer → ℕ → ℕ → Reply

abbrev pub reply_path : Option Path → Reply
reply_path none = no_path
reply_path (some p) = path p

abbrev pub reply_outcome : Outcome Path → Reply
reply_outcome (refused r) = refusal (refusal_number r)
reply_outcome absent = no_path
reply_outcome (value p) = path p

abbrev pub reply_refusal : Option Refusal → Reply
reply_refusal none = accepted
reply_refusal (some r) = refusal (refusal_number r)

abbrev pub zero_bytes : List ℕ → List ℕ
zero_bytes [] = []
zero_bytes (n ∷ ns) = replicate n 0 ++ zero_bytes ns

abbrev pub area_with : Path → Area
area_with p = record { subspace = Any; path = p; times = full_times }

abbrev pub sizes_of : Limits → ℕ → Sizes
sizes_of L N = record { limits = L; capacity = N; namespace = 0 }

abbrev pub ask : Question → Reply
ask (successor_of L p) = reply_path (successor L p)
ask (next_greater_of L p) = reply_path (next_greater L p)
ask (greatest_under L) = path (greatest L)
ask (path_of_lengths L ns) = reply_outcome (from_slices L (length_buffer ns) (zero_bytes ns))
ask (under_limits L) = reply_refusal (limits_refusal L)
ask (both_ranges r s) = range (intersection compare_numbers r s)
ask (path_end L p) = end (range3d_from L (area_with p)).paths.end
ask (offers L N cs) = totals (answers (sizes_of L N) fresh cs) (run (sizes_of L N) fresh cs).held (run (sizes_of L N) fresh cs).let_go

pub record Row : Type 0 where
  pub question : Question
  pub reply : Reply

abbrev pub limits : ℕ → ℕ → ℕ → Limits
limits a b c = record { mcl = a; mcc = b; mpl = c }

-- An offer of a path, a time and a payload length.
abbrev pub offering : Path → ℕ → ℕ → Call
offering p t n = offer (record {
  namespace = 0;
  subspace = 0;
  timestamp = t;
  payload_length = n;
  digest = replicate digest_length 0;
  buffer = pack p;
  count = length p;
})

infix 60 ◌gives◌
abbrev pub ◌gives◌ : Question → Reply → Row
q gives a = record { question = q; reply = a }

abbrev pub rows : List Row
rows =
    -- 2 1 2 S 01ff: 02
    (successor_of (limits 2 1 2) ((0x01 ∷ 0xff ∷ []) ∷ []) gives path ((0x02 ∷ []) ∷ []))
    -- 2 2 3 S (): -
    ∷ (successor_of (limits 2 2 3) [] gives path ([] ∷ []))
    -- 2 2 3 S 01: 01/-
    ∷ (successor_of (limits 2 2 3) ((0x01 ∷ []) ∷ []) gives path ((0x01 ∷ []) ∷ [] ∷ []))
    -- 3 2 3 G 01ff/ff: 01ff00
    ∷ (next_greater_of (limits 3 2 3) ((0x01 ∷ 0xff ∷ []) ∷ (0xff ∷ []) ∷ []) gives path ((0x01 ∷ 0xff ∷ 0x00 ∷ []) ∷ []))
    -- 2 2 2 G ffff/-: none
    ∷ (next_greater_of (limits 2 2 2) ((0xff ∷ 0xff ∷ []) ∷ [] ∷ []) gives no_path)
    -- 4 2 6 M: ffffffff/ffff
    ∷ (greatest_under (limits 4 2 6) gives path ((0xff ∷ 0xff ∷ 0xff ∷ 0xff ∷ []) ∷ (0xff ∷ 0xff ∷ []) ∷ []))
    -- 1 2 5 M: ff/ff
    ∷ (greatest_under (limits 1 2 5) gives path ((0xff ∷ []) ∷ (0xff ∷ []) ∷ []))
    -- Limits 2 1 3, lengths 2,2: 7; lengths 1,1: 8
    ∷ (path_of_lengths (limits 2 1 3) (2 ∷ 2 ∷ []) gives refusal 7)
    ∷ (path_of_lengths (limits 2 1 3) (1 ∷ 1 ∷ []) gives refusal 8)
    -- [3,9) with open from 9: none; [3,10) with it: [9,10)
    ∷ (both_ranges (record { start = 3; end = closed 9 }) (record { start = 9; end = endless }) gives range none)
    ∷ (both_ranges (record { start = 3; end = closed 10 }) (record { start = 9; end = endless }) gives range (some (record { start = 9; end = closed 10 })))
    -- 2 2 3, area path 01 to 3d: path end 0100
    ∷ (path_end (limits 2 2 3) ((0x01 ∷ []) ∷ []) gives end (closed ((0x01 ∷ 0x00 ∷ []) ∷ [])))
    -- One subspace, N = 1: path 01 time 5, 10 bytes; 01/02 time 4, 7 bytes; () time 6, 1 byte: held 1, let go 17
    ∷ (offers (limits 2 2 3) 1 (offering ((0x01 ∷ []) ∷ []) 5 10 ∷ offering ((0x01 ∷ []) ∷ (0x02 ∷ []) ∷ []) 4 7 ∷ offering [] 6 1 ∷ []) gives totals (taken 0 ∷ outdated ∷ taken 1 ∷ []) 1 17)
    -- MPL 4,096 accepted, 4,097: 1
    ∷ (under_limits (limits 1024 1024 4096) gives accepted)
    ∷ (under_limits (limits 1024 1024 4097) gives refusal 1)
    ∷ []

-- THEOREM 10. Every row's question has the row's reply.
abbrev pub MarkedCases : Type 0
MarkedCases = map (λ r. ask r.question) rows ≡ map (λ r. r.reply) rows
