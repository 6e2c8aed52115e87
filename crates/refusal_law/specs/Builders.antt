-- WHICH NUMBER A CALL THAT STARTS A BUILDER IS REFUSED WITH.
use Rattle.std.specs.Prelude.{ℕ, List, [], ◌∷◌}
use Rattle.willow.specs.declared.Limits.{Limits}
use Rattle.willow.specs.declared.Refusal.TheVariants.{PathTooLong, TooManyComponents, NoSuchPrefix, Overfilled, OutTooSmall}
use Rattle.willow.specs.Numbers.{Bytes}
use Rattle.builder_law.specs.Building.{State, limits_of, state_of, new_refusal, prefix_refusal}
use Rattle.builder_law.specs.Table.{DeclaredLong, DeclaredMany, PrefixMissing, PrefixPasses, BufferShort}
use Rattle.tables.specs.TableRows.{bad_limits, bad_path, among}
use Rattle.tables.specs.Tables.{Row, ◌when◌, AnsweredBy}

-- THE ROWS that the builder alone can meet, each named once; those of limits and of a lent path are shared by all calls
-- (tables/specs/TableRows.antt). 7: "total length over MPL", as declared.
abbrev pub declared_too_long : State → Row
declared_too_long s = PathTooLong when DeclaredLong s

-- 8: "count over MCC", as declared.
abbrev pub declared_too_many : State → Row
declared_too_many s = TooManyComponents when DeclaredMany s

-- 10: "a builder is started from more components than the reference has": than the count that is lent beside it.
abbrev pub no_such_prefix : ℕ → ℕ → Row
no_such_prefix k n = NoSuchPrefix when PrefixMissing k n

-- 11: "a component or prefix would pass the builder's declared count or length": a prefix of n components of the path that is lent, by its
-- count or by its bytes.
abbrev pub prefix_overfills : State → List ℕ → ℕ → ℕ → Row
prefix_overfills s b k n = Overfilled when PrefixPasses s b k n

-- 15: "the buffer for the answer is too short": "if shorter than the declared path".
abbrev pub buffer_too_small : State → List ℕ → Row
buffer_too_small s out = OutTooSmall when BufferShort s out

-- THE TABLES, of `new`,
abbrev pub new_rows : State → List ℕ → List Row
new_rows s out =
    bad_limits (limits_of s)
    ∷ declared_too_long s
    ∷ declared_too_many s
    ∷ buffer_too_small s out
    ∷ []

-- and of `new_from_prefix`, with n components of the reference b that is lent with the count k.
abbrev pub prefix_rows : State → List ℕ → ℕ → ℕ → List ℕ → List Row
prefix_rows s b k n out =
    bad_limits (limits_of s)
    ∷ bad_path (limits_of s) (among ((b, k) ∷ []))
    ∷ declared_too_long s
    ∷ declared_too_many s
    ∷ no_such_prefix k n
    ∷ prefix_overfills s b k n
    ∷ buffer_too_small s out
    ∷ []

-- Each call is answered by its table. The premise is that the reference's buffer holds bytes, as an empty one does.
pub record BuilderTables : Type 0 where
  pub new_refused : (L : Limits) (bytes count : ℕ) (out : List ℕ) → AnsweredBy (new_rows (state_of L bytes count 0) out) (new_refusal L bytes count out)
  pub prefix_refused : (L : Limits) (bytes count : ℕ) (b : List ℕ) (k n : ℕ) (out : List ℕ) → Bytes b
      → AnsweredBy (prefix_rows (state_of L bytes count n) b k n out) (prefix_refusal L bytes count b k n out)
