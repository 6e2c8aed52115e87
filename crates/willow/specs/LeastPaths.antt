-- The next greater path, the successor and the greatest path.
use Rattle.std.specs.Prelude.{ℕ, zero, suc, ◌+◌, ◌-◌, min, ◌≡◌, ◌↔◌, List, [], ◌∷◌, ◌++◌, ◌&&◌, cond, ltb, length, replicate}
use Rattle.std.proofs.Math.Option.{Option, none, some}
use Rattle.willow.specs.declared.Limits.{Limits}
use Rattle.willow.specs.Orders.{AtMost}
use Rattle.willow.specs.Paths.{Component, Path, Valid, PathBelow, Prefix}

-- WHAT IS MEANT by the least with the property P: it has P and is at most every other that has P; there is none exactly if
-- nothing has P.
abbrev pub Least : (Path → Type 0) → Option Path → Type 0
Least P none = (r : Path) → P r → ⊥
Least P (some q) = P q × ((r : Path) → P r → AtMost PathBelow q r)

-- `greater_but_not_prefixed`: "the least valid path above p that p does not prefix".
abbrev pub GreaterNotPrefixed : Limits → Path → Path → Type 0
GreaterNotPrefixed L p r = Valid L r × PathBelow p r × (Prefix p r → ⊥)

-- `successor`: "the least valid path above p".
abbrev pub GreaterPath : Limits → Path → Path → Type 0
GreaterPath L p r = Valid L r × PathBelow p r

-- WHAT IS COMPUTED, in document 01's words: "From the last component back, a component is lengthened by a zero byte if it is
-- below MCL and the accumulated length is below MPL; else it is cut after its last byte below ff and that byte raised. Where
-- neither is possible the component before is tried."

-- What comes of a list x ∷ xs, if `rest` comes of xs and `raised` of x: x is kept before what comes of xs; else x is raised
-- and all behind it cut; else nothing comes of it.
abbrev pub keep_or_raise : {A : Type 0} → A → Option (List A) → Option A → Option (List A)
keep_or_raise x (some rest) raised = some (x ∷ rest)
keep_or_raise x none (some y) = some (y ∷ [])
keep_or_raise x none none = none

-- The last element that `raise` can raise is raised, and what follows it is cut. `raise` also gets what `pass` made of the
-- elements before.
abbrev pub raise_last : {A S : Type 0} → (S → A → S) → (S → A → Option A) → S → List A → Option (List A)
raise_last pass raise s [] = none
raise_last pass raise s (x ∷ xs) = keep_or_raise x (raise_last pass raise (pass s x) xs) (raise s x)

-- A byte below ff, raised.
abbrev pub raise_byte : ℕ → ℕ → Option ℕ
raise_byte i b = cond (ltb b 255) (some (suc b)) none

-- A component, cut after its last byte below ff and that byte raised.
abbrev pub raise_component : Component → Option Component
raise_component c = raise_last (λ i b. suc i) raise_byte 0 c

-- A component behind `before` bytes: lengthened by a zero byte, else raised.
abbrev pub lengthen_or_raise : Limits → ℕ → Component → Option Component
lengthen_or_raise L before c = cond (ltb (length c) L.mcl && ltb (before + length c) L.mpl) (some (c ++ (0 ∷ []))) (raise_component c)

unfoldable pub next_greater : Limits → Path → Option Path
next_greater L p = raise_last (λ before c. before + length c) (lengthen_or_raise L) 0 p

-- An empty component is appended; where the path has MCC components, the next greater path is the successor.
unfoldable pub successor : Limits → Path → Option Path
successor L p = cond (ltb (length p) L.mcc) (some (p ++ ([] ∷ []))) (next_greater L p)

-- `new_max`: MCC components, each of as many bytes ff as MCL and what is left of MPL allow.
abbrev pub filled : ℕ → ℕ → ℕ → Path
filled mcl zero room = []
filled mcl (suc k) room = replicate (min mcl room) 255 ∷ filled mcl k (room - min mcl room)

unfoldable pub greatest : Limits → Path
greatest L = filled L.mcl L.mcc L.mpl

-- THEOREM 3, for all limits. What is computed is what is meant; and a valid path is prefixed by p exactly if it is at least p
-- and below the next greater path of p, where there is one. Its premise is a valid path, as the empty one.
pub record LeastPaths (L : Limits) : Type 0 where
  pub next_greater_lem : (p : Path) → Valid L p → Least (GreaterNotPrefixed L p) (next_greater L p)
  pub least_successor : (p : Path) → Valid L p → Least (GreaterPath L p) (successor L p)
  pub greatest_valid : Valid L (greatest L)
  pub greatest_above : (r : Path) → Valid L r → AtMost PathBelow r (greatest L)
  pub prefix_range : (p q : Path) → Valid L p → Valid L q
      → Prefix p q ↔ (AtMost PathBelow p q × ((g : Path) → next_greater L p ≡ some g → PathBelow q g))
