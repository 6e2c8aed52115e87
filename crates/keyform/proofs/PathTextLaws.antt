-- A component's text has bytes and a dash alone, so no slash, and a path's text splits at its slashes into its components; the
-- text of the empty path is no other's, since no component begins with a bracket.
use Prim.Native.Nat.{ℕ, suc, ◌+◌, ◌*◌, ◌/◌, ◌%◌, ◌≤◌, ◌<◌}
use mathlib.Core.Path.{◌≡◌, refl, sym, ◌∙◌, ap}
use mathlib.Core.Logic.{◌⊎◌, inl, inr}
use mathlib.Core.List.{List, [], ◌∷◌, ◌++◌, map}
use mathlib.Core.Option.{Option, none, some}
use mathlib.Core.Bool.{true, false}
use native.Mathlib.Omega.{arith}
use lib.Dec.{eqb, ltb}
use lib.ListN.{length, length-append}
use borrow.Author.Tests.{eqb-true, eqb-false, ne_eqb}
use Rattle.willow.specs.Lists.{All}
use Rattle.willow.specs.Numbers.{Bytes}
use Rattle.willow.specs.Paths.{Component, Path, path_length}
use Rattle.willow.proofs.Bools.{both_true, not_true_false}
use Rattle.willow.proofs.ListLaws.{all_also}
use Rattle.keyform.proofs.CaseLaws.{by_test, by_tests, nothing_found}
use Rattle.keyform.proofs.HexLaws.{hex_read, before_some, hex_written}
use Rattle.keyform.proofs.SplittingLaws.{Without, pieces_between, between_pieces, some_piece}
use Rattle.keyform.specs.Reading.{is_dash, read_component, before_or, read_components, is_unit, read_path}
use Rattle.keyform.specs.Splitting.{pieces}
use Rattle.keyform.specs.Texts.{text, dash, slash, digit_zero, decimal_digits, hex_digit, hex_text, component_text, behind_each, between, path_text}

-- THE BYTES OF A COMPONENT'S TEXT: a dash, or digits and letters.
abbrev pub ComponentByte : ℕ → Type 0
ComponentByte b = (b ≡ dash) ⊎ (digit_zero ≤ b)

digit_high : (d : ℕ) → digit_zero ≤ hex_digit d
digit_high d = by_test (λ b. digit_zero ≤ b) (ltb d decimal_digits) (λ e. omega arith) (λ e. omega arith)

hex_high : (bytes : List ℕ) → All ComponentByte (hex_text bytes)
hex_high [] = tt
hex_high (b ∷ bs) = (inr (digit_high (b / 16)), (inr (digit_high (b % 16)), hex_high bs))

pub component_bytes : (c : Component) → All ComponentByte (component_text c)
component_bytes [] = (inl refl, tt)
component_bytes (b ∷ bs) = hex_high (b ∷ bs)

pub component_slashless : (c : Component) → Without slash (component_text c)
component_slashless c = all_also ComponentByte (λ b. b ≡ slash → ⊥) (λ b h e. elim h [ inl k ↦ omega arith | inr k ↦ omega arith ]) (component_text c) (component_bytes c)

slashless : (p : Path) → All (Without slash) (map component_text p)
slashless [] = tt
slashless (c ∷ cs) = (component_slashless c, slashless cs)

-- A COMPONENT is read as it is written, and what is read was so written.
dash_means : (s : List ℕ) → is_dash s ≡ true → s ≡ dash ∷ []
dash_means [] e = let z : ◌≡◌ {A = ℕ} 0 1 = cc in absurd (omega arith)
dash_means (b ∷ []) e = let h = eqb-true b dash e in rw h
dash_means (b ∷ c ∷ s) e = let h : length (b ∷ c ∷ s) ≡ 1 = eqb-true _ _ (both_true _ _ e).0 in absurd (omega arith)

pub component_read : (c : Component) → Bytes c → read_component (component_text c) ≡ some c
unfolding read_component
component_read [] a = refl
component_read (b ∷ bs) a =
    let n = length (hex_text bs) in
    let not_empty = ne_eqb (suc (suc n)) 0 (λ e. omega arith) in
    let not_one = ne_eqb (suc (suc n)) 1 (λ e. omega arith) in
    rw (not_empty, not_one) (hex_read (b ∷ bs) a)

pub component_written : (s : List ℕ) (c : Component) → read_component s ≡ some c → (s ≡ component_text c) × Bytes c
unfolding read_component
component_written s c = by_tests (λ o. o ≡ some c → (s ≡ component_text c) × Bytes c) _ _
    (λ empty. nothing_found c)
    (λ is-dash e. let same : [] ≡ c = cc in rw (← same) (dash_means s is-dash, tt))
    (λ not_empty no-dash e. let h = hex_written s c e in (hexes s c not_empty h.0, h.1))
  where
    hexes : (t : List ℕ) (d : Component) → eqb (length t) 0 ≡ false → t ≡ hex_text d → t ≡ component_text d
    hexes t [] n e = absurd (eqb-false (length t) 0 n (ap length e))
    hexes t (b ∷ bs) n e = e

-- COMPONENTS.
components_read : (p : Path) → All Bytes p → read_components (map component_text p) ≡ some p
components_read [] a = refl
components_read (c ∷ cs) a = rw (component_read c a.0, components_read cs a.1)

-- what is before something that there is
before_or_some : (o : Option Component) (rest : Option Path) (p : Path) → before_or o rest ≡ some p
    → (c : Component) × (cs : Path) × (o ≡ some c) × (rest ≡ some cs) × (p ≡ c ∷ cs)
before_or_some none rest p e = nothing_found p e
before_or_some (some c) rest p e = let r = before_some c rest p e in (c, r.0, refl, r.1, r.2)

components_written : (ss : List (List ℕ)) (p : Path) → read_components ss ≡ some p → (ss ≡ map component_text p) × All Bytes p
components_written [] p e = let same : [] ≡ p = cc in rw (← same) (refl, tt)
components_written (s ∷ ss) p e =
    let r = before_or_some (read_component s) (read_components ss) p e in
    let c = r.0 in
    let cs = r.1 in
    let one = component_written s c r.2 in
    let more = components_written ss cs r.3 in
    let first = one.0 in
    let others = more.0 in
    rw r.4 (cc, (one.1, more.1))

-- A PATH.
unit_means : (s : List ℕ) → is_unit s ≡ true → s ≡ text "()"
unit_means [] e = let z : ◌≡◌ {A = ℕ} 0 1 = cc in absurd (omega arith)
unit_means (a ∷ []) e = let z : ◌≡◌ {A = ℕ} 0 1 = cc in absurd (omega arith)
unit_means (a ∷ b ∷ []) e =
    let h = both_true _ _ e in
    let open_bracket : a ≡ 40 = eqb-true _ _ h.0 in
    let close_bracket : b ≡ 41 = eqb-true _ _ h.1 in
    rw (open_bracket, close_bracket)
unit_means (a ∷ b ∷ c ∷ s) e = let h : length (a ∷ b ∷ c ∷ s) ≡ 2 = eqb-true _ _ (both_true _ _ e).0 in absurd (omega arith)

-- the text of a path with components does not begin with a bracket
no_bracket : (c : Component) (s t : List ℕ) → component_text c ++ s ≡ 40 ∷ t → ⊥
no_bracket [] s t e = let z : dash ≡ 40 = cc in omega arith
no_bracket (b ∷ bs) s t e = let z : hex_digit (b / 16) ≡ 40 = cc in let h = digit_high (b / 16) in omega arith

pub path_read : (p : Path) → All Bytes p → read_path (path_text p) ≡ some p
unfolding read_path
path_read [] a = refl
path_read (c ∷ cs) a =
    let t = path_text (c ∷ cs) in
    let no_unit = not_true_false (is_unit t) (λ e. no_bracket c (behind_each slash (map component_text cs)) (41 ∷ []) (unit_means t e)) in
    rw (no_unit, pieces_between slash (component_text c) (map component_text cs) (slashless (c ∷ cs))) (components_read (c ∷ cs) a)

pub path_written : (s : List ℕ) (p : Path) → read_path s ≡ some p → (s ≡ path_text p) × All Bytes p
unfolding read_path
path_written s p = by_test (λ o. o ≡ some p → (s ≡ path_text p) × All Bytes p) (is_unit s)
    (λ unit e. let same : [] ≡ p = cc in rw (← same) (unit_means s unit, tt))
    (λ no_unit e. let h = components_written (pieces slash s) p e in (joined s p h.0, h.1))
  where
    joined : (t : List ℕ) (q : Path) → pieces slash t ≡ map component_text q → t ≡ path_text q
    joined t [] e = absurd (some_piece slash t e)
    joined t (c ∷ cs) e = sym (between_pieces slash t) ∙ ap (between slash) e

-- so a text is one path's
pub path_text_same : (p q : Path) → All Bytes p → All Bytes q → path_text p ≡ path_text q → p ≡ q
path_text_same p q a b e =
    let f : some p ≡ some q = sym (path_read p a) ∙ ap read_path e ∙ path_read q b in
    cc

-- HOW LONG A TEXT IS: two digits a byte, and for each component at most a dash and a slash.
pub hex_text_length : (bytes : List ℕ) → length (hex_text bytes) ≡ 2 * length bytes
hex_text_length [] = refl
hex_text_length (b ∷ bs) = let ih = hex_text_length bs in omega arith

pub component_text_length : (c : Component) → length (component_text c) ≤ 2 * length c + 1
component_text_length [] = omega arith
component_text_length (b ∷ bs) = let h = hex_text_length bs in omega arith

behind_length : (p : Path) → length (behind_each slash (map component_text p)) ≤ 2 * path_length p + 2 * length p
behind_length [] = omega arith
behind_length (c ∷ cs) =
    let whole = length-append (component_text c) (behind_each slash (map component_text cs)) in
    let first = component_text_length c in
    let ih = behind_length cs in
    omega arith

pub path_text_length : (p : Path) → 0 < length p → length (path_text p) ≤ 2 * path_length p + 2 * length p
path_text_length [] h = absurd (omega arith)
path_text_length (c ∷ cs) h =
    let whole = length-append (component_text c) (behind_each slash (map component_text cs)) in
    let first = component_text_length c in
    let others = behind_length cs in
    omega arith

-- WHAT A TEXT HOLDS: each byte of a path takes two digits of its text, and each component a digit or a dash and mostly a slash; so
-- the length of a line bounds the path that is read of it.
component_text_least : (c : Component) → (2 * length c ≤ length (component_text c)) × (1 ≤ length (component_text c))
component_text_least [] = (omega arith, omega arith)
component_text_least (b ∷ bs) = let h = hex_text_length bs in (omega arith, omega arith)

pub record TextHolds (p : Path) (n : ℕ) : Type 0 where
  pub bytes : 2 * path_length p + length p ≤ n
  pub components : 2 * length p ≤ n

behind_holds : (p : Path) → TextHolds p (length (behind_each slash (map component_text p)))
behind_holds [] = record { bytes = omega arith; components = omega arith }
behind_holds (c ∷ cs) =
    let whole = length-append (component_text c) (behind_each slash (map component_text cs)) in
    let first = component_text_least c in
    let ih = behind_holds cs in
    record { bytes = omega arith; components = omega arith }

pub path_text_holds : (p : Path) → TextHolds p (length (path_text p) + 1)
path_text_holds [] = record { bytes = omega arith; components = omega arith }
path_text_holds (c ∷ cs) = let h = behind_holds (c ∷ cs) in record { bytes = omega arith; components = omega arith }
