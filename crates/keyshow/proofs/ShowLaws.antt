-- What is left to write, from a place on: after a byte its digits are no longer left, and after a component its text and the
-- slash before it; where all has been written, nothing is left. A write from where another ended is one write with it.
use Prim.Native.Nat.{ℕ, suc, ◌+◌, ◌/◌, ◌%◌, ◌≤◌, ◌<◌}
use mathlib.Core.Path.{◌≡◌, refl, sym, ◌∙◌, ap}
use mathlib.Core.List.{List, [], ◌∷◌, ◌++◌, map}
use native.Mathlib.Omega.{arith}
use native.Mathlib.Numerals.{add-one}
use lib.ListN.{length, drop, get_or, set, length-append, drop_of_length-le}
use lib.Seq.{drop-cons}
use borrow.Author.Tests.{lt-ltb, le-ltb}
use Rattle.willow.specs.declared.Refusal.{Refusal}
use Rattle.willow.specs.Paths.{Component, Path}
use Rattle.willow.specs.Refusals.{refusal_number}
use Rattle.number.specs.Overwriting.{overwrite}
use Rattle.number.proofs.OverwritingLaws.{overwrite_nil, store_overwrite, stores_overwrite, written_on}
use Rattle.keyform.specs.Answering.{refused_text}
use Rattle.keyform.specs.Texts.{text, dash, slash, digit_zero, decimal_digits, decimal_text, hex_digit, hex_text, component_text, behind_each, path_text}

-- two stores, one behind the other
pub two_stored : {A : Type 0} (s : List A) (at : ℕ) (x y : A) → at + 2 ≤ length s → set (set s at x) (at + 1) y ≡ overwrite s at (x ∷ y ∷ [])
two_stored s at x y h = rw (add-one at) (stores_overwrite s at (x ∷ y ∷ []) (omega arith))

-- an element, what is put behind it, and the rest
stored_before : {A : Type 0} (s t vs rest : List A) (x : A) (at next : ℕ) → next ≡ at + 1 + length vs → next ≤ length s
    → t ≡ overwrite (set s at x) (at + 1) vs → overwrite t next rest ≡ overwrite s at (x ∷ (vs ++ rest))
stored_before s t vs rest x at next n f e =
    let first = store_overwrite s at x (omega arith) in
    let both : t ≡ overwrite s at (x ∷ vs) = written_on s (x ∷ []) vs (set s at x) t at (at + 1) (omega arith) (omega arith) first e in
    written_on s (x ∷ vs) rest t (overwrite t next rest) at next (omega arith) f both refl

-- where nothing is left to write, all has been written
pub nothing_left : {A : Type 0} (s t rest : List A) (at : ℕ) → rest ≡ [] → overwrite s at rest ≡ t → s ≡ t
nothing_left s t rest at e h = sym (overwrite_nil s at) ∙ rw e at h

-- BYTES, two digits each: those of the bytes from i on are left.
pub hex_turn : (c out : List ℕ) (at i high low : ℕ) → i < length c → at + 2 ≤ length out
    → high ≡ hex_digit (get_or c i 0 / 16) → low ≡ hex_digit (get_or c i 0 % 16)
    → overwrite (set (set out at high) (at + 1) low) (at + 2) (hex_text (drop (i + 1) c)) ≡ overwrite out at (hex_text (drop i c))
hex_turn c out at i high low h k eh el =
    let rest : List ℕ = hex_text (drop (i + 1) c) in
    let left : hex_text (drop i c) ≡ high ∷ low ∷ rest = rw (add-one i, drop-cons c i 0 h, eh, el) in
    written_on out (high ∷ low ∷ []) rest _ _ at (at + 2) (omega arith) k (two_stored out at high low k) refl ∙ ap (overwrite out at) (sym left)

pub hex_end : (c : List ℕ) (i : ℕ) → length c ≤ i → hex_text (drop i c) ≡ []
hex_end c i h = rw (drop_of_length-le c h)

-- A COMPONENT: empty or not.
pub component_dash : (c : Component) → length c ≡ 0 → component_text c ≡ dash ∷ []
component_dash [] h = refl
component_dash (b ∷ bs) h = absurd (omega arith)

pub component_hex : (c : Component) → (length c ≡ 0 → ⊥) → component_text c ≡ hex_text c
component_hex [] n = absurd (n refl)
component_hex (b ∷ bs) n = refl

-- COMPONENTS: those from i on are left, each behind a slash.
abbrev pub rest_text : Path → ℕ → List ℕ
rest_text p i = behind_each slash (map component_text (drop i p))

path_first : (p : Path) → 0 < length p → path_text p ≡ component_text (get_or p 0 []) ++ rest_text p 1
path_first [] h = absurd (omega arith)
path_first (c ∷ cs) h = refl

rest_next : (p : Path) (i : ℕ) → i < length p → rest_text p i ≡ slash ∷ (component_text (get_or p i []) ++ rest_text p (i + 1))
rest_next p i h = rw (add-one i, drop-cons p i [] h)

pub all_shown : (p : Path) (i : ℕ) → length p ≤ i → rest_text p i ≡ []
all_shown p i h = rw (drop_of_length-le p h)

-- No component; and the components one behind the other, as the code writes them: c is the one that was read.
pub none_shown : (p : Path) → length p ≡ 0 → path_text p ≡ text "()"
none_shown [] e = refl
none_shown (c ∷ cs) e = absurd (omega arith)

module _ (p : Path) (c : Component) where
  module _ (n : 0 < length p) (r : c ≡ get_or p 0 []) where
    first_shown : path_text p ≡ component_text c ++ rest_text p 1
    first_shown = path_first p n ∙ rw r

    pub first_length : length (path_text p) ≡ length (component_text c) + length (rest_text p 1)
    first_length = ap length first_shown ∙ length-append (component_text c) (rest_text p 1)

    pub first_written : (out t u : List ℕ) (to at : ℕ) → at ≡ to + length (component_text c) → at ≤ length out
        → t ≡ overwrite out to (component_text c) → u ≡ overwrite t at (rest_text p 1) → u ≡ overwrite out to (path_text p)
    first_written out t u to at e f x y =
        written_on out (component_text c) (rest_text p 1) t u to at (sym e) f x y ∙ ap (overwrite out to) (sym first_shown)

  module _ (i : ℕ) (h : i < length p) (r : c ≡ get_or p i []) where
    next_shown : rest_text p i ≡ slash ∷ (component_text c ++ rest_text p (i + 1))
    next_shown = rest_next p i h ∙ rw r

    pub next_length : length (rest_text p i) ≡ suc (length (component_text c) + length (rest_text p (i + 1)))
    next_length = ap length next_shown ∙ ap suc (length-append (component_text c) (rest_text p (i + 1)))

    pub next_written : (out t : List ℕ) (at next : ℕ) → next ≡ at + 1 + length (component_text c) → next ≤ length out
        → t ≡ overwrite (set out at slash) (at + 1) (component_text c) → overwrite t next (rest_text p (i + 1)) ≡ overwrite out at (rest_text p i)
    next_written out t at next e f x =
        stored_before out t (component_text c) (rest_text p (i + 1)) slash at next e f x ∙ ap (overwrite out at) (sym next_shown)

-- A REFUSAL whose number is n: one digit behind the word, or two. The word has been written over out, which gave t.
abbrev word : List ℕ
word = text "refused "

module _ (r : Refusal) (n : ℕ) (e : n ≡ refusal_number r) where
  module _ (h : n < decimal_digits) where
    abbrev digit : List ℕ
    digit = (digit_zero + n) ∷ []

    one_digit : refused_text r ≡ word ++ digit
    unfolding decimal_text
    one_digit = rw (← e, lt-ltb n decimal_digits h)

    pub one_length : length (refused_text r) ≡ 9
    one_length = ap length one_digit

    pub one_written : (out t : List ℕ) (to : ℕ) → to + 9 ≤ length out → length t ≡ length out → t ≡ overwrite out to word
        → set t (to + 8) (digit_zero + n) ≡ overwrite out to (refused_text r)
    one_written out t to f l x =
        let stored = store_overwrite t (to + 8) (digit_zero + n) (omega arith) in
        written_on out word digit t _ to (to + 8) (omega arith) (omega arith) x stored ∙ ap (overwrite out to) (sym one_digit)

  module _ (h : decimal_digits ≤ n) where
    abbrev digits : List ℕ
    digits = (digit_zero + n / decimal_digits) ∷ (digit_zero + n % decimal_digits) ∷ []

    two_digits : refused_text r ≡ word ++ digits
    unfolding decimal_text
    two_digits = rw (← e, le-ltb n decimal_digits h)

    pub two_length : length (refused_text r) ≡ 10
    two_length = ap length two_digits

    pub two_written : (out t : List ℕ) (to : ℕ) → to + 10 ≤ length out → length t ≡ length out → t ≡ overwrite out to word
        → set (set t (to + 8) (digit_zero + n / decimal_digits)) (to + 8 + 1) (digit_zero + n % decimal_digits) ≡ overwrite out to (refused_text r)
    two_written out t to f l x =
        let stored = two_stored t (to + 8) (digit_zero + n / decimal_digits) (digit_zero + n % decimal_digits) (omega arith) in
        written_on out word digits t _ to (to + 8) (omega arith) (omega arith) x stored ∙ ap (overwrite out to) (sym two_digits)
