-- The tables of the builder's calls. Each test of a call is a row, since it is true exactly if the row's condition holds, given
-- that the rows before it do not apply; and tests one behind the other are rows one behind the other.
use Prim.Native.Nat.{ℕ, ◌+◌, ◌≤◌, ◌<◌}
use mathlib.Core.Path.{◌≡◌, refl, sym, ◌∙◌, ap}
use mathlib.Core.Logic.{◌⊎◌, inl, inr, ◌↔◌}
use mathlib.Core.List.{List}
use mathlib.Core.Option.{Option, none, some}
use mathlib.Core.Bool.{Bool, true, false, ◌&&◌, ◌||◌, not, cond}
use native.Mathlib.Omega.{arith}
use lib.Dec.{ltb, eqb}
use lib.ListN.{length, take}
use borrow.Author.Tests.{ltb-true, lt-ltb, leb-true, leb-false, le-leb, eqb-true, eq-eqb, not-true}
use Rattle.willow.specs.declared.Limits.{Limits}
use Rattle.willow.specs.declared.Refusal.{Refusal}
use Rattle.willow.specs.declared.Refusal.TheVariants.{BadLimits, BadPath, PathTooLong, TooManyComponents, ComponentTooLong, NoSuchPrefix, Overfilled, Unfinished, OutTooSmall}
use Rattle.willow.specs.Answers.{or_else, limits_refusal, path_missing, lent_refusal, path_refusal, path_in}
use Rattle.willow.specs.Limits.{Accepted, accepted_limits}
use Rattle.willow.specs.Numbers.{Bytes}
use Rattle.willow.specs.Packed.{lent, Lent}
use Rattle.willow.specs.Paths.{Component, Path, path_length}
use Rattle.willow.proofs.AnswerLaws.{accepted_words, limits_passed, path_passed, limits_refused, limits_fine}
use Rattle.willow.proofs.Bools.{both_true, true_both, not_true_false, false_not_true, decided, decided_false, disjunction_means}
use Rattle.willow.proofs.LimitLaws.{limit_laws}
use Rattle.willow.proofs.PackedLaws.{packed_form}
use Rattle.lent_path.proofs.LentLaws.{prefix_in}
use Rattle.builder_parts.specs.Buffer.{components_in}
use Rattle.builder_law.specs.Building.{State, limits_of, declared_size, Holds, agrees, appended_path, long_enough, declared_refusal, buffer_refusal, room_refusal, state_refusal, known_length, overfilled, length_short, unfinished, state_of, new_refusal, prefix_refusal, append_refusal, build_refusal}
use Rattle.builder_law.specs.Runs.{Words}
use Rattle.builder_law.specs.Table.{Row, applies, passes, NoRow, LimitsOver, NoneLent, Disagrees, DeclaredLong, DeclaredMany, PrefixPasses, ComponentPasses, BuildShort, BufferShort, NewTable, PrefixTable, AppendTable, BuildTable, BuilderTable}
use Rattle.builder_law.proofs.StateLaws.{sound, known_none, known_read}
use Rattle.builder_law.proofs.CallLaws.{short_read, short_unread}
use Rattle.builder_law.proofs.HoldsLaws.{agrees_holds, holds_agrees, holds_read, lent_read}

-- ROWS. A test that is true exactly if the condition holds is a row; what is given else may stand in the test, or behind it.
tested : {C : Type 0} {others : Option Refusal → Type 0} (t : Bool) (r : Refusal) (rest : Option Refusal) → (t ≡ true) ↔ C
    → ((C → ⊥) → others rest) → Row C r others (cond t (some r) rest)
tested true r rest m k = applies (m.0 refl) refl
tested false r rest m k = let n = (decided_false false m).0 refl in passes n (k n)

tested-first : {C : Type 0} {others : Option Refusal → Type 0} (t : Bool) (r : Refusal) (later : Option Refusal) → (t ≡ true) ↔ C
    → ((C → ⊥) → others later) → Row C r others (or_else (cond t (some r) none) later)
tested-first true r later m k = applies (m.0 refl) refl
tested-first false r later m k = let n = (decided_false false m).0 refl in passes n (k n)

-- The first row of some tests stays first, whatever is tested later.
first : {C : Type 0} {r : Refusal} {others rows : Option Refusal → Type 0} (a later : Option Refusal) → Row C r others a
    → (others a → rows (or_else a later)) → Row C r rows (or_else a later)
first a later (applies c e) k = applies c (ap (λ o. or_else o later) e)
first a later (passes n h) k = passes n (k h)

-- A comparison is true exactly if it holds.
below : (a b : ℕ) → (ltb a b ≡ true) ↔ (a < b)
below a b = (ltb-true a b, lt-ltb a b)

-- THE ROWS THAT CALLS SHARE.
module _ (s : State) where
  -- 1
  limits_row : Row (LimitsOver s) BadLimits NoRow (limits_refusal (limits_of s))
  limits_row = go (decided (accepted_limits (limits_of s)) (limit_laws.limits_means (limits_of s)))
    where
      go : Accepted (limits_of s) ⊎ (Accepted (limits_of s) → ⊥) → Row (LimitsOver s) BadLimits NoRow (limits_refusal (limits_of s))
      go (inl a) = passes (λ n. n a) (limits_fine (limits_of s) a)
      go (inr n) = applies n (limits_refused (limits_of s) n)

  -- 7, then 8
  declared_rows : Row (DeclaredLong s) PathTooLong (Row (DeclaredMany s) TooManyComponents NoRow) (declared_refusal s)
  declared_rows =
      tested (ltb s.mpl s.length) PathTooLong (cond (ltb s.mcc s.count) (some TooManyComponents) none) (below s.mpl s.length)
      (λ short. tested (ltb s.mcc s.count) TooManyComponents none (below s.mcc s.count) (λ few. refl))

  -- 15
  room_row : (out : List ℕ) → Row (BufferShort s out) OutTooSmall NoRow (room_refusal s out)
  room_row out = go (long_enough s out) refl
    where
      go : (t : Bool) → long_enough s out ≡ t → Row (BufferShort s out) OutTooSmall NoRow (cond t none (some OutTooSmall))
      go true e = passes (λ h. let l = leb-true (declared_size s) (length out) e in omega arith) refl
      go false e = applies (leb-false (declared_size s) (length out) e) refl

-- A START.
new_rows_lem : (s : State) (out : List ℕ) → NewTable s out (new_refusal (limits_of s) s.length s.count out)
unfolding new_refusal
new_rows_lem s out =
    first (limits_refusal (limits_of s)) (or_else (declared_refusal s) (room_refusal s out)) (limits_row s) (λ e.
    rw e (first (declared_refusal s) (room_refusal s out) (declared_rows s) (λ h.
    first (declared_refusal s) (room_refusal s out) h (λ f. rw f (room_row s out)))))

-- A START FROM A PREFIX.
module _ (s : State) (b : List ℕ) (k : ℕ) (bs : Bytes b) where
  -- 5, of the reference
  lent_row : Accepted (limits_of s) → Row (NoneLent s b k) BadPath NoRow (lent_refusal (limits_of s) b k)
  unfolding lent_refusal
  lent_row a = go (lent (limits_of s) b k) refl
    where
      go : (o : Option Path) → lent (limits_of s) b k ≡ o → Row (NoneLent s b k) BadPath NoRow (path_missing o)
      go none e = applies ((packed_form.lent_none (limits_of s) b k (accepted_words (limits_of s) a) bs).0 e) refl
      go (some p) e = passes (λ n. n p ((packed_form.lent_some (limits_of s) b k (accepted_words (limits_of s) a) bs p).0 e)) refl

  path_rows_lem : Row (LimitsOver s) BadLimits (Row (NoneLent s b k) BadPath NoRow) (path_refusal (limits_of s) b k)
  unfolding path_refusal
  path_rows_lem =
      first (limits_refusal (limits_of s)) (lent_refusal (limits_of s) b k) (limits_row s) (λ e. rw e (lent_row (limits_passed (limits_of s) e)))

  module _ (n : ℕ) (fine : path_refusal (limits_of s) b k ≡ none) (there : n ≤ k) where
    -- 11: the bytes that are read are those of the prefix of the path that is lent
    prefix_bytes : (ltb s.length (0 + path_length (path_in b n)) ≡ true)
        ↔ ((p : Path) × Lent (limits_of s) b k p × (s.length < path_length (take n p)))
    prefix_bytes =
        let a = path_passed (limits_of s) b k fine in (
          λ e. (
            path_in b k,
            (packed_form.lent_some (limits_of s) b k (accepted_words (limits_of s) a.0) bs (path_in b k)).0 a.1.path,
            rw (prefix_in b k n there) (let h = ltb-true s.length (0 + path_length (path_in b n)) e in omega arith),
          ),
          λ t.
              let r = ap (λ q. path_length (take n q)) (lent_read (limits_of s) b k t.0 a.0 bs t.1).1 in
              let l = ap path_length (prefix_in b k n there) in
              let h = t.2 in
              lt-ltb s.length (0 + path_length (path_in b n)) (omega arith),
        )

    prefix_count_lem : (ltb s.count (0 + n) ≡ true) ↔ (s.count < n)
    prefix_count_lem = (
      λ e. let h = ltb-true s.count (0 + n) e in omega arith,
      λ h. lt-ltb s.count (0 + n) (omega arith),
    )

    prefix_passes : (ltb s.count (0 + n) || ltb s.length (0 + path_length (path_in b n)) ≡ true) ↔ PrefixPasses s b k n
    prefix_passes = disjunction_means prefix_count_lem prefix_bytes

prefix_rows_lem : (L : Limits) (bytes count : ℕ) (b : List ℕ) (k n : ℕ) (out : List ℕ) → Bytes b
    → PrefixTable (state_of L bytes count n) b k n out (prefix_refusal L bytes count b k n out)
unfolding prefix_refusal
prefix_rows_lem L bytes count b k n out bs =
    let s : State = state_of L bytes count n in
    let later₄ : Option Refusal = room_refusal s out in
    let later₃ : Option Refusal = or_else (overfilled s 0 0 n (path_length (path_in b n))) later₄ in
    let later₂ : Option Refusal = or_else (cond (ltb k n) (some NoSuchPrefix) none) later₃ in
    let later₁ : Option Refusal = or_else (declared_refusal s) later₂ in
    first (path_refusal L b k) later₁ (path_rows_lem s b k bs) (λ h.
    first (path_refusal L b k) later₁ h (λ fine. rw fine (
    first (declared_refusal s) later₂ (declared_rows s) (λ h.
    first (declared_refusal s) later₂ h (λ e. rw e (
    tested-first (ltb k n) NoSuchPrefix later₃ (below k n) (λ there.
    tested-first (ltb count (0 + n) || ltb bytes (0 + path_length (path_in b n))) Overfilled later₄ (prefix_passes s b k bs n fine (omega arith)) (λ short.
    room_row s out))))))))

-- A STATE AND THE BUFFER BESIDE IT.
module _ (s : State) (out : List ℕ) (w : Words s) (bs : Bytes out) where
  -- 5, of the buffer
  disagrees : (long_enough s out && not (agrees s out) ≡ true) ↔ Disagrees s out
  disagrees = (
    λ e.
        let h = both_true (long_enough s out) (not (agrees s out)) e in (
          leb-true (declared_size s) (length out) h.0,
          λ q d. false_not_true (agrees s out) (not-true (agrees s out) h.1) (holds_agrees s out w q d),
        ),
    λ t.
        let d = not_true_false (agrees s out) (λ a. let h = agrees_holds s out bs t.0 a in t.1 h.0 h.1) in
        true_both (long_enough s out) (not (agrees s out)) (le-leb (declared_size s) (length out) t.0) (ap not d),
  )

  state-own : Row (LimitsOver s) BadLimits (Row (Disagrees s out) BadPath (Row (DeclaredLong s) PathTooLong (Row (DeclaredMany s) TooManyComponents NoRow)))
      (state_refusal s out)
  unfolding state_refusal
  state-own =
      first (limits_refusal (limits_of s)) (or_else (buffer_refusal s out) (declared_refusal s)) (limits_row s) (λ e.
      rw e (tested-first (long_enough s out && not (agrees s out)) BadPath (declared_refusal s) disagrees (λ n. declared_rows s)))

  state_rows : {others : Option Refusal → Type 0} (later : Option Refusal) → (state_refusal s out ≡ none → others later)
      → Row (LimitsOver s) BadLimits (Row (Disagrees s out) BadPath (Row (DeclaredLong s) PathTooLong (Row (DeclaredMany s) TooManyComponents others)))
      (or_else (state_refusal s out) later)
  state_rows later k =
      let a : Option Refusal = state_refusal s out in
      first a later state-own (λ h. first a later h (λ h. first a later h (λ h. first a later h (λ e. rw e (k e)))))

  -- a buffer that is long enough, of a state that passed, holds some components; and their bytes are counted
  held : state_refusal s out ≡ none → long_enough s out ≡ true → (q : Path) × Holds s out q
  held fine l = agrees_holds s out bs (leb-true (declared_size s) (length out) l) ((sound s out fine).agreed l)

  read_bytes : (q : Path) → Holds s out q → path_length (appended_path s out) ≡ path_length q
  read_bytes q h = ap path_length (holds_read s out w q h)

  -- AN APPEND. 11, by the bytes:
  module _ (c : Component) (fine : state_refusal s out ≡ none) where
    abbrev Passes : Type 0
    Passes = (s.length < length c) ⊎ ((q : Path) × (declared_size s ≤ length out) × Holds s out q × (s.length < path_length q + length c))

    passes_to : (t : Bool) → long_enough s out ≡ t → s.length < known_length s out + length c → Passes
    passes_to true l h =
        let d = held fine l in
        let room = leb-true (declared_size s) (length out) l in
        let k = known_read s out l in
        let r = read_bytes d.0 d.1 in
        inr (d.0, room, d.1, omega arith)
    passes_to false l h = let k = known_none s out l in inl (omega arith)

    passes_from : Passes → s.length < known_length s out + length c
    passes_from (inl h) = omega arith
    passes_from (inr t) =
        let k = known_read s out (le-leb (declared_size s) (length out) t.1) in
        let r = read_bytes t.0 t.2 in
        let h = t.3 in
        omega arith

    component_bytes : (ltb s.length (known_length s out + length c) ≡ true) ↔ Passes
    component_bytes = (
      λ e. passes_to (long_enough s out) refl (ltb-true s.length (known_length s out + length c) e),
      λ p. lt-ltb s.length (known_length s out + length c) (passes_from p),
    )

    component_passes : (ltb s.count (s.appended + 1) || ltb s.length (known_length s out + length c) ≡ true) ↔ ComponentPasses s c out
    component_passes = disjunction_means (below s.count (s.appended + 1)) component_bytes

  append_rows_lem : (c : Component) → AppendTable s c out (append_refusal s c out)
  unfolding append_refusal
  append_rows_lem c =
      let later₂ : Option Refusal = room_refusal s out in
      let later₁ : Option Refusal = or_else (overfilled s s.appended (known_length s out) 1 (length c)) later₂ in
      state_rows (or_else (cond (ltb s.mcl (length c)) (some ComponentTooLong) none) later₁) (λ fine.
      tested-first (ltb s.mcl (length c)) ComponentTooLong later₁ (below s.mcl (length c)) (λ narrow.
      tested-first (ltb s.count (s.appended + 1) || ltb s.length (known_length s out + length c)) Overfilled later₂ (component_passes c fine) (λ fits.
      room_row s out)))

  -- A BUILD. 12, by the bytes:
  module _ (fine : state_refusal s out ≡ none) where
    abbrev Short : Type 0
    Short = ((s.appended ≡ 0) × (0 < s.length)) ⊎ ((q : Path) × (declared_size s ≤ length out) × Holds s out q × (path_length q < s.length))

    short_to : (t : Bool) → long_enough s out ≡ t → length_short s out ≡ true → Short
    short_to true l e =
        let d = held fine l in
        let room = leb-true (declared_size s) (length out) l in
        let r = read_bytes d.0 d.1 in
        let h = ltb-true (path_length (appended_path s out)) s.length (sym (short_read s out l) ∙ e) in
        inr (d.0, room, d.1, omega arith)
    short_to false l e =
        let h = both_true (eqb s.appended 0) (ltb 0 s.length) (sym (short_unread s out l) ∙ e) in
        inl (eqb-true s.appended 0 h.0, ltb-true 0 s.length h.1)

    -- nothing appended is read as nothing
    nothing_read : (count : ℕ) → path_length (components_in count 0 out) ≡ 0
    unfolding components_in
    nothing_read count = refl

    short_from : (t : Bool) → long_enough s out ≡ t → Short → length_short s out ≡ true
    short_from true l (inl h) =
        let n = ap (λ m. path_length (components_in s.count m out)) h.0 ∙ nothing_read s.count in
        let m = h.1 in
        short_read s out l ∙ lt-ltb (path_length (appended_path s out)) s.length (omega arith)
    short_from false l (inl h) =
        short_unread s out l ∙ true_both (eqb s.appended 0) (ltb 0 s.length) (eq-eqb s.appended 0 h.0) (lt-ltb 0 s.length h.1)
    short_from t l (inr h) =
        let r = read_bytes h.0 h.2 in
        let m = h.3 in
        short_read s out (le-leb (declared_size s) (length out) h.1) ∙ lt-ltb (path_length (appended_path s out)) s.length (omega arith)

    build_short : (ltb s.appended s.count || length_short s out ≡ true) ↔ BuildShort s out
    build_short = disjunction_means (below s.appended s.count) (short_to (long_enough s out) refl, short_from (long_enough s out) refl)

  build_rows_lem : BuildTable s out (build_refusal s out)
  unfolding build_refusal
  build_rows_lem =
      state_rows (or_else (unfinished s out) (room_refusal s out)) (λ fine.
      tested-first (ltb s.appended s.count || length_short s out) Unfinished (room_refusal s out) (build_short fine) (λ whole.
      room_row s out))

pub builder_table : BuilderTable
builder_table = record {
  new_refused = λ L bytes count out. new_rows_lem (state_of L bytes count 0) out;
  prefix_refused = prefix_rows_lem;
  append_refused = λ s c out w bs. append_rows_lem s out w bs c;
  build_refused = build_rows_lem;
}
