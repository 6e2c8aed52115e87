-- A path read piece by piece: the pieces still to come, the component of each, and what is left to read.
use Prim.Native.Nat.{ℕ, suc, ◌+◌, ◌*◌, ◌≤◌, ◌<◌}
use mathlib.Core.Bool.{Bool, true, false, cond, ◌&&◌, true≢false}
use mathlib.Core.List.{List, [], ◌∷◌, ◌++◌, append_assoc, append-nil}
use mathlib.Core.Option.{none, some}
use mathlib.Core.Path.{◌≡◌, refl, sym, ◌∙◌, ap}
use native.Mathlib.Omega.{arith}
use lib.Dec.{eqb}
use lib.Pointwise.{pointwise}
use lib.ListN.{length, get_or, length-append}
use borrow.Author.Tests.{eqb-true, eqb-false, ne_eqb}
use Rattle.std.specs.Prelude as code
use Rattle.std.specs.Prelude.{None, Some}
use Rattle.std.specs.Bool.{MatchBool}
use Rattle.std.specs.List.{IsFirstMatchOrLen}
use Rattle.willow.specs.Numbers.{le}
use Rattle.willow.specs.Packed.{joined}
use Rattle.willow.specs.Paths.{Path, path_length}
use Rattle.willow.proofs.NumberLaws.{le_length}
use Rattle.willow.proofs.PackedLaws.{joined_length}
use Rattle.willow.proofs.PackedPlaces.{joined_append}
use Rattle.willow.proofs.ValidLaws.{path_length_append}
use Rattle.number.specs.Overwriting.{overwrite}
use Rattle.number.proofs.OverwritingLaws.{overwrite_nil, written_on, length_overwrite}
use Rattle.keyform.specs.Reading.{before_or, is_dash, read_component, read_components, read_hex, read_path}
use Rattle.keyform.specs.Splitting.{pieces}
use Rattle.keyform.specs.Texts.{dash, slash}
use Rattle.keyform.proofs.SplittingLaws.{Without, pieces_first, pieces_only}
use Rattle.keyread.specs.Parts.{ComponentRead, HexRead, PathRead, sizes}
use Rattle.keyread.proofs.HexLaws.{hex_half, all_before, all_before_nil, all_before_one}

-- THE COMPONENT of a piece, and () and what is no (), by their bytes
pub dash_same : (s : List ℕ) → is_dash s ≡ pointwise eqb s (dash ∷ [])
dash_same [] = refl
dash_same (b ∷ []) = go (eqb b dash)
  where
    go : (t : Bool) → t ≡ (t && true)
    go true = refl
    go false = refl
dash_same (b ∷ c ∷ s) = rw (ne_eqb (suc (suc (length s))) 1 (λ e. omega arith)) (go (eqb b dash))
  where
    go : (t : Bool) → false ≡ (t && false)
    go true = refl
    go false = refl

pub component_dash : (s : List ℕ) → (length s ≡ 0 → ⊥) → is_dash s ≡ true → read_component s ≡ some []
unfolding read_component
component_dash s n d = rw (ne_eqb (length s) 0 n, d)

pub component_hex : (s : List ℕ) → (length s ≡ 0 → ⊥) → is_dash s ≡ false → read_component s ≡ read_hex s
unfolding read_component
component_hex s n d = rw (ne_eqb (length s) 0 n, d)

pub component_of_hex : (s before : List ℕ) (to : ℕ) (r : code.Option ℕ) (behind : List ℕ) → read_component s ≡ read_hex s → (length s ≡ 0 → ⊥)
    → HexRead s before to r behind → ComponentRead s before to r behind
component_of_hex s before to None behind e n (h, l) = (e ∙ h, l)
component_of_hex s before to (Some m) behind e n (v, h, w, k) =
    let l = hex_half s v h in
    (v, e ∙ h, w, k, omega arith, omega arith)

pub path_unit : (s : List ℕ) → length s ≡ 2 → get_or s 0 0 ≡ 40 → get_or s 1 0 ≡ 41 → read_path s ≡ some []
unfolding read_path
path_unit s e f g = rw (e, f, g)

-- THE PIECES STILL TO COME of a text that is being split: those of the rest, or none where the last has come
abbrev pub pieces_left : Bool → List ℕ → List (List ℕ)
pieces_left done rest = cond done [] (pieces slash rest)

-- .. and the most bytes that they take of the text, each with the slash behind it
abbrev pub bytes_left : Bool → List ℕ → ℕ
bytes_left done rest = cond done 0 (length rest + 1)

-- one piece comes
pub record Comes (done : Bool) (rest piece : List ℕ) (done' : Bool) (rest' : List ℕ) : Type 0 where
  pub first : pieces_left done rest ≡ piece ∷ pieces_left done' rest'
  pub takes : bytes_left done rest ≡ suc (length piece) + bytes_left done' rest'

-- no byte of the piece is a slash, and the byte behind it is one
no_slash : (s rest : List ℕ) → ((k : ℕ) → k < length s → eqb (get_or (s ++ rest) k 0) slash ≡ false) → Without slash s
no_slash [] rest h = tt
no_slash (b ∷ bs) rest h = (eqb-false b slash (h 0 (omega arith)), no_slash bs rest (λ k l. h (suc k) (omega arith)))

byte_behind : (s : List ℕ) (y : ℕ) (rest : List ℕ) → get_or (s ++ (y ∷ rest)) (length s) 0 ≡ y
byte_behind [] y rest = refl
byte_behind (b ∷ bs) y rest = byte_behind bs y rest

pub piece_comes : (done : Bool) (rest piece : List ℕ) (done' : Bool) (rest' : List ℕ) → done ≡ false
    → MatchBool done' (rest ≡ piece) ((y : ℕ) × (rest ≡ piece ++ (y ∷ rest'))) → IsFirstMatchOrLen (λ b. eqb b slash) rest (length piece)
    → Comes done rest piece done' rest'
piece_comes true rest piece done' rest' n e m = absurd (true≢false n)
piece_comes false rest piece true rest' n e m =
    let w : Without slash piece = no_slash piece [] (λ k l. rw (append-nil, ← e) (m.0 k 0 (omega arith) l)) in
    record { first = ap (pieces slash) e ∙ pieces_only slash piece w; takes = omega (arith, ap length e) }
piece_comes false rest piece false rest' n (y, e) m =
    let w : Without slash piece = no_slash piece (y ∷ rest') (λ k l. rw (← e) (m.0 k 0 (omega arith) l)) in
    let l = ap length e ∙ length-append piece (y ∷ rest') in
    let h : eqb (get_or rest (length piece) 0) slash ≡ true = m.1 (omega arith) 0 in
    let s : y ≡ slash = sym (byte_behind piece y rest') ∙ ap (λ x. get_or x (length piece) 0) (sym e) ∙ eqb-true (get_or rest (length piece) 0) slash h in
    record {
      first = ap (pieces slash) e ∙ ap (λ x. pieces slash (piece ++ (x ∷ rest'))) s ∙ pieces_first slash piece rest' w;
      takes = omega arith;
    }

-- THE PATH SO FAR: the components q are read and written, and the pieces still to come decide the rest. Each took at least two bytes
-- of the text, one for itself and one for the slash behind it, so that there is room for all.
pub sizes_append : (p q : Path) → sizes (p ++ q) ≡ sizes p ++ sizes q
sizes_append [] q = refl
sizes_append (c ∷ cs) q = ap (λ s. le 8 (length c) ++ s) (sizes_append cs q) ∙ sym (append_assoc (le 8 (length c)) (sizes cs) (sizes q))

pub sizes_length : (p : Path) → length (sizes p) ≡ 8 * length p
sizes_length [] = refl
sizes_length (c ∷ cs) = length-append (le 8 (length c)) (sizes cs) ∙ omega (arith, le_length 8 (length c), sizes_length cs)

pub record PathSoFar (text lengths₀ bytes₀ lengths bytes : List ℕ) (done : Bool) (rest : List ℕ) (k n : ℕ) (q : Path) : Type 0 where
  pub left_to_read : all_before q (read_components (pieces_left done rest)) ≡ read_components (pieces slash text)
  pub sizes_written : lengths ≡ overwrite lengths₀ 0 (sizes q)
  pub bytes_written : bytes ≡ overwrite bytes₀ 0 (joined q)
  pub count : k ≡ length q
  pub total : n ≡ path_length q
  pub few : 2 * k + bytes_left done rest ≤ length text + 1
  pub short : 2 * n + bytes_left done rest ≤ length text + 1

pub path_start : (text lengths bytes : List ℕ) (done : Bool) (rest : List ℕ) → done ≡ false → rest ≡ text
    → PathSoFar text lengths bytes lengths bytes done rest 0 0 []
path_start text lengths bytes done rest d r =
    record {
      left_to_read = rw (d, r) (all_before_nil (read_components (pieces slash text)));
      sizes_written = sym (overwrite_nil lengths 0);
      bytes_written = sym (overwrite_nil bytes 0);
      count = refl;
      total = refl;
      few = rw (d, r) (omega arith);
      short = rw (d, r) (omega arith);
    }

module _ (text lengths₀ bytes₀ lengths bytes : List ℕ) (done : Bool) (rest : List ℕ) (k n : ℕ) (q : Path)
    (f : PathSoFar text lengths₀ bytes₀ lengths bytes done rest k n q)
    (room : 4 * length text + 8 ≤ length lengths₀) (bytes_room : length text ≤ 2 * length bytes₀) where
  pub sizes_same : length lengths ≡ length lengths₀
  sizes_same =
      let l = sizes_length q in
      let c = f.count in
      let w = f.few in
      ap length f.sizes_written ∙ length_overwrite lengths₀ 0 (sizes q) (omega arith)

  pub bytes_same : length bytes ≡ length bytes₀
  bytes_same =
      let l = joined_length q in
      let t = f.total in
      let w = f.short in
      ap length f.bytes_written ∙ length_overwrite bytes₀ 0 (joined q) (omega arith)

  module _ (piece : List ℕ) (done' : Bool) (rest' : List ℕ) (comes : Comes done rest piece done' rest') where
    pub size_room : 8 * k + 8 ≤ length lengths
    size_room = let s = sizes_same in let w = f.few in let t = comes.takes in omega arith

    pub piece_room : 2 * n + length piece ≤ 2 * length bytes
    piece_room = let b = bytes_same in let w = f.short in let t = comes.takes in omega arith

    pub path_none : read_component piece ≡ none → read_components (pieces slash text) ≡ none
    path_none e =
        sym f.left_to_read
        ∙ ap (λ ps. all_before q (read_components ps)) comes.first
        ∙ ap (λ o. all_before q (before_or o (read_components (pieces_left done' rest')))) e

    -- one component more
    pub path_again : (m : ℕ) (lengths' bytes' : List ℕ) → ComponentRead piece bytes n (Some m) bytes' → lengths' ≡ overwrite lengths (8 * k) (le 8 m)
        → (p : Path) × PathSoFar text lengths₀ bytes₀ lengths' bytes' done' rest' (k + 1) (n + m) p
    path_again m lengths' bytes' (v, e, w, m-is, half, some_byte) s =
        let sl = sizes_length q in
        let jl = joined_length q in
        let c = f.count in
        let t = f.total in
        let few = f.few in
        let short = f.short in
        let takes = comes.takes in
        let la = length-append q (v ∷ []) in
        let pa = path_length_append q (v ∷ []) in
        let one : sizes (q ++ (v ∷ [])) ≡ sizes q ++ le 8 m =
        sizes_append q (v ∷ []) ∙ ap (λ x. sizes q ++ x) (append-nil (le 8 (length v)) ∙ ap (le 8) (sym m-is)) in
        let two : joined (q ++ (v ∷ [])) ≡ joined q ++ v = joined_append q (v ∷ []) ∙ ap (λ x. joined q ++ x) (append-nil v) in (
          q ++ (v ∷ []),
          record {
            left_to_read =
                sym (all_before_one q v (read_components (pieces_left done' rest')))
                ∙ ap (λ o. all_before q (before_or o (read_components (pieces_left done' rest')))) (sym e)
                ∙ ap (λ ps. all_before q (read_components ps)) (sym comes.first)
                ∙ f.left_to_read;
            sizes_written = written_on lengths₀ (sizes q) (le 8 m) lengths lengths' 0 (8 * k) (omega arith) (omega arith) f.sizes_written s ∙ ap (overwrite lengths₀ 0) (sym one);
            bytes_written = written_on bytes₀ (joined q) v bytes bytes' 0 n (omega arith) (omega arith) f.bytes_written w ∙ ap (overwrite bytes₀ 0) (sym two);
            count = omega arith;
            total = omega arith;
            few = omega arith;
            short = omega arith;
          },
        )

  -- where the last piece has come nothing is left to read: what is written is the path
  pub path_whole : done ≡ true → PathRead (read_components (pieces slash text)) lengths₀ bytes₀ (Some (k, n)) lengths bytes
  path_whole d =
      let few = f.few in
      let short = f.short in
      let r : all_before q (read_components (pieces_left true rest)) ≡ read_components (pieces slash text) = rw d at f.left_to_read in
      (q, sym r ∙ ap some (append-nil q), f.sizes_written, f.bytes_written, f.count, f.total, omega arith, omega arith)
