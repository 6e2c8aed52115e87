-- `none` and a refusal cannot be read as paths, so no path is shown as they are; a refusal is found again by the number in its
-- text. No answer holds a newline, since all that is shown stands above it.
use Prim.Native.Nat.{ℕ, ◌+◌, ◌-◌, ◌/◌, ◌%◌, ◌<◌}
use mathlib.Core.Path.{◌≡◌, refl, sym, ◌∙◌, ap}
use mathlib.Core.Logic.{inl, inr}
use mathlib.Core.List.{List, [], ◌∷◌, map}
use mathlib.Core.Option.{none}
use mathlib.Core.Bool.{Bool, true, false, cond}
use native.Mathlib.Omega.{arith}
use lib.Dec.{ltb}
use lib.ListN.{drop, get_or}
use Rattle.willow.specs.declared.Refusal.{Refusal}
use Rattle.willow.specs.declared.Refusal.TheVariants.{BadLimits, BadSheet, BadKind, WrongNamespace, BadPath, BadLengths, PathTooLong, TooManyComponents, ComponentTooLong, NoSuchPrefix, Overfilled, Unfinished, TotalFull, NoRoom, OutTooSmall}
use Rattle.willow.specs.Lists.{All}
use Rattle.willow.specs.Numbers.{Bytes}
use Rattle.willow.specs.Paths.{Path}
use Rattle.willow.specs.Refusals.{Outcome, refused, absent, value, refusal_number}
use Rattle.willow.proofs.ListLaws.{all_append, all_also}
use Rattle.keyform.proofs.CaseLaws.{nothing_found}
use Rattle.keyform.proofs.PathTextLaws.{ComponentByte, component_bytes, path_read}
use Rattle.keyform.proofs.SplittingLaws.{Without}
use Rattle.keyform.specs.Answering.{line_outcome, refused_text, outcome_text, answer_text}
use Rattle.keyform.specs.KeyTheorem.{Shown}
use Rattle.keyform.specs.Reading.{read_component, read_path}
use Rattle.keyform.specs.Splitting.{pieces}
use Rattle.keyform.specs.Texts.{text, newline, slash, digit_zero, decimal_digits, numeral_value, decimal_text, component_text, behind_each, path_text}

-- NO PATH is read from `none` or from a refusal.
none_unread : read_path (text "none") ≡ none
unfolding read_path read_component pieces
none_unread = refl

refused_unread : (r : Refusal) → read_path (refused_text r) ≡ none
unfolding read_path read_component pieces decimal_text
refused_unread BadLimits = refl
refused_unread BadSheet = refl
refused_unread BadKind = refl
refused_unread WrongNamespace = refl
refused_unread BadPath = refl
refused_unread BadLengths = refl
refused_unread PathTooLong = refl
refused_unread TooManyComponents = refl
refused_unread ComponentTooLong = refl
refused_unread NoSuchPrefix = refl
refused_unread Overfilled = refl
refused_unread Unfinished = refl
refused_unread TotalFull = refl
refused_unread NoRoom = refl
refused_unread OutTooSmall = refl

path_not_shown : (p : Path) (s : List ℕ) → All Bytes p → read_path s ≡ none → path_text p ≡ s → ⊥
path_not_shown p s a n e = nothing_found p (sym n ∙ ap read_path (sym e) ∙ path_read p a)

-- A REFUSAL by its number, which stands behind eight bytes of its text.
refusals : List Refusal
refusals =
    BadLimits
    ∷ BadLimits
    ∷ BadSheet
    ∷ BadKind
    ∷ WrongNamespace
    ∷ BadPath
    ∷ BadLengths
    ∷ PathTooLong
    ∷ TooManyComponents
    ∷ ComponentTooLong
    ∷ NoSuchPrefix
    ∷ Overfilled
    ∷ Unfinished
    ∷ TotalFull
    ∷ NoRoom
    ∷ OutTooSmall
    ∷ []

refusal_in : List ℕ → Refusal
refusal_in s = get_or refusals (numeral_value (map (λ b. b - digit_zero) (drop 8 s))) BadLimits

refusal_back : (r : Refusal) → refusal_in (refused_text r) ≡ r
unfolding refusals refusal_in decimal_text
refusal_back BadLimits = refl
refusal_back BadSheet = refl
refusal_back BadKind = refl
refusal_back WrongNamespace = refl
refusal_back BadPath = refl
refusal_back BadLengths = refl
refusal_back PathTooLong = refl
refusal_back TooManyComponents = refl
refusal_back ComponentTooLong = refl
refusal_back NoSuchPrefix = refl
refusal_back Overfilled = refl
refusal_back Unfinished = refl
refusal_back TotalFull = refl
refusal_back NoRoom = refl
refusal_back OutTooSmall = refl

pub shown : Shown
shown = record {
  path_read_back = path_read;
  path_not_none = λ p a. path_not_shown p (text "none") a none_unread;
  path_not_refused = λ p r a. path_not_shown p (refused_text r) a (refused_unread r);
  none_not_refused = λ r e. let z : ◌≡◌ {A = ℕ} 110 114 = cc in omega arith;
  refusals_differ = λ q r e. sym (refusal_back q) ∙ ap refusal_in e ∙ refusal_back r;
}

-- NO NEWLINE stands in what is shown.
abbrev Above : ℕ → Type 0
Above b = newline < b

component_byte_above : (b : ℕ) → ComponentByte b → Above b
component_byte_above b (inl e) = omega arith
component_byte_above b (inr h) = omega arith

behind_above : (p : Path) → All Above (behind_each slash (map component_text p))
behind_above [] = tt
behind_above (c ∷ cs) = (omega arith, all_append Above (component_text c) _ (all_also ComponentByte Above component_byte_above (component_text c) (component_bytes c)) (behind_above cs))

path_above : (p : Path) → All Above (path_text p)
path_above [] = (omega arith, (omega arith, tt))
path_above (c ∷ cs) = (behind_above (c ∷ cs)).1

decimal_above : (n : ℕ) → All Above (decimal_text n)
unfolding decimal_text
decimal_above n = one_or_two (ltb n decimal_digits) n (n / decimal_digits) (n % decimal_digits)
  where
    one_or_two : (t : Bool) (a b c : ℕ) → All Above (cond t ((digit_zero + a) ∷ []) ((digit_zero + b) ∷ (digit_zero + c) ∷ []))
    one_or_two true a b c = (omega arith, tt)
    one_or_two false a b c = (omega arith, (omega arith, tt))

outcome_above : (o : Outcome Path) → All Above (outcome_text o)
outcome_above (refused r) =
    (omega arith, (omega arith, (omega arith, (omega arith, (omega arith, (omega arith, (omega arith, (omega arith, decimal_above (refusal_number r)))))))))
outcome_above absent = (omega arith, (omega arith, (omega arith, (omega arith, tt))))
outcome_above (value p) = path_above p

pub answer_without : (line : List ℕ) → Without newline (answer_text line)
unfolding answer_text
answer_without line = all_also Above (λ b. b ≡ newline → ⊥) (λ b h e. omega arith) (outcome_text (line_outcome line)) (outcome_above (line_outcome line))
