-- A line is read as it is worded, part by part from its front, and what is read was so worded; so a line has one wording.
use Prim.Native.Nat.{ℕ, ◌≤◌}
use mathlib.Core.Path.{◌≡◌, refl, sym, ◌∙◌, ap}
use mathlib.Core.Logic.{◌⊎◌, inl, inr}
use mathlib.Core.List.{List, [], ◌∷◌, ◌++◌}
use mathlib.Core.Option.{Option, none, some}
use native.Mathlib.Omega.{arith}
use lib.Dec.{eqb, leb}
use lib.ListN.{length}
use borrow.Author.Tests.{eqb-true, leb-true, leb-false}
use Rattle.willow.specs.Lists.{All}
use Rattle.willow.specs.Numbers.{Bytes}
use Rattle.willow.specs.Paths.{Path}
use Rattle.willow.proofs.Bools.{bool_cases}
use Rattle.keyform.proofs.CaseLaws.{by_test, by_tests, by_option, nothing_found}
use Rattle.keyform.proofs.NumeralLaws.{field_read_lem, field_written, numeral_split, numeral_same}
use Rattle.keyform.proofs.PathTextLaws.{path_read, path_written}
use Rattle.keyform.specs.KeyTheorem.{read_as, OneWording}
use Rattle.keyform.specs.Reading.{Field, read_field, asks, behind_space, alone, read_question, Read, with_question, behind_two, behind_one, behind_none, read_line}
use Rattle.keyform.specs.Texts.{space, numeral_text, numeral_value, path_text}
use Rattle.keyform.specs.Wording.{max_line, Question, successor_of, next_greater_of, greatest_path, question_text, BytesAsked, Wording, limits_worded, wording_text, OfForm}

-- A QUESTION.
pub question_read : (q : Question) → BytesAsked q → read_question (question_text q) ≡ some q
question_read (successor_of p) a = rw (path_read p a)
question_read (next_greater_of p) a = rw (path_read p a)
question_read greatest_path a = refl

-- what a question asks of something that there is
asks_some : (question : Path → Question) (o : Option Path) (q : Question) → asks question o ≡ some q → (p : Path) × (o ≡ some p) × (q ≡ question p)
asks_some question none q e = nothing_found q e
asks_some question (some p) q e = (p, refl, cc)

space_some : (s : List ℕ) (p : Path) → behind_space s ≡ some p → (s ≡ space ∷ path_text p) × All Bytes p
space_some [] p = nothing_found p
space_some (b ∷ s) p = by_test (λ o. o ≡ some p → (b ∷ s ≡ space ∷ path_text p) × All Bytes p) (eqb b space)
    (λ is-space e. let h = path_written s p e in (rw (eqb-true b space is-space) (ap (λ l. space ∷ l) h.0), h.1))
    (λ other. nothing_found p)

alone_some : (s : List ℕ) (q : Question) → alone s ≡ some q → (s ≡ []) × (q ≡ greatest_path)
alone_some [] q e = (refl, cc)
alone_some (b ∷ s) q e = nothing_found q e

-- The text s words the question q.
abbrev Words : List ℕ → Question → Type 0
Words s q = (s ≡ question_text q) × BytesAsked q

-- behind each of the three letters
words_successor : (b : ℕ) (s : List ℕ) (q : Question) → b ≡ 83 → asks successor_of (behind_space s) ≡ some q → Words (b ∷ s) q
words_successor b s q letter e =
    let r = asks_some successor_of (behind_space s) q e in
    let h = space_some s r.0 r.1 in
    rw (r.2, letter) (ap (λ l. 83 ∷ l) h.0, h.1)

words_next_greater : (b : ℕ) (s : List ℕ) (q : Question) → b ≡ 71 → asks next_greater_of (behind_space s) ≡ some q → Words (b ∷ s) q
words_next_greater b s q letter e =
    let r = asks_some next_greater_of (behind_space s) q e in
    let h = space_some s r.0 r.1 in
    rw (r.2, letter) (ap (λ l. 71 ∷ l) h.0, h.1)

words_greatest : (b : ℕ) (s : List ℕ) (q : Question) → b ≡ 77 → alone s ≡ some q → Words (b ∷ s) q
words_greatest b s q letter e = let h = alone_some s q e in rw (h.1, letter) (ap (λ l. 77 ∷ l) h.0, tt)

question_written : (s : List ℕ) (q : Question) → read_question s ≡ some q → Words s q
question_written [] q = nothing_found q
question_written (b ∷ s) q = by_tests (λ o. o ≡ some q → Words (b ∷ s) q) _ _
    (λ e. words_successor b s q (eqb-true _ _ e))
    (λ e. words_next_greater b s q (eqb-true _ _ e))
    (λ e f. by_test (λ o. o ≡ some q → Words (b ∷ s) q) _ (λ g. words_greatest b s q (eqb-true _ _ g)) (λ g. nothing_found q))

pub question_text_same : (p q : Question) → BytesAsked p → BytesAsked q → question_text p ≡ question_text q → p ≡ q
question_text_same p q a b e =
    let f : some p ≡ some q = sym (question_read p a) ∙ ap read_question e ∙ question_read q b in
    cc

-- A LINE.
pub line_read_lem : (line : List ℕ) (w : Wording) → OfForm line w → read_line line ≡ some (read_as w)
unfolding read_line
line_read_lem line w f =
    let q = question_text w.asked in
    let third = numeral_text w.mpl ++ (space ∷ q) in
    let second = numeral_text w.mcc ++ (space ∷ third) in
    rw (f.worded, field_read_lem w.mcl second f.mcl_numeral, field_read_lem w.mcc third f.mcc_numeral, field_read_lem w.mpl q f.mpl_numeral, question_read w.asked f.asked_bytes)

-- The parts of a line that is read: three fields, each behind the one before, and a question.
record Parts (line : List ℕ) (r : Read) : Type 0 where
  first : Field
  second : Field
  third : Field
  question : Question
  first_read : read_field line ≡ some first
  second_read : read_field first.rest ≡ some second
  third_read : read_field second.rest ≡ some third
  question_there : read_question third.rest ≡ some question
  whole : r ≡ record { limits = record { mcl = first.number; mcc = second.number; mpl = third.number }; asked = question }

parts_question : (line : List ℕ) (r : Read) (a b c : Field) (o : Option Question) → read_field line ≡ some a → read_field a.rest ≡ some b
    → read_field b.rest ≡ some c → read_question c.rest ≡ o → with_question a.number b.number c.number o ≡ some r → Parts line r
parts_question line r a b c none x y z q e = nothing_found r e
parts_question line r a b c (some k) x y z q e = record {
  first = a;
  second = b;
  third = c;
  question = k;
  first_read = x;
  second_read = y;
  third_read = z;
  question_there = q;
  whole = cc;
}

parts_third : (line : List ℕ) (r : Read) (a b : Field) (o : Option Field) → read_field line ≡ some a → read_field a.rest ≡ some b
    → read_field b.rest ≡ o → behind_two a.number b.number o ≡ some r → Parts line r
parts_third line r a b none x y z e = nothing_found r e
parts_third line r a b (some c) x y z e = parts_question line r a b c (read_question c.rest) x y z refl e

parts_second : (line : List ℕ) (r : Read) (a : Field) (o : Option Field) → read_field line ≡ some a → read_field a.rest ≡ o
    → behind_one a.number o ≡ some r → Parts line r
parts_second line r a none x y e = nothing_found r e
parts_second line r a (some b) x y e = parts_third line r a b (read_field b.rest) x y refl e

parts_first : (line : List ℕ) (r : Read) (o : Option Field) → read_field line ≡ o → behind_none o ≡ some r → Parts line r
parts_first line r none x e = nothing_found r e
parts_first line r (some a) x e = parts_second line r a (read_field a.rest) x refl e

parts : (line : List ℕ) (r : Read) → read_line line ≡ some r → Parts line r
unfolding read_line
parts line r e = parts_first line r (read_field line) refl e

-- Parts written one behind the other are a wording, and the numbers read are the numerals'.
worded_by : (w : Wording) (line s t u : List ℕ) → line ≡ numeral_text w.mcl ++ (space ∷ s) → s ≡ numeral_text w.mcc ++ (space ∷ t)
    → t ≡ numeral_text w.mpl ++ (space ∷ u) → u ≡ question_text w.asked → line ≡ wording_text w
worded_by w line s t u a b c d =
    let third = c ∙ ap (λ l. numeral_text w.mpl ++ (space ∷ l)) d in
    let second = b ∙ ap (λ l. numeral_text w.mcc ++ (space ∷ l)) third in
    a ∙ ap (λ l. numeral_text w.mcl ++ (space ∷ l)) second

read_by : (w : Wording) (l m n : ℕ) → l ≡ numeral_value w.mcl → m ≡ numeral_value w.mcc → n ≡ numeral_value w.mpl
    → record { limits = record { mcl = l; mcc = m; mpl = n }; asked = w.asked } ≡ read_as w
read_by w l m n a b c = λ i. record { limits = record { mcl = a i; mcc = b i; mpl = c i }; asked = w.asked }

pub line_written : (line : List ℕ) (r : Read) → read_line line ≡ some r → length line ≤ max_line → (w : Wording) × OfForm line w × (r ≡ read_as w)
line_written line r e h = go (parts line r e)
  where
    go : Parts line r → (w : Wording) × OfForm line w × (r ≡ read_as w)
    go k =
        let x = field_written line k.first k.first_read in
        let y = field_written k.first.rest k.second k.second_read in
        let z = field_written k.second.rest k.third k.third_read in
        let q = question_written k.third.rest k.question k.question_there in
        let w : Wording = record { mcl = x.0; mcc = y.0; mpl = z.0; asked = k.question } in (
          w,
          record {
            mcl_numeral = x.1;
            mcc_numeral = y.1;
            mpl_numeral = z.1;
            asked_bytes = q.1;
            within = h;
            worded = worded_by w line k.first.rest k.second.rest k.third.rest x.3 y.3 z.3 q.0;
          },
          k.whole ∙ read_by w k.first.number k.second.number k.third.number x.2 y.2 z.2,
        )

-- A line is of the form by some wording, or by none.
pub form_decided : (line : List ℕ) → ((w : Wording) × OfForm line w) ⊎ ((w : Wording) → OfForm line w → ⊥)
form_decided line = elim (bool_cases (leb (length line) max_line)) [
  | inl e ↦ by_option (read_line line)
      (λ none_read. inr (λ w f. nothing_found (read_as w) (sym none_read ∙ line_read_lem line w f)))
      (λ r read. let t = line_written line r read (leb-true (length line) max_line e) in inl (t.0, t.1))
  | inr e ↦ inr (λ w f. let h = leb-false (length line) max_line e in let k = f.within in omega arith)
]

-- ONE WORDING. The numerals of two wordings of a line are the same, from the front, and then the questions.
one_reading : (line : List ℕ) (v w : Wording) → OfForm line v → OfForm line w → v ≡ w
one_reading line v w f g =
    let a = numeral_split v.mcl w.mcl _ _ (sym f.worded ∙ g.worded) in
    let b = numeral_split v.mcc w.mcc _ _ a.1 in
    let c = numeral_split v.mpl w.mpl _ _ b.1 in
    let d = question_text_same v.asked w.asked f.asked_bytes g.asked_bytes c.1 in
    λ i. record { mcl = a.0 i; mcc = b.0 i; mpl = c.0 i; asked = d i }

-- Limits and a question are written in one way, with as many digits.
one_writing : (l m : List ℕ) (v w : Wording) → OfForm l v → OfForm m w → limits_worded v ≡ limits_worded w → v.asked ≡ w.asked
    → length v.mcl ≡ length w.mcl → length v.mcc ≡ length w.mcc → length v.mpl ≡ length w.mpl → l ≡ m
one_writing l m v w f g same asked x y z =
    let a = numeral_same v.mcl w.mcl f.mcl_numeral.each_digit g.mcl_numeral.each_digit x (ap (λ k. k.mcl) same) in
    let b = numeral_same v.mcc w.mcc f.mcc_numeral.each_digit g.mcc_numeral.each_digit y (ap (λ k. k.mcc) same) in
    let c = numeral_same v.mpl w.mpl f.mpl_numeral.each_digit g.mpl_numeral.each_digit z (ap (λ k. k.mpl) same) in
    let wording : v ≡ w = λ i. record { mcl = a i; mcc = b i; mpl = c i; asked = asked i } in
    f.worded ∙ ap wording_text wording ∙ sym g.worded

pub one_wording : OneWording
one_wording = record {
  read_exactly = λ line r. (
    λ h. line_written line r h.0 h.1,
    λ h. (line_read_lem line h.0 h.1 ∙ ap some (sym h.2), h.1.within),
  );
  one_reading = one_reading;
  one_writing = one_writing;
}
