-- Feeding bytes takes at least one of them, so a loop that feeds what is left ends; and what is held goes on with each byte.
use Prim.Native.Nat.{ℕ, ◌+◌, ◌-◌, ◌≤◌, ◌<◌}
use mathlib.Core.List.{List}
use mathlib.Core.Logic.{◌⊎◌, inl, inr}
use mathlib.Core.Path.{◌≡◌, sym, ◌∙◌, ap}
use native.Mathlib.Omega.{arith}
use lib.ListN.{length, take, drop, length-drop, take-append-drop}
use lib.Seq.{take_all}
use Rattle.keyform.specs.Answering.{max_answer, Held, held_after, printed_by}
use Rattle.keyform.proofs.PrintingLaws.{held_append}
use Rattle.keyinput.specs.declared.inner.Fed.{Fed}
use Rattle.keyinput.specs.Held.{Feeds}

module _ (h : Held) (rest out : List ℕ) (r : Fed) (h' : Held) (out' : List ℕ) (f : Feeds h rest out r h' out') where
  -- where nothing was taken nothing is printed, and there was room
  pub fed_some : 0 < length rest → max_answer + 1 ≤ length out → 0 < r.used
  fed_some more room = let n : r.used ≡ 0 → ⊥ = λ z. go z f.goes_on in omega arith
    where
      go : r.used ≡ 0 → (r.used ≡ length rest) ⊎ (length out ≤ r.written + max_answer) → ⊥
      go z (inl e) = omega arith
      go z (inr e) = let w = f.taken.behind ∙ ap (λ n. 0 + length (printed_by h (take n rest))) z in omega arith

  -- what is left of the bytes goes on where those that were fed stopped
  pub fed_on : held_after h' (take (length rest - r.used) (drop r.used rest)) ≡ held_after h rest
  fed_on =
      ap (held_after h') (take_all (length rest - r.used) (drop r.used rest) (omega (arith, length-drop r.used rest)))
      ∙ ap (λ x. held_after x (drop r.used rest)) f.taken.holds
      ∙ sym (held_append h (take r.used rest) (drop r.used rest))
      ∙ ap (held_after h) (take-append-drop r.used rest)
