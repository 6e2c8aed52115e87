-- A builder's buffer: what stands in it once some components are appended, and when it agrees with the counts beside it.
--
-- "Its buffer, if shorter than the declared path, gets 15; else it agrees if it holds the declared count, well-formed lengths
-- of the components appended, no more than declared, and zeros for the lengths to come."
use Rattle.std.specs.Prelude.{ℕ, ◌+◌, ◌-◌, ◌*◌, ◌≤◌, ◌<◌, ◌≡◌, List, ◌++◌, Bool, true, ◌&&◌, leb, eqb, length, take, drop}
use Rattle.number.specs.Overwriting.{zeros, all_zero}
use Rattle.packed.specs.Steps.{steps_within}
use Rattle.willow.specs.Numbers.{le, number_at}
use Rattle.willow.specs.Packed.{accumulated, joined, components_from}
use Rattle.willow.specs.Paths.{Component, Path, path_length}

-- THE DECLARED PATH. The size of its packed form, by its length and count: a whole number, that no sum wraps.
unfoldable pub size_of : ℕ → ℕ → ℕ
size_of bytes count = 8 + 8 * count + bytes

-- WHAT STANDS IN THE BUFFER once the components q are appended of `count` declared: the declared count, their accumulated
-- lengths, zeros for the lengths to come, and their bytes. Where q is whole, this is its packed form.
unfoldable pub partial : ℕ → Path → List ℕ
partial count q = le 8 count ++ (accumulated 0 q ++ (zeros (8 * (count - length q)) ++ joined q))

-- COMPUTED. A buffer with a table of `count` lengths agrees, if of these `appended` are those of components, of at most `most` bytes:
unfoldable pub agrees_with : ℕ → ℕ → ℕ → ℕ → List ℕ → Bool
agrees_with mcl most count appended out =
    eqb (number_at out 0) count
    && (leb appended count
    && (steps_within mcl most out appended 8 0
    && all_zero (take (8 * (count - appended)) (drop (8 + 8 * appended) out))))

-- The components that were appended, as the buffer holds them.
unfoldable pub components_in : ℕ → ℕ → List ℕ → Path
components_in count appended out = components_from out (8 + 8 * count) appended 8 0

-- What the writing of a component takes for granted: the buffer agrees with the counts under some limits and is long enough,
-- and the component passes neither the count nor the length.
pub record Next (count appended : ℕ) (c : Component) (out : List ℕ) : Type 0 where
  pub mcl : ℕ
  pub most : ℕ
  pub agreed : agrees_with mcl most count appended out ≡ true
  pub room : size_of most count ≤ length out
  pub more : appended < count
  pub fits : path_length (components_in count appended out) + length c ≤ most
