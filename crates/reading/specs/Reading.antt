-- What the calls on one path answer, each as a question on the path that was lent.
use Rattle.std.specs.Prelude.{ℕ, List, [], Bool, cond, leb, ltb, eqb, length, take, get_or}
use Rattle.willow.specs.Paths.{Component, Path, path_length}
use Rattle.willow.specs.Refusals.{Outcome, refused, absent, value}

abbrev pub count_of : Path → Outcome ℕ
count_of p = value (length p)

abbrev pub emptiness_of : Path → Outcome Bool
emptiness_of p = value (eqb (length p) 0)

abbrev pub length_of : Path → Outcome ℕ
length_of p = value (path_length p)

-- "None (no such component, prefix ..) is no refusal": past the count there is none.
abbrev pub prefix_length_of : ℕ → Path → Outcome ℕ
prefix_length_of n p = cond (leb n (length p)) (value (path_length (take n p))) absent

-- A prefix is the same buffer with a smaller count.
abbrev pub prefix_count_of : ℕ → Path → Outcome ℕ
prefix_count_of n p = cond (leb n (length p)) (value n) absent

abbrev pub component_of : ℕ → Path → Outcome Component
component_of i p = cond (ltb i (length p)) (value (get_or p i [])) absent

abbrev pub component_length_of : ℕ → Path → Outcome ℕ
component_length_of i p = cond (ltb i (length p)) (value (length (get_or p i []))) absent

-- The bytes of an answer, none where there is no answer.
abbrev pub bytes_or : Outcome (List ℕ) → List ℕ
bytes_or (refused r) = []
bytes_or absent = []
bytes_or (value v) = v
