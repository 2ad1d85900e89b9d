-- Names that may stand in a list more than once.
use Rattle.std.specs.Prelude.{ℕ, List, [], ◌∷◌, ◌++◌, map, fold, bytes_eq, if◌then◌else◌}
use Rattle.std.specs.List.{list_any}
use Rattle.quil_tree.specs.declared.statement.Name.{Name}

-- names, and one more where it is none of them
abbrev pub with_name : List (List ℕ) → List ℕ → List (List ℕ)
with_name names name = if list_any (bytes_eq name) names then names else names ++ name ∷ []

-- names, each once, in the order of their first appearance
abbrev pub distinct : List (List ℕ) → List (List ℕ)
distinct names = fold with_name [] names

-- the bytes of names
abbrev pub texts_of : List Name → List (List ℕ)
texts_of names = map (λ n. n.text) names
