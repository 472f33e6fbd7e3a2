-- A whole log: the answers to its lines, and the named book that they leave.
use Rattle.std.specs.Prelude.{ℕ, List, [], ◌∷◌, ◌++◌}
use Rattle.plain_named.specs.Named.{Named}
use Rattle.plain_named.specs.Replies.{answer, after}

-- The answers to the lines, one after the other.
unfoldable pub answers : ℕ → Named → List (List ℕ) → List ℕ
answers capacity n [] = []
answers capacity n (line ∷ lines) = answer capacity n line ++ answers capacity (after capacity n line) lines

unfoldable pub after_all : ℕ → Named → List (List ℕ) → Named
after_all capacity n [] = n
after_all capacity n (line ∷ lines) = after_all capacity (after capacity n line) lines
