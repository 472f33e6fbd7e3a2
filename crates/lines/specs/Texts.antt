-- A text as lines: each ends at its line feed, byte 10, and the last may lack it.
use Rattle.std.specs.Prelude.{ℕ, cond, List, [], ◌∷◌, ◌++◌, length, ◌==◌}

abbrev pub first_line : List ℕ → List ℕ
first_line [] = []
first_line (x ∷ xs) = cond (x == 10) [] (x ∷ first_line xs)

-- What stands after the first line and its line feed.
abbrev pub after_line : List ℕ → List ℕ
after_line [] = []
after_line (x ∷ xs) = cond (x == 10) xs (after_line xs)

-- The lines of a text, of whose first line some bytes were read already. A line ends at its line feed, byte 10, and the last may lack it; where nothing
-- stands after a line feed, there is no line.
unfoldable pub lines_from : List ℕ → List ℕ → List (List ℕ)
lines_from line [] = cond (length line == 0) [] (line ∷ [])
lines_from line (b ∷ bytes) = cond (b == 10) (line ∷ lines_from [] bytes) (lines_from (line ++ b ∷ []) bytes)

abbrev pub lines_of : List ℕ → List (List ℕ)
lines_of bytes = lines_from [] bytes
