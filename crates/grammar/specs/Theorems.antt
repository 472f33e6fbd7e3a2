-- What is proved of the reading.
use Rattle.std.specs.Prelude.{◌≡◌, ℕ, List, Result}
use Rattle.grammar.specs.Grammar.{Said, Right}
use Rattle.grammar.specs.Reading.{read}

-- The reading of every line is right, and no other answer is.
pub record ReadingRight : Type 0 where
  pub right : (line : List ℕ) → Right line (read line)
  pub only : (line : List ℕ) (other : Result Said ℕ) → Right line other → other ≡ read line
