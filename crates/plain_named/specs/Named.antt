-- The plain named book: a plain book, and the names of its units.
use Rattle.std.specs.Prelude.{◌≡◌, ℕ, ◌≤◌, List, is_some, Some, None}
use Rattle.grammar.specs.Grammar.{IsName}
use Rattle.names.specs.Names.{Names, nameless}
use Rattle.plain.specs.Plain.{Plain, empty}
use Rattle.plain.specs.Requests.{stands}

pub record Named : Type 0 where
  pub book : Plain
  pub names : Names

-- No unit and no name.
abbrev pub nobody : Named
nobody = record { book = empty; names = nameless }

-- What holds of every named book that lines have made.
pub record WellNamed (n : Named) : Type 0 where
  -- a number has a name exactly while its unit stands
  pub standing : (u : ℕ) → is_some (n.names u) ≡ stands n.book u
  -- no two have the same
  pub apart : (a b : ℕ) (name : List ℕ) → n.names a ≡ Some name → n.names b ≡ Some name → a ≡ b
  -- only the numbers below 256 have one
  pub few : (u : ℕ) → 256 ≤ u → n.names u ≡ None
  -- it has 1 to 16 bytes, of those that a name may have
  pub lawful : (u : ℕ) (name : List ℕ) → n.names u ≡ Some name → IsName name
