-- What the answers of the parser stand for.
use Rattle.std.specs.Prelude.{ℕ, Ok, Err, Result}
use Rattle.grammar.specs.Grammar.{Said, Enrol, Drop, Pair, Unpair, Rank, Hear}
use Rattle.lines.specs.declared.Line.{Line}
use Rattle.lines.specs.declared.Line.TheVariants as line
use Rattle.lines.specs.declared.Malformed.{Malformed}

-- What a line says.
abbrev pub said : Line → Said
said (line.Enrol number name rank) = Enrol number name.now rank
said (line.Drop name) = Drop name.now
said (line.Pair source listener) = Pair source.now listener.now
said (line.Unpair source listener) = Unpair source.now listener.now
said (line.Rank name rank) = Rank name.now rank
said (line.Hear source listener) = Hear source.now listener.now

-- An answer whose fault is a place.
abbrev pub placed : {A B : Type 0} → (A → B) → Result A Malformed → Result B ℕ
placed f (Ok x) = Ok (f x)
placed f (Err e) = Err e.place
