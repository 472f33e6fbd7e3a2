-- What a field and the rest of its line stand for.
use Rattle.std.specs.Prelude.{ℕ, List, Ok, Err, Result}
use Rattle.std.specs.Borrow.{Bor}
use Rattle.grammar.specs.Reading.{Cut}
use Rattle.lines.specs.declared.rest.Rest.{Rest}

-- An answer, or the place of a fault.
abbrev pub read_as : {A B : Type 0} → (A → B) → Result A ℕ → Result B ℕ
read_as f (Ok x) = Ok (f x)
read_as f (Err place) = Err place

abbrev pub seen : Rest → List ℕ × ℕ
seen rest = (rest.bytes.now, rest.place)

-- A field with what stands after it.
abbrev pub number_cut : ℕ × Rest → Cut ℕ
number_cut x = (x.0, x.1.bytes.now, x.1.place)

abbrev pub name_cut : Bor (List ℕ) × Rest → Cut (List ℕ)
name_cut x = (x.0.now, x.1.bytes.now, x.1.place)
