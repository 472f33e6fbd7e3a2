-- What is proved of plain named books and of the replies to lines.
use Rattle.std.specs.Prelude.{◌≡◌, ℕ, suc, ◌<◌, List, ◌++◌, length, Err, ◌≢◌, slice_index_or}
use Rattle.grammar.specs.Grammar.{Said, Field, text, fields, written}
use Rattle.plain.specs.declared.BookFault.TheVariants.{Unknown}
use Rattle.answers.specs.declared.fault.LineFault.TheVariants.{Book}
use Rattle.answers.specs.Texts.{Near}
use Rattle.plain_named.specs.Named.{Named, nobody, WellNamed}
use Rattle.plain_named.specs.Lines.{place}
use Rattle.plain_named.specs.Replies.{line_reply, after}

-- Names stand for units from the empty book on, after every line.
pub record StaysWellNamed : Type 0 where
  pub first : WellNamed nobody
  pub next : (capacity : ℕ) (n : Named) (line : List ℕ) → WellNamed n → WellNamed (after capacity n line)

-- No refusal is told at a place past 36.
abbrev pub PlacesNear : Type 0
PlacesNear = (capacity : ℕ) (n : Named) (line : List ℕ) → Near (line_reply capacity n line)

-- The i-th field of a line is written where it is said to begin.
pub record FieldAt (s : Said) (i : ℕ) (f : Field) : Type 0 where
  pub before : List ℕ
  pub after : List ℕ
  pub split : before ++ (text f ++ after) ≡ written s
  pub here : place s i ≡ suc (length before)

abbrev pub FieldsPlaced : Type 0
FieldsPlaced = (s : Said) (i : ℕ) (f : Field) → i < length (fields s) → FieldAt s i (slice_index_or (fields s) i f)

-- Where names belong to the units that stand, no line is refused because a unit does not.
abbrev pub NeverUnknown : Type 0
NeverUnknown = (capacity : ℕ) (n : Named) (line : List ℕ) (at : ℕ) → WellNamed n → line_reply capacity n line ≢ Err (record { fault = Book Unknown; place = at })
