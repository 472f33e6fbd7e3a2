-- What a named book replies to a line, and what the line leaves of it.
use Rattle.std.specs.Prelude.{ℕ, List, Some, None, Ok, Err, Option, Result}
use Rattle.grammar.specs.Grammar.{Said}
use Rattle.grammar.specs.Grammar as said
use Rattle.grammar.specs.Reading.{read}
use Rattle.names.specs.declared.fault.NameFault.{NameFault}
use Rattle.names.specs.Faults.{name_place}
use Rattle.plain.specs.declared.BookFault.{BookFault}
use Rattle.plain.specs.declared.BookFault.TheVariants as fault
use Rattle.plain.specs.Plain.{Plain, hears}
use Rattle.plain.specs.Requests.{verdict, granted}
use Rattle.book.specs.Answers.{alters}
use Rattle.answers.specs.declared.Told.{Told}
use Rattle.answers.specs.declared.Told.TheVariants.{Changed, Heard}
use Rattle.answers.specs.declared.fault.LineFault.{LineFault}
use Rattle.answers.specs.declared.fault.LineFault.TheVariants.{Form, Name, Book}
use Rattle.answers.specs.declared.fault.Refusal.{Refusal}
use Rattle.answers.specs.Texts.{text}
use Rattle.plain_named.specs.Named.{Named}
use Rattle.plain_named.specs.Lines.{Asked, Enrol, Drop, Pair, Unpair, Rank, Hear, asked, request_of, names_after, place}

-- How many labels a change alters, or whether the listener hears the source.
abbrev pub tells : Plain → Asked → Told
tells p (Enrol unit name rank) = Changed (alters p (granted p (request_of (Enrol unit name rank))))
tells p (Drop unit) = Changed (alters p (granted p (request_of (Drop unit))))
tells p (Pair source listener) = Changed (alters p (granted p (request_of (Pair source listener))))
tells p (Unpair source listener) = Changed (alters p (granted p (request_of (Unpair source listener))))
tells p (Rank unit rank) = Changed (alters p (granted p (request_of (Rank unit rank))))
tells p (Hear source listener) = Heard (hears p listener source)

abbrev pub replied : Option BookFault → Told → Result Told LineFault
replied None told = Ok told
replied (Some cause) told = Err (Book cause)

-- The names come first, then the checks of the book.
unfoldable pub reply_to : ℕ → Named → Result Asked NameFault → Result Told LineFault
reply_to capacity n (Ok a) = replied (verdict capacity n.book (request_of a)) (tells n.book a)
reply_to capacity n (Err cause) = Err (Name cause)

abbrev pub reply : ℕ → Named → Said → Result Told LineFault
reply capacity n s = reply_to capacity n (asked n.names s)

-- A refused line leaves the named book as it was.
abbrev pub unless : Option BookFault → Named → Named → Named
unless None old new = new
unless (Some cause) old new = old

unfoldable pub left_by : ℕ → Named → Result Asked NameFault → Named
left_by capacity n (Ok a) = unless (verdict capacity n.book (request_of a)) n (record { book = granted n.book (request_of a); names = names_after a n.names })
left_by capacity n (Err cause) = n

abbrev pub left : ℕ → Named → Said → Named
left capacity n s = left_by capacity n (asked n.names s)

-- The field at which a fault of the book is told: the rank of a line, which is its last field, for a rank outside; the number for one that is 0 or
-- stands already; and else the second name. No line meets the other faults.
abbrev pub rank_field : Said → ℕ
rank_field (said.Enrol number name rank) = 2
rank_field (said.Drop name) = 1
rank_field (said.Pair source listener) = 1
rank_field (said.Unpair source listener) = 1
rank_field (said.Rank name rank) = 1
rank_field (said.Hear source listener) = 1

abbrev pub fault_field : Said → BookFault → ℕ
fault_field s fault.Zero = 0
fault_field s fault.Standing = 0
fault_field s fault.RankOutside = rank_field s
fault_field s fault.Unknown = 1
fault_field s fault.Doubled = 1
fault_field s fault.Ring = 1
fault_field s fault.AlreadyPaired = 1
fault_field s fault.NotPaired = 1
fault_field s fault.ShortBuffer = 1
fault_field s fault.BadSheet = 1
fault_field s fault.UnlawfulPage = 1
fault_field s (fault.Store cause) = 1

abbrev pub fault_place : Said → LineFault → ℕ
fault_place s (Form cause) = cause.place
fault_place s (Name cause) = name_place cause
fault_place s (Book cause) = place s (fault_field s cause)

abbrev pub placed : Said → Result Told LineFault → Result Told Refusal
placed s (Ok told) = Ok told
placed s (Err cause) = Err (record { fault = cause; place = fault_place s cause })

-- The form comes before all else.
abbrev pub reply_to_read : ℕ → Named → Result Said ℕ → Result Told Refusal
reply_to_read capacity n (Ok s) = placed s (reply capacity n s)
reply_to_read capacity n (Err at) = Err (record { fault = Form (record { place = at }); place = at })

abbrev pub left_by_read : ℕ → Named → Result Said ℕ → Named
left_by_read capacity n (Ok s) = left capacity n s
left_by_read capacity n (Err at) = n

-- The reply to a line of bytes, the text that it is answered with, and the named book after it.
abbrev pub line_reply : ℕ → Named → List ℕ → Result Told Refusal
line_reply capacity n line = reply_to_read capacity n (read line)

unfoldable pub answer : ℕ → Named → List ℕ → List ℕ
answer capacity n line = text (line_reply capacity n line)

unfoldable pub after : ℕ → Named → List ℕ → Named
after capacity n line = left_by_read capacity n (read line)
