-- The number and the letter under which a line's fault is shown. A fault of a name, of the book or of its store keeps its own.
use Rattle.std.specs.Prelude.{ℕ}
use Rattle.names.specs.Faults.{name_number, name_letter}
use Rattle.plain.specs.Faults.{book_number, book_letter}
use Rattle.answers.specs.declared.fault.LineFault.{LineFault}
use Rattle.answers.specs.declared.fault.LineFault.TheVariants.{Form, Name, Book}

abbrev pub line_number : LineFault → ℕ
line_number (Form fault) = 12
line_number (Name fault) = name_number fault
line_number (Book fault) = book_number fault

-- 'L' in ASCII, for the line itself.
abbrev pub line_letter : LineFault → ℕ
line_letter (Form fault) = 76
line_letter (Name fault) = name_letter fault
line_letter (Book fault) = book_letter fault
