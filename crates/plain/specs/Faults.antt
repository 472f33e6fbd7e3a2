-- The number and the letter under which a book's fault is shown. A store's own fault keeps its number and letter.
use Rattle.std.specs.Prelude.{ℕ}
use Rattle.maps.specs.Faults.{store_number, store_letter}
use Rattle.plain.specs.declared.BookFault.{BookFault}
use Rattle.plain.specs.declared.BookFault.TheVariants.{Zero, Standing, RankOutside, Unknown, Doubled, Ring, AlreadyPaired, NotPaired, ShortBuffer, BadSheet, UnlawfulPage, Store}

abbrev pub book_number : BookFault → ℕ
book_number Zero = 1
book_number Standing = 2
book_number RankOutside = 3
book_number Unknown = 4
book_number Doubled = 5
book_number Ring = 6
book_number AlreadyPaired = 8
book_number NotPaired = 9
book_number ShortBuffer = 10
book_number BadSheet = 11
book_number UnlawfulPage = 15
book_number (Store fault) = store_number fault

-- 'B' in ASCII, for the book.
abbrev pub book_letter : BookFault → ℕ
book_letter Zero = 66
book_letter Standing = 66
book_letter RankOutside = 66
book_letter Unknown = 66
book_letter Doubled = 66
book_letter Ring = 66
book_letter AlreadyPaired = 66
book_letter NotPaired = 66
book_letter ShortBuffer = 66
book_letter BadSheet = 66
book_letter UnlawfulPage = 66
book_letter (Store fault) = store_letter fault
