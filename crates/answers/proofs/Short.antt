-- No refusal is longer than 16 bytes: numbers of causes and places have at most two digits, and a letter is one byte.
use Rattle.std.proofs.Common.{◌≡◌, ℕ, ◌<◌, ◌≤◌, List, [], ◌∷◌, ◌++◌, length, decimal, arith}
use Rattle.std.proofs.lemmas.List.{append_assoc}
use Rattle.std.proofs.lemmas.Fmt.{length-decimal-le}
use Rattle.maps.specs.declared.fault.StoreFault.{StoreFault}
use Rattle.maps.specs.declared.fault.StoreFault.TheVariants as store
use Rattle.maps.specs.Faults.{store_number, store_letter}
use Rattle.plain.specs.declared.BookFault.{BookFault}
use Rattle.plain.specs.declared.BookFault.TheVariants as book
use Rattle.plain.specs.Faults.{book_number, book_letter}
use Rattle.names.specs.declared.fault.NameFault.{NameFault}
use Rattle.names.specs.declared.fault.NameFault.TheVariants as name
use Rattle.names.specs.Faults.{name_number, name_letter}
use Rattle.answers.specs.declared.fault.LineFault.{LineFault}
use Rattle.answers.specs.declared.fault.LineFault.TheVariants.{Form, Name, Book}
use Rattle.answers.specs.Faults.{line_number, line_letter}

store-small : (f : StoreFault) → (store_number f ≤ 15) × (store_letter f < 128)
store-small store.Zero = (omega arith, omega arith)
store-small store.Standing = (omega arith, omega arith)
store-small store.Unknown = (omega arith, omega arith)
store-small store.SameUnit = (omega arith, omega arith)
store-small store.Full = (omega arith, omega arith)
store-small store.AlreadyPaired = (omega arith, omega arith)
store-small store.NotPaired = (omega arith, omega arith)

book-small : (f : BookFault) → (book_number f ≤ 15) × (book_letter f < 128)
book-small book.Zero = (omega arith, omega arith)
book-small book.Standing = (omega arith, omega arith)
book-small book.RankOutside = (omega arith, omega arith)
book-small book.Unknown = (omega arith, omega arith)
book-small book.Doubled = (omega arith, omega arith)
book-small book.Ring = (omega arith, omega arith)
book-small book.AlreadyPaired = (omega arith, omega arith)
book-small book.NotPaired = (omega arith, omega arith)
book-small book.ShortBuffer = (omega arith, omega arith)
book-small book.BadSheet = (omega arith, omega arith)
book-small book.UnlawfulPage = (omega arith, omega arith)
book-small (book.Store f) = store-small f

name-small : (f : NameFault) → (name_number f ≤ 15) × (name_letter f < 128)
name-small (name.Unknown place) = (omega arith, omega arith)
name-small (name.Taken place) = (omega arith, omega arith)

pub line-small : (f : LineFault) → (line_number f ≤ 15) × (line_letter f < 128)
line-small (Form f) = (omega arith, omega arith)
line-small (Name f) = name-small f
line-small (Book f) = book-small f

pub two_digits : (n : ℕ) → n ≤ 36 → length (decimal n) ≤ 2
two_digits n h = length-decimal-le 2 n (omega arith) (omega arith) (omega arith)

-- what is pushed of a fault: a number of two digits, and a letter of one byte
pub number_short : (f : LineFault) (n : ℕ) → n ≡ line_number f → length (decimal n) ≤ 2
number_short f n e = let s = line-small f in two_digits n (omega (arith, s.0, e))

pub letter_ascii : (f : LineFault) (l : ℕ) → l ≡ line_letter f → l < 128
letter_ascii f l e = let s = line-small f in omega (arith, s.1, e)

-- a text to which a number, a letter and a place were pushed
pub pushed : (none begun numbered spaced lettered parted placed ended front digits digits-then number place : List ℕ) (l letter : ℕ) → none ≡ [] → begun ≡ none ++ front → numbered ≡ begun ++ digits → digits ≡ number →
    spaced ≡ numbered ++ 32 ∷ [] → lettered ≡ spaced ++ l ∷ [] → l ≡ letter → parted ≡ lettered ++ 32 ∷ [] → placed ≡ parted ++ digits-then → digits-then ≡ place → ended ≡ placed ++ 10 ∷ [] →
    ended ≡ front ++ (number ++ (32 ∷ letter ∷ 32 ∷ (place ++ 10 ∷ [])))
pushed none begun numbered spaced lettered parted placed ended front digits digits-then number place l letter e0 e1 e2 n e3 e4 c e5 e6 p e7 = rw (e7, e6, p, e5, e4, c, e3, e2, n, e1, e0) (simp append_assoc)
