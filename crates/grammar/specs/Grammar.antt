-- The line language: which lines there are, and where a line that is none of them goes wrong.
use Rattle.std.specs.Prelude.{◌≡◌, ℕ, suc, ◌≤◌, Bool, true, ◌&&◌, ◌||◌, T, List, [], ◌∷◌, ◌++◌, length, Ok, Err, decimal, Result, ◌==◌, nat_le}

-- A byte of a name: a to z, 0 to 9, or a hyphen.
abbrev pub name_byte : ℕ → Bool
name_byte b = (nat_le 97 b && nat_le b 122) || ((nat_le 48 b && nat_le b 57) || b == 45)

abbrev pub every : (ℕ → Bool) → List ℕ → Bool
every test [] = true
every test (x ∷ xs) = test x && every test xs

-- A name has 1 to 16 such bytes.
pub record IsName (name : List ℕ) : Type 0 where
  pub some : 1 ≤ length name
  pub short : length name ≤ 16
  pub bytes : T (every name_byte name)

-- A field of a line: a number, or a name.
pub data Field : Type 0 where
  Number : ℕ → Field
  Name : List ℕ → Field

-- Numbers are written in decimal, with no leading zero.
abbrev pub text : Field → List ℕ
text (Number n) = decimal n
text (Name name) = name

abbrev pub LawfulField : Field → Type 0
LawfulField (Number n) = n ≤ 255
LawfulField (Name name) = IsName name

abbrev pub LawfulFields : List Field → Type 0
LawfulFields [] = Unit {0}
LawfulFields (f ∷ fs) = LawfulField f × LawfulFields fs

-- What a line can say.
pub data Said : Type 0 where
  Enrol : (number : ℕ) (name : List ℕ) (rank : ℕ) → Said
  Drop : (name : List ℕ) → Said
  Pair : (source listener : List ℕ) → Said
  Unpair : (source listener : List ℕ) → Said
  Rank : (name : List ℕ) (rank : ℕ) → Said
  Hear : (source listener : List ℕ) → Said

-- The letters are e, d, p, a, r and h.
abbrev pub letter : Said → ℕ
letter (Enrol number name rank) = 101
letter (Drop name) = 100
letter (Pair source listener) = 112
letter (Unpair source listener) = 97
letter (Rank name rank) = 114
letter (Hear source listener) = 104

abbrev pub fields : Said → List Field
fields (Enrol number name rank) = Number number ∷ Name name ∷ Number rank ∷ []
fields (Drop name) = Name name ∷ []
fields (Pair source listener) = Name source ∷ Name listener ∷ []
fields (Unpair source listener) = Name source ∷ Name listener ∷ []
fields (Rank name rank) = Name name ∷ Number rank ∷ []
fields (Hear source listener) = Name source ∷ Name listener ∷ []

-- The fields, each with one space before it.
abbrev pub spaced : List Field → List ℕ
spaced [] = []
spaced (f ∷ fs) = 32 ∷ (text f ++ spaced fs)

-- The line that says it: the letter and the fields.
abbrev pub written : Said → List ℕ
written said = letter said ∷ spaced (fields said)

-- The line says just this.
pub record Says (line : List ℕ) (said : Said) : Type 0 where
  pub lawful : LawfulFields (fields said)
  pub is : written said ≡ line

-- A lawful line, and a start of one.
abbrev pub Lawful : List ℕ → Type 0
Lawful line = (said : Said) × Says line said

abbrev pub Begins : List ℕ → Type 0
Begins front = (rest : List ℕ) × Lawful (front ++ rest)

-- The line is malformed at the place, counted from 1: the bytes before it begin a lawful line, and with the byte at the place they begin none.
-- Where every byte could go on, the line ends early, and the place is its length plus one.
pub record MalformedAt (line : List ℕ) (place : ℕ) : Type 0 where
  pub before : List ℕ
  pub after : List ℕ
  pub split : before ++ after ≡ line
  pub here : place ≡ suc (length before)
  pub begins : Begins before
  pub stops : (b : ℕ) (rest : List ℕ) → after ≡ b ∷ rest → Begins (before ++ b ∷ []) → ⊥
  pub unlawful : Lawful line → ⊥

-- What a reader of the line is to answer: what it says, or the place where it is malformed.
abbrev pub Right : List ℕ → Result Said ℕ → Type 0
Right line (Ok said) = Says line said
Right line (Err place) = MalformedAt line place
