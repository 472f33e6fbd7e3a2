-- Reading a line from its front: a field is the longest start of the text that can be one, and then comes the next.
use Rattle.std.specs.Prelude.{ℕ, zero, suc, ◌+◌, ◌-◌, ◌*◌, Bool, cond, ◌&&◌, List, [], ◌∷◌, length, take, drop, Ok, Err, Result, ◌==◌, nat_le, slice_index}
use Rattle.grammar.specs.Grammar.{Said, Enrol, Drop, Pair, Unpair, Rank, Hear, name_byte}

-- How many bytes at the start of the text are a name's, at most so many.
abbrev pub name_run : ℕ → List ℕ → ℕ
name_run zero xs = 0
name_run (suc most) [] = 0
name_run (suc most) (x ∷ xs) = cond (name_byte x) (suc (name_run most xs)) 0

abbrev pub digit : ℕ → Bool
digit b = nat_le 48 b && nat_le b 57

-- The number n with the digit b after it, and with all digits of a text after it.
abbrev pub followed : ℕ → ℕ → ℕ
followed n b = 10 * n + (b - 48)

abbrev pub value_after : ℕ → List ℕ → ℕ
value_after n [] = n
value_after n (x ∷ xs) = value_after (followed n x) xs

-- How many digits at the start of the text can follow the number n, so that it stays at most 255.
abbrev pub digit_run : ℕ → List ℕ → ℕ
digit_run n [] = 0
digit_run n (x ∷ xs) = cond (digit x && nat_le (followed n x) 255) (suc (digit_run (followed n x) xs)) 0

-- How many bytes at the start of the text are a number from 0 to 255: nothing follows a leading zero.
abbrev pub number_run : List ℕ → ℕ
number_run xs = cond (slice_index xs 0 == 48) 1 (digit_run 0 xs)

-- A field, what stands after it, and the place where that begins.
abbrev pub Cut : Type 0 → Type 0
Cut A = A × List ℕ × ℕ

-- The field after one space, where `run` tells how long it is and `make` what it says; or the place where there is none. The text begins at the place.
abbrev pub field : {A : Type 0} → (List ℕ → ℕ) → (List ℕ → A) → List ℕ → ℕ → Result (Cut A) ℕ
field run make xs place =
    cond (slice_index xs 0 == 32)
    (cond (run (drop 1 xs) == 0) (Err (place + 1)) (Ok (make (take (run (drop 1 xs)) (drop 1 xs)), drop (run (drop 1 xs)) (drop 1 xs), place + 1 + run (drop 1 xs))))
    (Err place)

abbrev pub number_field : List ℕ → ℕ → Result (Cut ℕ) ℕ
number_field = field number_run (value_after 0)

abbrev pub name_field : List ℕ → ℕ → Result (Cut (List ℕ)) ℕ
name_field = field (name_run 16) (λ name. name)

-- What is said where no more may follow.
abbrev pub ended : {A : Type 0} → A → List ℕ → ℕ → Result A ℕ
ended said xs place = cond (length xs == 0) (Ok said) (Err place)

-- The next step from what was read, or the first fault.
abbrev pub next : {A B : Type 0} → Result A ℕ → (A → Result B ℕ) → Result B ℕ
next (Ok x) go = go x
next (Err place) go = Err place

-- The fields of each kind of line after its letter.
abbrev pub read_enrol : List ℕ → ℕ → Result Said ℕ
read_enrol rest place =
    next (number_field rest place) (λ a. next (name_field a.1 a.2) (λ b. next (number_field b.1 b.2) (λ c. ended (Enrol a.0 b.0 c.0) c.1 c.2)))

abbrev pub read_drop : List ℕ → ℕ → Result Said ℕ
read_drop rest place = next (name_field rest place) (λ a. ended (Drop a.0) a.1 a.2)

abbrev pub read_rank : List ℕ → ℕ → Result Said ℕ
read_rank rest place = next (name_field rest place) (λ a. next (number_field a.1 a.2) (λ b. ended (Rank a.0 b.0) b.1 b.2))

abbrev pub read_two : (List ℕ → List ℕ → Said) → List ℕ → ℕ → Result Said ℕ
read_two says rest place = next (name_field rest place) (λ a. next (name_field a.1 a.2) (λ b. ended (says a.0 b.0) b.1 b.2))

-- The letter decides, and the rest begins at place 2.
unfoldable pub read_by : ℕ → List ℕ → Result Said ℕ
read_by letter rest =
    cond (letter == 101) (read_enrol rest 2)
    (cond (letter == 100) (read_drop rest 2)
    (cond (letter == 112) (read_two Pair rest 2)
    (cond (letter == 97) (read_two Unpair rest 2)
    (cond (letter == 114) (read_rank rest 2) (cond (letter == 104) (read_two Hear rest 2) (Err 1))))))

abbrev pub read : List ℕ → Result Said ℕ
read line = cond (length line == 0) (Err 1) (read_by (slice_index line 0) (drop 1 line))
