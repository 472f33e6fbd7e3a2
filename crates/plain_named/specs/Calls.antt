-- What the calls of a named book answer and leave.
use Rattle.std.specs.Prelude.{◌≡◌, ℕ, ◌+◌, Bool, true, false, cond, List, ◌++◌, length, drop, Some, Ok, Err, Option, Result, nat_lt}
use Rattle.grammar.specs.Grammar.{Said}
use Rattle.grammar.specs.Grammar as said
use Rattle.grammar.specs.Reading.{read}
use Rattle.theory.specs.Chains.{Heard as ByChain}
use Rattle.plain.specs.Plain.{map_of}
use Rattle.names.specs.declared.fault.NameFault.{NameFault}
use Rattle.names.specs.Names.{Names, unit_named, found_at}
use Rattle.plain.specs.declared.BookFault.{BookFault}
use Rattle.plain.specs.declared.BookFault.TheVariants.{ShortBuffer}
use Rattle.answers.specs.declared.Told.{Told}
use Rattle.answers.specs.declared.Told.TheVariants.{Heard}
use Rattle.answers.specs.declared.fault.LineFault.{LineFault}
use Rattle.answers.specs.declared.fault.LineFault.TheVariants.{Book}
use Rattle.plain_named.specs.Named.{Named}
use Rattle.plain_named.specs.Lines.{next}
use Rattle.plain_named.specs.Replies.{reply, left, line_reply, answer, after}

-- What a line says was put to the named book.
pub record Obeyed (capacity : ℕ) (n : Named) (s : Said) (answer : Result Told LineFault) (after : Named) : Type 0 where
  pub told : answer ≡ reply capacity n s
  pub left : after ≡ left capacity n s

-- What the book answers, as the answer to a line.
abbrev pub of_book : {A : Type 0} → (A → Told) → Result A BookFault → Result Told LineFault
of_book tell (Ok x) = Ok (tell x)
of_book tell (Err cause) = Err (Book cause)

-- The units of two names, the first of which begins at place 3, and the other at the place that is given.
abbrev pub both_at : ℕ → Option ℕ → Option ℕ → Result (ℕ × ℕ) NameFault
both_at then source listener = next (found_at 3 source) (λ a. next (found_at then listener) (λ b. Ok (a, b)))

abbrev pub both_found : Names → List ℕ → List ℕ → Result (ℕ × ℕ) NameFault
both_found names source listener = both_at (4 + length source) (unit_named names source) (unit_named names listener)

-- A line was put to the named book with a buffer for its answer. A buffer under 16 bytes is refused, and all stays; else the answer is written from its
-- start, and later bytes stay.
pub record Answered (capacity : ℕ) (n : Named) (line before : List ℕ) (length-told : Result ℕ BookFault) (then : Named) (buffer : List ℕ) : Type 0 where
  pub told : length-told ≡ cond (nat_lt (length before) 16) (Err ShortBuffer) (Ok (length (answer capacity n line)))
  pub left : then ≡ cond (nat_lt (length before) 16) n (after capacity n line)
  pub written : buffer ≡ cond (nat_lt (length before) 16) before (answer capacity n line ++ drop (length (answer capacity n line)) before)

-- The names are those of two units, and the answer is whether a chain of pairings leads from the first to the second.
pub record Hearing (n : Named) (s t : List ℕ) (answer : Bool) : Type 0 where
  pub source : ℕ
  pub listener : ℕ
  pub first : n.names source ≡ Some s
  pub second : n.names listener ≡ Some t
  pub heard : answer ≡ true → ByChain (map_of n.book) source listener
  pub unheard : answer ≡ false → ByChain (map_of n.book) source listener → ⊥

-- What a yes and a no to a question mean.
abbrev pub ToldByChains : ℕ → Named → List ℕ → Type 0
ToldByChains capacity n line = (s t : List ℕ) (answer : Bool) → read line ≡ Ok (said.Hear s t) → line_reply capacity n line ≡ Ok (Heard answer) → Hearing n s t answer
