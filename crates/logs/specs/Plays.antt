-- What playing a log to a named book writes and leaves.
use Rattle.std.specs.Prelude.{◌≡◌, ℕ, List, [], ◌∷◌, ◌++◌, Ok, Err, Result}
use Rattle.plain_named.specs.Named.{Named}
use Rattle.lines.specs.Texts.{lines_of}
use Rattle.plain_named.specs.Logs.{answers, after_all}

-- The answers to all lines of the log were written after what was there, and the named book is the one that the lines leave.
pub record Played (capacity : ℕ) (n : Named) (log before : List ℕ) (then : Named) (out : List ℕ) : Type 0 where
  pub written : out ≡ before ++ answers capacity n (lines_of log)
  pub left : then ≡ after_all capacity n (lines_of log)

-- There was no memory for the answer to one of the lines, the last that the named book was put: the answers before it are written.
pub record Stopped (capacity : ℕ) (n : Named) (log before : List ℕ) (then : Named) (out : List ℕ) : Type 0 where
  pub done : List (List ℕ)
  pub last : List ℕ
  pub undone : List (List ℕ)
  pub lines : lines_of log ≡ done ++ last ∷ undone
  pub written : out ≡ before ++ answers capacity n done
  pub left : then ≡ after_all capacity n (done ++ last ∷ [])

-- By whether the log was played to its end.
abbrev pub Outcome : {A E : Type 0} → ℕ → Named → List ℕ → List ℕ → Result A E → Named → List ℕ → Type 0
Outcome capacity n log before (Ok x) then out = Played capacity n log before then out
Outcome capacity n log before (Err e) then out = Stopped capacity n log before then out
