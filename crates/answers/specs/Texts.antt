-- The text that a line is answered with.
use Rattle.std.specs.Prelude.{ℕ, ◌≤◌, true, false, List, [], ◌∷◌, ◌++◌, Ok, Err, codes, decimal, Result}
use Rattle.answers.specs.declared.fault.Refusal.{Refusal}
use Rattle.answers.specs.declared.Told.{Told}
use Rattle.answers.specs.declared.Told.TheVariants.{Changed, Heard}
use Rattle.answers.specs.Faults.{line_number, line_letter}

-- Every text ends with a line feed.
abbrev pub told_text : Told → List ℕ
told_text (Changed labels) = codes "ok " ++ (decimal labels ++ 10 ∷ [])
told_text (Heard true) = codes "yes" ++ 10 ∷ []
told_text (Heard false) = codes "no" ++ 10 ∷ []

-- The number of the cause, the letter of the layer, and the place.
abbrev pub refusal_text : Refusal → List ℕ
refusal_text refusal = codes "refused " ++ (decimal (line_number refusal.fault) ++ (32 ∷ line_letter refusal.fault ∷ 32 ∷ (decimal refusal.place ++ 10 ∷ [])))

unfoldable pub text : Result Told Refusal → List ℕ
text (Ok told) = told_text told
text (Err refusal) = refusal_text refusal

-- No place of a line is past 36.
abbrev pub Near : Result Told Refusal → Type 0
Near (Ok told) = Unit {0}
Near (Err refusal) = refusal.place ≤ 36
