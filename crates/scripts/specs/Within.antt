-- Where a fault of a script lies.
use Rattle.std.specs.Prelude.{ℕ, ◌+◌, ◌≤◌, List, length}
use Rattle.std.specs.Str.Lines.{lines}
use Rattle.scripts.specs.declared.ScriptFault.{ScriptFault}
use Rattle.scripts.specs.declared.ScriptFault.TheVariants.{Malformed, Memory}

-- The line is one of the text's, and the place is no more than one past the text's end, both counted from 1.
abbrev pub Within : List ℕ → ScriptFault → Type 0
Within text (Malformed line place why) = (1 ≤ line) × (line ≤ length (lines text)) × (1 ≤ place) × (place ≤ length text + 1)
Within text (Memory e) = Unit {0}
