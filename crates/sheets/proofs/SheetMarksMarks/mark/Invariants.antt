use Rattle.std.proofs.Common.{◌≡◌, ℕ, ◌||◌, length}
use Rattle.theory.specs.Maps.{listed}
use Rattle.sheets.specs.Sheets.{wiped, marked}
use Rattle.sheets.proofs.SheetMarksMarks.mark.Given as goal

-- the units of the set so far are marked besides
abbrev pub invariant-loop-u : goal.invariant-loop-u
invariant-loop-u l =
    ((k : ℕ) → marked l.self.sheet.now k ≡ (marked l.initial.self.sheet.now k || listed k l.yielded))
    × (wiped l.self.sheet.now ≡ wiped l.initial.self.sheet.now)
    × (l.self.sheet.ghost_name ≡ l.initial.self.sheet.ghost_name)
    × (length l.self.sheet.now ≡ 255)
