-- Past the last set there is no member.
use Rattle.std.proofs.Common.{◌≡◌, ℕ, zero, suc, ◌<◌, ◌≤◌, Bool, false, ◌&&◌, ltb, List, [], ◌∷◌, length, sym, ap, ◌∙◌, ⊎_elim, arith}
use Rattle.std.proofs.lemmas.Bool.{cases_lt, lt-ltb, and_right}
use Rattle.units.specs.declared.UnitSet.{UnitSet}
use Rattle.units.specs.Has.{in_row}
use Rattle.units.proofs.Words.{member-blank}
use Rattle.grid.proofs.rows.transposed.Goals as goal

past-last : (rows : List UnitSet) (x y : ℕ) → length rows ≤ x → in_row rows x y ≡ false
past-last [] x y h = member-blank y
past-last (r ∷ rows) zero y h = absurd (omega arith)
past-last (r ∷ rows) (suc x) y h = past-last rows x y (omega arith)

pub returns : goal.returns
returns c x y =
    let rows = c.args.rows.now in
    let done = c.loop-x-test.false in
    c.loop-x.invariant x y ∙ ⊎_elim (λ (h : x < 256). ap (λ (b : Bool). b && in_row rows x y) (lt-ltb x _ (omega arith)))
    (λ (h : 256 ≤ x). let none = past-last rows x y (omega arith) in and_right (ltb x c.loop-x.x) _ none ∙ sym none) (cases_lt x 256)
