-- One number taken out of some sets of a table, set by set: one more set.
use Rattle.std.proofs.Common.{◌≡◌, ℕ, not, ◌&&◌, eqb, List, [], ◌∷◌, ◌++◌, arith}
use Rattle.std.proofs.lemmas.Bool.Decides.{nat_tests}
use Rattle.theory.specs.Maps.{listed}
use Rattle.theory.proofs.Distinct.{listed-more}
use Rattle.units.specs.Has.{in_row}
use Rattle.units.specs.declared.UnitSet.{UnitSet}

-- y is out of the sets of those on the list
pub record Removed (xs : List ℕ) (y : ℕ) (old rows : List UnitSet) : Type 0 where
  pub out : (p q : ℕ) → in_row rows p q ≡ (not (listed p xs && eqb q y) && in_row old p q)

pub none_removed : (y : ℕ) (old : List UnitSet) → Removed [] y old old
none_removed y old = record { out = λ p q. grind (arith, nat_tests) }

pub more_removed : (xs : List ℕ) (x y : ℕ) (old rows new : List UnitSet) → Removed xs y old rows
    → ((p q : ℕ) → in_row new p q ≡ (not (eqb p x && eqb q y) && in_row rows p q)) → Removed (xs ++ x ∷ []) y old new
more_removed xs x y old rows new before done = record {
  out = λ p q.
      let more = listed-more p xs x in
      let now = done p q in
      let then = before.out p q in
      grind (arith, nat_tests);
}
