-- What a matrix keeps, as its ghost fields have it, and the map that it stands for.
use Rattle.std.proofs.Common.{◌≡◌, ℕ, ◌+◌, ◌<◌, ◌≤◌, Bool, true, false, not, ◌&&◌, T, eqb, ltb, ◌⊎◌, List, length, get_or, set, sym, refl, ap, ◌∙◌, inl, inr, arith, length-set, get_or-set_other, get_or-set_same}
use Rattle.std.proofs.lemmas.Bool.{cases_eq, cases_Bool, both_ways, eq-eqb, ne_eqb, lt-ltb, and_left, and_right, not_from_true}
use Rattle.std.proofs.lemmas.Bool.Decides.{nat_tests}
use Rattle.units.specs.declared.UnitSet.{UnitSet}
use Rattle.units.specs.Has.{has, blank}
use Rattle.units.proofs.Words.{member-small}
use Rattle.theory.proofs.Tests.{passes, passed}
use Rattle.theory.specs.Maps.{Map, Sound, without_unit}
use Rattle.grid.specs.Meaning.{matrix_map}
use Rattle.units.specs.Has.{in_row}
use Rattle.grid.specs.Rows.{NoZero, FromStands, ToStands, Apart, TurnedRows}
use Rattle.grid.specs.declared.matrix.Matrix.{Matrix}

-- a matrix stands for a sound map
pub sound-of : (x : Matrix) → Sound (matrix_map x)
sound-of x = record {
  low = λ u t. not-zero u (passed _ t) (cases_eq u 0);
  high = λ u t. let small = member-small x.units.words u (passed _ t) in omega arith;
  from = λ a b t. passes _ (x.from a b (passed _ t));
  to = λ a b t. passes _ (x.to a b (passed _ t));
  apart = λ a b t e. both_ways _ (x.apart a) (ap (in_row x.listeners a) e ∙ passed _ t);
}
  where
    not-zero : (u : ℕ) → has x.units u ≡ true → (u ≡ 0) ⊎ (u ≡ 0 → ⊥) → 1 ≤ u
    not-zero u t (inl e) = absurd (both_ways _ x.zero (ap (has x.units) (sym e) ∙ t))
    not-zero u t (inr n) = omega arith

pub record Kept (units : UnitSet) (listeners sources : List UnitSet) : Type 0 where
  pub zero : NoZero units
  pub from : FromStands units listeners
  pub to : ToStands units listeners
  pub apart : Apart listeners
  pub turned : TurnedRows listeners sources

-- ... and sets that tell a sound map make a matrix
pub kept : (m : Map) (units : UnitSet) (listeners sources : List UnitSet) → Sound m → ((k : ℕ) → has units k ≡ m.unit k)
    → ((x y : ℕ) → in_row listeners x y ≡ m.pair x y) → ((x y : ℕ) → in_row sources y x ≡ m.pair x y) → Kept units listeners sources
kept m units listeners sources s ku kp ks = record {
  zero = ku 0 ∙ off (m.unit 0) (λ t. let low = s.low 0 t in omega arith);
  from = λ x y t. ku x ∙ passed _ (s.from x y (pair x y t));
  to = λ x y t. ku y ∙ passed _ (s.to x y (pair x y t));
  apart = λ x. kp x x ∙ off (m.pair x x) (λ t. s.apart x x t refl);
  turned = λ x y. ks x y ∙ sym (kp x y);
}
  where
    off : (b : Bool) → (T b → ⊥) → b ≡ false
    off b h = elim (cases_Bool b) [ inl t ↦ absurd (h (passes b t)) | inr f ↦ f ]

    pair : (x y : ℕ) → in_row listeners x y ≡ true → T (m.pair x y)
    pair x y t = passes _ (sym (kp x y) ∙ t)

-- the set of u emptied, and u taken out of each set that has it
pub taken_out : (rows rows' : List UnitSet) (among none : UnitSet) (u : ℕ) → u < length rows → ((k : ℕ) → has none k ≡ false) → ((p : ℕ) → has among p ≡ in_row rows p u)
    → ((p q : ℕ) → in_row rows' p q ≡ (not (has among p && eqb q u) && in_row (set rows u none) p q))
    → (p q : ℕ) → in_row rows' p q ≡ (not (eqb p u) && (not (eqb q u) && in_row rows p q))
taken_out rows rows' among none u small empty has-u removed p q = removed p q ∙ elim (cases_eq p u) [
  | inl e ↦
      let gone = ap (λ (k : ℕ). in_row (set rows u none) k q) e ∙ ap (λ s. has s q) (get_or-set_same rows u none blank small) ∙ empty q in
      and_right (not (has among p && eqb q u)) _ gone ∙ sym (and_left (not (eqb p u)) _ (not_from_true _ (eq-eqb p u e)))
  | inr n ↦
      ap (λ s. not (has among p && eqb q u) && has s q) (get_or-set_other rows u p none blank n) ∙ elim (cases_eq q u) [
        | inl f ↦ at-u (has among p) (in_row rows p q) (eqb p u) (eqb q u) (has-u p ∙ ap (in_row rows p) (sym f)) (eq-eqb q u f)
        | inr f ↦ off-u (has among p) (in_row rows p q) (eqb p u) (eqb q u) (ne_eqb p u n) (ne_eqb q u f)
      ]
]
  where
    at-u : (a r x y : Bool) → a ≡ r → y ≡ true → (not (a && y) && r) ≡ (not x && (not y && r))
    at-u a r x y e t = grind (arith, nat_tests)

    off-u : (a r x y : Bool) → x ≡ false → y ≡ false → (not (a && y) && r) ≡ (not x && (not y && r))
    off-u a r x y e f = grind (arith, nat_tests)

module _ (x : Matrix) (u : ℕ) (none : UnitSet) (rows : List UnitSet) (empty : (k : ℕ) → has none k ≡ false) where
  pub listeners-left : u < length x.listeners → ((p q : ℕ) → in_row rows p q ≡ (not (in_row x.sources u p && eqb q u) && in_row (set x.listeners u none) p q))
      → (p q : ℕ) → in_row rows p q ≡ (without_unit u (matrix_map x)).pair p q
  listeners-left small removed = taken_out x.listeners rows (get_or x.sources u blank) none u small empty (λ p. x.turned p u) removed

  pub sources-left : u < length x.sources → ((p q : ℕ) → in_row rows p q ≡ (not (in_row x.listeners u p && eqb q u) && in_row (set x.sources u none) p q))
      → (p q : ℕ) → in_row rows q p ≡ (without_unit u (matrix_map x)).pair p q
  sources-left small removed p q =
      taken_out x.sources rows (get_or x.listeners u blank) none u small empty (λ k. sym (x.turned u k)) removed q p
      ∙ swapped (not (eqb q u)) (not (eqb p u)) _ _ (x.turned p q)
    where
      swapped : (a b r s : Bool) → r ≡ s → (a && (b && r)) ≡ (b && (a && s))
      swapped a b r s e = grind (arith, nat_tests)

-- rows that are filled one after another
pub filled : (p : ℕ → ℕ → Bool) (rows : List UnitSet) (a : ℕ) (row : UnitSet) → a < 256 → ((k : ℕ) → has row k ≡ p a k)
    → (length rows ≡ 256) × ((x y : ℕ) → in_row rows x y ≡ (ltb x a && p x y))
    → (length (set rows a row) ≡ 256) × ((x y : ℕ) → in_row (set rows a row) x y ≡ (ltb x (a + 1) && p x y))
filled p rows a row small new (long, old) = (
  length-set rows a row ∙ long,
  λ x y. elim (cases_eq x a) [
    | inl e ↦
        ap (λ (k : ℕ). in_row (set rows a row) k y) e ∙ ap (λ s. has s y) (get_or-set_same rows a row blank (omega arith)) ∙ new y ∙ ap (λ (k : ℕ). p k y) (sym e)
        ∙ sym (ap (λ t. t && p x y) (lt-ltb x (a + 1) (omega arith)))
    | inr n ↦ ap (λ s. has s y) (get_or-set_other rows a x row blank n) ∙ old x y ∙ ap (λ t. t && p x y) (next x n)
  ],
)
  where
    next : (x : ℕ) → (x ≡ a → ⊥) → ltb x a ≡ ltb x (a + 1)
    next x n = grind (arith, nat_tests)
