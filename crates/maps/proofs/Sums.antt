-- The pairings of a map, summed over the units that they lead from; and how many go with a unit.
use Rattle.std.proofs.Common.{◌≡◌, ℕ, zero, suc, ◌+◌, ◌<◌, Bool, false, not, ◌&&◌, eqb, sym, refl, ap, ◌∙◌, add-one, arith}
use Rattle.std.proofs.lemmas.Bool.{eq-eqb, ne_eqb, and_left, and_right, not_from_true}
use Rattle.theory.specs.Maps.{Map, without_unit}
use Rattle.theory.specs.Counts.{sum_below, one, count, listener_count, pair_count}
use Rattle.theory.proofs.Counting.{sum_same, sum-zero, sum-change, count_same}

pub sum_more : (f : ℕ → ℕ) (n : ℕ) → sum_below f (n + 1) ≡ f n + sum_below f n
unfolding sum_below
sum_more f n = ap (sum_below f) (add-one n)

-- a unit's listeners, counted as a set
pub row_count : (m : Map) (a : ℕ) (row : ℕ → Bool) → ((k : ℕ) → row k ≡ m.pair a k) → count row ≡ listener_count m a
unfolding count listener_count
row_count m a row e = count_same row (m.pair a) e

pub pair-sum : (m : Map) (a total : ℕ) → a ≡ 256 → total ≡ sum_below (listener_count m) a → total ≡ pair_count m
unfolding pair_count
pair-sum m a total e t = t ∙ ap (sum_below (listener_count m)) e

sum_both : (f g : ℕ → ℕ) (n : ℕ) → sum_below (λ k. f k + g k) n ≡ sum_below f n + sum_below g n
unfolding sum_below
sum_both f g zero = refl
sum_both f g (suc n) = let rest = sum_both f g n in omega arith

-- without u, each other unit has lost u, and u has lost all its listeners
module _ (m : Map) (u : ℕ) (small : u < 256) where
  left-at-u : listener_count (without_unit u m) u ≡ 0
  unfolding listener_count
  left-at-u =
      sum_same (λ y. one ((without_unit u m).pair u y)) (λ y. one false) 256
      (λ y _. ap one (and_left (not (eqb u u)) (not (eqb y u) && m.pair u y) (not_from_true _ (eq-eqb u u refl)))) ∙ sum-zero 256

  left_at : (x : ℕ) → (x ≡ u → ⊥) → listener_count m x ≡ listener_count (without_unit u m) x + one (m.pair x u)
  unfolding listener_count
  left_at x n =
      let off : one ((without_unit u m).pair x u) ≡ 0 = ap one (and_right (not (eqb x u)) (not (eqb u u) && m.pair x u) (and_left (not (eqb u u)) (m.pair x u) (not_from_true _ (eq-eqb u u refl)))) in
      let change = sum-change (λ y. one (m.pair x y)) (λ y. one ((without_unit u m).pair x y)) 256 u small
      (λ y d. ap one (sym (ap (λ t. not t && (not (eqb y u) && m.pair x y)) (ne_eqb x u n) ∙ ap (λ t. not t && m.pair x y) (ne_eqb y u d)))) in
      omega arith

  pub pair-count-take : m.pair u u ≡ false → pair_count m ≡ pair_count (without_unit u m) + (count (m.pair u) + count (λ x. m.pair x u))
  unfolding pair_count count
  pair-count-take apart =
      let f = listener_count m in
      let g = listener_count (without_unit u m) in
      let none : one (m.pair u u) ≡ 0 = ap one apart in
      let at-u = left-at-u in
      let both = sum_both g (λ x. one (m.pair x u)) 256 in
      let change = sum-change f (λ x. g x + one (m.pair x u)) 256 u small left_at in
      let row = row_count m u (m.pair u) (λ k. refl) in
      omega arith
