-- The labels made for an order have the total of that order, and the best of ranks is found from the last rank up.
use Rattle.std.proofs.Common.{◌≡◌, ℕ, suc, ◌+◌, ◌-◌, ◌<◌, ◌≤◌, false, List, length, sym, ap, ◌∙◌, subst, arith}
use Rattle.theory.specs.Maps.{Map, Sound, listed, enrolled}
use Rattle.theory.specs.Chains.{On}
use Rattle.theory.specs.Ranks.{inserted, Orders}
use Rattle.theory.specs.Lists.{total}
use Rattle.theory.specs.Sizes.{rows_total}
use Rattle.theory.specs.Changes.{New}
use Rattle.theory.proofs.Distinct.{listed-from-off, fewer}
use Rattle.theory.proofs.Enrols.{enrol_orders}
use Rattle.theory.proofs.Totals.{total-by-rows}
use Rattle.labels.specs.declared.Labels.{Labels}
use Rattle.labels.specs.Holding.{Exact, rows_of}
use Rattle.plain.specs.Placing.{best_from}
use Rattle.places.specs.Trials.{trial, smaller}
use Rattle.mending.proofs.Renewing.{order-short}

module _ (m : Map) (sound : Sound m) (slice order : List ℕ) (same : slice ≡ order) (orders : Orders m order) where
  pub short : length slice ≤ 255
  short = order-short m sound slice (subst (Orders m) (sym same) orders)

  pub tried : (l : Labels) → Exact m slice l → (n : ℕ) → n ≡ rows_total (rows_of l) slice → n ≡ total m order
  tried l exact n e =
      e ∙ total-by-rows m sound slice (subst (Orders m) (sym same) orders) (rows_of l) (λ u o. record { ins = exact.ins u; outs = exact.outs u }) ∙ ap (total m) same

-- the total at a rank, by the place in front of it
pub at-rank : (m : Map) (v : ℕ) (order : List ℕ) (k n : ℕ) → n ≡ total m (inserted k v order) → n ≡ trial m v order (k + 1)
at-rank m v order k n e = e ∙ ap (λ (i : ℕ). total m (inserted i v order)) (let back : k ≡ k + 1 - 1 = omega arith in back)

-- the best of ranks, from the last up
module _ (f : ℕ → ℕ) (n : ℕ) where
  pub best-last : (t : ℕ) → t ≡ f (n + 1) → (n + 1, t) ≡ best_from f (n + 1) (n - n)
  unfolding best_from
  best-last t e = ap (λ (x : ℕ). (n + 1, x)) e ∙ ap (best_from f (n + 1)) (let none : 0 ≡ n - n = omega arith in none)

  pub best-more : (k t : ℕ) (best : ℕ × ℕ) → 1 ≤ k → k ≤ n → t ≡ f (k - 1 + 1) → best ≡ best_from f (k + 1) (n - k) → smaller (k - 1 + 1, t) best ≡ best_from f (k - 1 + 1) (n - (k - 1))
  unfolding best_from
  best-more k t best low high e rest =
      ap (λ (x : ℕ). smaller (k - 1 + 1, x) best) e ∙ ap (smaller (k - 1 + 1, f (k - 1 + 1))) (rest ∙ ap (λ (i : ℕ). best_from f i (n - k)) (let up : k + 1 ≡ suc (k - 1 + 1) = omega arith in up))
      ∙ ap (best_from f (k - 1 + 1)) (let one : suc (n - k) ≡ n - (k - 1) = omega arith in one)

-- what is asked of a new unit
module _ (m n : Map) (sound : Sound m) (order : List ℕ) (orders : Orders m order) (v : ℕ) (sources listeners : List ℕ) (new : New m v sources listeners) (is : n ≡ enrolled v sources listeners m) where
  off : On v order → ⊥
  off o = new.fresh (orders.only v o)

  pub new-absent : listed v order ≡ false
  new-absent = listed-from-off v order off

  pub new-orders : (k : ℕ) → Orders n (inserted k v order)
  new-orders k = subst (λ (x : Map). Orders x (inserted k v order)) (sym is) (enrol_orders m order orders v sources listeners new.fresh k)

  pub new-fits : length order < 255
  new-fits = fewer 255 order orders.once (λ u o. sound.low u (orders.only u o)) (λ u o. sound.high u (orders.only u o)) v new.low new.high off

  pub told_at : (told : ℕ × ℕ) → told ≡ best_from (trial n v order) 1 (length order) → told ≡ best_from (trial (enrolled v sources listeners m) v order) 1 (length order)
  told_at told e = e ∙ ap (λ (x : Map). best_from (trial x v order) 1 (length order)) is
