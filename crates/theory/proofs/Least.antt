-- The least of finitely many numbers by a measure, where a decidable test picks the numbers.
use Rattle.std.proofs.Common.{◌≡◌, ℕ, zero, suc, ◌<◌, ◌≤◌, ◌⊎◌, sym, subst, inl, inr, arith}
use Rattle.std.proofs.lemmas.Bool.{cases_eq, cases_lt}

-- what holds below n, and at n, holds below n + 1
pub below_next : (Q : ℕ → Type 0) (n : ℕ) → ((w : ℕ) → w < n → Q w) → Q n → (w : ℕ) → w < suc n → Q w
below_next Q n below here w h = go (cases_eq w n)
  where
    go : (w ≡ n) ⊎ (w ≡ n → ⊥) → Q w
    go (inl e) = subst Q (sym e) here
    go (inr ne) = below w (omega arith)

module _ (P : ℕ → Type 0) (f : ℕ → ℕ) where
  -- none below n passes, or some x passes and none below n that passes measures less
  abbrev pub Search : ℕ → Type 0
  Search n = ((w : ℕ) → w < n → P w → ⊥) ⊎ ((x : ℕ) × P x × ((w : ℕ) → w < n → P w → f x ≤ f w))

  least-next : (n : ℕ) → Dec (P n) → Search n → Search (suc n)
  least-next n (no d) (inl none) = inl (below_next (λ w. P w → ⊥) n none d)
  least-next n (yes d) (inl none) = inr (n, d, below_next (λ w. P w → f n ≤ f w) n (λ w h p. absurd (none w h p)) (λ p. omega arith))
  least-next n (no d) (inr (x, p, low)) = inr (x, p, below_next (λ w. P w → f x ≤ f w) n low (λ q. absurd (d q)))
  least-next n (yes d) (inr (x, p, low)) = pick (cases_lt (f n) (f x))
    where
      pick : (f n < f x) ⊎ (f x ≤ f n) → Search (suc n)
      pick (inl less) = inr (n, d, below_next (λ w. P w → f n ≤ f w) n (λ w h q. omega (arith, low w h q)) (λ q. omega arith))
      pick (inr more) = inr (x, p, below_next (λ w. P w → f x ≤ f w) n low (λ q. more))

  pub least : ((w : ℕ) → Dec (P w)) → (n : ℕ) → Search n
  least dec zero = inl (λ w h p. absurd (omega arith))
  least dec (suc n) = least-next n (dec n) (least dec n)
