-- The best of some ranks has the least total, and the first of equals.
use Rattle.std.proofs.Common.{◌≡◌, ℕ, zero, suc, ◌+◌, ◌<◌, ◌≤◌, Bool, true, false, cond, leb, ◌⊎◌, refl, ap, inl, inr, arith}
use Rattle.std.proofs.lemmas.Bool.{cases_eq, leb-true, leb-false}
use Rattle.plain.specs.Placing.{best_from}

-- r is the best from `from` on
pub record Least (f : ℕ → ℕ) (from more : ℕ) (r : ℕ × ℕ) : Type 0 where
  pub low : from ≤ r.0
  pub high : r.0 ≤ from + more
  pub is : r.1 ≡ f r.0
  pub least : (k : ℕ) → from ≤ k → k ≤ from + more → r.1 ≤ f k
  pub first : (k : ℕ) → from ≤ k → k < r.0 → r.1 < f k

least-one : (f : ℕ → ℕ) (from : ℕ) → Least f from 0 (from, f from)
least-one f from = record {
  low = omega arith;
  high = omega arith;
  is = refl;
  least = λ k l h. let e = ap f (let same : from ≡ k = omega arith in same) in omega arith;
  first = λ k l h. absurd (omega arith);
}

-- one rank more, in front
module _ (f : ℕ → ℕ) (from more : ℕ) (r : ℕ × ℕ) (rest : Least f (suc from) more r) where
  here : f from ≤ r.1 → Least f from (suc more) (from, f from)
  here le = record {
    low = omega arith;
    high = omega arith;
    is = refl;
    least = λ k l h. at k l h (cases_eq from k);
    first = λ k l h. absurd (omega arith);
  }
    where
      at : (k : ℕ) → from ≤ k → k ≤ from + suc more → (from ≡ k) ⊎ (from ≡ k → ⊥) → f from ≤ f k
      at k l h (inl e) = let same = ap f e in omega arith
      at k l h (inr ne) = let less = rest.least k (omega (arith, ne)) (omega arith) in omega arith

  later : r.1 < f from → Least f from (suc more) r
  later less = record {
    low = let low = rest.low in omega arith;
    high = let high = rest.high in omega arith;
    is = rest.is;
    least = λ k l h. at k l h (cases_eq from k);
    first = λ k l h. before k l h (cases_eq from k);
  }
    where
      at : (k : ℕ) → from ≤ k → k ≤ from + suc more → (from ≡ k) ⊎ (from ≡ k → ⊥) → r.1 ≤ f k
      at k l h (inl e) = let same = ap f e in omega arith
      at k l h (inr ne) = rest.least k (omega (arith, ne)) (omega arith)

      before : (k : ℕ) → from ≤ k → k < r.0 → (from ≡ k) ⊎ (from ≡ k → ⊥) → r.1 < f k
      before k l h (inl e) = let same = ap f e in omega arith
      before k l h (inr ne) = rest.first k (omega (arith, ne)) h

  chosen : (b : Bool) → leb (f from) r.1 ≡ b → Least f from (suc more) (cond b (from, f from) r)
  chosen true e = here (leb-true (f from) r.1 e)
  chosen false e = later (leb-false (f from) r.1 e)

pub best-least : (f : ℕ → ℕ) (from more : ℕ) → Least f from more (best_from f from more)
unfolding best_from
best-least f from zero = least-one f from
best-least f from (suc more) = chosen f from more (best_from f (suc from) more) (best-least f (suc from) more) (leb (f from) (best_from f (suc from) more).1) refl
