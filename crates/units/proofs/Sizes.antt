-- How many members a row of words has: as many as its words have set digits.
use Rattle.std.proofs.Common.{◌≡◌, ℕ, zero, suc, ◌+◌, ◌*◌, ◌/◌, ◌%◌, ◌^◌, ◌<◌, eqb, List, get_or, sym, refl, ap, ◌∙◌, ap₂, pow-suc, arith, lit<}
use lib.Count.{ones, ones_step}
use Rattle.theory.specs.Counts.{sum_below, one, count}
use Rattle.theory.proofs.Counting.{sum-none, sum_same}
use Rattle.units.specs.Bit.{bit, member}
use Rattle.units.proofs.Bits.{bit-low, bit-suc}
use Rattle.units.proofs.Words.{member-read}

-- a sum in two parts
sum-parts : (f : ℕ → ℕ) (m n : ℕ) → sum_below f (m + n) ≡ sum_below f m + sum_below (λ k. f (m + k)) n
unfolding sum_below
sum-parts f m zero = let same : m + zero ≡ m = omega arith in ap (sum_below f) same ∙ omega arith
sum-parts f m (suc n) =
    let more : m + suc n ≡ suc (m + n) = omega arith in
    let rest = sum-parts f m n in
    ap (sum_below f) more ∙ omega arith

sum_first : (f : ℕ → ℕ) (n : ℕ) → sum_below f (suc n) ≡ f 0 + sum_below (λ k. f (suc k)) n
unfolding sum_below
sum_first f zero = refl
sum_first f (suc n) = let rest = sum_first f n in omega arith

digit-one : (d : ℕ) → d < 2 → one (eqb d 1) ≡ d
digit-one zero h = refl
digit-one (suc zero) h = refl
digit-one (suc (suc d)) h = absurd (omega arith)

-- the set digits of a number below 2 ^ w
ones_below : (w n : ℕ) → n < 2 ^ w → sum_below (λ k. one (bit n k)) w ≡ ones n
unfolding sum_below ones
ones_below zero n h = let none : n ≡ 0 = omega arith in sym (ap ones none)
ones_below (suc w) n h =
    let wide : n < 2 ^ w * 2 = rw (pow-suc 2 w) at h in
    let rest = sum_same (λ k. one (bit n (suc k))) (λ k. one (bit (n / 2) k)) w (λ k _. ap one (bit-suc n k)) ∙ ones_below w (n / 2) (omega arith) in
    let low : one (bit n 0) ≡ n % 2 = ap one (bit-low n) ∙ digit-one (n % 2) (omega arith) in
    sum_first (λ k. one (bit n k)) w ∙ ap₂ ◌+◌ low rest ∙ sym (ones_step n)

module _ (xs : List ℕ) (fits : (i : ℕ) → i < 4 → get_or xs i 0 < 2 ^ 64) where
  in-word : (i b : ℕ) → i < 4 → b ≡ i * 64 → sum_below (λ k. one (member xs (b + k))) 64 ≡ ones (get_or xs i 0)
  in-word i b hi e =
      sum_same (λ k. one (member xs (b + k))) (λ k. one (bit (get_or xs i 0) k)) 64 (λ k h.
      let q : (b + k) / 64 ≡ i = omega arith in
      let r : (b + k) % 64 ≡ k = omega arith in
      ap one (member-read xs (b + k) (omega arith) ∙ ap₂ (λ (a b : ℕ). bit (get_or xs a 0) b) q r))
      ∙ ones_below 64 (get_or xs i 0) (fits i hi)

  pub size : count (member xs) ≡ ((ones (get_or xs 0 0) + ones (get_or xs 1 0)) + ones (get_or xs 2 0)) + ones (get_or xs 3 0)
  unfolding count
  size =
      let f : ℕ → ℕ = λ k. one (member xs k) in
      let fourth = sum-parts f 192 64 ∙ ap (λ (x : ℕ). sum_below f 192 + x) (in-word 3 192 (lit< tt) refl) in
      let third = sum-parts f 128 64 ∙ ap (λ (x : ℕ). sum_below f 128 + x) (in-word 2 128 (lit< tt) refl) in
      let second = sum-parts f 64 64 ∙ ap (λ (x : ℕ). sum_below f 64 + x) (in-word 1 64 (lit< tt) refl) in
      let first = sum-parts f 0 64 ∙ ap₂ ◌+◌ (sum-none f) (in-word 0 0 (lit< tt) refl) in
      omega arith
