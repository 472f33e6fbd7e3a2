-- The number of pairings goes along with each change.
use Rattle.std.proofs.Common.{◌≡◌, ℕ, ◌+◌, ◌<◌, Bool, true, false, refl, ap, ◌∙◌, arith}
use Rattle.theory.specs.Maps.{Map, with_unit, without_unit, with_pair, without_pair}
use Rattle.theory.specs.Counts.{count, pair_count}
use Rattle.theory.proofs.Counting.{count_same, pair-count-same, pair-count-with, pair-count-without}
use Rattle.maps.proofs.Sums.{pair-count-take}

module _ (m n : Map) (held : ℕ) (counted : pair_count m ≡ held) where
  pub put-counted : (u : ℕ) → n ≡ with_unit u m → pair_count n ≡ held
  put-counted u is = ap pair_count is ∙ pair-count-same (with_unit u m) m (λ x y. refl) ∙ counted

  pub join-counted : (a b : ℕ) → a < 256 → b < 256 → n ≡ with_pair a b m → m.pair a b ≡ false → pair_count n ≡ held + 1
  join-counted a b ha hb is free = ap pair_count is ∙ pair-count-with m (with_pair a b m) a b ha hb (λ x y. refl) free ∙ ap (λ (k : ℕ). k + 1) counted

  pub part-counted : (a b : ℕ) → a < 256 → b < 256 → n ≡ without_pair a b m → m.pair a b ≡ true → pair_count n + 1 ≡ held
  part-counted a b ha hb is there =
      let one_less = pair-count-without m (without_pair a b m) a b ha hb (λ x y. refl) there in
      let now = ap pair_count is in
      omega arith

  -- u goes with its listeners and its sources
  pub take_counted : (u : ℕ) → u < 256 → n ≡ without_unit u m → m.pair u u ≡ false → (listeners sources : ℕ → Bool)
      → ((k : ℕ) → listeners k ≡ m.pair u k) → ((k : ℕ) → sources k ≡ m.pair k u) → pair_count n + (count listeners + count sources) ≡ held
  take_counted u hu is apart listeners sources out into =
      let all = pair-count-take m u hu apart in
      let now = ap pair_count is in
      let first = count_same listeners (m.pair u) out in
      let second = count_same sources (λ k. m.pair k u) into in
      omega arith
