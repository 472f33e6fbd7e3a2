-- How a change moves the number of members and of pairings.
use Rattle.std.proofs.Common.{◌≡◌, ℕ, zero, suc, ◌+◌, ◌<◌, ◌≤◌, Bool, true, false, not, ◌&&◌, ◌||◌, eqb, sym, refl, ap, ◌∙◌, inl, inr, arith}
use Rattle.std.proofs.lemmas.Bool.{cases_eq, eq-eqb, ne_eqb, and_left, and_right, and_from}
use Rattle.theory.specs.Maps.{Map, nothing, with_pair, without_pair}
use Rattle.theory.specs.Counts.{sum_below, one, count, listener_count, pair_count}

pub sum-none : (f : ℕ → ℕ) → sum_below f 0 ≡ 0
unfolding sum_below
sum-none f = refl

pub sum_same : (f g : ℕ → ℕ) (n : ℕ) → ((k : ℕ) → k < n → f k ≡ g k) → sum_below f n ≡ sum_below g n
unfolding sum_below
sum_same f g zero e = refl
sum_same f g (suc n) e =
    let rest = sum_same f g n (λ k h. e k (omega arith)) in
    let here = e n (omega arith) in
    omega arith

-- two that differ at one place alone
pub sum-change : (f g : ℕ → ℕ) (n i : ℕ) → i < n → ((k : ℕ) → (k ≡ i → ⊥) → f k ≡ g k) → sum_below g n + f i ≡ sum_below f n + g i
unfolding sum_below
sum-change f g zero i h e = absurd (omega arith)
sum-change f g (suc n) i h e = elim (cases_eq n i) [
  | inl at ↦
      let rest = sum_same f g n (λ k b. e k (λ same. omega arith)) in
      let fs : f n ≡ f i = ap f at in
      let gs : g n ≡ g i = ap g at in
      omega arith
  | inr past ↦
      let rest = sum-change f g n i (omega (arith, past)) e in
      let here = e n past in
      omega arith
]

-- one that is nowhere more, and at one place less
sum-most : (f g : ℕ → ℕ) (n : ℕ) → ((k : ℕ) → f k ≤ g k) → sum_below f n ≤ sum_below g n
unfolding sum_below
sum-most f g zero h = omega arith
sum-most f g (suc n) h = let rest = sum-most f g n h in let here = h n in omega arith

sum-falls : (f g : ℕ → ℕ) (n i : ℕ) → i < n → ((k : ℕ) → f k ≤ g k) → f i < g i → sum_below f n < sum_below g n
unfolding sum_below
sum-falls f g zero i l h d = absurd (omega arith)
sum-falls f g (suc n) i l h d = elim (cases_eq n i) [
  | inl at ↦
      let rest = sum-most f g n h in
      let fs : f n ≡ f i = ap f at in
      let gs : g n ≡ g i = ap g at in
      omega arith
  | inr past ↦
      let rest = sum-falls f g n i (omega (arith, past)) h d in
      let here = h n in
      omega arith
]

one-most : (a b : Bool) → (a ≡ true → b ≡ true) → one a ≤ one b
one-most true b h = let e = ap one (h refl) in omega arith
one-most false b h = omega arith

pub count_same : (p q : ℕ → Bool) → ((k : ℕ) → p k ≡ q k) → count p ≡ count q
unfolding count
count_same p q e = sum_same (λ k. one (p k)) (λ k. one (q k)) 256 (λ k _. ap one (e k))

ones-most : (p : ℕ → Bool) (n : ℕ) → sum_below (λ k. one (p k)) n ≤ n
unfolding sum_below
ones-most p zero = omega arith
ones-most p (suc n) = let rest = ones-most p n in let here = one-most (p n) true (λ _. refl) in omega arith

pub count_most : (p : ℕ → Bool) → count p ≤ 256
unfolding count
count_most p = ones-most p 256

-- a smaller set, with one member of the larger gone
pub count-falls : (p q : ℕ → Bool) (i : ℕ) → i < 256 → ((k : ℕ) → p k ≡ true → q k ≡ true) → p i ≡ false → q i ≡ true → count p < count q
unfolding count
count-falls p q i small sub gone there =
    let none : one (p i) ≡ 0 = ap one gone in
    let some : one (q i) ≡ 1 = ap one there in
    sum-falls (λ k. one (p k)) (λ k. one (q k)) 256 i small (λ k. one-most (p k) (q k) (sub k)) (omega arith)

pub count-insert : (p q : ℕ → Bool) (u : ℕ) → u < 256 → ((k : ℕ) → q k ≡ (eqb k u || p k)) → p u ≡ false → count q ≡ count p + 1
unfolding count
count-insert p q u small e free =
    let none : one (p u) ≡ 0 = ap one free in
    let some : one (q u) ≡ 1 = ap one (e u ∙ ap (λ t. t || p u) (eq-eqb u u refl)) in
    let moved = sum-change (λ k. one (p k)) (λ k. one (q k)) 256 u small (λ k d. ap one (sym (e k ∙ ap (λ t. t || p k) (ne_eqb k u d)))) in
    omega arith

pub count-remove : (p q : ℕ → Bool) (u : ℕ) → u < 256 → ((k : ℕ) → q k ≡ (not (eqb k u) && p k)) → p u ≡ true → count p ≡ count q + 1
unfolding count
count-remove p q u small e there =
    let some : one (p u) ≡ 1 = ap one there in
    let none : one (q u) ≡ 0 = ap one (e u ∙ ap (λ t. not t && p u) (eq-eqb u u refl)) in
    let moved = sum-change (λ k. one (p k)) (λ k. one (q k)) 256 u small (λ k d. ap one (sym (e k ∙ ap (λ t. not t && p k) (ne_eqb k u d)))) in
    omega arith

pub other-pair : (x y a b : ℕ) → (x ≡ a → y ≡ b → ⊥) → (eqb x a && eqb y b) ≡ false
other-pair x y a b d = elim (cases_eq x a) [
  | inl e ↦ and_right (eqb x a) (eqb y b) (ne_eqb y b (d e))
  | inr n ↦ and_left (eqb x a) (eqb y b) (ne_eqb x a n)
]

pub sum-zero : (n : ℕ) → sum_below (λ k. 0) n ≡ 0
unfolding sum_below
sum-zero zero = refl
sum-zero (suc n) = let rest = sum-zero n in omega arith

pub pair-count-same : (m n : Map) → ((x y : ℕ) → m.pair x y ≡ n.pair x y) → pair_count m ≡ pair_count n
unfolding pair_count listener_count
pair-count-same m n e = sum_same (listener_count m) (listener_count n) 256 (λ x _. sum_same (λ y. one (m.pair x y)) (λ y. one (n.pair x y)) 256 (λ y _. ap one (e x y)))

-- maps that differ in one pairing alone
pub pair-count-change : (m n : Map) (a b : ℕ) → a < 256 → b < 256 → ((x y : ℕ) → (x ≡ a → y ≡ b → ⊥) → m.pair x y ≡ n.pair x y)
    → pair_count n + one (m.pair a b) ≡ pair_count m + one (n.pair a b)
unfolding pair_count listener_count
pair-count-change m n a b ha hb e =
    let row = sum-change (λ y. one (m.pair a y)) (λ y. one (n.pair a y)) 256 b hb (λ y d. ap one (e a y (λ _ s. d s))) in
    let rows = sum-change (listener_count m) (listener_count n) 256 a ha (λ x d. sum_same (λ y. one (m.pair x y)) (λ y. one (n.pair x y)) 256 (λ y _. ap one (e x y (λ s _. d s)))) in
    omega arith

-- a smaller map, with one pairing of the larger gone
pub pair-count-falls : (m n : Map) (a b : ℕ) → a < 256 → b < 256 → ((x y : ℕ) → m.pair x y ≡ true → n.pair x y ≡ true)
    → m.pair a b ≡ false → n.pair a b ≡ true → pair_count m < pair_count n
unfolding pair_count listener_count
pair-count-falls m n a b ha hb sub gone there =
    let none : one (m.pair a b) ≡ 0 = ap one gone in
    let some : one (n.pair a b) ≡ 1 = ap one there in
    sum-falls (listener_count m) (listener_count n) 256 a ha
    (λ x. sum-most (λ y. one (m.pair x y)) (λ y. one (n.pair x y)) 256 (λ y. one-most (m.pair x y) (n.pair x y) (sub x y)))
    (sum-falls (λ y. one (m.pair a y)) (λ y. one (n.pair a y)) 256 b hb (λ y. one-most (m.pair a y) (n.pair a y) (sub a y)) (omega arith))

pub pair-count-none : pair_count nothing ≡ 0
unfolding pair_count listener_count
pair-count-none = sum_same (listener_count nothing) (λ x. 0) 256 (λ x _. sum-zero 256) ∙ sum-zero 256

-- one pairing more, and one less
pub pair-count-with : (m n : Map) (a b : ℕ) → a < 256 → b < 256 → ((x y : ℕ) → n.pair x y ≡ (with_pair a b m).pair x y) → m.pair a b ≡ false → pair_count n ≡ pair_count m + 1
pair-count-with m n a b ha hb e free =
    let moved = pair-count-change m n a b ha hb (λ x y d. sym (e x y ∙ or_left_false x y d)) in
    let before : one (m.pair a b) ≡ 0 = ap one free in
    let after : one (n.pair a b) ≡ 1 = ap one (e a b ∙ ap (λ t. t || m.pair a b) (and_from (eqb a a) (eqb b b) (eq-eqb a a refl) (eq-eqb b b refl))) in
    omega arith
  where
    or_left_false : (x y : ℕ) → (x ≡ a → y ≡ b → ⊥) → (with_pair a b m).pair x y ≡ m.pair x y
    or_left_false x y d = ap (λ t. t || m.pair x y) (other-pair x y a b d)

pub pair-count-without : (m n : Map) (a b : ℕ) → a < 256 → b < 256 → ((x y : ℕ) → n.pair x y ≡ (without_pair a b m).pair x y) → m.pair a b ≡ true → pair_count m ≡ pair_count n + 1
pair-count-without m n a b ha hb e there =
    let moved = pair-count-change m n a b ha hb (λ x y d. sym (e x y ∙ ap (λ t. not t && m.pair x y) (other-pair x y a b d))) in
    let before : one (m.pair a b) ≡ 1 = ap one there in
    let after : one (n.pair a b) ≡ 0 = ap one (e a b ∙ ap (λ t. not t && m.pair a b) (and_from (eqb a a) (eqb b b) (eq-eqb a a refl) (eq-eqb b b refl))) in
    omega arith
