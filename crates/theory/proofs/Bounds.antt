-- Without rings a unit has at most one label for each higher unit: so many labels as pairs of units, and there are at most 255 units.
use Rattle.std.proofs.Common.{◌≡◌, ℕ, zero, suc, ◌+◌, ◌-◌, ◌<◌, ◌≤◌, Bool, true, false, cond, T, ltb, ◌≢◌, List, [], ◌∷◌, ◌++◌, length, sym, refl, ap, subst, inl, inr, arith, ltb→lt, lt→ltb}
use Rattle.theory.specs.Maps.{Map, turned}
use Rattle.theory.specs.Chains.{Onward, On, Heard, NoRing}
use Rattle.theory.specs.Ranks.{rank_in, Once}
use Rattle.theory.specs.Labels.{InLabel, is_in_label}
use Rattle.theory.specs.Lists.{picked, in_labels, out_labels, sum, total}
use Rattle.theory.specs.Sizes.{LabelsBounded}
use Rattle.theory.proofs.Tests.{same_tests}
use Rattle.theory.proofs.Maps.{turned-sound}
use Rattle.theory.proofs.Chains.{goes, onward-append, heard-turned}
use Rattle.theory.proofs.Ranks.{rank-here, rank-next, rank-pos}
use Rattle.theory.proofs.Decide.{in-decided}
use Rattle.theory.proofs.Distinct.{at_most}

-- two units that hear each other are on a ring
pub one_way : (m : Map) → NoRing m → (u v : ℕ) → u ≢ v → Heard m u v → Heard m v u → ⊥
one_way m none u v ne h k = let a = goes m u v h in let b = goes m v u k in go a.1.0 a.1.1 b.1.0 b.1.1 a.0
  where
    go : (c : List ℕ) → Onward m u c v → (d : List ℕ) → Onward m v d u → T (m.unit u) → ⊥
    go [] e d i unit = ne e
    go (x ∷ c) h d i unit = none u (u ∷ x ∷ (c ++ d)) ((refl, unit, onward-append m u v u (x ∷ c) d h i), omega arith)

picked_same : (f g : ℕ → Bool) (xs : List ℕ) → ((x : ℕ) → On x xs → f x ≡ g x) → picked f xs ≡ picked g xs
picked_same f g [] e = refl
picked_same f g (x ∷ xs) e =
    let here = e x (inl refl) in
    let rest = picked_same f g xs (λ y o. e y (inr o)) in
    cc

picked_none : (f : ℕ → Bool) (xs : List ℕ) → ((x : ℕ) → T (f x) → ⊥) → length (picked f xs) ≤ 0
picked_none f [] far = omega arith
picked_none f (x ∷ xs) far = go (f x) (far x) (picked_none f xs far)
  where
    go : (b : Bool) → (T b → ⊥) → length (picked f xs) ≤ 0 → length (cond b (x ∷ picked f xs) (picked f xs)) ≤ 0
    go true k ih = absurd (k tt)
    go false k ih = ih

-- two tests that never pass together, and only where a third does
picked-two : (f g p : ℕ → Bool) (xs : List ℕ) → ((x : ℕ) → T (f x) → T (p x)) → ((x : ℕ) → T (g x) → T (p x)) → ((x : ℕ) → T (f x) → T (g x) → ⊥) → length (picked f xs) + length (picked g xs) ≤ length (picked p xs)
picked-two f g p [] fp gp far = omega arith
picked-two f g p (x ∷ xs) fp gp far = go (f x) (g x) (p x) (fp x) (gp x) (far x) (picked-two f g p xs fp gp far)
  where
    go : (a b c : Bool) → (T a → T c) → (T b → T c) → (T a → T b → ⊥) → length (picked f xs) + length (picked g xs) ≤ length (picked p xs) →
        length (cond a (x ∷ picked f xs) (picked f xs)) + length (cond b (x ∷ picked g xs) (picked g xs)) ≤ length (cond c (x ∷ picked p xs) (picked p xs))
    go true true c i j k ih = absurd (k tt tt)
    go true false true i j k ih = omega arith
    go true false false i j k ih = absurd (i tt)
    go false true true i j k ih = omega arith
    go false true false i j k ih = absurd (j tt)
    go false false true i j k ih = omega arith
    go false false false i j k ih = ih

-- at most n units are at the first n ranks
higher-few : (order : List ℕ) → Once order → (n : ℕ) → length (picked (λ w. ltb (rank_in order w) (suc n)) order) ≤ n
higher-few [] once n = omega arith
higher-few (x ∷ xs) once zero = picked_none (λ w. ltb (rank_in (x ∷ xs) w) 1) (x ∷ xs) (λ w t. omega (arith, ltb→lt (rank_in (x ∷ xs) w) 1 t, rank-pos (x ∷ xs) w))
higher-few (x ∷ xs) once (suc n) = go (ltb (rank_in (x ∷ xs) x) (suc (suc n))) (higher-few xs once.1 n)
  where
    other : (w : ℕ) → On w xs → w ≢ x
    other w o e = once.0 (subst (λ z. On z xs) e o)

    same : (w : ℕ) → On w xs → ltb (rank_in (x ∷ xs) w) (suc (suc n)) ≡ ltb (rank_in xs w) (suc n)
    same w o =
        let next = rank-next x xs w (other w o) in
        same_tests (ltb (rank_in (x ∷ xs) w) (suc (suc n))) (ltb (rank_in xs w) (suc n))
        (λ t. let less = ltb→lt (rank_in (x ∷ xs) w) (suc (suc n)) t in lt→ltb (rank_in xs w) (suc n) (omega arith))
        (λ t. let less = ltb→lt (rank_in xs w) (suc n) t in lt→ltb (rank_in (x ∷ xs) w) (suc (suc n)) (omega arith))

    go : (b : Bool) → length (picked (λ w. ltb (rank_in xs w) (suc n)) xs) ≤ n →
        length (cond b (x ∷ picked (λ w. ltb (rank_in (x ∷ xs) w) (suc (suc n))) xs) (picked (λ w. ltb (rank_in (x ∷ xs) w) (suc (suc n))) xs)) ≤ suc n
    go b ih = let e = ap length (picked_same (λ w. ltb (rank_in (x ∷ xs) w) (suc (suc n))) (λ w. ltb (rank_in xs w) (suc n)) xs same) in at b e
      where
        at : (b : Bool) → length (picked (λ w. ltb (rank_in (x ∷ xs) w) (suc (suc n))) xs) ≡ length (picked (λ w. ltb (rank_in xs w) (suc n)) xs) →
            length (cond b (x ∷ picked (λ w. ltb (rank_in (x ∷ xs) w) (suc (suc n))) xs) (picked (λ w. ltb (rank_in (x ∷ xs) w) (suc (suc n))) xs)) ≤ suc n
        at true e = omega arith
        at false e = omega arith

sum-most : (xs : List ℕ) (f g : ℕ → ℕ) → ((x : ℕ) → On x xs → f x ≤ g x) → sum xs f ≤ sum xs g
unfolding sum
sum-most [] f g le = omega arith
sum-most (x ∷ xs) f g le = let here = le x (inl refl) in let rest = sum-most xs f g (λ y o. le y (inr o)) in omega arith

sum_more : (xs : List ℕ) (f : ℕ → ℕ) → sum xs (λ x. f x + 1) ≡ sum xs f + length xs
unfolding sum
sum_more [] f = omega arith
sum_more (x ∷ xs) f = let rest = sum_more xs f in omega arith

-- how many pairs n units have
pairs : ℕ → ℕ
pairs zero = 0
pairs (suc n) = pairs n + n

pairs-most : (n k : ℕ) → n ≤ k → pairs n ≤ pairs k
unfolding pairs
pairs-most zero k le = omega arith
pairs-most (suc n) zero le = absurd (omega arith)
pairs-most (suc n) (suc k) le = let rest = pairs-most n k (omega arith) in omega arith

pairs-255 : pairs 255 ≡ 32385
unfolding pairs
pairs-255 = refl

higher-sum : (order : List ℕ) → Once order → sum order (λ v. rank_in order v - 1) ≤ pairs (length order)
unfolding sum pairs
higher-sum [] once = omega arith
higher-sum (x ∷ xs) once =
    let here = rank-here x xs x refl in
    let rest = sum-most xs (λ v. rank_in (x ∷ xs) v - 1) (λ v. (rank_in xs v - 1) + 1) (λ v o. let next = rank-next x xs v (λ e. once.0 (subst (λ z. On z xs) e o)) in let low = rank-pos xs v in omega arith) in
    let more = sum_more xs (λ v. rank_in xs v - 1) in
    let ih = higher-sum xs once.1 in
    omega arith

pub labels-bounded : LabelsBounded
unfolding total
labels-bounded m sound none order orders =
    let each = sum-most order (λ v. length (in_labels m order v) + length (out_labels m order v)) (λ v. rank_in order v - 1) at in
    let all = higher-sum order orders.once in
    let units = at_most 255 order orders.once (λ x o. sound.low x (orders.only x o)) (λ x o. sound.high x (orders.only x o)) in
    let most = pairs-most (length order) 255 units in
    omega (arith, pairs-255)
  where
    at : (v : ℕ) → On v order → length (in_labels m order v) + length (out_labels m order v) ≤ rank_in order v - 1
    at v o =
        let two = picked-two (λ u. is_in_label m (rank_in order) u v) (λ u. is_in_label (turned m) (rank_in order) u v) (λ u. ltb (rank_in order u) (rank_in order v)) order
        (λ u t. lt→ltb (rank_in order u) (rank_in order v) (ins u t).higher) (λ u t. lt→ltb (rank_in order u) (rank_in order v) (outs u t).higher)
        (λ u t k. one_way m none u v (apart u (ins u t).higher) (ins u t).heard ((heard-turned m sound u v).0 (outs u k).heard)) in
        let pos = rank-pos order v in
        let last : rank_in order v ≡ suc (rank_in order v - 1) = omega arith in
        let higher : length (picked (λ u. ltb (rank_in order u) (rank_in order v)) order) ≤ rank_in order v - 1 =
        subst (λ r. length (picked (λ u. ltb (rank_in order u) r) order) ≤ rank_in order v - 1) (sym last) (higher-few order orders.once (rank_in order v - 1)) in
        omega arith
      where
        ins : (u : ℕ) → T (is_in_label m (rank_in order) u v) → InLabel m (rank_in order) u v
        ins u t = (in-decided m sound (rank_in order) u v).0 t

        outs : (u : ℕ) → T (is_in_label (turned m) (rank_in order) u v) → InLabel (turned m) (rank_in order) u v
        outs u t = (in-decided (turned m) (turned-sound m sound) (rank_in order) u v).0 t

        apart : (u : ℕ) → rank_in order u < rank_in order v → u ≢ v
        apart u less e = let k : rank_in order u ≡ rank_in order v = ap (rank_in order) e in omega arith
