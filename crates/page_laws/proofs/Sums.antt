-- Listeners counted over the order are the pairings of the map.
use Rattle.std.proofs.Common.{◌≡◌, ℕ, zero, suc, ◌+◌, ◌<◌, ◌≤◌, Bool, true, false, cond, eqb, List, [], ◌∷◌, ◌++◌, length, sym, refl, ap, ◌∙◌, subst, inl, inr, ⊎_elim, arith, length-append}
use Rattle.std.proofs.lemmas.Bool.{cases_eq, eq-eqb, ne_eqb, cases_Bool}
use Rattle.theory.specs.Maps.{Map, Sound}
use Rattle.theory.specs.Chains.{On}
use Rattle.theory.specs.Counts.{sum_below, one, count, listener_count, pair_count}
use Rattle.theory.specs.Ranks.{Once, Orders}
use Rattle.theory.specs.Lists.{picked, sum}
use Rattle.theory.proofs.Tests.{passes}
use Rattle.theory.proofs.Counting.{sum-change, sum_same, sum-zero}
use Rattle.theory.proofs.Distinct.{at_most}
use Rattle.plain.specs.Lists.{numbers}
use Rattle.plain.specs.Saving.{ascending}
use Rattle.page_laws.proofs.Numbers.{numbers_more}

picked-append : (f : ℕ → Bool) (xs ys : List ℕ) → picked f (xs ++ ys) ≡ picked f xs ++ picked f ys
picked-append f [] ys = refl
picked-append f (x ∷ xs) ys = go (f x) (picked-append f xs ys)
  where
    go : (b : Bool) → picked f (xs ++ ys) ≡ picked f xs ++ picked f ys → cond b (x ∷ picked f (xs ++ ys)) (picked f (xs ++ ys)) ≡ cond b (x ∷ picked f xs) (picked f xs) ++ picked f ys
    go true e = ap (λ (zs : List ℕ). x ∷ zs) e
    go false e = e

length-picked : (f : ℕ → Bool) (n : ℕ) → length (picked f (numbers 0 n)) ≡ sum_below (λ k. one (f k)) n
unfolding sum_below
length-picked f zero = refl
length-picked f (suc n) =
    let here : 0 + n ≡ n = omega arith in
    ap (λ (xs : List ℕ). length (picked f xs)) (numbers_more 0 n ∙ ap (λ (k : ℕ). numbers 0 n ++ k ∷ []) here) ∙ ap length (picked-append f (numbers 0 n) (n ∷ [])) ∙ length-append (picked f (numbers 0 n)) (picked f (n ∷ []))
    ∙ ap (λ (k : ℕ). k + length (picked f (n ∷ []))) (length-picked f n) ∙ last (f n)
  where
    last : (b : Bool) → sum_below (λ k. one (f k)) n + length (cond b (n ∷ []) []) ≡ one b + sum_below (λ k. one (f k)) n
    last true = omega arith
    last false = omega arith

pub length-ascending : (f : ℕ → Bool) → f 0 ≡ false → length (ascending f) ≡ count f
unfolding ascending count
length-ascending f none =
    let from_zero : picked f (numbers 0 256) ≡ picked f (numbers 1 255) = ap (λ (b : Bool). cond b (0 ∷ picked f (numbers 1 255)) (picked f (numbers 1 255))) none in
    ap length (sym from_zero) ∙ length-picked f 256

sum-on : (xs : List ℕ) (f g : ℕ → ℕ) → ((k : ℕ) → On k xs → f k ≡ g k) → sum xs f ≡ sum xs g
unfolding sum
sum-on [] f g e = refl
sum-on (x ∷ xs) f g e = ap (λ (k : ℕ). k + sum xs f) (e x (inl refl)) ∙ ap (λ (k : ℕ). g x + k) (sum-on xs f g (λ k o. e k (inr o)))

-- a sum over different numbers below n, where the others give nothing
sum_over : (n : ℕ) (xs : List ℕ) (g : ℕ → ℕ) → Once xs → ((k : ℕ) → On k xs → k < n) → ((k : ℕ) → (On k xs → ⊥) → g k ≡ 0) → sum xs g ≡ sum_below g n
unfolding sum
sum_over n [] g once small none = sym (sum_same g (λ k. 0) n (λ k h. none k (λ o. o)) ∙ sum-zero n)
sum_over n (x ∷ xs) g once small none =
    let rest : sum xs (without x g) ≡ sum_below (without x g) n = sum_over n xs (without x g) once.1 (λ k o. small k (inr o)) (λ k far. ⊎_elim (λ (e : k ≡ x). at x g k e) (λ ne. off x g k ne ∙ none k (λ o. ⊎_elim ne far o)) (cases_eq k x)) in
    let same = sum-on xs g (without x g) (λ k o. sym (off x g k (λ e. once.0 (subst (λ (z : ℕ). On z xs) e o)))) in
    let moved = sum-change (without x g) g n x (small x (inl refl)) (λ k ne. off x g k ne) in
    let gone = at x g x refl in
    omega arith
  where
    without : ℕ → (ℕ → ℕ) → ℕ → ℕ
    without y h k = cond (eqb k y) 0 (h k)

    at : (y : ℕ) (h : ℕ → ℕ) (k : ℕ) → k ≡ y → cond (eqb k y) 0 (h k) ≡ 0
    at y h k e = ap (λ (b : Bool). cond b 0 (h k)) (eq-eqb k y e)

    off : (y : ℕ) (h : ℕ → ℕ) (k : ℕ) → (k ≡ y → ⊥) → cond (eqb k y) 0 (h k) ≡ h k
    off y h k ne = ap (λ (b : Bool). cond b 0 (h k)) (ne_eqb k y ne)

module _ (m : Map) (sound : Sound m) (order : List ℕ) (orders : Orders m order) where
  no_zero : (a : ℕ) → m.pair a 0 ≡ false
  no_zero a = ⊎_elim (λ t. let low = sound.low 0 (sound.to a 0 (passes _ t)) in absurd (omega arith)) (λ f. f) (cases_Bool (m.pair a 0))

  pub listeners-sum : sum order (λ u. length (ascending (m.pair u))) ≡ pair_count m
  unfolding pair_count listener_count count
  listeners-sum =
      sum-on order (λ u. length (ascending (m.pair u))) (listener_count m) (λ u o. length-ascending (m.pair u) (no_zero u))
      ∙ sum_over 256 order (listener_count m) orders.once (λ k o. let h = sound.high k (orders.only k o) in omega arith) (λ k far. none k far)
    where
      off : (k b : ℕ) → (On k order → ⊥) → (t : Bool) → m.pair k b ≡ t → one t ≡ 0
      off k b far true e = absurd (far (orders.every k (sound.from k b (passes _ e))))
      off k b far false e = refl

      none : (k : ℕ) → (On k order → ⊥) → sum_below (λ b. one (m.pair k b)) 256 ≡ 0
      none k far = sum_same (λ b. one (m.pair k b)) (λ b. 0) 256 (λ b h. off k b far (m.pair k b) refl) ∙ sum-zero 256

-- an order has at most 255 units
pub order-few : (m : Map) → Sound m → (order : List ℕ) → Orders m order → length order ≤ 255
order-few m sound order orders = at_most 255 order orders.once (λ u o. sound.low u (orders.only u o)) (λ u o. sound.high u (orders.only u o))
