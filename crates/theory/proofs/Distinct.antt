-- Lists of different numbers: where each stands, and how many there can be.
use Rattle.std.proofs.Common.{◌≡◌, ℕ, zero, suc, ◌<◌, ◌≤◌, Bool, true, false, ◌||◌, eqb, ◌≢◌, ◌⊎◌, List, [], ◌∷◌, ◌++◌, length, get_or, sym, refl, ap, ◌∙◌, subst, inl, inr, ⊎_elim, arith}
use Rattle.std.proofs.lemmas.Bool.{both_ways, cases_Bool, cases_eq}
use Rattle.theory.specs.Maps.{listed}
use Rattle.theory.specs.Chains.{On}
use Rattle.theory.specs.Ranks.{rank_in, Once, removed}
use Rattle.theory.proofs.Tests.{passes, passed}
use Rattle.theory.proofs.Ranks.{rank-here, rank-next, removed-here, removed-next, removed-none, on-removed, once-removed}
use Rattle.theory.proofs.Lists.{listed-on}

-- membership as a test
pub on-from-listed : (u : ℕ) (xs : List ℕ) → listed u xs ≡ true → On u xs
on-from-listed u xs e = (listed-on u xs).0 (passes (listed u xs) e)

pub off-from-listed : (u : ℕ) (xs : List ℕ) → listed u xs ≡ false → On u xs → ⊥
off-from-listed u xs e o = both_ways (listed u xs) e (passed (listed u xs) ((listed-on u xs).1 o))

pub listed-from-off : (u : ℕ) (xs : List ℕ) → (On u xs → ⊥) → listed u xs ≡ false
listed-from-off u xs far = ⊎_elim (λ t. absurd (far (on-from-listed u xs t))) (λ e. e) (cases_Bool (listed u xs))

pub on-at : (xs : List ℕ) (i : ℕ) → i < length xs → On (get_or xs i 0) xs
on-at [] i h = absurd (omega arith)
on-at (x ∷ xs) zero h = inl refl
on-at (x ∷ xs) (suc i) h = inr (on-at xs i (omega arith))

pub at_on : (xs : List ℕ) (u : ℕ) → On u xs → (i : ℕ) × (i < length xs) × (get_or xs i 0 ≡ u)
at_on [] u o = absurd o
at_on (x ∷ xs) u (inl e) = (zero, omega arith, sym e)
at_on (x ∷ xs) u (inr o) = let r = at_on xs u o in let l = r.1 in (suc r.0, omega arith, r.2)

-- the rank of what stands at a place
pub rank-at : (xs : List ℕ) → Once xs → (i : ℕ) → i < length xs → rank_in xs (get_or xs i 0) ≡ suc i
rank-at [] once i h = absurd (omega arith)
rank-at (x ∷ xs) once zero h = rank-here x xs x refl
rank-at (x ∷ xs) once (suc i) h =
    let u = get_or xs i 0 in
    let apart : u ≡ x → ⊥ = λ e. once.0 (subst (λ (z : ℕ). On z xs) e (on-at xs i (omega arith))) in
    rank-next x xs u apart ∙ ap suc (rank-at xs once.1 i (omega arith))

-- one number less at most
pub length_removed : (xs : List ℕ) (x : ℕ) → Once xs → length xs ≤ suc (length (removed x xs))
length_removed [] x h = omega arith
length_removed (y ∷ ys) x h = go (cases_eq y x) (length_removed ys x h.1)
  where
    go : (y ≡ x) ⊎ (y ≡ x → ⊥) → length ys ≤ suc (length (removed x ys)) → length (y ∷ ys) ≤ suc (length (removed x (y ∷ ys)))
    go (inl e) ih =
        let gone : length (removed x (y ∷ ys)) ≡ length ys = ap length (removed-here y ys x e ∙ removed-none x ys (λ o. h.0 (subst (λ (z : ℕ). On z ys) (sym e) o))) in
        omega arith
    go (inr ne) ih = let kept : length (removed x (y ∷ ys)) ≡ suc (length (removed x ys)) = ap length (removed-next y ys x ne) in omega arith

-- different numbers from 1 to n are n at most
pub at_most : (n : ℕ) (xs : List ℕ) → Once xs → ((u : ℕ) → On u xs → 1 ≤ u) → ((u : ℕ) → On u xs → u ≤ n) → length xs ≤ n
at_most zero [] once low high = omega arith
at_most zero (x ∷ xs) once low high = absurd (omega (arith, low x (inl refl), high x (inl refl)))
at_most (suc n) xs once low high =
    let rest = removed (suc n) xs in
    let back : (u : ℕ) → On u rest → On u xs × (u ≢ suc n) = λ u. (on-removed xs (suc n) u).0 in
    let others =
    at_most n rest (once-removed xs (suc n) once) (λ u o. low u (back u o).0) (λ u o. let h = high u (back u o).0 in let ne = (back u o).1 in omega arith) in
    omega (arith, length_removed xs (suc n) once)

-- and fewer where one of those numbers is missing
pub fewer : (n : ℕ) (xs : List ℕ) → Once xs → ((u : ℕ) → On u xs → 1 ≤ u) → ((u : ℕ) → On u xs → u ≤ n) → (v : ℕ) → 1 ≤ v → v ≤ n → (On v xs → ⊥) → length xs < n
fewer n xs once low high v one most far =
    let all =
    at_most n (v ∷ xs) (far, once) (λ u. ⊎_elim (λ e. omega arith) (low u)) (λ u. ⊎_elim (λ e. omega arith) (high u)) in
    omega arith

-- a list with one more at the end
pub listed-more : (k : ℕ) (xs : List ℕ) (x : ℕ) → listed k (xs ++ x ∷ []) ≡ (eqb k x || listed k xs)
listed-more k [] x = refl
listed-more k (y ∷ ys) x = ap (λ b. eqb k y || b) (listed-more k ys x) ∙ swapped (eqb k y) (eqb k x) (listed k ys)
  where
    swapped : (a b c : Bool) → (a || (b || c)) ≡ (b || (a || c))
    swapped true true c = refl
    swapped true false c = refl
    swapped false true c = refl
    swapped false false c = refl
