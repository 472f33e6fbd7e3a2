-- Tests over lists of numbers as facts: every, doubled, the numbers in a row, and a function of each.
use Rattle.std.proofs.Common.{◌≡◌, ℕ, zero, suc, ◌+◌, ◌<◌, ◌≤◌, Bool, not, ◌||◌, T, ◌⊎◌, ◌↔◌, List, [], ◌∷◌, ◌++◌, length, sym, refl, ap, ◌∙◌, subst, inl, inr, ⊎_elim, arith, T_not}
use lib.Dec.{not_T}
use Rattle.theory.specs.Maps.{listed}
use Rattle.theory.specs.Chains.{On}
use Rattle.theory.specs.Ranks.{Once}
use Rattle.theory.proofs.Tests.{and-fst, and-snd, and_both, or-either, or_fst, or_snd}
use Rattle.std.proofs.lemmas.Bool.{cases_lt}
use Rattle.theory.proofs.Lists.{listed-on}
use Rattle.plain.specs.Lists.{every, doubled, numbers, each}

pub every-on : (f : ℕ → Bool) (xs : List ℕ) → T (every f xs) ↔ ((x : ℕ) → On x xs → T (f x))
every-on f [] = (λ t x o. absurd o, λ h. tt)
every-on f (x ∷ xs) =
    let ih = every-on f xs in (
      λ t y o. ⊎_elim (λ e. subst (λ (z : ℕ). T (f z)) (sym e) (and-fst (f x) (every f xs) t)) (λ k. ih.0 (and-snd (f x) (every f xs) t) y k) o,
      λ h. and_both (f x) (every f xs) (h x (inl refl)) (ih.1 (λ y o. h y (inr o))),
    )

pub once-doubled : (xs : List ℕ) → T (not (doubled xs)) ↔ Once xs
once-doubled [] = (λ t. tt, λ o. tt)
once-doubled (x ∷ xs) =
    let ih = once-doubled xs in (
      λ t. (
        λ o. T_not (listed x xs || doubled xs) t (or_fst (listed x xs) _ ((listed-on x xs).1 o)),
        ih.0 (not_T (doubled xs) (λ d. T_not (listed x xs || doubled xs) t (or_snd (listed x xs) _ d))),
      ),
      λ o. not_T (listed x xs || doubled xs) (λ d. ⊎_elim (λ l. o.0 ((listed-on x xs).0 l)) (λ k. T_not (doubled xs) (ih.1 o.1) k) (or-either (listed x xs) (doubled xs) d)),
    )

pub on-numbers : (from many x : ℕ) → On x (numbers from many) ↔ ((from ≤ x) × (x < from + many))
on-numbers from zero x = (λ o. absurd o, λ (a, b). omega arith)
on-numbers from (suc many) x =
    let ih = on-numbers (suc from) many x in (
      ⊎_elim (λ e. (omega arith, omega arith)) (λ o. let r = ih.0 o in let a = r.0 in let b = r.1 in (omega arith, omega arith)),
      λ (a, b). go a b (on-numbers (suc from) many x).1,
    )
  where
    go : from ≤ x → x < from + suc many → ((suc from ≤ x) × (x < suc from + many) → On x (numbers (suc from) many)) → (x ≡ from) ⊎ On x (numbers (suc from) many)
    go a b rest = ⊎_elim (λ (h : from < x). inr (rest (omega arith, omega arith))) (λ (h : x ≤ from). inl (omega arith)) (cases_lt from x)

-- one number more at the end
pub numbers_more : (from many : ℕ) → numbers from (suc many) ≡ numbers from many ++ ((from + many) ∷ [])
numbers_more from zero = ap (λ (x : ℕ). x ∷ []) (omega arith)
numbers_more from (suc many) =
    ap (λ (xs : List ℕ). from ∷ xs) (numbers_more (suc from) many) ∙ ap (λ (x : ℕ). from ∷ (numbers (suc from) many ++ (x ∷ []))) (omega arith)

pub length-numbers : (from many : ℕ) → length (numbers from many) ≡ many
length-numbers from zero = refl
length-numbers from (suc many) = ap suc (length-numbers (suc from) many)

pub once-numbers : (from many : ℕ) → Once (numbers from many)
once-numbers from zero = tt
once-numbers from (suc many) = (λ o. let h = ((on-numbers (suc from) many from).0 o).0 in omega arith, once-numbers (suc from) many)

pub on-each : (f : ℕ → ℕ) (xs : List ℕ) (x : ℕ) → On x xs → On (f x) (each f xs)
on-each f [] x o = o
on-each f (y ∷ ys) x (inl e) = inl (ap f e)
on-each f (y ∷ ys) x (inr o) = inr (on-each f ys x o)

pub on-append : (x : ℕ) (xs ys : List ℕ) → On x (xs ++ ys) ↔ (On x xs ⊎ On x ys)
on-append x [] ys = (inr, ⊎_elim (λ o. absurd o) (λ o. o))
on-append x (y ∷ xs) ys =
    let ih = on-append x xs ys in (
      ⊎_elim (λ e. inl (inl e)) (λ o. ⊎_elim (λ k. inl (inr k)) inr (ih.0 o)),
      ⊎_elim (⊎_elim inl (λ k. inr (ih.1 (inl k)))) (λ o. inr (ih.1 (inr o))),
    )

-- what stands once in two lists together, none of the one in the other
pub once-append : (xs ys : List ℕ) → Once (xs ++ ys) ↔ (Once xs × Once ys × ((x : ℕ) → On x xs → On x ys → ⊥))
once-append [] ys = (λ o. (tt, o, λ x a b. a), λ (a, b, c). b)
once-append (x ∷ xs) ys =
    let ih = once-append xs ys in (
      λ o. let r = ih.0 o.1 in (
        (λ k. o.0 ((on-append x xs ys).1 (inl k)), r.0),
        r.1,
        λ y a b. ⊎_elim (λ e. o.0 ((on-append x xs ys).1 (inr (subst (λ (z : ℕ). On z ys) e b)))) (λ k. r.2 y k b) a,
      ),
      λ (a, b, c). (λ o. ⊎_elim a.0 (λ k. c x (inl refl) k) ((on-append x xs ys).0 o), ih.1 (a.1, b, λ y k l. c y (inr k) l)),
    )

pub numbers-split : (from a b : ℕ) → numbers from (a + b) ≡ numbers from a ++ numbers (from + a) b
numbers-split from zero b =
    let none : zero + b ≡ b = omega arith in
    let here : from ≡ from + zero = omega arith in
    ap (numbers from) none ∙ ap (λ (n : ℕ). numbers n b) here
numbers-split from (suc a) b =
    let up : suc a + b ≡ suc (a + b) = omega arith in
    let here : suc from + a ≡ from + suc a = omega arith in
    ap (numbers from) up ∙ ap (λ (xs : List ℕ). from ∷ xs) (numbers-split (suc from) a b) ∙ ap (λ (n : ℕ). from ∷ (numbers (suc from) a ++ numbers n b)) here
