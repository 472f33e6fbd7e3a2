-- Ranks tell the units of an order apart, and a number put into an order or taken out leaves the others in theirs.
use Rattle.std.proofs.Common.{◌≡◌, ℕ, zero, suc, ◌<◌, ◌≤◌, eqb, ◌≢◌, ◌⊎◌, ◌↔◌, List, [], ◌∷◌, length, sym, refl, ap, ◌∙◌, subst, inl, inr, ⊎_elim, arith}
use mathlib.Core.Logic.Iff
use Rattle.std.proofs.lemmas.Bool.{cases_eq, cond-true, cond-false, eq-eqb, ne_eqb}
use Rattle.theory.specs.Chains.{On}
use Rattle.theory.specs.Ranks.{rank_in, Once, removed, inserted, moved}

pub rank-here : (x : ℕ) (xs : List ℕ) (u : ℕ) → u ≡ x → rank_in (x ∷ xs) u ≡ 1
rank-here x xs u e = cond-true (eqb u x) 1 (suc (rank_in xs u)) (eq-eqb u x e)

pub rank-next : (x : ℕ) (xs : List ℕ) (u : ℕ) → (u ≡ x → ⊥) → rank_in (x ∷ xs) u ≡ suc (rank_in xs u)
rank-next x xs u ne = cond-false (eqb u x) 1 (suc (rank_in xs u)) (ne_eqb u x ne)

pub rank-pos : (order : List ℕ) (u : ℕ) → 1 ≤ rank_in order u
rank-pos [] u = omega arith
rank-pos (x ∷ xs) u = go (cases_eq u x)
  where
    go : (u ≡ x) ⊎ (u ≡ x → ⊥) → 1 ≤ rank_in (x ∷ xs) u
    go (inl e) = omega (arith, rank-here x xs u e)
    go (inr ne) = omega (arith, rank-next x xs u ne)

-- the first place of a number that stands in the list is no other number's
pub rank-apart : (order : List ℕ) (u w : ℕ) → On u order → rank_in order u ≡ rank_in order w → u ≡ w
rank-apart [] u w o e = absurd o
rank-apart (x ∷ xs) u w o e = go (cases_eq u x) (cases_eq w x) o (rank-apart xs u w)
  where
    go : (u ≡ x) ⊎ (u ≡ x → ⊥) → (w ≡ x) ⊎ (w ≡ x → ⊥) → On u (x ∷ xs) → (On u xs → rank_in xs u ≡ rank_in xs w → u ≡ w) → u ≡ w
    go (inl a) (inl b) o ih = a ∙ sym b
    go (inl a) (inr b) o ih = absurd (omega (arith, e, rank-here x xs u a, rank-next x xs w b, rank-pos xs w))
    go (inr a) (inl b) o ih = absurd (omega (arith, e, rank-next x xs u a, rank-here x xs w b, rank-pos xs u))
    go (inr a) (inr b) (inl k) ih = absurd (a k)
    go (inr a) (inr b) (inr k) ih = ih k (omega (arith, e, rank-next x xs u a, rank-next x xs w b))

-- a number taken out of the list leaves the others in their order
pub removed-here : (y : ℕ) (ys : List ℕ) (x : ℕ) → y ≡ x → removed x (y ∷ ys) ≡ removed x ys
removed-here y ys x e = cond-true (eqb y x) (removed x ys) (y ∷ removed x ys) (eq-eqb y x e)

pub removed-next : (y : ℕ) (ys : List ℕ) (x : ℕ) → (y ≡ x → ⊥) → removed x (y ∷ ys) ≡ y ∷ removed x ys
removed-next y ys x ne = cond-false (eqb y x) (removed x ys) (y ∷ removed x ys) (ne_eqb y x ne)

-- two lists that put u and w in the same order
abbrev pub SameOrder : List ℕ → List ℕ → ℕ → ℕ → Type 0
SameOrder a b u w = (rank_in a u < rank_in a w) ↔ (rank_in b u < rank_in b w)

-- what stands first is passed over
skip : (y : ℕ) (ys : List ℕ) (u w : ℕ) → (u ≡ y → ⊥) → (w ≡ y → ⊥) → SameOrder (y ∷ ys) ys u w
skip y ys u w a b = (λ h. omega (arith, rank-next y ys u a, rank-next y ys w b), λ h. omega (arith, rank-next y ys u a, rank-next y ys w b))

-- what stands first in both lists is at rank 1, and all else behind it
first-same : (y : ℕ) (a b : List ℕ) (u w : ℕ) → SameOrder a b u w → (u ≡ y) ⊎ (u ≡ y → ⊥) → (w ≡ y) ⊎ (w ≡ y → ⊥) → SameOrder (y ∷ a) (y ∷ b) u w
first-same y a b u w ih (inl p) (inl q) =
    (λ h. absurd (omega (arith, rank-here y a u p, rank-here y a w q)), λ h. absurd (omega (arith, rank-here y b u p, rank-here y b w q)))
first-same y a b u w ih (inl p) (inr q) =
    (λ h. omega (arith, rank-here y b u p, rank-next y b w q, rank-pos b w), λ h. omega (arith, rank-here y a u p, rank-next y a w q, rank-pos a w))
first-same y a b u w ih (inr p) (inl q) =
    (λ h. absurd (omega (arith, rank-next y a u p, rank-here y a w q)), λ h. absurd (omega (arith, rank-next y b u p, rank-here y b w q)))
first-same y a b u w ih (inr p) (inr q) = Iff.trans (skip y a u w p q) (Iff.trans ih (Iff.symm (skip y b u w p q)))

pub removed-order : (order : List ℕ) (x u w : ℕ) → (u ≡ x → ⊥) → (w ≡ x → ⊥) → SameOrder order (removed x order) u w
removed-order [] x u w nu nw = Iff.rfl
removed-order (y ∷ ys) x u w nu nw = go (cases_eq y x) (removed-order ys x u w nu nw)
  where
    go : (y ≡ x) ⊎ (y ≡ x → ⊥) → SameOrder ys (removed x ys) u w → SameOrder (y ∷ ys) (removed x (y ∷ ys)) u w
    go (inl e) ih =
        subst (λ l. SameOrder (y ∷ ys) l u w) (sym (removed-here y ys x e)) (Iff.trans (skip y ys u w (λ k. nu (k ∙ e)) (λ k. nw (k ∙ e))) ih)
    go (inr ne) ih =
        subst (λ l. SameOrder (y ∷ ys) l u w) (sym (removed-next y ys x ne)) (first-same y ys (removed x ys) u w ih (cases_eq u y) (cases_eq w y))

-- the list without x holds what it held, and not x
pub on-removed : (order : List ℕ) (x u : ℕ) → On u (removed x order) ↔ (On u order × (u ≢ x))
on-removed [] x u = (λ o. absurd o, λ p. absurd p.0)
on-removed (y ∷ ys) x u = go (cases_eq y x) (on-removed ys x u)
  where
    go : (y ≡ x) ⊎ (y ≡ x → ⊥) → On u (removed x ys) ↔ (On u ys × (u ≢ x)) → On u (removed x (y ∷ ys)) ↔ (On u (y ∷ ys) × (u ≢ x))
    go (inl e) ih =
        subst (λ l. On u l ↔ (On u (y ∷ ys) × (u ≢ x))) (sym (removed-here y ys x e))
        (λ o. (inr (ih.0 o).0, (ih.0 o).1), λ (o, ne). ⊎_elim (λ k. absurd (ne (k ∙ e))) (λ k. ih.1 (k, ne)) o)
    go (inr f) ih =
        subst (λ l. On u l ↔ (On u (y ∷ ys) × (u ≢ x))) (sym (removed-next y ys x f))
        (⊎_elim (λ k. (inl k, λ e. f (sym k ∙ e))) (λ o. (inr (ih.0 o).0, (ih.0 o).1)), λ (o, ne). ⊎_elim inl (λ k. inr (ih.1 (k, ne))) o)

pub once-removed : (order : List ℕ) (x : ℕ) → Once order → Once (removed x order)
once-removed [] x h = tt
once-removed (y ∷ ys) x h = go (cases_eq y x) (once-removed ys x h.1)
  where
    go : (y ≡ x) ⊎ (y ≡ x → ⊥) → Once (removed x ys) → Once (removed x (y ∷ ys))
    go (inl e) ih = subst Once (sym (removed-here y ys x e)) ih
    go (inr ne) ih = subst Once (sym (removed-next y ys x ne)) (λ o. h.0 ((on-removed ys x y).0 o).0, ih)

pub removed-none : (x : ℕ) (xs : List ℕ) → (On x xs → ⊥) → removed x xs ≡ xs
removed-none x [] far = refl
removed-none x (y ∷ ys) far = removed-next y ys x (λ e. far (inl (sym e))) ∙ ap (λ l. y ∷ l) (removed-none x ys (λ o. far (inr o)))

-- what is put in and taken out again leaves the list
pub removed-inserted : (k x : ℕ) (xs : List ℕ) → (On x xs → ⊥) → removed x (inserted k x xs) ≡ xs
removed-inserted zero x xs far = removed-here x xs x refl ∙ removed-none x xs far
removed-inserted (suc k) x [] far = removed-here x [] x refl
removed-inserted (suc k) x (y ∷ ys) far = removed-next y (inserted k x ys) x (λ e. far (inl (sym e))) ∙ ap (λ l. y ∷ l) (removed-inserted k x ys (λ o. far (inr o)))

-- and the others keep their order
pub inserted-order : (k x : ℕ) (xs : List ℕ) → (On x xs → ⊥) → (u w : ℕ) → u ≢ x → w ≢ x → SameOrder (inserted k x xs) xs u w
inserted-order k x xs far u w nu nw = subst (λ l. SameOrder (inserted k x xs) l u w) (removed-inserted k x xs far) (removed-order (inserted k x xs) x u w nu nw)

pub removed-off : (x : ℕ) (xs : List ℕ) → On x (removed x xs) → ⊥
removed-off x xs o = ((on-removed xs x x).0 o).1 refl

pub moved_order : (k x : ℕ) (xs : List ℕ) (u w : ℕ) → u ≢ x → w ≢ x → SameOrder xs (moved k x xs) u w
moved_order k x xs u w nu nw = Iff.trans (removed-order xs x u w nu nw) (Iff.symm (inserted-order k x (removed x xs) (removed-off x xs) u w nu nw))

pub on-inserted : (k x : ℕ) (xs : List ℕ) (u : ℕ) → On u (inserted k x xs) ↔ ((u ≡ x) ⊎ On u xs)
on-inserted zero x xs u = (λ o. o, λ o. o)
on-inserted (suc k) x [] u = (λ o. o, λ o. o)
on-inserted (suc k) x (y ∷ ys) u =
    let ih = on-inserted k x ys u in
    (⊎_elim (λ e. inr (inl e)) (λ o. ⊎_elim inl (λ q. inr (inr q)) (ih.0 o)), ⊎_elim (λ e. inr (ih.1 (inl e))) (⊎_elim inl (λ o. inr (ih.1 (inr o)))))

pub once-inserted : (k x : ℕ) (xs : List ℕ) → Once xs → (On x xs → ⊥) → Once (inserted k x xs)
once-inserted zero x xs h far = (far, h)
once-inserted (suc k) x [] h far = (far, h)
once-inserted (suc k) x (y ∷ ys) h far = (λ o. ⊎_elim (λ e. far (inl (sym e))) h.0 ((on-inserted k x ys y).0 o), once-inserted k x ys h.1 (λ o. far (inr o)))

pub rank-inserted : (k x : ℕ) (xs : List ℕ) → (On x xs → ⊥) → k ≤ length xs → rank_in (inserted k x xs) x ≡ suc k
rank-inserted zero x xs far le = rank-here x xs x refl
rank-inserted (suc k) x [] far le = absurd (omega arith)
rank-inserted (suc k) x (y ∷ ys) far le = rank-next y (inserted k x ys) x (λ e. far (inl e)) ∙ ap suc (rank-inserted k x ys (λ o. far (inr o)) (omega arith))
