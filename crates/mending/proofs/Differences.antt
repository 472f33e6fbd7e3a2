-- By how many members tables differ: where one set is replaced, over two changes in turn, and for the two tables of a map.
use Rattle.std.proofs.Common.{◌≡◌, ℕ, zero, suc, ◌+◌, ◌<◌, Bool, true, false, cond, eqb, ◌⊎◌, List, [], ◌∷◌, sym, refl, ap, ◌∙◌, inl, inr, ⊎_elim, arith}
use mathlib.Core.Bool.{xor}
use Rattle.std.proofs.lemmas.Bool.{cases_eq, cond-true, cond-false, eq-eqb, ne_eqb}
use Rattle.theory.specs.Chains.{On}
use Rattle.theory.specs.Counts.{sum_below, count}
use Rattle.theory.specs.Ranks.{Once}
use Rattle.theory.specs.Lists.{sum}
use Rattle.theory.specs.Rows.{Rows}
use Rattle.theory.specs.Sizes.{one_of, rows_changed}
use Rattle.theory.proofs.Counting.{sum_same, sum-change, sum-zero, count_same}
use Rattle.mending.specs.Steps.{difference}

-- all numbers below n
abbrev pub below : ℕ → List ℕ
below zero = []
below (suc n) = n ∷ below n

listed-sum : (f : ℕ → ℕ) (n : ℕ) → sum (below n) f ≡ sum_below f n
unfolding sum sum_below
listed-sum f zero = refl
listed-sum f (suc n) = ap (λ (r : ℕ). f n + r) (listed-sum f n)

sum_both : (f g : ℕ → ℕ) (n : ℕ) → sum_below (λ k. f k + g k) n ≡ sum_below f n + sum_below g n
unfolding sum_below
sum_both f g zero = refl
sum_both f g (suc n) = let rest = sum_both f g n in omega arith

-- by how many members two sets differ
abbrev unlike : (ℕ → Bool) → (ℕ → Bool) → ℕ
unlike f g = count (λ v. one_of (f v) (g v))

unlike-same : (f g h k : ℕ → Bool) → ((v : ℕ) → f v ≡ h v) → ((v : ℕ) → g v ≡ k v) → unlike f g ≡ unlike h k
unlike-same f g h k p q = count_same (λ v. one_of (f v) (g v)) (λ v. one_of (h v) (k v)) (λ v. let a = p v in let b = q v in cc)

unlike-none : (f g : ℕ → Bool) → ((v : ℕ) → g v ≡ f v) → unlike f g ≡ 0
unfolding count
unlike-none f g e = count_same (λ v. one_of (f v) (g v)) (λ v. false) (λ v. ap (one_of (f v)) (e v) ∙ none (f v)) ∙ sum-zero 256
  where
    none : (a : Bool) → one_of a a ≡ false
    none true = refl
    none false = refl

-- a table does not differ from itself
pub difference-none : (a : ℕ → ℕ → Bool) → difference a a ≡ 0
unfolding difference
difference-none a = sum_same (λ u. unlike (a u) (a u)) (λ u. 0) 256 (λ u _. unlike-none (a u) (a u) (λ v. refl)) ∙ sum-zero 256

-- where only the set of u is replaced
pub difference-one : (a b : ℕ → ℕ → Bool) (u : ℕ) (old set : ℕ → Bool) (n : ℕ) → u < 256 → ((v : ℕ) → old v ≡ a u v) →
    ((x v : ℕ) → b x v ≡ cond (eqb x u) (set v) (a x v)) → n ≡ count (λ v. xor (old v) (set v)) → n ≡ difference a b
unfolding difference xor
difference-one a b u old set n small was now size =
    let change = sum-change (λ x. unlike (a x) (b x)) (λ x. 0) 256 u small (λ x ne. unlike-none (a x) (b x) (λ v. now x v ∙ cond-false (eqb x u) (set v) (a x v) (ne_eqb x u ne))) in
    let here = unlike-same (a u) (b u) old set (λ v. sym (was v)) (λ v. now u v ∙ cond-true (eqb u u) (set v) (a u v) (eq-eqb u u refl)) in
    let same = count_same (λ v. xor (old v) (set v)) (λ v. one_of (old v) (set v)) (λ v. either (old v) (set v)) in
    let zero = sum-zero 256 in
    omega arith
  where
    either : (x y : Bool) → xor x y ≡ one_of x y
    either true true = refl
    either true false = refl
    either false true = refl
    either false false = refl

-- two changes in turn that touch no set both
pub difference-both : (a b c : ℕ → ℕ → Bool) → ((x : ℕ) → ((v : ℕ) → b x v ≡ a x v) ⊎ ((v : ℕ) → c x v ≡ b x v)) →
    difference a c ≡ difference a b + difference b c
unfolding difference
difference-both a b c one_kept =
    sum_same (λ x. unlike (a x) (c x)) (λ x. unlike (a x) (b x) + unlike (b x) (c x)) 256 (λ x _. at x (one_kept x)) ∙ sum_both (λ x. unlike (a x) (b x)) (λ x. unlike (b x) (c x)) 256
  where
    at : (x : ℕ) → ((v : ℕ) → b x v ≡ a x v) ⊎ ((v : ℕ) → c x v ≡ b x v) → unlike (a x) (c x) ≡ unlike (a x) (b x) + unlike (b x) (c x)
    at x (inl e) =
        let none = unlike-none (a x) (b x) e in
        let same = unlike-same (a x) (c x) (b x) (c x) (λ v. sym (e v)) (λ v. refl) in
        omega arith
    at x (inr e) =
        let none = unlike-none (b x) (c x) e in
        let same = unlike-same (a x) (c x) (a x) (b x) (λ v. refl) e in
        omega arith

pub on_below : (n x : ℕ) → x < n → On x (below n)
on_below zero x h = absurd (omega arith)
on_below (suc n) x h = ⊎_elim inl (λ ne. inr (on_below n x (omega arith))) (cases_eq x n)

less-below : (n x : ℕ) → On x (below n) → x < n
less-below zero x o = absurd o
less-below (suc n) x (inl e) = omega arith
less-below (suc n) x (inr o) = let h = less-below n x o in omega arith

pub once-below : (n : ℕ) → Once (below n)
once-below zero = tt
once-below (suc n) = (λ o. let h : n < n = less-below n n o in omega arith, once-below n)

-- by how much the rows of a map differ is by how much its two tables do
pub difference-rows : (old new : Rows) → rows_changed old new (below 256) ≡ difference old.ins new.ins + difference old.outs new.outs
unfolding difference rows_changed
difference-rows old new = listed-sum (λ u. unlike (old.ins u) (new.ins u) + unlike (old.outs u) (new.outs u)) 256 ∙ sum_both (λ u. unlike (old.ins u) (new.ins u)) (λ u. unlike (old.outs u) (new.outs u)) 256
