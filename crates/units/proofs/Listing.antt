-- The members of a set as a list: what comes first on it, and that just the members are on it.
use Rattle.std.proofs.Common.{◌≡◌, ℕ, zero, suc, ◌+◌, ◌<◌, ◌≤◌, Bool, true, false, not, ◌&&◌, ◌||◌, cond, eqb, List, [], ◌∷◌, ◌++◌, length, get_or, drop, filter, Option, Some, None, append-nil, length-append, sym, refl, ap, ◌∙◌, ap₂, subst, inl, inr, arith}
use Rattle.std.specs.List.{range_with_len}
use Rattle.std.specs.Iterator.{Yields, YieldsFirst}
use Rattle.std.proofs.lemmas.Bool.{both_ways, cases_lt, cases_eq, cases_Bool, ne_eqb, eq-eqb}
use Rattle.theory.specs.Maps.{listed}
use Rattle.units.specs.Has.{has}
use Rattle.units.specs.Listed.{members, left}
use Rattle.units.specs.declared.members.Members.{Members}
use Rattle.units.specs.Sets.{Least}
use Rattle.units.specs.declared.UnitSet.{UnitSet}
use Rattle.units.proofs.Words.{member-past}

-- of n numbers from `from` on, those that pass
abbrev passing : (ℕ → Bool) → ℕ → ℕ → List ℕ
passing f from n = filter f (range_with_len from n)

same-passing : (f g : ℕ → Bool) (from n : ℕ) → ((k : ℕ) → from ≤ k → f k ≡ g k) → passing f from n ≡ passing g from n
same-passing f g from zero e = refl
same-passing f g from (suc n) e =
    ap₂ (λ b (xs : List ℕ). cond b (from ∷ xs) xs) (e from (omega arith)) (same-passing f g (from + 1) n (λ k h. e k (omega arith)))

none-passing : (f : ℕ → Bool) (from n : ℕ) → Least f from None → passing f from n ≡ []
none-passing f from zero none = refl
none-passing f from (suc n) none =
    ap₂ (λ b (xs : List ℕ). cond b (from ∷ xs) xs) (none from (omega arith)) (none-passing f (from + 1) n (λ k h. none k (omega arith)))

-- the least member comes first, and then the list without it
first-passing : (f g : ℕ → Bool) (u from n : ℕ) → ((k : ℕ) → g k ≡ (not (eqb k u) && f k)) → Least f from (Some u) → u < from + n → passing f from n ≡ u ∷ passing g from n
first-passing f g u from zero e least h = absurd (omega (arith, least.0, h))
first-passing f g u from (suc n) e least h = elim (cases_eq from u) [
  | inl here ↦
      let gone : g from ≡ false = e from ∙ ap (λ b. not b && f from) (eq-eqb from u here) in
      ap (λ b. cond b (from ∷ passing f (from + 1) n) (passing f (from + 1) n)) (ap f here ∙ least.1)
      ∙ ap₂ (λ (x : ℕ) (xs : List ℕ). x ∷ xs) here
      (same-passing f g (from + 1) n (λ k l. sym (e k ∙ ap (λ b. not b && f k) (ne_eqb k u (λ q. omega (arith, q, here, l)))))
      ∙ sym (ap (λ b. cond b (from ∷ passing g (from + 1) n) (passing g (from + 1) n)) gone))
  | inr later ↦
      let skipped : f from ≡ false = least.2 from (omega arith) (omega (arith, least.0, later)) in
      let also : g from ≡ false = e from ∙ ap (λ b. not (eqb from u) && b) skipped ∙ (elim (cases_Bool (not (eqb from u))) [ inl t ↦ ap (λ b. b && false) t | inr t ↦ ap (λ b. b && false) t ]) in
      ap (λ b. cond b (from ∷ passing f (from + 1) n) (passing f (from + 1) n)) skipped
      ∙ first-passing f g u (from + 1) n e (omega (arith, least.0, later), least.1, λ k lo hi. least.2 k (omega arith) hi) (omega arith)
      ∙ ap (λ (xs : List ℕ). u ∷ xs) (sym (ap (λ b. cond b (from ∷ passing g (from + 1) n) (passing g (from + 1) n)) also))
]

-- a number other than the first is on the list where it is on the rest
either : (b : Bool) (x : ℕ) (xs : List ℕ) (k : ℕ) → (k ≡ x → ⊥) → listed k (cond b (x ∷ xs) xs) ≡ listed k xs
either true x xs k other = ap (λ b. b || listed k xs) (ne_eqb k x other)
either false x xs k other = refl

-- a number before the first is not on the list
before-passing : (f : ℕ → Bool) (from n k : ℕ) → k < from → listed k (passing f from n) ≡ false
before-passing f from zero k h = refl
before-passing f from (suc n) k h = either (f from) from (passing f (from + 1) n) k (λ q. omega arith) ∙ before-passing f (from + 1) n k (omega arith)

listed-passing : (f : ℕ → Bool) (from n k : ℕ) → from ≤ k → k < from + n → listed k (passing f from n) ≡ f k
listed-passing f from zero k lo hi = absurd (omega arith)
listed-passing f from (suc n) k lo hi = elim (cases_eq k from) [
  | inl here ↦ at (f from) (passing f (from + 1) n) (eq-eqb k from here) (before-passing f (from + 1) n k (omega (arith, here))) ∙ sym (ap f here)
  | inr later ↦ either (f from) from (passing f (from + 1) n) k later ∙ listed-passing f (from + 1) n k (omega (arith, later)) (omega arith)
]
  where
    at : (b : Bool) (xs : List ℕ) → eqb k from ≡ true → listed k xs ≡ false → listed k (cond b (from ∷ xs) xs) ≡ b
    at true xs same none = ap (λ b. b || listed k xs) same
    at false xs same none = none

past-passing : (f : ℕ → Bool) (from n k : ℕ) → from + n ≤ k → listed k (passing f from n) ≡ false
past-passing f from zero k h = refl
past-passing f from (suc n) k h = either (f from) from (passing f (from + 1) n) k (λ q. omega arith) ∙ past-passing f (from + 1) n k (omega arith)

-- just the members are on the list
pub listed-members : (s : UnitSet) (k : ℕ) → listed k (members s) ≡ has s k
unfolding members
listed-members s k = elim (cases_lt k 256) [
  | inl h ↦ listed-passing (has s) 0 256 k (omega arith) (omega arith)
  | inr h ↦ past-passing (has s) 0 256 k (omega arith) ∙ sym (member-past s.words k h)
]

pub first_members : (s t : UnitSet) (u : ℕ) → ((k : ℕ) → has t k ≡ (not (eqb k u) && has s k)) → Least (has s) 0 (Some u) → u < 256 → members s ≡ u ∷ members t
unfolding members
first_members s t u e least h = first-passing (has s) (has t) u 0 256 e least (omega arith)

pub no_members : (s : UnitSet) → Least (has s) 0 None → members s ≡ []
unfolding members
no_members s none = none-passing (has s) 0 256 none

-- what is left after the first member: the others
pub rest-members : (s t : UnitSet) (u : ℕ) → members s ≡ u ∷ members t → (k : ℕ) → has s k ≡ (eqb k u || has t k)
rest-members s t u e k = sym (listed-members s k) ∙ ap (listed k) e ∙ ap (λ b. eqb k u || b) (listed-members t k)

pub empty-members : (s : UnitSet) → members s ≡ [] → (k : ℕ) → has s k ≡ false
empty-members s e k = sym (listed-members s k) ∙ ap (listed k) e

-- ---- a loop over the members

given-before : (xs : List ℕ) (it t : Members) → Yields (YieldsFirst left) it xs t → left it ≡ xs ++ left t
given-before [] it t e = ap left e
given-before (x ∷ xs) it t (next, e, more) = e ∙ ap (λ (ys : List ℕ). x ∷ ys) (given-before xs next t more)

-- At the end the items so far are the members.
pub all-given : (s : UnitSet) (it : Members) → left it ≡ members s → (xs : List ℕ) (t u : Members) (r : Option ℕ)
    → Yields (YieldsFirst left) it xs t → r ≡ None → YieldsFirst left t r u → xs ≡ members s
all-given s it e xs t u r so-far none step =
    let ended : left t ≡ [] = (subst (λ (o : Option ℕ). YieldsFirst left t o u) none step).0 in
    sym (sym e ∙ given-before xs it t so-far ∙ ap (λ (ys : List ℕ). xs ++ ys) ended ∙ append-nil xs)

pub all-listed : (s : UnitSet) (it : Members) → left it ≡ members s → (xs : List ℕ) (t u : Members) (r : Option ℕ)
    → Yields (YieldsFirst left) it xs t → r ≡ None → YieldsFirst left t r u → (k : ℕ) → listed k xs ≡ has s k
all-listed s it e xs t u r so-far none step k = ap (listed k) (all-given s it e xs t u r so-far none step) ∙ listed-members s k

-- On the way: the next item is a member, and none of the items so far.
pub next-given : (s : UnitSet) (it : Members) → left it ≡ members s → (xs : List ℕ) (t u : Members) (r : Option ℕ) (x : ℕ)
    → Yields (YieldsFirst left) it xs t → r ≡ Some x → YieldsFirst left t r u → members s ≡ xs ++ x ∷ left u
next-given s it e xs t u r x so-far some step =
    sym e ∙ given-before xs it t so-far ∙ ap (λ (ys : List ℕ). xs ++ ys) (subst (λ (o : Option ℕ). YieldsFirst left t o u) some step)

listed-within : (x : ℕ) (xs ys : List ℕ) → listed x (xs ++ x ∷ ys) ≡ true
listed-within x [] ys = ap (λ b. b || listed x ys) (eq-eqb x x refl)
listed-within x (z ∷ xs) ys = elim (cases_Bool (eqb x z)) [
  | inl t ↦ ap (λ b. b || listed x (xs ++ x ∷ ys)) t
  | inr t ↦ ap (λ b. b || listed x (xs ++ x ∷ ys)) t ∙ listed-within x xs ys
]

pub next-member : (s : UnitSet) (xs ys : List ℕ) (x : ℕ) → members s ≡ xs ++ x ∷ ys → has s x ≡ true
next-member s xs ys x e = sym (listed-members s x) ∙ ap (listed x) e ∙ listed-within x xs ys

-- the list rises, so that no member comes twice
fresh-passing : (f : ℕ → Bool) (from n : ℕ) (xs ys : List ℕ) (x : ℕ) → passing f from n ≡ xs ++ x ∷ ys → listed x xs ≡ false
fresh-passing f from zero [] ys x e = refl
fresh-passing f from zero (y ∷ xs) ys x e = let z : 0 ≡ suc (length (xs ++ x ∷ ys)) = ap length e in absurd (omega (arith, z))
fresh-passing f from (suc n) xs ys x e = at (f from) xs (λ zs q. fresh-passing f (from + 1) n zs ys x q) e
  where
    at : (b : Bool) (zs : List ℕ) → ((zs : List ℕ) → passing f (from + 1) n ≡ zs ++ x ∷ ys → listed x zs ≡ false)
        → cond b (from ∷ passing f (from + 1) n) (passing f (from + 1) n) ≡ zs ++ x ∷ ys → listed x zs ≡ false
    at false zs ih q = ih zs q
    at true [] ih q = refl
    at true (z ∷ zs) ih q =
        let head : from ≡ z = ap (λ l. get_or l 0 0) q in
        let tail : passing f (from + 1) n ≡ zs ++ x ∷ ys = ap (drop 1) q in
        let later : (x ≡ z → ⊥) = λ same. both_ways (listed x (passing f (from + 1) n))
        (before-passing f (from + 1) n x (omega (arith, head, same))) (ap (listed x) tail ∙ listed-within x zs ys) in
        ap (λ b. b || listed x zs) (ne_eqb x z later) ∙ ih zs tail

-- In a loop over a set: the next item is a member, and is none of the items so far.
pub next-turn : (s : UnitSet) (it : Members) → left it ≡ members s → (xs : List ℕ) (t u : Members) (r : Option ℕ) (x : ℕ)
    → Yields (YieldsFirst left) it xs t → r ≡ Some x → YieldsFirst left t r u → (has s x ≡ true) × (listed x xs ≡ false)
unfolding members
next-turn s it e xs t u r x so-far some step =
    let next = next-given s it e xs t u r x so-far some step in
    (next-member s xs (left u) x next, fresh-passing (has s) 0 256 xs (left u) x next)

length-passing : (f : ℕ → Bool) (from n : ℕ) → length (passing f from n) ≤ n
length-passing f from zero = omega arith
length-passing f from (suc n) = at (f from) (passing f (from + 1) n) (length-passing f (from + 1) n)
  where
    at : (b : Bool) (xs : List ℕ) → length xs ≤ n → length (cond b (from ∷ xs) xs) ≤ suc n
    at true xs h = omega arith
    at false xs h = omega arith

pub length-members : (s : UnitSet) → length (members s) ≤ 256
unfolding members
length-members s = length-passing (has s) 0 256

pub before-next : (s : UnitSet) (xs ys : List ℕ) (x : ℕ) → members s ≡ xs ++ x ∷ ys → length xs < 256
before-next s xs ys x e =
    let many = ap length e ∙ length-append xs (x ∷ ys) in
    omega (arith, many, length-members s)
