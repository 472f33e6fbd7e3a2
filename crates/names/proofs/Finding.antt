-- The search for a name goes from number to number, and tells who has it.
use Rattle.std.proofs.Common.{◌≡◌, ℕ, zero, suc, ◌+◌, ◌<◌, ◌≤◌, Bool, true, false, cond, ◌⊎◌, List, Some, None, Option, sym, refl, ap, ◌∙◌, inl, inr, arith, MatchOption, add-one}
use Rattle.std.specs.List.{find, range_with_len}
use Rattle.std.proofs.lemmas.Bool.{cases_eq, cases_lt, cases_Bool, false≢true, both_ways}
use Rattle.std.proofs.lemmas.Slice.Eq.{bytes_eq-Decides}
use Rattle.names.specs.Names.{Names, is_name, named_from, unit_named}

-- the name is exactly this one
pub is-name-true : (o : Option (List ℕ)) (name : List ℕ) → is_name o name ≡ true → o ≡ Some name
is-name-true None name e = absurd (false≢true e)
is-name-true (Some own) name e = ap Some ((bytes_eq-Decides own name).0 e)

pub is-name-same : (o : Option (List ℕ)) (name : List ℕ) → o ≡ Some name → is_name o name ≡ true
is-name-same o name e = ap (λ x. is_name x name) e ∙ (bytes_eq-Decides name name).1 refl

-- the first of so many numbers whose name it is
named-first : (names : Names) (name : List ℕ) (from more : ℕ) → find (λ u. is_name (names u) name) (range_with_len from more) ≡ named_from names name from more
unfolding named_from
named-first names name from zero = refl
named-first names name from (suc more) =
    ap (cond (is_name (names from) name) (Some from)) (ap (λ (k : ℕ). find (λ u. is_name (names u) name) (range_with_len k more)) (add-one from) ∙ named-first names name (suc from) more)

pub first-named : (names : Names) (name : List ℕ) → find (λ u. is_name (names u) name) (range_with_len 0 256) ≡ unit_named names name
unfolding unit_named
first-named names name = named-first names name 0 256

-- who has the name, and that nobody has it
abbrev Told : Names → List ℕ → ℕ → ℕ → Option ℕ → Type 0
Told names name from more o = MatchOption o ((u : ℕ) → from ≤ u → u < from + more → names u ≡ Some name → ⊥) (λ u. (names u ≡ Some name) × (u < from + more))

told : (names : Names) (name : List ℕ) (from more : ℕ) → Told names name from more (named_from names name from more)
unfolding named_from
told names name from zero = λ u a b e. omega arith
told names name from (suc more) = go (is_name (names from) name) refl (named_from names name (suc from) more) (told names name (suc from) more)
  where
    go : (b : Bool) → is_name (names from) name ≡ b → (o : Option ℕ) → Told names name (suc from) more o → Told names name from (suc more) (cond b (Some from) o)
    go true e o t = (is-name-true (names from) name e, omega arith)
    go false e None t = λ u a b h. at u a b h (cases_eq u from)
      where
        at : (u : ℕ) → from ≤ u → u < from + suc more → names u ≡ Some name → (u ≡ from) ⊎ (u ≡ from → ⊥) → ⊥
        at u a b h (inl is) = both_ways (is_name (names from) name) e (is-name-same (names from) name (ap names (sym is) ∙ h))
        at u a b h (inr other) = t u (omega arith) (omega arith) h
    go false e (Some u) t = (t.0, omega (arith, t.1))

-- of cards for the numbers below 256
pub holder : (names : Names) (name : List ℕ) → ((u : ℕ) → 256 ≤ u → names u ≡ None) → MatchOption (unit_named names name) ((u : ℕ) → names u ≡ Some name → ⊥) (λ u. names u ≡ Some name)
unfolding unit_named
holder names name past = go (named_from names name 0 256) (told names name 0 256)
  where
    no : (u : ℕ) → names u ≡ Some name → names u ≡ None → ⊥
    no u e n = let z : ◌≡◌ {A = ℕ} 0 1 = cc in omega arith

    go : (o : Option ℕ) → Told names name 0 256 o → MatchOption o ((u : ℕ) → names u ≡ Some name → ⊥) (λ u. names u ≡ Some name)
    go None t = λ u e. at u e (cases_Bool (is_name (names u) name)) (cases_lt u 256)
      where
        at : (u : ℕ) → names u ≡ Some name → (is_name (names u) name ≡ true) ⊎ (is_name (names u) name ≡ false) → (u < 256) ⊎ (256 ≤ u) → ⊥
        at u e b (inl l) = t u (omega arith) (omega arith) e
        at u e b (inr g) = no u e (past u g)
    go (Some u) t = t.0

-- of a name that no number has
absent : (names : Names) (name : List ℕ) → ((u : ℕ) → names u ≡ Some name → ⊥) → (from more : ℕ) → named_from names name from more ≡ None
unfolding named_from
absent names name none from zero = refl
absent names name none from (suc more) = go (is_name (names from) name) refl (absent names name none (suc from) more)
  where
    go : (b : Bool) → is_name (names from) name ≡ b → {o : Option ℕ} → o ≡ None → cond b (Some from) o ≡ None
    go true e rest = absurd (none from (is-name-true (names from) name e))
    go false e rest = rest

pub nobody : (names : Names) (name : List ℕ) → ((u : ℕ) → names u ≡ Some name → ⊥) → unit_named names name ≡ None
unfolding unit_named
nobody names name none = absent names name none 0 256
