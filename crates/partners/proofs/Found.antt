-- A list asked unit by unit: what is found so far and what the rest of the list says are the whole.
use Rattle.std.proofs.Common.{◌≡◌, ℕ, ◌+◌, ◌<◌, ◌≤◌, Bool, true, false, not, ◌&&◌, ◌||◌, eqb, List, [], ◌∷◌, length, get_or, drop, sym, refl, ap, ◌∙◌, arith}
use Rattle.std.proofs.lemmas.List.{at_drop_more, at_drop_all}
use Rattle.std.specs.List.{list_all}
use Rattle.std.proofs.lemmas.Bool.{or_left}
use Rattle.std.proofs.lemmas.Bool.Decides.{nat_tests}
use Rattle.theory.specs.Maps.{listed}
use Rattle.plain.specs.Lists.{some, doubled}

-- a unit more in the set is one more to be found
pub some-insert : (p q : ℕ → Bool) (x : ℕ) → ((k : ℕ) → q k ≡ (eqb k x || p k)) → (xs : List ℕ) → some q xs ≡ (listed x xs || some p xs)
some-insert p q x e [] = refl
some-insert p q x e (y ∷ ys) =
    let here = e y in
    let turn = same-eqb x y in
    let rest = some-insert p q x e ys in
    rearranged (eqb x y) (eqb y x) (p y) (q y) (listed x ys) (some p ys) (some q ys) turn here rest
  where
    rearranged : (a b c d l s t : Bool) → a ≡ b → d ≡ (b || c) → t ≡ (l || s) → (d || t) ≡ ((a || l) || (c || s))
    rearranged a b c d l s t f g h = grind (arith, nat_tests)

    same-eqb : (a b : ℕ) → eqb a b ≡ eqb b a
    same-eqb a b = grind (arith, nat_tests)

pub some-none : (p : ℕ → Bool) → ((k : ℕ) → p k ≡ false) → (xs : List ℕ) → some p xs ≡ false
some-none p e [] = refl
some-none p e (x ∷ xs) = ap (λ b. b || some p xs) (e x) ∙ some-none p e xs

-- a unit of the list is among those seen, or stands twice in the list
abbrev pub again : (ℕ → Bool) → List ℕ → Bool
again seen xs = some seen xs || doubled xs

module _ (seen : ℕ → Bool) (xs : List ℕ) (i : ℕ) (inv : again seen (drop i xs) ≡ doubled xs) where
  pub seen-again : i < length xs → seen (get_or xs i 0) ≡ true → doubled xs ≡ true
  seen-again h t = sym inv ∙ at_drop_more (again seen) xs i 0 h ∙ or_left _ _ (or_left (seen (get_or xs i 0)) _ t)

  pub seen_more : (new : ℕ → Bool) → ((k : ℕ) → new k ≡ (eqb k (get_or xs i 0) || seen k)) → i < length xs → seen (get_or xs i 0) ≡ false → again new (drop (i + 1) xs) ≡ doubled xs
  seen_more new e h f =
      let x = get_or xs i 0 in
      let rest = drop (i + 1) xs in
      swapped (seen x) (some new rest) (some seen rest) (listed x rest) (doubled rest) f (some-insert seen new x e rest) ∙ sym (at_drop_more (again seen) xs i 0 h) ∙ inv
    where
      swapped : (o n s l d : Bool) → o ≡ false → n ≡ (l || s) → (n || d) ≡ ((o || s) || (l || d))
      swapped o n s l d f g = grind (arith, nat_tests)

  pub seen_all : length xs ≤ i → doubled xs ≡ false
  seen_all h = sym inv ∙ at_drop_all (again seen) xs i h

-- tests of a list in the words of the library
pub all_is : (f : ℕ → Bool) (xs : List ℕ) → list_all f xs ≡ not (some (λ x. not (f x)) xs)
all_is f [] = refl
all_is f (x ∷ xs) = ap (λ b. f x && b) (all_is f xs) ∙ turned (f x) (some (λ y. not (f y)) xs)
  where
    turned : (a b : Bool) → (a && not b) ≡ not (not a || b)
    turned true b = refl
    turned false b = refl
