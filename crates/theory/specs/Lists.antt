-- The labels as lists in the order of rank, and what is counted of them.
use Rattle.std.specs.Prelude.{ℕ, ◌+◌, ◌<◌, Bool, false, cond, not, ◌&&◌, ◌||◌, List, [], ◌∷◌, ◌++◌, length, Some, None, Option}
use Rattle.theory.specs.Maps.{Map, turned, listed}
use Rattle.theory.specs.Chains.{On}
use Rattle.theory.specs.Ranks.{rank_in, Once}
use Rattle.theory.specs.Labels.{is_in_label}

-- What passes the test, in the list's order.
abbrev pub picked : (ℕ → Bool) → List ℕ → List ℕ
picked f [] = []
picked f (x ∷ xs) = cond (f x) (x ∷ picked f xs) (picked f xs)

-- Each number of the list has a smaller rank than those after it.
abbrev pub Ascending : (ℕ → ℕ) → List ℕ → Type 0
Ascending rank [] = Unit {0}
Ascending rank (x ∷ xs) = ((w : ℕ) → On w xs → rank x < rank w) × Ascending rank xs

-- The list has exactly the units with the property, ascending in rank, none twice.
pub record ListOf (P : ℕ → Type 0) (rank : ℕ → ℕ) (xs : List ℕ) : Type 0 where
  pub every : (u : ℕ) → P u → On u xs
  pub only : (u : ℕ) → On u xs → P u
  pub ascending : Ascending rank xs
  pub once : Once xs

-- The in-labels of v and its out-labels, the highest first.
abbrev pub in_labels : Map → List ℕ → ℕ → List ℕ
in_labels m order v = picked (λ u. is_in_label m (rank_in order) u v) order

abbrev pub out_labels : Map → List ℕ → ℕ → List ℕ
out_labels m order v = in_labels (turned m) order v

-- The units that have u among their in-labels, and those that have it among their out-labels, the highest first.
abbrev pub in_holders : Map → List ℕ → ℕ → List ℕ
in_holders m order u = picked (λ v. is_in_label m (rank_in order) u v) order

abbrev pub out_holders : Map → List ℕ → ℕ → List ℕ
out_holders m order u = in_holders (turned m) order u

-- The two lists have a number in common.
abbrev pub shares : List ℕ → List ℕ → Bool
shares [] ys = false
shares (x ∷ xs) ys = listed x ys || shares xs ys

abbrev pub first : List ℕ → Option ℕ
first [] = None
first (x ∷ xs) = Some x

-- The highest unit that stands both in s with its out-labels and in t with its in-labels.
abbrev pub highest_shared : Map → List ℕ → ℕ → ℕ → Option ℕ
highest_shared m order s t = first (picked (λ w. listed w (s ∷ out_labels m order s) && listed w (t ∷ in_labels m order t)) order)

unfoldable pub sum : List ℕ → (ℕ → ℕ) → ℕ
sum [] f = 0
sum (x ∷ xs) f = f x + sum xs f

-- How many labels there are.
unfoldable pub total : Map → List ℕ → ℕ
total m order = sum order (λ v. length (in_labels m order v) + length (out_labels m order v))

-- How many numbers stand in one of the lists, and not in both.
abbrev pub differing : List ℕ → List ℕ → ℕ
differing xs ys = length (picked (λ x. not (listed x ys)) xs) + length (picked (λ y. not (listed y xs)) ys)

-- The numbers of both lists: those of the first, then the others of the second.
abbrev pub either : List ℕ → List ℕ → List ℕ
either xs ys = xs ++ picked (λ y. not (listed y xs)) ys

-- How many labels stand in the one map and order or in the other, and not in both.
unfoldable pub labels_changed : Map → List ℕ → Map → List ℕ → ℕ
labels_changed m order n after =
    sum (either order after) (λ v. differing (in_labels m order v) (in_labels n after v) + differing (out_labels m order v) (out_labels n after v))
