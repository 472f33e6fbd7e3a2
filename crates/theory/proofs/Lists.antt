-- Lists picked from an order: what they hold, and that they ascend in rank.
use Rattle.std.proofs.Common.{◌≡◌, ℕ, ◌<◌, Bool, true, false, cond, T, eqb, ◌↔◌, List, [], ◌∷◌, sym, refl, subst, inl, inr, ⊎_elim, arith, eqb→eq}
use mathlib.Core.Logic.{⊎_map}
use lib.Dec.{eqb_refl}
use Rattle.theory.specs.Maps.{Map, Sound, turned, listed}
use Rattle.theory.specs.Chains.{On}
use Rattle.theory.specs.Ranks.{rank_in, Once, Orders}
use Rattle.theory.specs.Labels.{InLabel, is_in_label}
use Rattle.theory.specs.Lists.{picked, Ascending, ListOf, in_labels, in_holders, shares}
use Rattle.theory.specs.Theorems.{ListsTold}
use Rattle.theory.proofs.Tests.{or-either, or_fst, or_snd}
use Rattle.theory.proofs.Maps.{turned-sound, turned-orders}
use Rattle.theory.proofs.Chains.{heard-first, heard-last}
use Rattle.theory.proofs.Ranks.{rank-here, rank-next, rank-pos}
use Rattle.theory.proofs.Decide.{in-decided}

pub on-picked : (f : ℕ → Bool) (xs : List ℕ) (u : ℕ) → On u (picked f xs) ↔ (On u xs × T (f u))
on-picked f [] u = (λ o. absurd o, λ p. absurd p.0)
on-picked f (x ∷ xs) u = go (f x) (λ e t. subst (λ z. T (f z)) (sym e) t) (λ e t. subst (λ z. T (f z)) e t) (on-picked f xs u)
  where
    -- b is the test at x
    go : (b : Bool) → (u ≡ x → T b → T (f u)) → (u ≡ x → T (f u) → T b) → On u (picked f xs) ↔ (On u xs × T (f u)) → On u (cond b (x ∷ picked f xs) (picked f xs)) ↔ (On u (x ∷ xs) × T (f u))
    go true there back ih =
        (⊎_elim (λ e. (inl e, there e tt)) (λ o. let r = ih.0 o in (inr r.0, r.1)), λ (o, t). ⊎_elim inl (λ k. inr (ih.1 (k, t))) o)
    go false there back ih =
        (λ o. let r = ih.0 o in (inr r.0, r.1), λ (o, t). ⊎_elim (λ e. absurd (back e t)) (λ k. ih.1 (k, t)) o)

pub once-picked : (f : ℕ → Bool) (xs : List ℕ) → Once xs → Once (picked f xs)
once-picked f [] h = tt
once-picked f (x ∷ xs) h = go (f x) (once-picked f xs h.1)
  where
    go : (b : Bool) → Once (picked f xs) → Once (cond b (x ∷ picked f xs) (picked f xs))
    go true ih = (λ o. h.0 ((on-picked f xs x).0 o).0, ih)
    go false ih = ih

pub ascending-picked : (rank : ℕ → ℕ) (f : ℕ → Bool) (xs : List ℕ) → Ascending rank xs → Ascending rank (picked f xs)
ascending-picked rank f [] h = tt
ascending-picked rank f (x ∷ xs) h = go (f x) (ascending-picked rank f xs h.1)
  where
    go : (b : Bool) → Ascending rank (picked f xs) → Ascending rank (cond b (x ∷ picked f xs) (picked f xs))
    go true ih = (λ w o. h.0 w ((on-picked f xs w).0 o).0, ih)
    go false ih = ih

ascending-on : (rank rate : ℕ → ℕ) (xs : List ℕ) → ((s w : ℕ) → On s xs → On w xs → rank s < rank w → rate s < rate w) → Ascending rank xs → Ascending rate xs
ascending-on rank rate [] f h = tt
ascending-on rank rate (x ∷ xs) f h = (λ w o. f x w (inl refl) (inr o) (h.0 w o), ascending-on rank rate xs (λ s w o p. f s w (inr o) (inr p)) h.1)

-- an order ascends in its own ranks
pub ascends : (order : List ℕ) → Once order → Ascending (rank_in order) order
ascends [] h = tt
ascends (x ∷ xs) h = (
  λ w o. omega (arith, rank-here x xs x refl, rank-next x xs w (other w o), rank-pos xs w),
  ascending-on (rank_in xs) (rank_in (x ∷ xs)) xs (λ s w o p less. omega (arith, less, rank-next x xs s (other s o), rank-next x xs w (other w p))) (ascends xs h.1),
)
  where
    other : (w : ℕ) → On w xs → w ≡ x → ⊥
    other w o e = h.0 (subst (λ z. On z xs) e o)

pub listed-on : (x : ℕ) (ys : List ℕ) → T (listed x ys) ↔ On x ys
listed-on x [] = (λ t. t, λ o. o)
listed-on x (y ∷ ys) =
    let ih = listed-on x ys in (
      λ t. ⊎_map (eqb→eq x y) ih.0 (or-either (eqb x y) (listed x ys) t),
      ⊎_elim (λ e. or_fst (eqb x y) _ (subst (λ z. T (eqb x z)) e (eqb_refl x))) (λ o. or_snd (eqb x y) _ (ih.1 o)),
    )

pub shares-on : (xs ys : List ℕ) → T (shares xs ys) ↔ ((x : ℕ) × On x xs × On x ys)
shares-on [] ys = (λ t. absurd t, λ (x, o, i). absurd o)
shares-on (y ∷ xs) ys = go (shares-on xs ys)
  where
    go : T (shares xs ys) ↔ ((x : ℕ) × On x xs × On x ys) → T (shares (y ∷ xs) ys) ↔ ((x : ℕ) × On x (y ∷ xs) × On x ys)
    go ih = (
      λ t. ⊎_elim (λ k. (y, inl refl, (listed-on y ys).0 k)) (λ k. let r = ih.0 k in (r.0, inr r.1, r.2)) (or-either (listed y ys) (shares xs ys) t),
      λ (x, o, i). ⊎_elim (λ e. or_fst (listed y ys) _ ((listed-on y ys).1 (subst (λ z. On z ys) e i))) (λ k. or_snd (listed y ys) _ (ih.1 (x, k, i))) o,
    )

-- a list picked by a test that decides a property of units
picked_of : (m : Map) (order : List ℕ) → Orders m order → (f : ℕ → Bool) (P : ℕ → Type 0) → ((u : ℕ) → T (f u) ↔ P u) → ((u : ℕ) → P u → T (m.unit u)) → ListOf P (rank_in order) (picked f order)
picked_of m order orders f P by unit = record {
  every = λ u p. (on-picked f order u).1 (orders.every u (unit u p), (by u).1 p);
  only = λ u o. (by u).0 ((on-picked f order u).0 o).1;
  ascending = ascending-picked (rank_in order) f order (ascends order orders.once);
  once = once-picked f order orders.once;
}

module _ (m : Map) (sound : Sound m) (order : List ℕ) (orders : Orders m order) where
  pub labels-of : (v : ℕ) → ListOf (λ u. InLabel m (rank_in order) u v) (rank_in order) (in_labels m order v)
  labels-of v =
      picked_of m order orders (λ u. is_in_label m (rank_in order) u v) (λ u. InLabel m (rank_in order) u v)
      (λ u. in-decided m sound (rank_in order) u v) (λ u l. heard-first m sound u v l.heard)

  pub holders-of : (u : ℕ) → ListOf (λ v. InLabel m (rank_in order) u v) (rank_in order) (in_holders m order u)
  holders-of u =
      picked_of m order orders (λ v. is_in_label m (rank_in order) u v) (λ v. InLabel m (rank_in order) u v)
      (λ v. in-decided m sound (rank_in order) u v) (λ v l. heard-last m sound u v l.heard)

pub lists-told : ListsTold
lists-told m sound order orders v = (
  labels-of m sound order orders v,
  labels-of (turned m) (turned-sound m sound) order (turned-orders m order orders) v,
  holders-of m sound order orders v,
  holders-of (turned m) (turned-sound m sound) order (turned-orders m order orders) v,
)
