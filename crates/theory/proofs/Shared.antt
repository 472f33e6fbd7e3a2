-- Two lists of labels tell who hears whom and through which highest unit, and no label can be spared.
use Rattle.std.proofs.Common.{◌≡◌, ℕ, ◌≤◌, ◌&&◌, T, ◌≢◌, ◌⊎◌, ◌↔◌, List, [], ◌∷◌, Some, None, sym, refl, ap, subst, inl, inr, ⊎_elim, arith}
use mathlib.Core.Logic.{⊎_map}
use Rattle.theory.specs.Maps.{Map, Sound, turned, listed}
use Rattle.theory.specs.Chains.{On, Heard}
use Rattle.theory.specs.Ranks.{rank_in, removed, Orders}
use Rattle.theory.specs.Labels.{InList, OutList, InListBut, OutListBut, Highest}
use Rattle.theory.specs.Lists.{picked, Ascending, in_labels, out_labels, shares, first}
use Rattle.theory.specs.Theorems.{Cover, HighestShared, MinimalIn, MinimalOut}
use Rattle.theory.proofs.Tests.{and-fst, and-snd, and_both}
use Rattle.theory.proofs.Maps.{turned-sound, turned-orders}
use Rattle.theory.proofs.Chains.{heard-self, heard-first, heard-turned}
use Rattle.theory.proofs.Ranks.{on-removed}
use Rattle.theory.proofs.Labels.{in-by-hearing, out-by-turned, hearing-of, in-listed, out_listed, highest-top}
use Rattle.theory.proofs.Lists.{on-picked, listed-on, shares-on, labels-of, ascends, ascending-picked}
use Rattle.theory.proofs.Core as core

module _ (m : Map) (sound : Sound m) (order : List ℕ) (orders : Orders m order) where
  -- the list of v holds v and its in-labels
  pub in-list-on : (x v : ℕ) → On x (v ∷ in_labels m order v) ↔ InList m (rank_in order) x v
  in-list-on x v = let l = labels-of m sound order orders v in (⊎_elim inr (λ o. inl (l.only x o)), ⊎_elim (λ i. inr (l.every x i)) inl)

  -- and without u
  in-list-but : (u x v : ℕ) → On x (v ∷ removed u (in_labels m order v)) → InListBut m (rank_in order) u x v
  in-list-but u x v = ⊎_elim inr (λ o. let k = (on-removed (in_labels m order v) u x).0 o in inl ((labels-of m sound order orders v).only x k.0, k.1))

out-list-on : (m : Map) → Sound m → (order : List ℕ) → Orders m order → (x v : ℕ) → On x (v ∷ out_labels m order v) ↔ OutList m (rank_in order) x v
out-list-on m sound order orders x v = in-list-on (turned m) (turned-sound m sound) order (turned-orders m order orders) x v

module _ (m : Map) (sound : Sound m) (order : List ℕ) (orders : Orders m order) (s t : ℕ) (us : T (m.unit s)) (ut : T (m.unit t)) where
  abbrev Both : ℕ → Type 0
  Both x = OutList m (rank_in order) x s × InList m (rank_in order) x t

  cover-sets : ((x : ℕ) × OutList m (rank_in order) x s × InList m (rank_in order) x t) ↔ Heard m s t
  cover-sets =
      let rank = rank_in order in
      let c = core.cover (Heard m) rank (hearing-of m sound order orders) s t (heard-self m s us) (heard-self m t ut) in (
        λ (x, o, i). c.0 (x, (out_listed m sound rank x s).0 o, (in-listed m sound rank x t).0 i),
        λ h. let r = c.1 h in (r.0, (out_listed m sound rank r.0 s).1 r.1, (in-listed m sound rank r.0 t).1 r.2),
      )

  cover-lists : T (shares (s ∷ out_labels m order s) (t ∷ in_labels m order t)) ↔ Heard m s t
  cover-lists =
      let sh = shares-on (s ∷ out_labels m order s) (t ∷ in_labels m order t) in (
        λ k. let r = sh.0 k in cover-sets.0 (r.0, (out-list-on m sound order orders r.0 s).0 r.1, (in-list-on m sound order orders r.0 t).0 r.2),
        λ h. let r = cover-sets.1 h in sh.1 (r.0, (out-list-on m sound order orders r.0 s).1 r.1, (in-list-on m sound order orders r.0 t).1 r.2),
      )

  -- the units in both lists, in the order of rank
  common : List ℕ
  common = picked (λ w. listed w (s ∷ out_labels m order s) && listed w (t ∷ in_labels m order t)) order

  common-ascends : Ascending (rank_in order) common
  unfolding common
  common-ascends = ascending-picked (rank_in order) (λ w. listed w (s ∷ out_labels m order s) && listed w (t ∷ in_labels m order t)) order (ascends order orders.once)

  common-on : (x : ℕ) → On x common ↔ Both x
  unfolding common
  common-on x = (
    λ o. let k = (on.0 o).1 in (
      (out-list-on m sound order orders x s).0 (outs.0 (and-fst (listed x (s ∷ out_labels m order s)) (listed x (t ∷ in_labels m order t)) k)),
      (in-list-on m sound order orders x t).0 (ins.0 (and-snd (listed x (s ∷ out_labels m order s)) (listed x (t ∷ in_labels m order t)) k)),
    ),
    λ (o, i). on.1 (
      orders.every x (unit o),
      and_both (listed x (s ∷ out_labels m order s)) (listed x (t ∷ in_labels m order t))
          (outs.1 ((out-list-on m sound order orders x s).1 o)) (ins.1 ((in-list-on m sound order orders x t).1 i)),
    ),
  )
    where
      on : On x (picked (λ w. listed w (s ∷ out_labels m order s) && listed w (t ∷ in_labels m order t)) order) ↔ (On x order × T (listed x (s ∷ out_labels m order s) && listed x (t ∷ in_labels m order t)))
      on = on-picked (λ w. listed w (s ∷ out_labels m order s) && listed w (t ∷ in_labels m order t)) order x

      outs : T (listed x (s ∷ out_labels m order s)) ↔ On x (s ∷ out_labels m order s)
      outs = listed-on x (s ∷ out_labels m order s)

      ins : T (listed x (t ∷ in_labels m order t)) ↔ On x (t ∷ in_labels m order t)
      ins = listed-on x (t ∷ in_labels m order t)

      unit : OutList m (rank_in order) x s → T (m.unit x)
      unit (inl l) = heard-first (turned m) (turned-sound m sound) x s l.heard
      unit (inr e) = subst (λ z. T (m.unit z)) (sym e) us

  -- the highest of them
  shared-highest : (h : ℕ) → (On h common × ((x : ℕ) → On x common → rank_in order h ≤ rank_in order x)) ↔ Highest m (rank_in order) s t h
  shared-highest h = (there, back)
    where
      rank : ℕ → ℕ
      rank = rank_in order

      k : core.Hearing (Heard m) (rank_in order)
      k = hearing-of m sound order orders

      there : On h common × ((x : ℕ) → On x common → rank_in order h ≤ rank_in order x) → Highest m (rank_in order) s t h
      there (o, low) =
          let b = (common-on h).0 o in
          (highest-top m sound (rank_in order) s t h).1 (core.shared-top (Heard m) (rank_in order) k s t h (heard-self m s us) (heard-self m t ut)
          ((out_listed m sound (rank_in order) h s).0 b.0) ((in-listed m sound (rank_in order) h t).0 b.1)
          (λ y p q. low y ((common-on y).1 ((out_listed m sound (rank_in order) y s).1 p, (in-listed m sound (rank_in order) y t).1 q))))

      back : Highest m (rank_in order) s t h → On h common × ((x : ℕ) → On x common → rank_in order h ≤ rank_in order x)
      back highest =
          let top = (highest-top m sound (rank_in order) s t h).0 highest in
          let both = core.top-listed (Heard m) (rank_in order) k s t h top in (
            (common-on h).1 ((out_listed m sound (rank_in order) h s).1 both.0, (in-listed m sound (rank_in order) h t).1 both.1),
            λ x o.
                let b = (common-on x).0 o in
                top.2 x
                (core.hears-listed (core.Turned (Heard m)) (rank_in order) (core.turned-hearing (Heard m) (rank_in order) k) x s (heard-self m s us) ((out_listed m sound (rank_in order) x s).0 b.0))
                (core.hears-listed (Heard m) (rank_in order) k x t (heard-self m t ut) ((in-listed m sound (rank_in order) x t).0 b.1)),
          )

pub cover : Cover
cover m sound order orders s t us ut = (cover-sets m sound order orders s t us ut, cover-lists m sound order orders s t us ut)

-- the first of a list that ascends is its highest
first_some : (rank : ℕ → ℕ) (xs : List ℕ) (h : ℕ) → Ascending rank xs → (first xs ≡ Some h) ↔ (On h xs × ((x : ℕ) → On x xs → rank h ≤ rank x))
first_some rank [] h up = (λ e. let z : ◌≡◌ {A = ℕ} 0 1 = cc in absurd (omega arith), λ (o, low). absurd o)
first_some rank (x ∷ xs) h up = (there, back)
  where
    there : Some x ≡ Some h → On h (x ∷ xs) × ((y : ℕ) → On y (x ∷ xs) → rank h ≤ rank y)
    there e =
        let same : x ≡ h = cc in
        let at : rank x ≡ rank h = ap rank same in
        (inl (sym same), λ y o. ⊎_elim (λ k. let k' : rank y ≡ rank x = ap rank k in omega arith) (λ k. omega (arith, up.0 y k)) o)

    back : On h (x ∷ xs) × ((y : ℕ) → On y (x ∷ xs) → rank h ≤ rank y) → Some x ≡ Some h
    back (o, low) = ⊎_elim (λ e. ap Some (sym e)) (λ k. absurd (omega (arith, up.0 h k, low x (inl refl)))) o

first-none : (xs : List ℕ) → (first xs ≡ None) ↔ ((x : ℕ) → On x xs → ⊥)
first-none [] = (λ e x o. o, λ far. refl)
first-none (x ∷ xs) = (λ e. let z : ◌≡◌ {A = ℕ} 0 1 = cc in absurd (omega arith), λ far. absurd (far x (inl refl)))

pub highest-shared : HighestShared
unfolding common
highest-shared m sound order orders s t us ut = (
  λ h.
      let f = first_some (rank_in order) (common m sound order orders s t us ut) h (common-ascends m sound order orders s t us ut) in
      let g = shared-highest m sound order orders s t us ut h in
      (λ e. g.0 (f.0 e), λ top. f.1 (g.1 top)),
  (
    λ e h. let r = (cover-sets m sound order orders s t us ut).1 h in (first-none (common m sound order orders s t us ut)).0 e r.0 ((common-on m sound order orders s t us ut r.0).1 (r.1, r.2)),
    λ far. (first-none (common m sound order orders s t us ut)).1 (λ x o. let b = (common-on m sound order orders s t us ut x).0 o in far ((cover-sets m sound order orders s t us ut).0 (x, b.0, b.1))),
  ),
)

pub minimal-in : MinimalIn
minimal-in m sound order orders u v l = (
  l.heard,
  none,
  λ k. let r = (shares-on (u ∷ out_labels m order u) (v ∷ removed u (in_labels m order v))).0 k in
      none r.0 ((out-list-on m sound order orders r.0 u).0 r.1) (in-list-but m sound order orders u r.0 v r.2),
)
  where
    but : (x : ℕ) → InListBut m (rank_in order) u x v → (core.In (Heard m) (rank_in order) x v × (x ≢ u)) ⊎ (x ≡ v)
    but x = ⊎_map (λ (k, ne). ((in-by-hearing m sound (rank_in order) x v).0 k, ne)) (λ e. e)

    none : (x : ℕ) → OutList m (rank_in order) x u → InListBut m (rank_in order) u x v → ⊥
    none x o i = core.struck (Heard m) (rank_in order) u v ((in-by-hearing m sound (rank_in order) u v).0 l) x ((out_listed m sound (rank_in order) x u).0 o) (but x i)

pub minimal-out : MinimalOut
minimal-out m sound order orders u v l = (
  (heard-turned m sound u v).0 l.heard,
  none,
  λ k. let r = (shares-on (v ∷ removed u (out_labels m order v)) (u ∷ in_labels m order u)).0 k in
      none r.0 (in-list-but (turned m) (turned-sound m sound) order (turned-orders m order orders) u r.0 v r.1) ((in-list-on m sound order orders r.0 u).0 r.2),
)
  where
    but : (x : ℕ) → OutListBut m (rank_in order) u x v → (core.In (core.Turned (Heard m)) (rank_in order) x v × (x ≢ u)) ⊎ (x ≡ v)
    but x = ⊎_map (λ (k, ne). ((out-by-turned m sound (rank_in order) x v).0 k, ne)) (λ e. e)

    none : (x : ℕ) → OutListBut m (rank_in order) u x v → InList m (rank_in order) x u → ⊥
    none x o i = core.struck (core.Turned (Heard m)) (rank_in order) u v ((out-by-turned m sound (rank_in order) u v).0 l) x ((in-listed m sound (rank_in order) x u).0 i) (but x o)
