-- A unit that is enrolled: dropped again it leaves the map that was, so what enrolling leaves of the labels is what dropping leaves.
use Rattle.std.proofs.Common.{◌≡◌, ℕ, ◌&&◌, ◌||◌, T, eqb, ◌⊎◌, ◌↔◌, List, [], ◌∷◌, sym, ◌∙◌, subst, inl, inr, ⊎_elim, arith, eqb→eq}
use mathlib.Core.Logic.{⊎_map}
use lib.Dec.{eqb_refl}
use Rattle.std.proofs.lemmas.Bool.{cases_eq}
use Rattle.theory.specs.Maps.{Map, Sound, without_unit, enrolled, listed}
use Rattle.theory.specs.Chains.{Onward, On, Heard}
use Rattle.theory.specs.Ranks.{rank_in, inserted, removed, moved, Orders}
use Rattle.theory.specs.Changes.{Stay, New, ChangesSound, EnrolFrame, EnrolArea}
use Rattle.theory.proofs.Tests.{and-fst, and-snd, and_both, or-either, or_fst, or_snd, same_tests}
use Rattle.theory.proofs.Maps.{same_map, hidden-sound}
use Rattle.theory.proofs.Chains.{goes, heard-self, heard-trans, heard-pair, heard-first}
use Rattle.theory.proofs.Ranks.{removed-inserted, removed-off, on-removed, once-removed, on-inserted, once-inserted, rank-inserted}
use Rattle.theory.proofs.HiddenUnits.{shown-unit, clear-unit, shown-pair, kept_pair, kept-unit, show}
use Rattle.theory.proofs.Lists.{listed-on}
use Rattle.theory.proofs.Frames.{stay-back, with-pair-sound, without-pair-sound, drop-frame}

same-eqb : (x y : ℕ) → x ≡ y → T (eqb x y)
same-eqb x y e = subst (λ z. T (eqb x z)) e (eqb_refl x)

module _ (m : Map) (sound : Sound m) (x : ℕ) (sources listeners : List ℕ) (new : New m x sources listeners) where
  abbrev Grown : Map
  Grown = enrolled x sources listeners m

  abbrev Cases : ℕ → ℕ → Type 0
  Cases a b = T (m.pair a b) ⊎ ((On a sources × (b ≡ x)) ⊎ ((a ≡ x) × On b listeners))

  pub enrolled-cases : (a b : ℕ) → T ((enrolled x sources listeners m).pair a b) → T (m.pair a b) ⊎ ((On a sources × (b ≡ x)) ⊎ ((a ≡ x) × On b listeners))
  enrolled-cases a b t =
      ⊎_elim (λ q. inr (⊎_map (λ p. ((listed-on a sources).0 (and-fst (listed a sources) (eqb b x) p), eqb→eq b x (and-snd (listed a sources) (eqb b x) p)))
      (λ p. (eqb→eq a x (and-fst (eqb a x) (listed b listeners) p), (listed-on b listeners).0 (and-snd (eqb a x) (listed b listeners) p)))
      (or-either (listed a sources && eqb b x) (eqb a x && listed b listeners) q)))
      inl (or-either ((listed a sources && eqb b x) || (eqb a x && listed b listeners)) (m.pair a b) t)

  old-pair : (a b : ℕ) → T (m.pair a b) → T (Grown.pair a b)
  old-pair a b t = or_snd ((listed a sources && eqb b x) || (eqb a x && listed b listeners)) (m.pair a b) t

  pub source-pair : (s : ℕ) → On s sources → T ((enrolled x sources listeners m).pair s x)
  source-pair s o = or_fst _ (m.pair s x) (or_fst (listed s sources && eqb x x) (eqb s x && listed x listeners) (and_both (listed s sources) (eqb x x) ((listed-on s sources).1 o) (eqb_refl x)))

  pub listener-pair : (t : ℕ) → On t listeners → T ((enrolled x sources listeners m).pair x t)
  listener-pair t o = or_fst _ (m.pair x t) (or_snd (listed x sources && eqb t x) (eqb x x && listed t listeners) (and_both (eqb x x) (listed t listeners) (eqb_refl x) ((listed-on t listeners).1 o)))

  unit-cases : (y : ℕ) → T (Grown.unit y) → (y ≡ x) ⊎ T (m.unit y)
  unit-cases y t = ⊎_map (eqb→eq y x) (λ p. p) (or-either (eqb y x) (m.unit y) t)

  old-unit : (y : ℕ) → T (m.unit y) → T (Grown.unit y)
  old-unit y t = or_snd (eqb y x) (m.unit y) t

  new_unit : (y : ℕ) → y ≡ x → T (Grown.unit y)
  new_unit y e = or_fst (eqb y x) (m.unit y) (same-eqb y x e)

  next-unit : (a b : ℕ) → T (Grown.pair a b) → T (Grown.unit b)
  next-unit a b t = ⊎_elim (λ p. old-unit b (sound.to a b p)) (⊎_elim (λ p. new_unit b p.1) (λ p. old-unit b (new.to b p.1))) (enrolled-cases a b t)

  not_new : (y : ℕ) → T (m.unit y) → y ≡ x → ⊥
  not_new y t e = new.fresh (subst (λ z. T (m.unit z)) e t)

  pub enrolled-sound : Sound (enrolled x sources listeners m)
  enrolled-sound = record {
    low = λ u t. let lo = new.low in ⊎_elim (λ e. omega arith) (sound.low u) (unit-cases u t);
    high = λ u t. let hi = new.high in ⊎_elim (λ e. omega arith) (sound.high u) (unit-cases u t);
    from = λ a b t. ⊎_elim (λ p. old-unit a (sound.from a b p)) (⊎_elim (λ p. old-unit a (new.from a p.0)) (λ p. new_unit a p.0)) (enrolled-cases a b t);
    to = next-unit;
    apart = λ a b t. ⊎_elim (sound.apart a b) (⊎_elim (λ p e. not_new a (new.from a p.0) (e ∙ p.1)) (λ p e. not_new b (new.to b p.1) (sym e ∙ p.0))) (enrolled-cases a b t);
  }

  -- without the new unit it is the map that it was
  dropped-pair : (a b : ℕ) → T ((without_unit x Grown).pair a b) → T (m.pair a b)
  dropped-pair a b t =
      let ends = hidden-sound (λ y. eqb y x) Grown enrolled-sound in
      let na = clear-unit (λ y. eqb y x) Grown a (ends.from a b t) in
      let nb = clear-unit (λ y. eqb y x) Grown b (ends.to a b t) in
      ⊎_elim (λ p. p) (⊎_elim (λ p. absurd (nb (same-eqb b x p.1))) (λ p. absurd (na (same-eqb a x p.0)))) (enrolled-cases a b (shown-pair (λ y. eqb y x) Grown a b t))

  pair-kept : (a b : ℕ) → T (m.pair a b) → T ((without_unit x Grown).pair a b)
  pair-kept a b t = kept_pair (λ y. eqb y x) Grown a b (old-pair a b t) (λ k. not_new a (sound.from a b t) (eqb→eq a x k)) (λ k. not_new b (sound.to a b t) (eqb→eq b x k))

  dropped-unit : (y : ℕ) → T ((without_unit x Grown).unit y) → T (m.unit y)
  dropped-unit y t = ⊎_elim (λ e. absurd (clear-unit (λ z. eqb z x) Grown y t (same-eqb y x e))) (λ p. p) (unit-cases y (shown-unit (λ z. eqb z x) Grown y t))

  unit_kept : (y : ℕ) → T (m.unit y) → T ((without_unit x Grown).unit y)
  unit_kept y t = kept-unit (λ z. eqb z x) Grown y (old-unit y t) (λ k. not_new y t (eqb→eq y x k))

  pub enrolled-dropped : without_unit x (enrolled x sources listeners m) ≡ m
  enrolled-dropped =
      same_map (without_unit x Grown) m (λ y. same_tests ((without_unit x Grown).unit y) (m.unit y) (dropped-unit y) (unit_kept y))
      (λ a b. same_tests ((without_unit x Grown).pair a b) (m.pair a b) (dropped-pair a b) (pair-kept a b))

  pub old-heard : (s t : ℕ) → Heard m s t → Heard (enrolled x sources listeners m) s t
  old-heard s t h = show (λ y. eqb y x) Grown s t (subst (λ n. Heard n s t) (sym enrolled-dropped) h)

  area-sources : (u : ℕ) (c : List ℕ) → Onward Grown u c x → (u ≡ x) ⊎ ((s : ℕ) × On s sources × Heard m u s)
  area-sources u [] e = inl e
  area-sources u (y ∷ c) h = go (enrolled-cases u y h.0) (area-sources y c h.1)
    where
      go : Cases u y → (y ≡ x) ⊎ ((s : ℕ) × On s sources × Heard m y s) → (u ≡ x) ⊎ ((s : ℕ) × On s sources × Heard m u s)
      go (inl p) (inl e) = absurd (not_new y (sound.to u y p) e)
      go (inl p) (inr (s, o, k)) = inr (s, o, heard-trans m u y s (heard-pair m sound u y p) k)
      go (inr (inl (o, e))) k = inr (u, o, heard-self m u (new.from u o))
      go (inr (inr (e, o))) k = inl e

  -- from a unit of the old map or from x: with no x on the way, or on from the last x
  area-listeners : (s u : ℕ) (c : List ℕ) → T (Grown.unit s) → Onward Grown s c u → Heard m s u ⊎ ((u ≡ x) ⊎ ((t : ℕ) × On t listeners × Heard m t u))
  area-listeners s u [] k e = ⊎_elim (λ p. inr (inl (sym e ∙ p))) (λ p. inl (subst (λ z. Heard m s z) e (heard-self m s p))) (unit-cases s k)
  area-listeners s u (y ∷ c) k h = go (enrolled-cases s y h.0) (area-listeners y u c (next-unit s y h.0) h.1)
    where
      go : Cases s y → Heard m y u ⊎ ((u ≡ x) ⊎ ((t : ℕ) × On t listeners × Heard m t u)) → Heard m s u ⊎ ((u ≡ x) ⊎ ((t : ℕ) × On t listeners × Heard m t u))
      go p (inr r) = inr r
      go (inl p) (inl r) = inl (heard-trans m s y u (heard-pair m sound s y p) r)
      go (inr (inl (o, e))) (inl r) = absurd (not_new y (heard-first m sound y u r) e)
      go (inr (inr (e, o))) (inl r) = inr (inr (y, o, r))

  self : (u : ℕ) → u ≡ x → Heard Grown u u
  self u e = heard-self Grown u (new_unit u e)

  pub heard-new : (u : ℕ) → Heard (enrolled x sources listeners m) u x ↔ ((u ≡ x) ⊎ ((s : ℕ) × On s sources × Heard m u s))
  heard-new u = (
    λ h. let g = goes Grown u x h in area-sources u g.1.0 g.1.1,
    ⊎_elim (λ e. subst (λ z. Heard Grown u z) e (self u e)) (λ (s, o, h). heard-trans Grown u s x (old-heard u s h) (heard-pair Grown enrolled-sound s x (source-pair s o))),
  )

  pub new-heard : (u : ℕ) → Heard (enrolled x sources listeners m) x u ↔ ((u ≡ x) ⊎ ((t : ℕ) × On t listeners × Heard m t u))
  new-heard u = (
    λ h. let g = goes Grown x u h in ⊎_elim (λ k. absurd (new.fresh (heard-first m sound x u k))) (λ k. k) (area-listeners x u g.1.0 g.0 g.1.1),
    ⊎_elim (λ e. subst (λ z. Heard Grown z u) e (self u e)) (λ (t, o, h). heard-trans Grown x t u (heard-pair Grown enrolled-sound x t (listener-pair t o)) (old-heard t u h)),
  )

pub enrol-area : EnrolArea
enrol-area m sound x sources listeners new u = (heard-new m sound x sources listeners new u, new-heard m sound x sources listeners new u)

pub enrol-frame : EnrolFrame
enrol-frame m sound order orders x sources listeners new k u v far =
    let n = enrolled x sources listeners m in
    let rate = rank_in (inserted k x order) in
    let d = drop-frame n (enrolled-sound m sound x sources listeners new) (inserted k x order) x u v far in
    let e = subst (λ l. Stay n rate (without_unit x n) (rank_in l) u v) (removed-inserted k x order (λ o. new.fresh (orders.only x o))) d in
    stay-back n m rate (rank_in order) u v (subst (λ b. Stay n rate b (rank_in order) u v) (enrolled-dropped m sound x sources listeners new) e)

-- the orders after each change
pub drop_orders : (m : Map) (order : List ℕ) → Orders m order → (x : ℕ) → Orders (without_unit x m) (removed x order)
drop_orders m order orders x = record {
  every = λ u t. (on-removed order x u).1 (orders.every u (shown-unit (λ y. eqb y x) m u t), λ e. clear-unit (λ y. eqb y x) m u t (same-eqb u x e));
  only = λ u o. let k = (on-removed order x u).0 o in kept-unit (λ y. eqb y x) m u (orders.only u k.0) (λ t. k.1 (eqb→eq u x t));
  once = once-removed order x orders.once;
}

pub enrol_orders : (m : Map) (order : List ℕ) → Orders m order → (x : ℕ) (sources listeners : List ℕ) → (T (m.unit x) → ⊥) → (k : ℕ) → Orders (enrolled x sources listeners m) (inserted k x order)
enrol_orders m order orders x sources listeners fresh k = record {
  every = λ u t. (on-inserted k x order u).1 (⊎_map (eqb→eq u x) (orders.every u) (or-either (eqb u x) (m.unit u) t));
  only = λ u o. ⊎_elim (λ e. or_fst (eqb u x) (m.unit u) (same-eqb u x e)) (λ p. or_snd (eqb u x) (m.unit u) (orders.only u p)) ((on-inserted k x order u).0 o);
  once = once-inserted k x order orders.once (λ o. fresh (orders.only x o));
}

pub rank_orders : (m : Map) (order : List ℕ) → Orders m order → (x : ℕ) → T (m.unit x) → (k : ℕ) → Orders m (moved k x order)
rank_orders m order orders x ux k = record {
  every = λ u t. (on-inserted k x (removed x order) u).1 (⊎_map (λ e. e) (λ ne. (on-removed order x u).1 (orders.every u t, ne)) (cases_eq u x));
  only = λ u o. ⊎_elim (λ e. subst (λ z. T (m.unit z)) (sym e) ux) (λ p. orders.only u ((on-removed order x u).0 p).0) ((on-inserted k x (removed x order) u).0 o);
  once = once-inserted k x (removed x order) (once-removed order x orders.once) (removed-off x order);
}

pub changes-sound : ChangesSound
changes-sound = record {
  none = record { low = λ u t. absurd t; high = λ u t. absurd t; from = λ a b t. absurd t; to = λ a b t. absurd t; apart = λ a b t. absurd t };
  none_orders = record { every = λ u t. t; only = λ u o. o; once = tt };
  pair = with-pair-sound;
  unpair = without-pair-sound;
  drop = λ m sound v. hidden-sound (λ y. eqb y v) m sound;
  drop_orders = drop_orders;
  enrol = enrolled-sound;
  enrol_orders = enrol_orders;
  enrol_rank = λ m order orders v fresh k le. rank-inserted k v order (λ o. fresh (orders.only v o)) le;
  rank_orders = rank_orders;
  rank_rank = λ order v k le. rank-inserted k v (removed v order) (removed-off v order) le;
}
