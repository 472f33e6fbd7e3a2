-- What a pairing that is added or taken away, a unit that is dropped and one that is moved leave of the labels.
use Rattle.std.proofs.Common.{◌≡◌, ℕ, not, ◌&&◌, T, eqb, ◌≢◌, ◌⊎◌, ◌↔◌, List, [], ◌∷◌, sym, ◌∙◌, subst, inl, inr, ⊎_elim, eqb→eq}
use mathlib.Core.Logic.Iff
use lib.Dec.{eqb_refl, not_T}
use Rattle.theory.specs.Maps.{Map, Sound, with_pair, without_pair, without_unit}
use Rattle.theory.specs.Chains.{Onward, Heard}
use Rattle.theory.specs.Ranks.{rank_in, removed, moved}
use Rattle.theory.specs.Changes.{Stay, PairFrame, UnpairFrame, PairArea, DropFrame, RankFrame}
use Rattle.theory.specs.Turns.{PairFull}
use Rattle.theory.proofs.Tests.{and-fst, and-snd, and_both, or-either, or_fst, or_snd, decided}
use Rattle.theory.proofs.Maps.{hidden-sound}
use Rattle.theory.proofs.Chains.{goes, heard, heard-self, heard-trans, heard-pair}
use Rattle.theory.proofs.Ranks.{removed-order, moved_order}
use Rattle.theory.proofs.HiddenUnits.{hide-between, show}
use Rattle.theory.proofs.Between.{Same, stays}

pub stay-back : (m n : Map) (rank rate : ℕ → ℕ) (u v : ℕ) → Stay m rank n rate u v → Stay n rate m rank u v
stay-back m n rank rate u v s = (Iff.symm s.0, Iff.symm s.1)

-- a map that has the pairing of a to b over another one
pub record Extra (big small : Map) (a b : ℕ) : Type 0 where
  pub up : (x : ℕ) → T (small.unit x) → T (big.unit x)
  pub down : (x : ℕ) → T (big.unit x) → T (small.unit x)
  pub pair-up : (x y : ℕ) → T (small.pair x y) → T (big.pair x y)
  pub pair-down : (x y : ℕ) → T (big.pair x y) → T (small.pair x y) ⊎ ((x ≡ a) × (y ≡ b))

module _ (big small : Map) (sb : Sound big) (ss : Sound small) (a b : ℕ) (extra : Extra big small a b) where
  -- a chain goes by the pairing, or not
  detour-onward : (s t : ℕ) (c : List ℕ) → T (small.unit s) → Onward big s c t → Heard small s t ⊎ (Heard small s a × Heard small b t)
  detour-onward s t [] u e = inl (subst (λ z. Heard small s z) e (heard-self small s u))
  detour-onward s t (x ∷ c) u h = go (extra.pair-down s x h.0) (detour-onward x t c (extra.down x (sb.to s x h.0)) h.1)
    where
      go : T (small.pair s x) ⊎ ((s ≡ a) × (x ≡ b)) → Heard small x t ⊎ (Heard small x a × Heard small b t) → Heard small s t ⊎ (Heard small s a × Heard small b t)
      go (inl p) (inl k) = inl (heard-trans small s x t (heard-pair small ss s x p) k)
      go (inl p) (inr (k, j)) = inr (heard-trans small s x a (heard-pair small ss s x p) k, j)
      go (inr (p, q)) (inl k) = inr (subst (λ z. Heard small s z) p (heard-self small s u), subst (λ z. Heard small z t) q k)
      go (inr (p, q)) (inr (k, j)) = inr (subst (λ z. Heard small s z) p (heard-self small s u), j)

  pub detour : (s t : ℕ) → Heard big s t → Heard small s t ⊎ (Heard small s a × Heard small b t)
  detour s t h = let g = goes big s t h in detour-onward s t g.1.0 (extra.down s g.0) g.1.1

  up-onward : (s t : ℕ) (c : List ℕ) → Onward small s c t → Onward big s c t
  up-onward s t [] e = e
  up-onward s t (x ∷ c) h = (extra.pair-up s x h.0, up-onward x t c h.1)

  pub heard-up : (s t : ℕ) → Heard small s t → Heard big s t
  heard-up s t h = let g = goes small s t h in heard big s t (extra.up s g.0, (g.1.0, up-onward s t g.1.0 g.1.1))

  area_in : (x : ℕ) → Heard big x a ↔ Heard small x a
  area_in x = (λ h. ⊎_elim (λ k. k) (λ k. k.0) (detour x a h), heard-up x a)

  area-out : (x : ℕ) → Heard big b x ↔ Heard small b x
  area-out x = (λ h. ⊎_elim (λ k. k) (λ k. k.1) (detour b x h), heard-up b x)

  extra-same : (rank : ℕ → ℕ) (u v : ℕ) → (Heard small u a → Heard small b v → ⊥) → Same (Heard small) rank (Heard big) rank u v
  extra-same rank u v far = record {
    there = λ w p q. (heard-up u w p, heard-up w v q);
    back = λ w p q. go w (detour u w p) (detour w v q);
    ranks = λ s w p q r t. Iff.rfl;
  }
    where
      go : (w : ℕ) → Heard small u w ⊎ (Heard small u a × Heard small b w) → Heard small w v ⊎ (Heard small w a × Heard small b v) → Heard small u w × Heard small w v
      go w (inl p) (inl q) = (p, q)
      go w (inl p) (inr (q, r)) = absurd (far (heard-trans small u w a p q) r)
      go w (inr (p, k)) (inl q) = absurd (far p (heard-trans small b w v k q))
      go w (inr (p, k)) (inr (q, r)) = absurd (far p r)

module _ (m : Map) (sound : Sound m) (a b : ℕ) (ua : T (m.unit a)) (ub : T (m.unit b)) (ne : a ≢ b) where
  with-pair-cases : (x y : ℕ) → T ((with_pair a b m).pair x y) → T (m.pair x y) ⊎ ((x ≡ a) × (y ≡ b))
  with-pair-cases x y p =
      ⊎_elim (λ q. inr (eqb→eq x a (and-fst (eqb x a) (eqb y b) q), eqb→eq y b (and-snd (eqb x a) (eqb y b) q))) inl (or-either (eqb x a && eqb y b) (m.pair x y) p)

  pub with-pair-sound : Sound (with_pair a b m)
  with-pair-sound = record {
    low = sound.low;
    high = sound.high;
    from = λ x y p. ⊎_elim (sound.from x y) (λ e. subst (λ z. T (m.unit z)) (sym e.0) ua) (with-pair-cases x y p);
    to = λ x y p. ⊎_elim (sound.to x y) (λ e. subst (λ z. T (m.unit z)) (sym e.1) ub) (with-pair-cases x y p);
    apart = λ x y p. ⊎_elim (sound.apart x y) (λ e k. ne (sym e.0 ∙ k ∙ e.1)) (with-pair-cases x y p);
  }

  pub with-pair-extra : Extra (with_pair a b m) m a b
  with-pair-extra = record {
    up = λ x t. t;
    down = λ x t. t;
    pair-up = λ x y t. or_snd (eqb x a && eqb y b) (m.pair x y) t;
    pair-down = with-pair-cases;
  }

pub with-pair-here : (m : Map) (a b : ℕ) → T ((with_pair a b m).pair a b)
with-pair-here m a b = or_fst (eqb a a && eqb b b) (m.pair a b) (and_both (eqb a a) (eqb b b) (eqb_refl a) (eqb_refl b))

pub pair-frame : PairFrame
pair-frame m sound a b ua ub ne rank u v far =
    let sw = with-pair-sound m sound a b ua ub ne in
    stays m (with_pair a b m) sound sw rank rank u v (extra-same (with_pair a b m) m sw sound a b (with-pair-extra m sound a b ua ub ne) rank u v far)

pub pair-full : PairFull
pair-full m sound a b ua ub ne u v h k =
    let n = with_pair a b m in
    let sw = with-pair-sound m sound a b ua ub ne in
    let up = heard-up n m sw sound a b (with-pair-extra m sound a b ua ub ne) in
    heard-trans n u a v (up u a h) (heard-trans n a b v (heard-pair n sw a b (with-pair-here m a b)) (up b v k))

module _ (m : Map) (sound : Sound m) (a b : ℕ) where
  without-pair-less : (x y : ℕ) → T ((without_pair a b m).pair x y) → T (m.pair x y)
  without-pair-less x y t = and-snd (not (eqb x a && eqb y b)) (m.pair x y) t

  pub without-pair-sound : Sound (without_pair a b m)
  without-pair-sound = record {
    low = sound.low;
    high = sound.high;
    from = λ x y t. sound.from x y (without-pair-less x y t);
    to = λ x y t. sound.to x y (without-pair-less x y t);
    apart = λ x y t. sound.apart x y (without-pair-less x y t);
  }

  without-pair-cases : (x y : ℕ) → T (m.pair x y) → T ((without_pair a b m).pair x y) ⊎ ((x ≡ a) × (y ≡ b))
  without-pair-cases x y t = go (decided (eqb x a && eqb y b))
    where
      go : Dec (T (eqb x a && eqb y b)) → T ((without_pair a b m).pair x y) ⊎ ((x ≡ a) × (y ≡ b))
      go (yes k) = inr (eqb→eq x a (and-fst (eqb x a) (eqb y b) k), eqb→eq y b (and-snd (eqb x a) (eqb y b) k))
      go (no k) = inl (and_both (not (eqb x a && eqb y b)) (m.pair x y) (not_T (eqb x a && eqb y b) k) t)

  pub without-pair-extra : Extra m (without_pair a b m) a b
  without-pair-extra = record { up = λ x t. t; down = λ x t. t; pair-up = without-pair-less; pair-down = without-pair-cases }

pub unpair-frame : UnpairFrame
unpair-frame m sound a b rank u v far =
    let n = without_pair a b m in
    let sn = without-pair-sound m sound a b in
    let e = without-pair-extra m sound a b in
    stay-back n m rank rank u v (stays n m sn sound rank rank u v
    (extra-same m n sound sn a b e rank u v (λ p q. far (heard-up m n sound sn a b e u a p) (heard-up m n sound sn a b e b v q))))

pub pair-area : PairArea
pair-area m sound a b x = (
  λ ua ub ne.
      let sw = with-pair-sound m sound a b ua ub ne in
      let e = with-pair-extra m sound a b ua ub ne in
      (area_in (with_pair a b m) m sw sound a b e x, area-out (with_pair a b m) m sw sound a b e x),
  Iff.symm (area_in m (without_pair a b m) sound sn a b (without-pair-extra m sound a b) x),
  Iff.symm (area-out m (without_pair a b m) sound sn a b (without-pair-extra m sound a b) x),
)
  where
    sn : Sound (without_pair a b m)
    sn = without-pair-sound m sound a b

-- a unit x that stands on no chain between u and v is dropped, or moved
module _ (m : Map) (sound : Sound m) (x u v : ℕ) (far : Heard m u x → Heard m x v → ⊥) where
  not-between : (w : ℕ) → Heard m u w → Heard m w v → w ≢ x
  not-between w p q e = far (subst (λ z. Heard m u z) e p) (subst (λ z. Heard m z v) e q)

  drop-same : (order : List ℕ) → Same (Heard m) (rank_in order) (Heard (without_unit x m)) (rank_in (removed x order)) u v
  drop-same order = record {
    there = λ w p q. (
      hide-between (λ y. eqb y x) m sound u w (λ y i j t. not-between y i (heard-trans m y w v j q) (eqb→eq y x t)) p,
      hide-between (λ y. eqb y x) m sound w v (λ y i j t. not-between y (heard-trans m u w y p i) j (eqb→eq y x t)) q,
    );
    back = λ w p q. (show (λ y. eqb y x) m u w p, show (λ y. eqb y x) m w v q);
    ranks = λ s w p q r t. removed-order order x s w (not-between s p q) (not-between w r t);
  }

  rank_same : (order : List ℕ) (k : ℕ) → Same (Heard m) (rank_in order) (Heard m) (rank_in (moved k x order)) u v
  rank_same order k = record {
    there = λ w p q. (p, q);
    back = λ w p q. (p, q);
    ranks = λ s w p q r t. moved_order k x order s w (not-between s p q) (not-between w r t);
  }

pub drop-frame : DropFrame
drop-frame m sound order x u v far =
    stays m (without_unit x m) sound (hidden-sound (λ y. eqb y x) m sound) (rank_in order) (rank_in (removed x order)) u v (drop-same m sound x u v far order)

pub rank-frame : RankFrame
rank-frame m sound order x k u v far = stays m m sound sound (rank_in order) (rank_in (moved k x order)) u v (rank_same m sound x u v far order k)
