-- The labels by the highest unit, and the rows by walks.
use Rattle.std.proofs.Common.{◌≡◌, ℕ, ◌<◌, T, ◌≢◌, ◌⊎◌, List, [], ◌∷◌, sym, subst, inl, inr, ⊎_elim, arith}
use Rattle.theory.specs.Maps.{Map, Sound, hidden}
use Rattle.theory.specs.Chains.{Onward, Heard}
use Rattle.theory.specs.Ranks.{rank_in, Orders}
use Rattle.theory.specs.Labels.{InLabel, OutLabel, InList, OutList, Highest}
use Rattle.theory.specs.Rows.{Covered}
use Rattle.theory.specs.Walks.{LabelAtAnEnd, HighestListed, ReachedByRows, RowByCover, RowByWalk, HiddenTurned, WalkDone}
use Rattle.theory.proofs.Chains.{goes, heard-self, heard-trans, heard-first, heard-last, heard-part}
use Rattle.theory.proofs.Labels.{in-by-hearing, out-by-turned, hearing-of, in-listed, out_listed, highest-top}
use Rattle.theory.proofs.HiddenUnits.{hidden-turned-is, hide, show, last-clear}
use Rattle.theory.proofs.Core as core

pub highest-listed : HighestListed
highest-listed m sound order orders u v = (
  λ k. let r = core.top (Heard m) (rank_in order) (hearing-of m sound order orders) u v k in (r.0, (highest-top m sound (rank_in order) u v r.0).1 r.1),
  λ h top.
      let r = core.top-listed (Heard m) (rank_in order) (hearing-of m sound order orders) u v h ((highest-top m sound (rank_in order) u v h).0 top) in
      ((out_listed m sound (rank_in order) h u).1 r.0, (in-listed m sound (rank_in order) h v).1 r.1),
)

pub label-at-an-end : LabelAtAnEnd
label-at-an-end m sound order orders u v ne = ((in-there, in-back), (out-there, out-back))
  where
    in-there : InLabel m (rank_in order) u v → Highest m (rank_in order) u v u
    in-there l =
        let i = (in-by-hearing m sound (rank_in order) u v).0 l in
        (highest-top m sound (rank_in order) u v u).1 (heard-self m u (heard-first m sound u v i.0), i.0, i.2)

    in-back : Highest m (rank_in order) u v u → InLabel m (rank_in order) u v
    in-back t = ⊎_elim (λ l. l) (λ e. absurd (ne e)) ((highest-listed m sound order orders u v).1 u t).1

    out-there : OutLabel m (rank_in order) v u → Highest m (rank_in order) u v v
    out-there l =
        let i = (out-by-turned m sound (rank_in order) v u).0 l in
        (highest-top m sound (rank_in order) u v v).1 (i.0, heard-self m v (heard-last m sound u v i.0), λ w p q. i.2 w q p)

    out-back : Highest m (rank_in order) u v v → OutLabel m (rank_in order) v u
    out-back t = ⊎_elim (λ l. l) (λ e. absurd (ne (sym e))) ((highest-listed m sound order orders u v).1 v t).0

module _ (m : Map) (sound : Sound m) (order : List ℕ) (orders : Orders m order) (u : ℕ) where
  -- what u covers hears u through a unit higher than u
  covered-heard : (v : ℕ) → Covered m (rank_in order) u v → (w : ℕ) × Heard m u w × Heard m w v × (rank_in order w < rank_in order u)
  covered-heard v (w, o, i) =
      let a = (out-by-turned m sound (rank_in order) w u).0 o in
      (w, a.0, hears w v (heard-last m sound u w a.0) i, a.1)
    where
      hears : (w v : ℕ) → T (m.unit w) → InList m (rank_in order) w v → Heard m w v
      hears w v t (inl l) = l.heard
      hears w v t (inr e) = subst (λ z. Heard m w z) e (heard-self m w t)

  -- what hears u is u, in its row, or covered
  reached : (v : ℕ) → Heard m u v → (v ≡ u) ⊎ (InLabel m (rank_in order) u v ⊎ Covered m (rank_in order) u v)
  reached v h =
      let r = highest-listed m sound order orders u v in
      let top = r.0 h in
      let both = r.1 top.0 top.1 in
      go top.0 both.0 both.1
    where
      go : (x : ℕ) → OutList m (rank_in order) x u → InList m (rank_in order) x v → (v ≡ u) ⊎ (InLabel m (rank_in order) u v ⊎ Covered m (rank_in order) u v)
      go x (inl o) i = inr (inr (x, o, i))
      go x (inr e) (inl i) = inr (inl (subst (λ z. InLabel m (rank_in order) z v) e i))
      go x (inr e) (inr k) = inl (subst (λ z. z ≡ u) k e)

  reaches : (v : ℕ) → T (m.unit u) → (v ≡ u) ⊎ (InLabel m (rank_in order) u v ⊎ Covered m (rank_in order) u v) → Heard m u v
  reaches v t (inl e) = subst (λ z. Heard m u z) (sym e) (heard-self m u t)
  reaches v t (inr (inl l)) = l.heard
  reaches v t (inr (inr c)) = let k = covered-heard v c in heard-trans m u k.0 v k.1 k.2

  -- on the chains to a unit of the row nothing is covered
  row-clear : (v x : ℕ) → InLabel m (rank_in order) u v → Heard m x v → Covered m (rank_in order) u x → ⊥
  row-clear v x l q c =
      let k = covered-heard x c in
      let i = (in-by-hearing m sound (rank_in order) u v).0 l in
      omega (arith, k.3, i.2 k.0 k.1 (heard-trans m k.0 x v k.2 q))

  row_apart : (v : ℕ) → InLabel m (rank_in order) u v → u ≢ v
  row_apart v l e = let k : rank_in order u ≡ rank_in order v = cc in omega (arith, l.higher)

  -- what hears u and is not covered is in its row
  row_from : (v : ℕ) → u ≢ v → Heard m u v → (Covered m (rank_in order) u v → ⊥) → InLabel m (rank_in order) u v
  row_from v ne h far = ⊎_elim (λ e. absurd (ne (sym e))) (⊎_elim (λ l. l) (λ c. absurd (far c))) (reached v h)

pub row-by-cover : RowByCover
row-by-cover m sound order orders u v = (
  λ l. (row_apart m sound order orders u v l, l.heard, row-clear m sound order orders u v v l (heard-self m v (heard-last m sound u v l.heard))),
  λ (ne, h, far). row_from m sound order orders u v ne h far,
)

pub reached-by-rows : ReachedByRows
reached-by-rows m sound order orders u v t = (reached m sound order orders u v, reaches m sound order orders u v t)

pub row-by-walk : RowByWalk
row-by-walk m sound order orders u v ne f marks = (there, back)
  where
    there : InLabel m (rank_in order) u v → Heard (hidden f m) u v
    there l = let c = l.heard in hide f m u v c.0 c.1 (λ x o k. ⊎_elim
        (row-clear m sound order orders u v x l (heard-part m sound u v x c.0 c.1 o).1) (l.highest c.0 c.1 x o) (marks.only x k))

    back : Heard (hidden f m) u v → InLabel m (rank_in order) u v
    back h = row_from m sound order orders u v ne (show f m u v h) (λ c. last-clear f m sound u v h (marks.every v (λ e. ne (sym e)) c))

pub hidden-turned : HiddenTurned
hidden-turned = hidden-turned-is

pub walk-done : WalkDone
walk-done m u seen here on v h = let g = goes m u v h in go u g.1.0 here g.1.1
  where
    go : (x : ℕ) (c : List ℕ) → T (seen x) → Onward m x c v → T (seen v)
    go x [] t e = subst (λ z. T (seen z)) e t
    go x (y ∷ c) t k = go y c (on x y t k.0) k.1
