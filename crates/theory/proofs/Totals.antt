-- Labels are counted by lists and by rows: the counts are of the same labels, and so equal.
use Rattle.std.proofs.Common.{ℕ, ◌<◌, Bool, true, false, not, T, ◌⊎◌, ◌↔◌, List, [], ◌∷◌, ◌++◌, length, refl, inl, inr, ⊎_elim, arith, T_not}
use mathlib.Core.Logic.{⊎_map}
use lib.Dec.{not_T}
use Rattle.theory.specs.Maps.{Map, Sound, turned, listed}
use Rattle.theory.specs.Chains.{On}
use Rattle.theory.specs.Counts.{count}
use Rattle.theory.specs.Ranks.{rank_in, Once, Orders}
use Rattle.theory.specs.Labels.{InLabel, OutLabel}
use Rattle.theory.specs.Lists.{picked, in_labels, out_labels, total, differing, either, labels_changed}
use Rattle.theory.specs.Sizes.{Stands, Changed, rows_total, one_of, rows_changed, TotalCounted, ChangedCounted, TotalByRows, ChangedByRows}
use Rattle.theory.proofs.Tests.{decided}
use Rattle.theory.proofs.Maps.{turned-sound, turned-orders}
use Rattle.theory.proofs.Chains.{heard-first, heard-last}
use Rattle.theory.proofs.Lists.{on-picked, once-picked, listed-on, labels-of}
use Rattle.theory.proofs.Tables.{says-in, says-out}
use Rattle.theory.proofs.Sizes.{number-alone, list-number, row_number, differing-number, by_row, by_list, counted}

-- one of two facts holds, and not both
abbrev OneSide : Type 0 → Type 0 → Type 0
OneSide P Q = (P × (Q → ⊥)) ⊎ ((P → ⊥) × Q)

one_side : (P Q X Y : Type 0) → P ↔ X → Q ↔ Y → OneSide P Q → OneSide X Y
one_side P Q X Y p q = ⊎_map (λ (i, far). (p.0 i, λ y. far (q.1 y))) (λ (far, j). (λ x. far (p.1 x), q.0 j))

-- both lists
on-append : (xs ys : List ℕ) (u : ℕ) → On u (xs ++ ys) ↔ (On u xs ⊎ On u ys)
on-append [] ys u = (inr, ⊎_elim absurd (λ k. k))
on-append (x ∷ xs) ys u =
    let ih = on-append xs ys u in
    (⊎_elim (λ e. inl (inl e)) (λ k. ⊎_map inr (λ q. q) (ih.0 k)), ⊎_elim (⊎_elim inl (λ k. inr (ih.1 (inl k)))) (λ k. inr (ih.1 (inr k))))

once-append : (xs ys : List ℕ) → Once xs → Once ys → ((u : ℕ) → On u xs → On u ys → ⊥) → Once (xs ++ ys)
once-append [] ys a b far = b
once-append (x ∷ xs) ys a b far =
    (λ k. ⊎_elim a.0 (far x (inl refl)) ((on-append xs ys x).0 k), once-append xs ys a.1 b (λ u p q. far u (inr p) q))

on-either : (xs ys : List ℕ) (u : ℕ) → On u xs ⊎ On u ys → On u (either xs ys)
on-either xs ys u k = (on-append xs (picked (λ y. not (listed y xs)) ys) u).1 (⊎_elim inl (λ o. go o (decided (listed u xs))) k)
  where
    go : On u ys → Dec (T (listed u xs)) → On u xs ⊎ On u (picked (λ y. not (listed y xs)) ys)
    go o (yes t) = inl ((listed-on u xs).0 t)
    go o (no t) = inr ((on-picked (λ y. not (listed y xs)) ys u).1 (o, not_T (listed u xs) t))

once-either : (xs ys : List ℕ) → Once xs → Once ys → Once (either xs ys)
once-either xs ys hx hy =
    once-append xs (picked (λ y. not (listed y xs)) ys) hx (once-picked (λ y. not (listed y xs)) ys hy)
    (λ u o p. T_not (listed u xs) ((on-picked (λ y. not (listed y xs)) ys u).0 p).1 ((listed-on u xs).1 o))

-- the labels of a unit are those in its list, and they are there only if it is a unit
module _ (m : Map) (sound : Sound m) (order : List ℕ) (orders : Orders m order) where
  in_list : (u v : ℕ) → InLabel m (rank_in order) u v ↔ On u (in_labels m order v)
  in_list u v = let l = labels-of m sound order orders v in (l.every u, l.only u)

  in-unit : (u v : ℕ) → InLabel m (rank_in order) u v → On v order
  in-unit u v l = orders.every v (heard-last m sound u v l.heard)

  in-standing : (u v : ℕ) → InLabel m (rank_in order) u v ↔ (On v order × On u (in_labels m order v))
  in-standing u v = (λ l. (in-unit u v l, (in_list u v).0 l), λ (o, k). (in_list u v).1 k)

  in-once : (v : ℕ) → Once (in_labels m order v)
  in-once v = (labels-of m sound order orders v).once

pub total-counted : TotalCounted
unfolding total by_list
total-counted m sound order orders =
    let back = turned m in
    let sb = turned-sound m sound in
    let ob = turned-orders m order orders in
    counted by_list (λ v u. On u (in_labels m order v)) (λ v u. On u (out_labels m order v)) (λ v. length (in_labels m order v)) (λ v. length (out_labels m order v))
    (λ v. list-number (by_list.ins v) (by_list.ins-only v) (in_labels m order v) (in-once m sound order orders v))
    (λ v. list-number (by_list.outs v) (by_list.outs-only v) (out_labels m order v) (in-once back sb order ob v))
    (Stands m (rank_in order)) order orders.once (λ v u. in-standing m sound order orders u v) (λ v u. in-standing back sb order ob u v)

-- the in-labels that change at a unit are those in one of its two lists
module _ (m : Map) (sm : Sound m) (order : List ℕ) (om : Orders m order) (n : Map) (sn : Sound n) (after : List ℕ) (on : Orders n after) where
  in-changed : (u v : ℕ) → OneSide (InLabel m (rank_in order) u v) (InLabel n (rank_in after) u v) ↔ (On v (either order after) × OneSide (On u (in_labels m order v)) (On u (in_labels n after v)))
  in-changed u v = (
    λ k. (
      on-either order after v (⊎_map (λ i. in-unit m sm order om u v i.0) (λ i. in-unit n sn after on u v i.1) k),
      one_side (InLabel m (rank_in order) u v) (InLabel n (rank_in after) u v) (On u (in_labels m order v)) (On u (in_labels n after v)) (in_list m sm order om u v) (in_list n sn after on u v) k,
    ),
    λ (o, k). ⊎_map (λ (i, far). ((in_list m sm order om u v).1 i, λ l. far ((in_list n sn after on u v).0 l))) (λ (far, i). (λ l. far ((in_list m sm order om u v).0 l), (in_list n sn after on u v).1 i)) k,
  )

pub changed-counted : ChangedCounted
unfolding labels_changed by_list
changed-counted m sm order om n sn after on =
    let sm' = turned-sound m sm in
    let sn' = turned-sound n sn in
    let om' = turned-orders m order om in
    let on' = turned-orders n after on in
    counted by_list
    (λ v u. OneSide (On u (in_labels m order v)) (On u (in_labels n after v))) (λ v u. OneSide (On u (out_labels m order v)) (On u (out_labels n after v)))
    (λ v. differing (in_labels m order v) (in_labels n after v)) (λ v. differing (out_labels m order v) (out_labels n after v))
    (λ v. differing-number (by_list.ins v) (by_list.ins-only v) (in_labels m order v) (in_labels n after v) (in-once m sm order om v) (in-once n sn after on v))
    (λ v. differing-number (by_list.outs v) (by_list.outs-only v) (out_labels m order v) (out_labels n after v) (in-once (turned m) sm' order om' v) (in-once (turned n) sn' after on' v))
    (Changed m (rank_in order) n (rank_in after)) (either order after) (once-either order after om.once on.once)
    (λ v u. in-changed m sm order om n sn after on u v) (λ v u. in-changed (turned m) sm' order om' (turned n) sn' after on' u v)

-- the ends of a label
module _ (m : Map) (sound : Sound m) (rank : ℕ → ℕ) where
  label-ends : (u v : ℕ) → InLabel m rank u v → T (m.unit u) × (v < 256)
  label-ends u v l =
      let k = sound.high v (heard-last m sound u v l.heard) in
      let low : v < 256 = omega arith in
      (heard-first m sound u v l.heard, low)

pub total-by-rows : TotalByRows
unfolding rows_total count by_row
total-by-rows m sound order orders rows right =
    number-alone (Stands m (rank_in order)) (rows_total rows order) (total m order)
    (counted by_row (λ u v. (v < 256) × T (rows.ins u v)) (λ u v. (v < 256) × T (rows.outs u v)) (λ u. count (rows.ins u)) (λ u. count (rows.outs u))
    (λ u. row_number (by_row.ins u) (by_row.ins-only u) (rows.ins u) 256) (λ u. row_number (by_row.outs u) (by_row.outs-only u) (rows.outs u) 256)
    (Stands m (rank_in order)) order orders.once
    (λ u v. (
      λ l. let e = label-ends m sound (rank_in order) u v l in let o = orders.every u e.0 in (o, (e.1, (says-in m sound (rank_in order) rows u (right u o) v).1 l)),
      λ (o, i). (says-in m sound (rank_in order) rows u (right u o) v).0 i.1,
    ))
    (λ u v. (
      λ l. let e = label-ends (turned m) (turned-sound m sound) (rank_in order) u v l in let o = orders.every u e.0 in (o, (e.1, (says-out m sound (rank_in order) rows u (right u o) v).1 l)),
      λ (o, i). (says-out m sound (rank_in order) rows u (right u o) v).0 i.1,
    )))
    (total-counted m sound order orders)

one-of : (a b : Bool) (P Q : Type 0) → T a ↔ P → T b ↔ Q → T (one_of a b) ↔ OneSide P Q
one-of true true P Q p q = (λ t. absurd t, ⊎_elim (λ k. k.1 (q.0 tt)) (λ k. k.0 (p.0 tt)))
one-of true false P Q p q = (λ t. inl (p.0 tt, q.1), λ k. tt)
one-of false true P Q p q = (λ t. inr (p.1, q.0 tt), λ k. tt)
one-of false false P Q p q = (λ t. absurd t, ⊎_elim (λ k. p.1 k.0) (λ k. q.1 k.1))

pub changed-by-rows : ChangedByRows
unfolding rows_changed count by_row
changed-by-rows m sm order om n sn after on units once um un old new right-old right_new =
    number-alone (Changed m rank n rate) (rows_changed old new units) (labels_changed m order n after)
    (counted by_row (λ u v. (v < 256) × T (one_of (old.ins u v) (new.ins u v))) (λ u v. (v < 256) × T (one_of (old.outs u v) (new.outs u v)))
    (λ u. count (λ v. one_of (old.ins u v) (new.ins u v))) (λ u. count (λ v. one_of (old.outs u v) (new.outs u v)))
    (λ u. row_number (by_row.ins u) (by_row.ins-only u) (λ v. one_of (old.ins u v) (new.ins u v)) 256)
    (λ u. row_number (by_row.outs u) (by_row.outs-only u) (λ v. one_of (old.outs u v) (new.outs u v)) 256)
    (Changed m rank n rate) units once
    (λ u v. sided u v (InLabel m rank u v) (InLabel n rate u v) (label-ends m sm rank u v) (label-ends n sn rate u v) (old.ins u v) (new.ins u v)
    (λ o. says-in m sm rank old u (right-old u o) v) (λ o. says-in n sn rate new u (right_new u o) v))
    (λ u v. sided u v (OutLabel m rank u v) (OutLabel n rate u v) (label-ends (turned m) (turned-sound m sm) rank u v) (label-ends (turned n) (turned-sound n sn) rate u v) (old.outs u v) (new.outs u v)
    (λ o. says-out m sm rank old u (right-old u o) v) (λ o. says-out n sn rate new u (right_new u o) v)))
    (changed-counted m sm order om n sn after on)
  where
    rank : ℕ → ℕ
    rank = rank_in order

    rate : ℕ → ℕ
    rate = rank_in after

    sided : (u v : ℕ) (P Q : Type 0) → (P → T (m.unit u) × (v < 256)) → (Q → T (n.unit u) × (v < 256)) → (a b : Bool) → (On u units → T a ↔ P) → (On u units → T b ↔ Q) → OneSide P Q ↔ (On u units × ((v < 256) × T (one_of a b)))
    sided u v P Q ends ends' a b p q = (
      λ k. let e : On u units × (v < 256) = ⊎_elim (λ i. let r = ends i.0 in (um u r.0, r.1)) (λ i. let r = ends' i.1 in (un u r.0, r.1)) k in
          (e.0, (e.1, (one-of a b P Q (p e.0) (q e.0)).1 k)),
      λ (o, i). (one-of a b P Q (p o) (q o)).0 i.1,
    )
