-- Each change with the routine after it.
use Rattle.std.proofs.Common.{◌≡◌, ℕ, ◌+◌, Bool, true, false, not, ◌&&◌, T, eqb, ◌≢◌, ◌↔◌, List, [], ◌∷◌, sym, refl, ◌∙◌, subst, inl, inr, ⊎_elim, arith}
use mathlib.Core.Logic.Iff
use mathlib.Core.Logic.{⊎_map}
use lib.Dec.{eqb_refl}
use Rattle.std.proofs.lemmas.Bool.{cases_eq}
use Rattle.theory.specs.Maps.{Map, Sound, turned, with_pair, without_pair, without_unit, enrolled}
use Rattle.theory.specs.Chains.{On, Heard}
use Rattle.theory.specs.Counts.{count}
use Rattle.theory.specs.Ranks.{rank_in, inserted, removed, moved, Once, Orders}
use Rattle.theory.specs.Lists.{sum, labels_changed}
use Rattle.theory.specs.Rows.{Rows, Right, AllRight}
use Rattle.theory.specs.Changes.{Frame}
use Rattle.theory.specs.Turns.{turn, relabel}
use Rattle.theory.specs.Sizes.{one_of, rows_changed}
use Rattle.theory.specs.Whole.{tally, TallyOfChanges, emptied, Kept, PairKept, UnpairKept, RankKept, EnrolKept, DropKept, MadeNew}
use Rattle.theory.proofs.Tests.{and-fst, differ, differs}
use Rattle.theory.proofs.Maps.{turned-sound, hidden-sound}
use Rattle.theory.proofs.Counting.{count_same}
use Rattle.theory.proofs.Chains.{heard-first}
use Rattle.theory.proofs.Ranks.{on-removed, removed-off, on-inserted}
use Rattle.theory.proofs.HiddenUnits.{clear-unit}
use Rattle.theory.proofs.Frames.{pair-frame, unpair-frame, with-pair-sound, without-pair-sound, drop-frame, rank-frame}
use Rattle.theory.proofs.Enrols.{enrol-frame, enrol-area, enrolled-sound, drop_orders, enrol_orders, rank_orders}
use Rattle.theory.proofs.Tables.{decided-by}
use Rattle.theory.proofs.Turns.{SameRows, right-same, turn-same, relabelled, frame-settled}
use Rattle.theory.proofs.Totals.{changed-by-rows}

changes-same : (a b c d : Rows) (us : List ℕ) → ((u : ℕ) → On u us → SameRows a c u) → ((u : ℕ) → On u us → SameRows b d u) → rows_changed a b us ≡ rows_changed c d us
unfolding rows_changed sum
changes-same a b c d [] p q = refl
changes-same a b c d (u ∷ us) p q =
    let x = p u (inl refl) in
    let y = q u (inl refl) in
    let i = count_same (λ v. one_of (a.ins u v) (b.ins u v)) (λ v. one_of (c.ins u v) (d.ins u v)) (λ v. let e = x.ins v in let f = y.ins v in cc) in
    let o = count_same (λ v. one_of (a.outs u v) (b.outs u v)) (λ v. one_of (c.outs u v) (d.outs u v)) (λ v. let e = x.outs v in let f = y.outs v in cc) in
    let r = changes-same a b c d us (λ w k. p w (inr k)) (λ w k. q w (inr k)) in
    cc

same_self : (a : Rows) (u : ℕ) → SameRows a a u
same_self a u = record { ins = λ v. refl; outs = λ v. refl }

same-sym : (a b : Rows) (u : ℕ) → SameRows a b u → SameRows b a u
same-sym a b u s = record { ins = λ v. sym (s.ins v); outs = λ v. sym (s.outs v) }

module _ (m : Map) (order : List ℕ) (a d : ℕ → Bool) where
  relabel-same : (us : List ℕ) (rows : Rows) (w : ℕ) → (On w us → ⊥) → SameRows (relabel m order a d us rows) rows w
  unfolding relabel
  relabel-same [] rows w far = same_self rows w
  relabel-same (u ∷ us) rows w far =
      let r = relabel-same us (turn m order a d u rows) w (λ o. far (inr o)) in
      let t = turn-same m order a d rows u w (λ e. far (inl e)) in
      record { ins = λ v. r.ins v ∙ t.ins v; outs = λ v. r.outs v ∙ t.outs v }

  tally-sum : (us : List ℕ) (rows : Rows) → Once us → tally m order a d us rows ≡ rows_changed rows (relabel m order a d us rows) us
  unfolding relabel tally rows_changed sum
  tally-sum [] rows h = refl
  tally-sum (u ∷ us) rows h =
      let t = turn m order a d u rows in
      let last = relabel m order a d us t in
      let here = changes-same rows t rows last (u ∷ []) (λ w o. same_self rows w) (λ w o. same-sym last t w (relabel-same us t w (⊎_elim (λ e k. h.0 (subst (λ z. On z us) e k)) absurd o))) in
      let rest = changes-same t last rows last us (λ w o. turn-same m order a d rows u w (λ e. h.0 (subst (λ z. On z us) e o))) (λ w o. same_self last w) in
      omega (arith, here, rest, tally-sum us t h.1)

pub tally-of-changes : TallyOfChanges
tally-of-changes m order a d rows h = tally-sum m order a d order rows h

-- a change in a frame, over sets that are decided by tests
module _ (m n : Map) (sm : Sound m) (sn : Sound n) (order after : List ℕ) (orders : Orders m order) (orders' : Orders n after) (a d : ℕ → Bool) (frame : Frame m (rank_in order) n (rank_in after) (λ u. T (a u)) (λ v. T (d v))) where
  frame_right : (rows : Rows) → ((u : ℕ) → On u after → Right m (rank_in order) rows u) → AllRight n after (relabel n after a d after rows)
  frame_right rows right = relabelled n sn after orders' a d rows (λ u o. frame-settled m sm (rank_in order) n sn (rank_in after) a d frame rows u (right u o))

  -- the units of the one order are in the other too
  frame-kept : ((u : ℕ) → On u order → On u after) → (rows : Rows) → ((u : ℕ) → On u after → Right m (rank_in order) rows u) → Kept m order n after a d rows
  frame-kept more rows right = record {
    right = frame_right rows right;
    counted = tally-of-changes n after a d rows orders'.once
        ∙ changed-by-rows m sm order orders n sn after orders' after orders'.once (λ u t. more u (orders.every u t)) orders'.every rows (relabel n after a d after rows) right (frame_right rows right);
  }

-- a frame over sets holds over their tests
decide : (m : Map) (rank : ℕ → ℕ) (n : Map) (rate : ℕ → ℕ) (A D : ℕ → Type 0) (a d : ℕ → Bool) → ((u : ℕ) → T (a u) ↔ A u) → ((v : ℕ) → T (d v) ↔ D v) → Frame m rank n rate A D → Frame m rank n rate (λ u. T (a u)) (λ v. T (d v))
decide m rank n rate A D a d ea ed frame u v far = frame u v (λ p q. far ((ea u).1 p) ((ed v).1 q))

pub pair-kept : PairKept
pair-kept m sound order orders rows right x y ux uy ne a d ea ed =
    let n = with_pair x y m in
    frame-kept m n sound (with-pair-sound m sound x y ux uy ne) order order orders (record { every = orders.every; only = orders.only; once = orders.once }) a d
    (decide m (rank_in order) n (rank_in order) (λ u. Heard m u x) (λ v. Heard m y v) a d ea ed (pair-frame m sound x y ux uy ne (rank_in order))) (λ u o. o) rows right

pub unpair-kept : UnpairKept
unpair-kept m sound order orders rows right x y a d ea ed =
    let n = without_pair x y m in
    frame-kept m n sound (without-pair-sound m sound x y) order order orders (record { every = orders.every; only = orders.only; once = orders.once }) a d
    (decide m (rank_in order) n (rank_in order) (λ u. Heard m u x) (λ v. Heard m y v) a d ea ed (unpair-frame m sound x y (rank_in order))) (λ u o. o) rows right

pub rank-kept : RankKept
rank-kept m sound order orders rows right x ux k a d ea ed =
    let o' = rank_orders m order orders x ux k in
    frame-kept m m sound sound order (moved k x order) orders o' a d
    (decide m (rank_in order) m (rank_in (moved k x order)) (λ u. Heard m u x) (λ v. Heard m x v) a d ea ed (rank-frame m sound order x k))
    (λ u o. o'.every u (orders.only u o)) rows (λ u o. right u (orders.every u (o'.only u o)))

-- the rows of what is no unit are empty
no-unit-right : (m : Map) → Sound m → (rank : ℕ → ℕ) (rows : Rows) (x : ℕ) → (T (m.unit x) → ⊥) → ((v : ℕ) → (T (rows.ins x v) → ⊥) × (T (rows.outs x v) → ⊥)) → Right m rank rows x
no-unit-right m sound rank rows x fresh none = record {
  ins = λ v. decided-by m sound rank x v (rows.ins x v) (λ t. absurd ((none v).0 t), λ l. absurd (fresh (heard-first m sound x v l.heard)));
  outs = λ v. decided-by (turned m) (turned-sound m sound) rank x v (rows.outs x v)
      (λ t. absurd ((none v).1 t), λ l. absurd (fresh (heard-first (turned m) (turned-sound m sound) x v l.heard)));
}

pub enrol-kept : EnrolKept
enrol-kept m sound order orders rows right x sources listeners new none k a d ea ed =
    let n = enrolled x sources listeners m in
    let o' = enrol_orders m order orders x sources listeners new.fresh k in
    let area = enrol-area m sound x sources listeners new in
    frame-kept m n sound (enrolled-sound m sound x sources listeners new) order (inserted k x order) orders o' a d
    (decide m (rank_in order) n (rank_in (inserted k x order)) (λ u. Heard n u x) (λ v. Heard n x v) a d
    (λ u. Iff.trans (ea u) (Iff.symm (area u).0)) (λ v. Iff.trans (ed v) (Iff.symm (area v).1)) (enrol-frame m sound order orders x sources listeners new k))
    (λ u o. (on-inserted k x order u).1 (inr o)) rows
    (λ u o. ⊎_elim (λ e. subst (λ z. Right m (rank_in order) rows z) (sym e) (no-unit-right m sound (rank_in order) rows x new.fresh none)) (right u) ((on-inserted k x order u).0 o))

pub made-new : MadeNew
made-new m sound order orders rows a all =
    relabelled m sound order orders a a rows (λ u o. record { ins = λ far. absurd (far (all u o)); outs = λ far. absurd (far (all u o)) })

-- emptied rows
module _ (x : ℕ) (rows : Rows) where
  emptied-other : (u : ℕ) → u ≢ x → SameRows (emptied x rows) rows u
  emptied-other u ne = record { ins = λ v. kept (not (eqb u x)) (rows.ins u v) (differs u x ne); outs = λ v. kept (not (eqb u x)) (rows.outs u v) (differs u x ne) }
    where
      kept : (a b : Bool) → T a → (a && b) ≡ b
      kept true b t = refl
      kept false b t = absurd t

  emptied-here : (v : ℕ) → (T ((emptied x rows).ins x v) → ⊥) × (T ((emptied x rows).outs x v) → ⊥)
  emptied-here v = (λ t. differ x x (and-fst (not (eqb x x)) _ t) refl, λ t. differ x x (and-fst (not (eqb x x)) _ t) refl)

-- a row against an empty one differs by its members
alone : (f g : ℕ → Bool) → ((v : ℕ) → T (g v) → ⊥) → count (λ v. one_of (f v) (g v)) ≡ count f
alone f g none = count_same (λ v. one_of (f v) (g v)) f (λ v. lone (f v) (g v) (none v))
  where
    lone : (a b : Bool) → (T b → ⊥) → one_of a b ≡ a
    lone true true far = absurd (far tt)
    lone true false far = refl
    lone false true far = absurd (far tt)
    lone false false far = refl

module _ (m : Map) (sound : Sound m) (order : List ℕ) (orders : Orders m order) (rows : Rows) (right : AllRight m order rows) (x : ℕ) (a d : ℕ → Bool) (ea : (u : ℕ) → T (a u) ↔ Heard m u x) (ed : (v : ℕ) → T (d v) ↔ Heard m x v) where
  others : (u : ℕ) → On u (removed x order) → On u order × (u ≢ x)
  others u o = (on-removed order x u).0 o

  drop-right : AllRight (without_unit x m) (removed x order) (relabel (without_unit x m) (removed x order) a d (removed x order) (emptied x rows))
  drop-right =
      frame_right m (without_unit x m) sound (hidden-sound (λ y. eqb y x) m sound) order (removed x order) orders (drop_orders m order orders x) a d
      (decide m (rank_in order) (without_unit x m) (rank_in (removed x order)) (λ u. Heard m u x) (λ v. Heard m x v) a d ea ed (drop-frame m sound order x))
      (emptied x rows) (λ u o. let k = others u o in right-same m (rank_in order) (emptied x rows) rows u (emptied-other x rows u k.1) (right u k.0))

  drop-counted : T (m.unit x) → count (rows.ins x) + count (rows.outs x) + tally (without_unit x m) (removed x order) a d (removed x order) (emptied x rows) ≡ labels_changed m order (without_unit x m) (removed x order)
  unfolding rows_changed sum
  drop-counted ux =
      let i = alone (rows.ins x) (last.ins x) (λ v. (none v).0) in
      let o = alone (rows.outs x) (last.outs x) (λ v. (none v).1) in
      let t = tally-of-changes n (removed x order) a d (emptied x rows) (drop_orders m order orders x).once in
      let s = changes-same (emptied x rows) last rows last (removed x order) (λ u k. emptied-other x rows u (others u k).1) (λ u k. same_self last u) in
      omega (arith, i, o, t, s, all)
    where
      n : Map
      n = without_unit x m

      last : Rows
      last = relabel (without_unit x m) (removed x order) a d (removed x order) (emptied x rows)

      off : On x (removed x order) → ⊥
      off = removed-off x order

      same : SameRows last (emptied x rows) x
      same = relabel-same (without_unit x m) (removed x order) a d (removed x order) (emptied x rows) x off

      none : (v : ℕ) → (T (last.ins x v) → ⊥) × (T (last.outs x v) → ⊥)
      none v = let e = emptied-here x rows v in (λ t. e.0 (subst T (same.ins v) t), λ t. e.1 (subst T (same.outs v) t))

      gone : T (n.unit x) → ⊥
      gone t = clear-unit (λ y. eqb y x) m x t (eqb_refl x)

      all : rows_changed rows last (x ∷ removed x order) ≡ labels_changed m order (without_unit x m) (removed x order)
      all =
          changed-by-rows m sound order orders n (hidden-sound (λ y. eqb y x) m sound) (removed x order) (drop_orders m order orders x) (x ∷ removed x order) (off, (drop_orders m order orders x).once)
          (λ u t. ⊎_map (λ e. e) (λ ne. (on-removed order x u).1 (orders.every u t, ne)) (cases_eq u x))
          (λ u t. inr ((drop_orders m order orders x).every u t))
          rows last
          (λ u o. ⊎_elim (λ e. subst (λ z. Right m (rank_in order) rows z) (sym e) (right x (orders.every x ux))) (λ k. right u (others u k).0) o)
          (λ u o. ⊎_elim (λ e. subst (λ z. Right n (rank_in (removed x order)) last z) (sym e) (no-unit-right n (hidden-sound (λ y. eqb y x) m sound) (rank_in (removed x order)) last x gone none)) (drop-right u) o)

pub drop-kept : DropKept
drop-kept m sound order orders rows right x ux a d ea ed =
    (drop-right m sound order orders rows right x a d ea ed, drop-counted m sound order orders rows right x a d ea ed ux)
