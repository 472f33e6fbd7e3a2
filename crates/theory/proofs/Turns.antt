-- The routine makes the rows right.
use Rattle.std.proofs.Common.{◌≡◌, ℕ, suc, ◌<◌, Bool, true, false, cond, not, ◌&&◌, ◌||◌, T, eqb, ◌≢◌, ◌⊎◌, ◌↔◌, List, [], ◌∷◌, sym, refl, ap, ◌∙◌, subst, inl, inr, ⊎_elim, arith, eqb→eq}
use mathlib.Core.Logic.Iff
use mathlib.Core.Logic.{⊎_map}
use lib.Dec.{eqb_refl}
use Rattle.std.proofs.lemmas.Bool.{cases_eq, cond-true, cond-false, eq-eqb, ne_eqb}
use Rattle.theory.specs.Maps.{Map, Sound, turned, hidden}
use Rattle.theory.specs.Chains.{On, Heard}
use Rattle.theory.specs.Hearing.{is_heard}
use Rattle.theory.specs.Ranks.{rank_in, Orders}
use Rattle.theory.specs.Labels.{InLabel, is_in_label}
use Rattle.theory.specs.Lists.{Ascending}
use Rattle.theory.specs.Rows.{Rows, Right, RightBefore, Through, turned_rows}
use Rattle.theory.specs.Turns.{marked, new_row, turn, relabel, Settled, Relabelled, FrameSettled, RowBySets}
use Rattle.theory.proofs.Tests.{and-fst, and-snd, and_both, or-either, or_fst, or_snd, decided, differ, differs, passed}
use Rattle.theory.proofs.Maps.{turned-sound, turned-orders, hidden-sound}
use Rattle.theory.proofs.Warshall.{heard-sound, heard-complete}
use Rattle.theory.proofs.Ranks.{rank-here, rank-next, rank-pos}
use Rattle.theory.proofs.Lists.{ascends}
use Rattle.theory.proofs.Walks.{row-by-cover}
use Rattle.theory.proofs.Tables.{turned_right, decided-by, says-in, says-out, next_row}

module _ (rows : Rows) (u x : ℕ) where
  -- w leads from u to x
  abbrev Leads : ℕ → Type 0
  Leads w = T (rows.outs w u) × (T (rows.ins w x) ⊎ (w ≡ x))

  leads : (w : ℕ) → T (rows.outs w u && (rows.ins w x || eqb w x)) ↔ Leads w
  leads w = (
    λ t. (and-fst (rows.outs w u) _ t, ⊎_map (λ p. p) (eqb→eq w x) (or-either (rows.ins w x) (eqb w x) (and-snd (rows.outs w u) (rows.ins w x || eqb w x) t))),
    λ (t, r). and_both (rows.outs w u) _ t (⊎_elim (or_fst (rows.ins w x) _) (λ e. or_snd (rows.ins w x) _ (subst (λ z. T (eqb w z)) e (eqb_refl w))) r),
  )

  abbrev Found : List ℕ → Type 0
  Found ws = (w : ℕ) × On w ws × (rank_in ws w < rank_in ws u) × Leads w

  marked-found : (ws : List ℕ) → T (marked ws rows u x) ↔ Found ws
  unfolding marked
  marked-found [] = (λ t. absurd t, λ (w, o, less, k). absurd o)
  marked-found (y ∷ ys) = go (cases_eq y u) (marked-found ys)
    where
      go : (y ≡ u) ⊎ (y ≡ u → ⊥) → T (marked ys rows u x) ↔ Found ys → T (cond (eqb y u) false ((rows.outs y u && (rows.ins y x || eqb y x)) || marked ys rows u x)) ↔ Found (y ∷ ys)
      go (inl e) ih = subst (λ b. T b ↔ Found (y ∷ ys)) (sym (cond-true (eqb y u) false _ (eq-eqb y u e))) (λ t. absurd t, λ (w, o, less, k). none w less)
        where
          none : (w : ℕ) → rank_in (y ∷ ys) w < rank_in (y ∷ ys) u → ⊥
          none w less = omega (arith, less, rank-here y ys u (sym e), rank-pos (y ∷ ys) w)
      go (inr ne) ih = subst (λ b. T b ↔ Found (y ∷ ys)) (sym (cond-false (eqb y u) false _ (ne_eqb y u ne))) (there, back)
        where
          next : rank_in (y ∷ ys) u ≡ suc (rank_in ys u)
          next = rank-next y ys u (λ e. ne (sym e))

          below : (w : ℕ) → rank_in ys w < rank_in ys u → rank_in (y ∷ ys) w < rank_in (y ∷ ys) u
          below w less = ⊎_elim (λ e. omega (arith, less, next, rank-here y ys w e)) (λ k. omega (arith, less, next, rank-next y ys w k)) (cases_eq w y)

          there : T ((rows.outs y u && (rows.ins y x || eqb y x)) || marked ys rows u x) → Found (y ∷ ys)
          there t =
              ⊎_elim (λ p. (y, inl refl, omega (arith, next, rank-here y ys y refl, rank-pos ys u), (leads y).0 p))
              (λ p. let r = ih.0 p in (r.0, inr r.1, below r.0 r.2, r.3)) (or-either (rows.outs y u && (rows.ins y x || eqb y x)) (marked ys rows u x) t)

          back : Found (y ∷ ys) → T ((rows.outs y u && (rows.ins y x || eqb y x)) || marked ys rows u x)
          back (w, o, less, k) = pick (cases_eq w y) o
            where
              pick : (w ≡ y) ⊎ (w ≡ y → ⊥) → On w (y ∷ ys) → T ((rows.outs y u && (rows.ins y x || eqb y x)) || marked ys rows u x)
              pick (inl e) p = or_fst (rows.outs y u && (rows.ins y x || eqb y x)) _ ((leads y).1 (subst Leads e k))
              pick (inr f) (inl e) = absurd (f e)
              pick (inr f) (inr p) = or_snd (rows.outs y u && (rows.ins y x || eqb y x)) _ (ih.1 (w, p, omega (arith, less, next, rank-next y ys w f), k))

  marked-through : (ws : List ℕ) → T (marked ws rows u x) ↔ Through ws rows u x
  marked-through ws =
      let f = marked-found ws in
      (λ t. let r = f.0 t in (r.0, r.1, r.2, r.3.0, r.3.1), λ (w, o, less, t, k). f.1 (w, o, less, (t, k)))

-- the new row is right where the rows of the units before u are
module _ (m : Map) (sound : Sound m) (order : List ℕ) (orders : Orders m order) (rows : Rows) (u : ℕ) (right : RightBefore m order rows u) where
  new-right : (v : ℕ) → new_row m order rows u v ≡ is_in_label m (rank_in order) u v
  unfolding new_row
  new-right v = decided-by m sound (rank_in order) u v (new_row m order rows u v) (
    λ t. next.1 (differ u v (and-fst (not (eqb u v)) _ t), heard-sound hid hid-sound u v (and-snd (not (eqb u v)) (is_heard hid u v) t)),
    λ l. let r = next.0 l in and_both (not (eqb u v)) _ (differs u v r.0) (heard-complete hid hid-sound u v r.1),
  )
    where
      hid : Map
      hid = hidden (marked order rows u) m

      hid-sound : Sound hid
      hid-sound = hidden-sound (marked order rows u) m sound

      next : InLabel m (rank_in order) u v ↔ ((u ≢ v) × Heard (hidden (marked order rows u) m) u v)
      next = next_row m sound order orders rows u right (marked order rows u) (record { every = λ x d. (marked-through rows u x order).1; only = λ x t. inl ((marked-through rows u x order).0 t) }) v

-- a turn writes the rows of u alone
module _ (b : Bool) (u x : ℕ) (new old : Bool) where
  set_here : T b → x ≡ u → cond (b && eqb x u) new old ≡ new
  set_here t e = cond-true (b && eqb x u) new old (passed (b && eqb x u) (and_both b (eqb x u) t (subst (λ z. T (eqb x z)) e (eqb_refl x))))

  pub set_other : (T b → x ≡ u → ⊥) → cond (b && eqb x u) new old ≡ old
  set_other far = cond-false (b && eqb x u) new old (failed (b && eqb x u) (λ t. far (and-fst b (eqb x u) t) (eqb→eq x u (and-snd b (eqb x u) t))))
    where
      failed : (c : Bool) → (T c → ⊥) → c ≡ false
      failed true k = absurd (k tt)
      failed false k = refl

-- two tables that have the same rows of u
pub record SameRows (old new : Rows) (u : ℕ) : Type 0 where
  pub ins : (v : ℕ) → old.ins u v ≡ new.ins u v
  pub outs : (v : ℕ) → old.outs u v ≡ new.outs u v

pub right-same : (m : Map) (rank : ℕ → ℕ) (a b : Rows) (u : ℕ) → SameRows a b u → Right m rank b u → Right m rank a u
right-same m rank a b u s r = record { ins = λ v. s.ins v ∙ r.ins v; outs = λ v. s.outs v ∙ r.outs v }

module _ (m : Map) (order : List ℕ) (a d : ℕ → Bool) (rows : Rows) (u : ℕ) where
  -- the rows of another unit are as they were
  pub turn-same : (w : ℕ) → w ≢ u → SameRows (turn m order a d u rows) rows w
  unfolding turn
  turn-same w ne = record {
    ins = λ v. set_other (a u) u w _ (rows.ins w v) (λ t e. ne e);
    outs = λ v. set_other (d u) u w _ (rows.outs w v) (λ t e. ne e);
  }

  turn-settled : (w : ℕ) → w ≢ u → Settled m (rank_in order) rows a d w → Settled m (rank_in order) (turn m order a d u rows) a d w
  turn-settled w ne r = let s = turn-same w ne in record { ins = λ far v. s.ins v ∙ r.ins far v; outs = λ far v. s.outs v ∙ r.outs far v }

module _ (m : Map) (sound : Sound m) (order : List ℕ) (orders : Orders m order) (a d : ℕ → Bool) where
  -- the rows of u are right after its turn
  turn-here : (rows : Rows) (u : ℕ) → RightBefore m order rows u → Settled m (rank_in order) rows a d u → Right m (rank_in order) (turn m order a d u rows) u
  unfolding turn
  turn-here rows u right s = record {
    ins = λ v. pick-in v (decided (a u));
    outs = λ v. pick_out v (decided (d u));
  }
    where
      pick-in : (v : ℕ) → Dec (T (a u)) → (turn m order a d u rows).ins u v ≡ is_in_label m (rank_in order) u v
      pick-in v (yes t) = set_here (a u) u u (new_row m order rows u v) (rows.ins u v) t refl ∙ new-right m sound order orders rows u right v
      pick-in v (no t) = set_other (a u) u u (new_row m order rows u v) (rows.ins u v) (λ k e. t k) ∙ s.ins t v

      pick_out : (v : ℕ) → Dec (T (d u)) → (turn m order a d u rows).outs u v ≡ is_in_label (turned m) (rank_in order) u v
      pick_out v (yes t) =
          set_here (d u) u u (new_row (turned m) order (turned_rows rows) u v) (rows.outs u v) t refl
          ∙ new-right (turned m) (turned-sound m sound) order (turned-orders m order orders) (turned_rows rows) u (λ w o less. turned_right m (rank_in order) rows w (right w o less)) v
      pick_out v (no t) = set_other (d u) u u (new_row (turned m) order (turned_rows rows) u v) (rows.outs u v) (λ k e. t k) ∙ s.outs t v

module _ (m : Map) (sound : Sound m) (order : List ℕ) (orders : Orders m order) (a d : ℕ → Bool) where
  -- each unit's rows are right, or its turn is to come and what that leaves alone is right
  abbrev Ready : List ℕ → Rows → Type 0
  Ready rest rows = (w : ℕ) → On w order → Right m (rank_in order) rows w ⊎ (On w rest × Settled m (rank_in order) rows a d w)

  right-settled : (rows : Rows) (w : ℕ) → Right m (rank_in order) rows w → Settled m (rank_in order) rows a d w
  right-settled rows w r = record { ins = λ far. r.ins; outs = λ far. r.outs }

  ready-next : (u : ℕ) (us : List ℕ) (rows : Rows) → Ascending (rank_in order) (u ∷ us) → Ready (u ∷ us) rows → Ready us (turn m order a d u rows)
  ready-next u us rows up ready w o = go (cases_eq w u) (ready w o)
    where
      before : (x : ℕ) → On x order → rank_in order x < rank_in order u → Right m (rank_in order) rows x
      before x p less = ⊎_elim (λ r. r) (λ r. absurd (⊎_elim (λ e. same x e less) (λ q. omega (arith, less, up.0 x q)) r.0)) (ready x p)
        where
          same : (x : ℕ) → x ≡ u → rank_in order x < rank_in order u → ⊥
          same x e less = let k : rank_in order x ≡ rank_in order u = ap (rank_in order) e in omega arith

      go : (w ≡ u) ⊎ (w ≡ u → ⊥) → Right m (rank_in order) rows w ⊎ (On w (u ∷ us) × Settled m (rank_in order) rows a d w) → Right m (rank_in order) (turn m order a d u rows) w ⊎ (On w us × Settled m (rank_in order) (turn m order a d u rows) a d w)
      go (inl e) r =
          inl (subst (λ z. Right m (rank_in order) (turn m order a d u rows) z) (sym e)
          (turn-here m sound order orders a d rows u before (subst (λ z. Settled m (rank_in order) rows a d z) e (⊎_elim (right-settled rows w) (λ k. k.1) r))))
      go (inr ne) (inl r) = inl (right-same m (rank_in order) (turn m order a d u rows) rows w (turn-same m order a d rows u w ne) r)
      go (inr ne) (inr (inl e, s)) = absurd (ne e)
      go (inr ne) (inr (inr p, s)) = inr (p, turn-settled m order a d rows u w ne s)

  loop : (rest : List ℕ) (rows : Rows) → Ascending (rank_in order) rest → Ready rest rows → (w : ℕ) → On w order → Right m (rank_in order) (relabel m order a d rest rows) w
  unfolding relabel
  loop [] rows up ready w o = ⊎_elim (λ r. r) (λ r. absurd r.0) (ready w o)
  loop (u ∷ us) rows up ready w o = loop us (turn m order a d u rows) up.1 (ready-next u us rows up ready) w o

pub relabelled : Relabelled
relabelled m sound order orders a d rows settled u o = loop m sound order orders a d order rows (ascends order orders.once) (λ w p. inr (p, settled w p)) u o

pub frame-settled : FrameSettled
frame-settled m sm rank n sn rate a d frame rows u r = record {
  ins = λ far v. decided-by n sn rate u v (rows.ins u v) (Iff.trans (says-in m sm rank rows u r v) (frame u v (λ p q. far p)).0);
  outs = λ far v. decided-by (turned n) (turned-sound n sn) rate u v (rows.outs u v) (Iff.trans (says-out m sm rank rows u r v) (frame v u (λ p q. far q)).1);
}

-- a row outside a set stays, and inside it all is heard
by-set : {New Old Free : Type 0} (b : Bool) → ((T b → ⊥) → Old ↔ New) → (T b → New ↔ Free) → New ↔ (((T b → ⊥) × Old) ⊎ (T b × Free))
by-set true outside inside = let k = inside tt in (λ n. inr (tt, k.0 n), ⊎_elim (λ p. absurd (p.0 tt)) (λ p. k.1 p.1))
by-set false outside inside = let k = outside (λ t. t) in (λ n. inl (λ t. t, k.1 n), ⊎_elim (λ p. k.0 p.1) (λ p. absurd p.0))

flat : {N P A B C : Type 0} → N ↔ (P ⊎ (A × (B × C))) → N ↔ (P ⊎ (A × B × C))
flat h = (λ n. ⊎_map (λ p. p) (λ q. (q.0, q.1.0, q.1.1)) (h.0 n), λ r. h.1 (⊎_map (λ p. p) (λ (a, b, c). (a, (b, c))) r))

pub row-by-sets : RowBySets
row-by-sets m rank n sound order orders a d frame full u v ta = flat (by-set (d v) (λ far. (frame u v (λ p q. far q)).0)
    (λ td. let r = row-by-cover n sound order orders u v in (λ l. let k = r.0 l in (k.0, k.2), λ (ne, c). r.1 (ne, full u v ta td, c))))
