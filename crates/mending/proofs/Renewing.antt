-- The rows made new one after another, the highest first: those done are right, and those to come are as they were.
use Rattle.std.proofs.Common.{◌≡◌, ℕ, suc, ◌+◌, ◌<◌, ◌≤◌, Bool, T, ◌≢◌, List, length, get_or, sym, refl, ap, ◌∙◌, subst, inl, inr, ⊎_elim, arith}
use Rattle.std.proofs.lemmas.Bool.{cases_eq}
use Rattle.theory.specs.Maps.{Map, Sound, turned}
use Rattle.theory.specs.Chains.{On}
use Rattle.theory.specs.Ranks.{rank_in, Once, Orders}
use Rattle.theory.specs.Labels.{is_in_label}
use Rattle.theory.specs.Rows.{Right, RightBefore}
use Rattle.theory.specs.Turns.{Settled}
use Rattle.theory.proofs.Distinct.{on-at, at_on, rank-at, at_most}
use Rattle.labels.specs.declared.Holders.{Holders}
use Rattle.labels.specs.declared.Labels.{Labels}
use Rattle.labels.specs.Holding.{holds, rows_of}
use Rattle.mending.specs.Steps.{rows, difference, changed, Renewed, RenewedTo}
use Rattle.mending.proofs.Differences.{difference-none, difference-both}

-- x is none of the first k
abbrev Later : List ℕ → ℕ → ℕ → Type 0
Later order k x = (i : ℕ) → i < k → get_or order i 0 ≢ x

-- the rows of all but the first k are as they were
abbrev Kept : List ℕ → ℕ → Holders → Holders → Type 0
Kept order k old new = (x : ℕ) → Later order k x → (v : ℕ) → holds new x v ≡ holds old x v

-- numbers at two places differ
places-apart : (order : List ℕ) → Once order → (i k : ℕ) → i < k → k < length order → get_or order i 0 ≢ get_or order k 0
places-apart order once i k h here e =
    let same : rank_in order (get_or order i 0) ≡ rank_in order (get_or order k 0) = ap (rank_in order) e in
    omega (arith, same, rank-at order once i (omega arith), rank-at order once k here)

-- one row of one side
module _ (m : Map) (order : List ℕ) (once : Once order) (k : ℕ) (here : k < length order) (may : ℕ → Bool) (old ins outs new : Holders) (kept : Kept order k old ins)
    (r : Renewed m order (get_or order k 0) may ins outs new) where
  abbrev u : ℕ
  u = get_or order k 0

  later : Later order k u
  later i h = places-apart order once i k h here

  kept_more : Kept order (k + 1) old new
  kept_more x far v = r.others x (λ e. far k (omega arith) (sym e)) v ∙ kept x (λ i h. far i (omega arith)) v

  number_more : difference (holds old) (holds new) ≡ difference (holds old) (holds ins) + difference (holds ins) (holds new)
  number_more = difference-both (holds old) (holds ins) (holds new) (λ x. ⊎_elim (λ e. inl (λ v. kept x (λ i h at. later i h (at ∙ e)) v)) (λ ne. inr (r.others x ne)) (cases_eq x u))

  row_same : (i : ℕ) → i < k → (v : ℕ) → holds new (get_or order i 0) v ≡ holds ins (get_or order i 0) v
  row_same i h = r.others (get_or order i 0) (places-apart order once i k h here)

  row-right : ((T (may u) → ⊥) → (v : ℕ) → holds old u v ≡ is_in_label m (rank_in order) u v) → ((i : ℕ) → i < k → Right m (rank_in order) (rows ins outs) (get_or order i 0)) →
      (v : ℕ) → holds new u v ≡ is_in_label m (rank_in order) u v
  row-right settled done = r.right (λ far y. kept u later y ∙ settled far y) before
    where
      before : RightBefore m order (rows ins outs) (get_or order k 0)
      before w o less =
          let p = at_on order w o in
          let at : rank_in order w ≡ suc p.0 = subst (λ (z : ℕ). rank_in order z ≡ suc p.0) p.2 (rank-at order once p.0 p.1) in
          subst (λ (z : ℕ). Right m (rank_in order) (rows ins outs) z) p.2 (done p.0 (omega (arith, rank-at order once k here)))

pub renewed-none : (m : Map) (order : List ℕ) (ups downs : ℕ → Bool) (old : Labels) → RenewedTo 0 m order ups downs old old 0
renewed-none m order ups downs old = record {
  right = λ _ i h. absurd (omega arith);
  other_ins = λ x far v. refl;
  other_outs = λ x far v. refl;
  number = omega (arith, difference-none (holds old.ins), difference-none (holds old.outs));
  most = omega arith;
}

-- both rows of the unit at place k
module _ (m : Map) (order : List ℕ) (orders : Orders m order) (ups downs : ℕ → Bool) (k : ℕ) (here : k < length order) (old now new : Labels) (n c : ℕ)
    (ri : Renewed m order (get_or order k 0) ups now.ins now.outs new.ins) (ro : Renewed (turned m) order (get_or order k 0) downs now.outs new.ins new.outs)
    (number : c ≡ changed now new) (most : c ≤ 512) (so_far : RenewedTo k m order ups downs old now n) where
  module _ (settled : (u : ℕ) → On u order → Settled m (rank_in order) (rows_of old) ups downs u) where
    done : (i : ℕ) → i < k → Right m (rank_in order) (rows_of now) (get_or order i 0)
    done = so_far.right settled

    -- the rows of the units before, as the turn leaves them
    same-ins : (i : ℕ) → i < k → (v : ℕ) → holds new.ins (get_or order i 0) v ≡ is_in_label m (rank_in order) (get_or order i 0) v
    same-ins i h v = row_same m order orders.once k here ups old.ins now.ins now.outs new.ins so_far.other_ins ri i h v ∙ (done i h).ins v

    same-outs : (i : ℕ) → i < k → (v : ℕ) → holds new.outs (get_or order i 0) v ≡ is_in_label (turned m) (rank_in order) (get_or order i 0) v
    same-outs i h v = row_same (turned m) order orders.once k here downs old.outs now.outs new.ins new.outs so_far.other_outs ro i h v ∙ (done i h).outs v

    right-more : (i : ℕ) → i < k + 1 → Right m (rank_in order) (rows_of new) (get_or order i 0)
    right-more i h = ⊎_elim (λ e. subst (λ (z : ℕ). Right m (rank_in order) (rows_of new) (get_or order z 0)) (sym e) last) (λ ne. let low : i < k = omega (arith, ne) in record { ins = same-ins i low; outs = same-outs i low }) (cases_eq i k)
      where
        s : Settled m (rank_in order) (rows_of old) ups downs (get_or order k 0)
        s = settled (get_or order k 0) (on-at order k here)

        last : Right m (rank_in order) (rows_of new) (get_or order k 0)
        last = record {
          ins = row-right m order orders.once k here ups old.ins now.ins now.outs new.ins so_far.other_ins ri s.ins done;
          outs = row-right (turned m) order orders.once k here downs old.outs now.outs new.ins new.outs so_far.other_outs ro s.outs
              (λ i h. record { ins = (done i h).outs; outs = same-ins i h });
        }

  pub renewed-more : RenewedTo (k + 1) m order ups downs old new (n + c)
  renewed-more = record {
    right = right-more;
    other_ins = kept_more m order orders.once k here ups old.ins now.ins now.outs new.ins so_far.other_ins ri;
    other_outs = kept_more (turned m) order orders.once k here downs old.outs now.outs new.ins new.outs so_far.other_outs ro;
    number = omega (
      arith,
      so_far.number,
      number_more m order orders.once k here ups old.ins now.ins now.outs new.ins so_far.other_ins ri,
      number_more (turned m) order orders.once k here downs old.outs now.outs new.ins new.outs so_far.other_outs ro,
    );
    most = omega (arith, so_far.most);
  }

-- an order has at most 255 units
pub order-short : (m : Map) → Sound m → (order : List ℕ) → Orders m order → length order ≤ 255
order-short m sound order orders = at_most 255 order orders.once (λ u o. sound.low u (orders.only u o)) (λ u o. sound.high u (orders.only u o))
