-- With the rows of all units made new and those of all others emptied, the labels are exact and the changed ones counted.
use Rattle.std.proofs.Common.{◌≡◌, ℕ, ◌+◌, ◌<◌, Bool, true, false, not, ◌&&◌, T, ◌≢◌, ◌⊎◌, List, [], length, get_or, sym, ap, ◌∙◌, subst, inl, inr, arith}
use Rattle.std.proofs.lemmas.Bool.{cases_Bool, and_left, and_right, and_from, not_from_true, not_from_false}
use Rattle.units.specs.declared.UnitSet.{UnitSet}
use Rattle.units.specs.Has.{has}
use Rattle.theory.specs.Maps.{Map, Sound, turned, nothing}
use Rattle.theory.specs.Chains.{On}
use Rattle.theory.specs.Ranks.{rank_in, Orders}
use Rattle.theory.specs.Labels.{is_in_label}
use Rattle.theory.specs.Lists.{labels_changed}
use Rattle.theory.specs.Rows.{Right}
use Rattle.theory.specs.Turns.{Settled}
use Rattle.theory.specs.Sizes.{rows_changed}
use Rattle.theory.specs.Changes.{Frame}
use Rattle.theory.proofs.Tests.{passes}
use Rattle.theory.proofs.Maps.{turned-sound, turned-orders}
use Rattle.theory.proofs.Chains.{heard-first, heard-last}
use Rattle.theory.proofs.Distinct.{on-at, at_on}
use Rattle.theory.proofs.Tables.{decided-by}
use Rattle.theory.proofs.Turns.{frame-settled}
use Rattle.theory.proofs.Totals.{changed-by-rows}
use Rattle.labels.specs.declared.Labels.{Labels}
use Rattle.labels.specs.Holding.{holds, rows_of, Exact}
use Rattle.mending.specs.Mended.{Mended}
use Rattle.mending.specs.Steps.{difference, changed, emptied, RenewedTo}
use Rattle.mending.proofs.Differences.{difference-both, below, on_below, once-below, difference-rows}

-- what is no unit is no label
off-label : (m : Map) → Sound m → (rank : ℕ → ℕ) (x v : ℕ) → (T (m.unit x) → ⊥) → false ≡ is_in_label m rank x v
off-label m sound rank x v far = decided-by m sound rank x v false (λ t. absurd t, λ l. absurd (far (heard-first m sound x v l.heard)))

-- one side
module _ (m : Map) (sound : Sound m) (order : List ℕ) (orders : Orders m order) (may gone : ℕ → Bool) (old made new : ℕ → ℕ → Bool)
    (those : (k : ℕ) → gone k ≡ (may k && not (m.unit k))) (sets : (x v : ℕ) → new x v ≡ emptied gone made x v)
    (others : (x : ℕ) → (On x order → ⊥) → (v : ℕ) → made x v ≡ old x v) where
  -- the set of x is not emptied
  left : (x : ℕ) → gone x ≡ false → (v : ℕ) → new x v ≡ made x v
  left x off v = sets x v ∙ ap (λ (b : Bool). not b && made x v) off

  unit_left : (x : ℕ) → m.unit x ≡ true → (v : ℕ) → new x v ≡ made x v
  unit_left x on = left x (those x ∙ and_right (may x) (not (m.unit x)) (not_from_true (m.unit x) on))

  far : (x : ℕ) → m.unit x ≡ false → On x order → ⊥
  far x off o = subst T off (orders.only x o)

  one_left : (x : ℕ) → ((v : ℕ) → made x v ≡ old x v) ⊎ ((v : ℕ) → new x v ≡ made x v)
  one_left x = pick (cases_Bool (m.unit x))
    where
      pick : (m.unit x ≡ true) ⊎ (m.unit x ≡ false) → ((v : ℕ) → made x v ≡ old x v) ⊎ ((v : ℕ) → new x v ≡ made x v)
      pick (inl on) = inr (unit_left x on)
      pick (inr off) = inl (others x (far x off))

  sides : difference old new ≡ difference old made + difference made new
  sides = difference-both old made new one_left

  module _ (right : (x : ℕ) → On x order → (v : ℕ) → made x v ≡ is_in_label m (rank_in order) x v)
      (settled : (x : ℕ) → (T (may x) → ⊥) → (v : ℕ) → old x v ≡ is_in_label m (rank_in order) x v) where
    -- the set of what is no unit any more
    off-row : (x v : ℕ) → m.unit x ≡ false → (may x ≡ true) ⊎ (may x ≡ false) → new x v ≡ is_in_label m (rank_in order) x v
    off-row x v off (inl in-may) =
        sets x v ∙ ap (λ (b : Bool). not b && made x v) (those x ∙ and_from (may x) (not (m.unit x)) in-may (not_from_false (m.unit x) off))
        ∙ off-label m sound (rank_in order) x v (λ t. subst T off t)
    off-row x v off (inr out) =
        left x (those x ∙ and_left (may x) (not (m.unit x)) out) v ∙ others x (far x off) v ∙ settled x (λ t. subst T out t) v

    all-rows : (x v : ℕ) → new x v ≡ is_in_label m (rank_in order) x v
    all-rows x v = pick (cases_Bool (m.unit x))
      where
        pick : (m.unit x ≡ true) ⊎ (m.unit x ≡ false) → new x v ≡ is_in_label m (rank_in order) x v
        pick (inl on) = unit_left x on v ∙ right x (orders.every x (passes (m.unit x) on)) v
        pick (inr off) = off-row x v off (cases_Bool (may x))

-- what no place of the order has does not stand in it
off-places : (order : List ℕ) (x : ℕ) → (On x order → ⊥) → (i : ℕ) → i < length order → get_or order i 0 ≢ x
off-places order x far i h e = far (subst (λ (z : ℕ). On z order) e (on-at order i h))

-- the two sides, after any change
module _ (m : Map) (sound : Sound m) (order : List ℕ) (orders : Orders m order) (ups downs : UnitSet) (old made new : Labels) (a b : ℕ)
    (all : RenewedTo (length order) m order (has ups) (has downs) old made a) (units : ℕ → Bool) (same : (k : ℕ) → units k ≡ m.unit k)
    (sets-ins : (x v : ℕ) → holds new.ins x v ≡ emptied (λ k. has ups k && not (units k)) (holds made.ins) x v)
    (sets-outs : (x v : ℕ) → holds new.outs x v ≡ emptied (λ k. has downs k && not (units k)) (holds made.outs) x v) (rest : b ≡ changed made new) where
  abbrev gone : UnitSet → ℕ → Bool
  gone set k = has set k && not (units k)

  those : (set : UnitSet) (k : ℕ) → gone set k ≡ (has set k && not (m.unit k))
  those set k = ap (λ (t : Bool). has set k && not t) (same k)

  back : Sound (turned m)
  back = turned-sound m sound

  other_ins : (x : ℕ) → (On x order → ⊥) → (v : ℕ) → holds made.ins x v ≡ holds old.ins x v
  other_ins x far = all.other_ins x (off-places order x far)

  other_outs : (x : ℕ) → (On x order → ⊥) → (v : ℕ) → holds made.outs x v ≡ holds old.outs x v
  other_outs x far = all.other_outs x (off-places order x far)

  pub mended : Mended m order ups downs old new (a + b)
  mended before earlier sb ob exact frame = (
    record { ins = ins; outs = outs },
    omega (
      arith,
      all.number,
      counted,
      difference-rows (rows_of old) (rows_of new),
      sides m sound order orders (has ups) (gone ups) (holds old.ins) (holds made.ins) (holds new.ins) (those ups) sets-ins other_ins,
      sides (turned m) back order (turned-orders m order orders) (has downs) (gone downs) (holds old.outs) (holds made.outs) (holds new.outs) (those downs) sets-outs other_outs,
    ),
  )
    where
      was : (u : ℕ) → Right before (rank_in earlier) (rows_of old) u
      was u = record { ins = exact.ins u; outs = exact.outs u }

      settled : (u : ℕ) → Settled m (rank_in order) (rows_of old) (has ups) (has downs) u
      settled u = frame-settled before sb (rank_in earlier) m sound (rank_in order) (has ups) (has downs) frame (rows_of old) u (was u)

      right : (u : ℕ) → On u order → Right m (rank_in order) (rows_of made) u
      right u o =
          let p = at_on order u o in
          subst (λ (z : ℕ). Right m (rank_in order) (rows_of made) z) p.2 (all.right (λ x _. settled x) p.0 p.1)

      ins : (u v : ℕ) → holds new.ins u v ≡ is_in_label m (rank_in order) u v
      ins = all-rows m sound order orders (has ups) (gone ups) (holds old.ins) (holds made.ins) (holds new.ins) (those ups) sets-ins other_ins (λ u o. (right u o).ins) (λ u. (settled u).ins)

      outs : (u v : ℕ) → holds new.outs u v ≡ is_in_label (turned m) (rank_in order) u v
      outs = all-rows (turned m) back order (turned-orders m order orders) (has downs) (gone downs) (holds old.outs) (holds made.outs) (holds new.outs) (those downs) sets-outs other_outs (λ u o. (right u o).outs) (λ u. (settled u).outs)

      low : (n : Map) → Sound n → (u : ℕ) → T (n.unit u) → On u (below 256)
      low n sn u t = let h = sn.high u t in on_below 256 u (omega arith)

      counted : rows_changed (rows_of old) (rows_of new) (below 256) ≡ labels_changed before earlier m order
      counted =
          changed-by-rows before sb earlier ob m sound order orders (below 256) (once-below 256) (low before sb) (low m sound) (rows_of old) (rows_of new)
          (λ u o. was u) (λ u o. record { ins = ins u; outs = outs u })

-- from labels that hold nothing, over all units
pub built : (m : Map) → Sound m → (order : List ℕ) → Orders m order → (all : UnitSet) → ((k : ℕ) → has all k ≡ m.unit k) → (old new : Labels) →
    ((u v : ℕ) → (holds old.ins u v ≡ false) × (holds old.outs u v ≡ false)) → (n : ℕ) → Mended m order all all old new n → Exact m order new
built m sound order orders all units old new none n mended = (mended nothing [] bare (record { every = λ u t. absurd t; only = λ u o. absurd o; once = tt }) exact frame).0
  where
    bare : Sound nothing
    bare = record { low = λ u t. absurd t; high = λ u t. absurd t; from = λ x y t. absurd t; to = λ x y t. absurd t; apart = λ x y t. absurd t }

    exact : Exact nothing [] old
    exact = record {
      ins = λ u v. (none u v).0 ∙ off-label nothing bare (rank_in []) u v (λ t. t);
      outs = λ u v. (none u v).1 ∙ off-label (turned nothing) (turned-sound nothing bare) (rank_in []) u v (λ t. t);
    }

    in_all : (u : ℕ) → T (m.unit u) → T (has all u)
    in_all u t = subst T (sym (units u)) t

    frame : Frame nothing (rank_in []) m (rank_in order) (λ u. T (has all u)) (λ v. T (has all v))
    frame u v far = (
      (λ l. absurd (heard-first nothing bare u v l.heard), λ l. absurd (far (in_all u (heard-first m sound u v l.heard)) (in_all v (heard-last m sound u v l.heard)))),
      (
        λ l. absurd (heard-first (turned nothing) (turned-sound nothing bare) v u l.heard),
        λ l. absurd (far (in_all u (heard-last (turned m) (turned-sound m sound) v u l.heard)) (in_all v (heard-first (turned m) (turned-sound m sound) v u l.heard))),
      ),
    )
