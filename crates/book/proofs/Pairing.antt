-- Pairing and unpairing: what the checks leave, and the change of the map.
use Rattle.std.proofs.Common.{◌≡◌, ℕ, ◌+◌, true, false, not, ◌||◌, T, ◌≢◌, List, None, Ok, refl, ap, ◌∙◌, subst, arith}
use Rattle.std.proofs.lemmas.Bool.{or_parts, not-false, both_ways, ltb-false, ne_eqb}
use Rattle.maps.specs.Changes.{join_cause}
use Rattle.theory.specs.Counts.{pair_count}
use Rattle.units.specs.declared.UnitSet.{UnitSet}
use Rattle.units.specs.Has.{has}
use Rattle.theory.specs.Maps.{Map, listed, with_pair, without_pair}
use Rattle.theory.specs.Chains.{Heard}
use Rattle.theory.specs.Hearing.{is_heard}
use Rattle.theory.specs.Ranks.{Orders}
use Rattle.theory.proofs.Tests.{passes, passed}
use Rattle.theory.proofs.Lists.{listed-on}
use Rattle.theory.proofs.Chains.{heard-self}
use Rattle.theory.proofs.Warshall.{heard-complete}
use Rattle.theory.proofs.Enrols.{changes-sound}
use Rattle.theory.proofs.Frames.{pair-frame, unpair-frame}
use Rattle.theory.proofs.Rings.{rings-kept-out}
use Rattle.labels.specs.declared.Labels.{Labels}
use Rattle.mending.specs.Mended.{Mended}
use Rattle.plain.specs.Plain.{map_of, hears}
use Rattle.plain.specs.Requests.{Pair, Unpair, checks, granted, first_cause, pair_checks, unpair_checks}
use Rattle.book.specs.Views.{plain_by, Agrees}
use Rattle.book.specs.Answers.{Applied}
use Rattle.book.proofs.Agree.{Keeps, stored-by}
use Rattle.book.proofs.Changing.{all-absent, in-set, changed}

module _ (m : Map) (order : List ℕ) (orders : Orders m order) where
  -- a unit that is in the order stands
  pub in_order : (u : ℕ) → listed u order ≡ true → T (m.unit u)
  in_order u e = orders.only u ((listed-on u order).0 (passes (listed u order) e))

-- what the first check of a pairing leaves: both units are in the order
pub both-known : (order : List ℕ) (a b : ℕ) → (not (listed a order) || (not (listed b order) || false)) ≡ false → (listed a order ≡ true) × (listed b order ≡ true)
both-known order a b e =
    let p = or_parts (not (listed a order)) (not (listed b order) || false) e in
    let q = or_parts (not (listed b order)) false p.1 in
    (not-false (listed a order) p.0, not-false (listed b order) q.0)

module _ (capacity : ℕ) (m : Map) (order : List ℕ) (l : Labels) (keeps : Keeps m order l) (a b : ℕ) where
  -- what a granted pairing knows
  pub record Pairable : Type 0 where
    pub from : T (m.unit a)
    pub to : T (m.unit b)
    pub free : Heard m b a → ⊥
    pub apart : a ≢ b

  pub pairable : first_cause (pair_checks capacity (plain_by m order) a b) ≡ None → Pairable
  pairable e =
      let p = all-absent (pair_checks capacity (plain_by m order) a b) e in
      let both = both-known order a b p.0 in
      let from = in_order m order keeps.orders a both.0 in
      let free : Heard m b a → ⊥ = λ h. both_ways (is_heard m b a) (ap (λ (n : Map). is_heard n b a) (stored-by m order keeps.orders) ∙ p.1.0) (passed (is_heard m b a) (heard-complete m keeps.sound b a h)) in
      record { from = from; to = in_order m order keeps.orders b both.1; free = free; apart = λ is. free (subst (λ (z : ℕ). Heard m z a) is (heard-self m a from)) }

  pub pair-done : first_cause (pair_checks capacity (plain_by m order) a b) ≡ None → (ups downs : UnitSet) → ((u : ℕ) → has ups u ≡ hears (plain_by m order) a u) → ((u : ℕ) → has downs u ≡ hears (plain_by m order) u b) →
      (l' : Labels) (count : ℕ) (m' : Map) (after' : List ℕ) → Mended (with_pair a b m) order ups downs l l' count → m' ≡ with_pair a b m → after' ≡ order →
      Applied capacity (plain_by m order) (Pair a b) (Ok count) (plain_by m' after') × Agrees m' after' l'
  unfolding checks granted
  pair-done e ups downs up down l' count m' after' mended is same =
      let p = pairable e in
      changed capacity m order l keeps (Pair a b) (with_pair a b m) order (changes-sound.pair m keeps.sound a b p.from p.to p.apart)
      (record { every = keeps.orders.every; only = keeps.orders.only; once = keeps.orders.once })
      ((rings-kept-out.pair m keeps.sound keeps.ringless a b p.from p.to p.apart).1 p.free) e refl (λ u. Heard m u a) (λ u. Heard m b u)
      (pair-frame m keeps.sound a b p.from p.to p.apart _) ups downs l' count m' after' mended
      (λ u h. in-set m order keeps.sound keeps.orders u a (has ups u) (up u) h) (λ u h. in-set m order keeps.sound keeps.orders b u (has downs u) (down u) h) is same

  pub unpair-done : first_cause (unpair_checks (plain_by m order) a b) ≡ None → (ups downs : UnitSet) → ((u : ℕ) → has ups u ≡ hears (plain_by m order) a u) → ((u : ℕ) → has downs u ≡ hears (plain_by m order) u b) →
      (l' : Labels) (count : ℕ) (m' : Map) (after' : List ℕ) → Mended (without_pair a b m) order ups downs l l' count → m' ≡ without_pair a b m → after' ≡ order →
      Applied capacity (plain_by m order) (Unpair a b) (Ok count) (plain_by m' after') × Agrees m' after' l'
  unfolding checks granted
  unpair-done e ups downs up down l' count m' after' mended is same =
      changed capacity m order l keeps (Unpair a b) (without_pair a b m) order (changes-sound.unpair m keeps.sound a b)
      (record { every = keeps.orders.every; only = keeps.orders.only; once = keeps.orders.once })
      (rings-kept-out.unpair m keeps.sound keeps.ringless a b) e refl (λ u. Heard m u a) (λ u. Heard m b u)
      (unpair-frame m keeps.sound a b _) ups downs l' count m' after' mended
      (λ u h. in-set m order keeps.sound keeps.orders u a (has ups u) (up u) h) (λ u h. in-set m order keeps.sound keeps.orders b u (has downs u) (down u) h) is same

  -- the store does not refuse it either
  pub join-granted : first_cause (pair_checks capacity (plain_by m order) a b) ≡ None → join_cause m capacity a b ≡ None
  join-granted e =
      let p = pairable e in
      let q = all-absent (pair_checks capacity (plain_by m order) a b) e in
      let few = ltb-false capacity (pair_count (map_of (plain_by m order)) + 1) q.1.1.1.0 in
      let count = ap pair_count (stored-by m order keeps.orders) in
      rw (passed _ p.from, passed _ p.to, ne_eqb a b p.apart, q.1.1.0, ne_eqb (pair_count m) capacity (λ z. omega arith))
