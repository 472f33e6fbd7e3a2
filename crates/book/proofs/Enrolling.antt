-- Enrolling a unit: what the checks leave, and the change of the map and the order.
use Rattle.std.proofs.Common.{◌≡◌, ℕ, ◌+◌, ◌-◌, ◌≤◌, Bool, true, false, not, ◌||◌, T, eqb, ◌⊎◌, List, ◌++◌, length, None, Ok, sym, refl, ap, ◌∙◌, subst, ⊎_elim, arith}
use lib.Dec.{eqb_refl}
use Rattle.std.proofs.lemmas.Bool.{or_parts, both_ways, eqb-false, ltb-false}
use Rattle.units.specs.declared.UnitSet.{UnitSet}
use Rattle.units.specs.Has.{has}
use Rattle.theory.specs.Maps.{Map, listed, enrolled}
use Rattle.theory.specs.Chains.{On, Heard, NoRing}
use Rattle.theory.specs.Hearing.{is_heard}
use Rattle.theory.specs.Counts.{pair_count}
use Rattle.theory.specs.Ranks.{inserted}
use Rattle.theory.specs.Changes.{New}
use Rattle.theory.proofs.Tests.{passed, or_fst, or_snd}
use Rattle.theory.proofs.Lists.{listed-on}
use Rattle.theory.proofs.Warshall.{heard-complete}
use Rattle.theory.proofs.Enrols.{changes-sound, enrol_orders, enrol-area, enrol-frame}
use Rattle.theory.proofs.Rings.{rings-kept-out}
use Rattle.labels.specs.declared.Labels.{Labels}
use Rattle.labels.specs.declared.ranked.Ranked.{Ranked}
use Rattle.labels.specs.OfMaps.{KeptOf}
use Rattle.mending.specs.Mended.{Mended}
use Rattle.plain.specs.Plain.{map_of, hears}
use Rattle.plain.specs.Lists.{some, doubled}
use Rattle.plain.specs.Requests.{Enrol, checks, granted, first_cause, enrol_checks}
use Rattle.plain.proofs.Some.{some-on, some-append}
use Rattle.book.specs.Views.{plain_by, Agrees}
use Rattle.book.specs.Answers.{Applied}
use Rattle.book.proofs.Agree.{Keeps, stored-by}
use Rattle.book.proofs.Changing.{AllAbsent, all-absent, asked-at, changed}
use Rattle.book.proofs.Pairing.{in_order}

-- a test that passes nowhere on a list passes at none of its numbers
never : (f : ℕ → Bool) (xs : List ℕ) → some f xs ≡ false → (x : ℕ) → On x xs → T (f x) → ⊥
never f xs e x o t = both_ways (some f xs) e (passed (some f xs) ((some-on f xs).1 (x, o, t)))

-- the units of both lists stand
stands-in : (m : Map) (order : List ℕ) (l : Labels) → Keeps m order l → (xs : List ℕ) → some (λ u. not (listed u order)) xs ≡ false → (u : ℕ) → On u xs → T (m.unit u)
stands-in m order l keeps xs e u o = go (listed u order) refl
  where
    go : (b : Bool) → listed u order ≡ b → T (m.unit u)
    go true is = in_order m order keeps.orders u is
    go false is = absurd (never (λ w. not (listed w order)) xs e u o (subst (λ (b : Bool). T (not b)) (sym is) tt))

-- some source is among what hears a listener exactly when it hears one
same_some : (f g : ℕ → Bool) (xs : List ℕ) → ((x : ℕ) → f x ≡ g x) → some f xs ≡ some g xs
same_some f g xs e = ap (λ (h : ℕ → Bool). some h xs) (λ i x. e x i)

pub ring-told : (m : Map) (order : List ℕ) (l : Labels) → Keeps m order l → (sources listeners : List ℕ) → some (λ u. not (listed u order)) (sources ++ listeners) ≡ false →
    (r : Ranked) → r.labels.now ≡ l → r.order.now ≡ order →
    (answer : Bool) → ((n : Map) → KeptOf n r → ((u : ℕ) → On u listeners → T (n.unit u)) → answer ≡ some (λ s. some (λ t. is_heard n t s) listeners) sources) →
    answer ≡ some (λ s. some (λ t. hears (plain_by m order) s t) listeners) sources
ring-told m order l keeps sources listeners e r le oe answer told =
    let parts = or_parts _ _ (sym (some-append (λ u. not (listed u order)) sources listeners) ∙ e) in
    told m (asked-at m order l r keeps le oe) (stands-in m order l keeps listeners parts.1)
    ∙ same_some (λ s. some (λ t. is_heard m t s) listeners) (λ s. some (λ t. hears (plain_by m order) s t) listeners) sources
    (λ s. same_some (λ t. is_heard m t s) (λ t. hears (plain_by m order) s t) listeners (λ t. ap (λ (n : Map). is_heard n t s) (stored-by m order keeps.orders)))

module _ (capacity : ℕ) (m : Map) (order : List ℕ) (l : Labels) (keeps : Keeps m order l) (v k : ℕ) (small : v ≤ 255) (sources listeners : List ℕ)
    (absent : first_cause (enrol_checks capacity (plain_by m order) v k sources listeners) ≡ None) where
  all : AllAbsent (enrol_checks capacity (plain_by m order) v k sources listeners)
  all = all-absent (enrol_checks capacity (plain_by m order) v k sources listeners) absent

  not_there : T (m.unit v) → ⊥
  not_there t = both_ways (listed v order) all.1.0 (passed (listed v order) ((listed-on v order).1 (keeps.orders.every v t)))

  parts : (some (λ u. not (listed u order)) sources ≡ false) × (some (λ u. not (listed u order)) listeners ≡ false)
  parts = or_parts _ _ (sym (some-append (λ u. not (listed u order)) sources listeners) ∙ all.1.1.1.0)

  -- what a granted enrolment knows
  pub new : New m v sources listeners
  new = record {
    low = let z = eqb-false v 0 all.0 in omega arith;
    high = small;
    fresh = not_there;
    from = stands-in m order l keeps sources parts.0;
    to = stands-in m order l keeps listeners parts.1;
  }

  pub absent-unit : listed v order ≡ false
  absent-unit = all.1.0

  pub rank-low : 1 ≤ k
  rank-low = let z = eqb-false k 0 (or_parts (eqb k 0) _ all.1.1.0).0 in omega arith

  pub rank-place : k - 1 ≤ length order
  rank-place = let z = ltb-false (length order + 1) k (or_parts (eqb k 0) _ all.1.1.0).1 in omega arith

  pub sources-once : doubled sources ≡ false
  sources-once = (or_parts (doubled sources) (doubled listeners) all.1.1.1.1.0).0

  pub listeners-once : doubled listeners ≡ false
  listeners-once = (or_parts (doubled sources) (doubled listeners) all.1.1.1.1.0).1

  pub room : pair_count m + length sources + length listeners ≤ capacity
  room =
      let e = ap pair_count (stored-by m order keeps.orders) in
      let h = ltb-false capacity (pair_count (map_of (plain_by m order)) + length sources + length listeners) all.1.1.1.1.1.1.0 in
      omega arith

  free : (s t : ℕ) → On s sources → On t listeners → Heard m t s → ⊥
  free s t os ot h =
      let here : T (is_heard (map_of (plain_by m order)) t s) = subst (λ (n : Map). T (is_heard n t s)) (stored-by m order keeps.orders) (heard-complete m keeps.sound t s h) in
      never (λ x. some (λ y. hears (plain_by m order) x y) listeners) sources all.1.1.1.1.1.0 s os ((some-on (λ y. hears (plain_by m order) s y) listeners).1 (t, ot, here))

  -- and no ring comes of it
  pub ringless-after : NoRing (enrolled v sources listeners m)
  ringless-after = (rings-kept-out.enrol m keeps.sound keeps.ringless v sources listeners new).1 free

  pub enrol-done : (ups downs : UnitSet) → ((u : ℕ) → has ups u ≡ (eqb u v || some (λ s. is_heard m u s) sources)) → ((u : ℕ) → has downs u ≡ (eqb u v || some (λ t. is_heard m t u) listeners)) →
      (l' : Labels) (count : ℕ) (m' : Map) (after' : List ℕ) → Mended (enrolled v sources listeners m) (inserted (k - 1) v order) ups downs l l' count →
      m' ≡ enrolled v sources listeners m → after' ≡ inserted (k - 1) v order →
      Applied capacity (plain_by m order) (Enrol v k sources listeners) (Ok count) (plain_by m' after') × Agrees m' after' l'
  unfolding checks granted
  enrol-done ups downs up down l' count m' after' mended is same =
      changed capacity m order l keeps (Enrol v k sources listeners) n (inserted (k - 1) v order) (changes-sound.enrol m keeps.sound v sources listeners new)
      (enrol_orders m order keeps.orders v sources listeners not_there (k - 1))
      ringless-after absent refl (λ u. Heard n u v) (λ u. Heard n v u)
      (enrol-frame m keeps.sound order keeps.orders v sources listeners new (k - 1)) ups downs l' count m' after' mended
      (λ u h. subst T (sym (up u)) (in-ups u ((enrol-area m keeps.sound v sources listeners new u).0.0 h)))
      (λ u h. subst T (sym (down u)) (in-downs u ((enrol-area m keeps.sound v sources listeners new u).1.0 h))) is same
    where
      n : Map
      n = enrolled v sources listeners m

      in-ups : (u : ℕ) → (u ≡ v) ⊎ ((s : ℕ) × On s sources × Heard m u s) → T (eqb u v || some (λ s. is_heard m u s) sources)
      in-ups u = ⊎_elim (λ e. or_fst (eqb u v) _ (subst (λ (z : ℕ). T (eqb u z)) e (eqb_refl u)))
          (λ s. or_snd (eqb u v) _ ((some-on (λ x. is_heard m u x) sources).1 (s.0, s.1, heard-complete m keeps.sound u s.0 s.2)))

      in-downs : (u : ℕ) → (u ≡ v) ⊎ ((t : ℕ) × On t listeners × Heard m t u) → T (eqb u v || some (λ t. is_heard m t u) listeners)
      in-downs u = ⊎_elim (λ e. or_fst (eqb u v) _ (subst (λ (z : ℕ). T (eqb u z)) e (eqb_refl u)))
          (λ t. or_snd (eqb u v) _ ((some-on (λ x. is_heard m x u) listeners).1 (t.0, t.1, heard-complete m keeps.sound t.0 u t.2)))

-- a set with one member more
pub with-own : (v : ℕ) (old new : UnitSet) (f : ℕ → Bool) → ((u : ℕ) → has new u ≡ (eqb u v || has old u)) → ((u : ℕ) → has old u ≡ f u) → (u : ℕ) → has new u ≡ (eqb u v || f u)
with-own v old new f e o u = e u ∙ ap (λ (b : Bool). eqb u v || b) (o u)
