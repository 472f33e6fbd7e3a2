-- Dropping a unit and moving it in the order.
use Rattle.std.proofs.Common.{◌≡◌, ℕ, ◌-◌, true, false, not, ◌||◌, eqb, List, [], ◌∷◌, None, Ok, sym, refl, subst}
use Rattle.std.proofs.lemmas.Bool.{or_parts, not-false}
use Rattle.units.specs.declared.UnitSet.{UnitSet}
use Rattle.units.specs.Has.{has}
use Rattle.theory.specs.Maps.{Map, listed, without_unit}
use Rattle.theory.specs.Chains.{Heard}
use Rattle.theory.specs.Ranks.{Orders, removed, moved}
use Rattle.theory.proofs.Enrols.{changes-sound, drop_orders, rank_orders}
use Rattle.theory.proofs.Frames.{drop-frame, rank-frame}
use Rattle.theory.proofs.Rings.{rings-kept-out}
use Rattle.labels.specs.declared.Labels.{Labels}
use Rattle.mending.specs.Mended.{Mended}
use Rattle.plain.specs.Plain.{hears}
use Rattle.plain.specs.Requests.{Drop, Rank, checks, granted, first_cause, unknown, rank_checks}
use Rattle.book.specs.Views.{plain_by, Agrees}
use Rattle.book.specs.Answers.{Applied}
use Rattle.book.proofs.Agree.{Keeps}
use Rattle.book.proofs.Changing.{all-absent, in-set, changed}
use Rattle.book.proofs.Pairing.{in_order}

-- what the check of a unit leaves: it is in the order
pub one_known : (order : List ℕ) (v : ℕ) → (not (listed v order) || false) ≡ false → listed v order ≡ true
one_known order v e = not-false (listed v order) (or_parts (not (listed v order)) false e).0

module _ (m : Map) (order : List ℕ) (l : Labels) (keeps : Keeps m order l) (v : ℕ) where
  pub drop-done : (capacity : ℕ) → first_cause (unknown (plain_by m order) (v ∷ []) ∷ []) ≡ None → (ups downs : UnitSet) → ((u : ℕ) → has ups u ≡ hears (plain_by m order) v u) → ((u : ℕ) → has downs u ≡ hears (plain_by m order) u v) →
      (l' : Labels) (count : ℕ) (m' : Map) (after' : List ℕ) → Mended (without_unit v m) (removed v order) ups downs l l' count → m' ≡ without_unit v m → after' ≡ removed v order →
      Applied capacity (plain_by m order) (Drop v) (Ok count) (plain_by m' after') × Agrees m' after' l'
  unfolding checks granted
  drop-done capacity e ups downs up down l' count m' after' mended is same =
      changed capacity m order l keeps (Drop v) (without_unit v m) (removed v order) (changes-sound.drop m keeps.sound v) (drop_orders m order keeps.orders v)
      (rings-kept-out.hide (λ k. eqb k v) m keeps.sound keeps.ringless) e refl (λ u. Heard m u v) (λ u. Heard m v u)
      (drop-frame m keeps.sound order v) ups downs l' count m' after' mended
      (λ u h. in-set m order keeps.sound keeps.orders u v (has ups u) (up u) h) (λ u h. in-set m order keeps.sound keeps.orders v u (has downs u) (down u) h) is same

  pub rank-done : (capacity k : ℕ) → first_cause (rank_checks (plain_by m order) v k) ≡ None → (ups downs : UnitSet) → ((u : ℕ) → has ups u ≡ hears (plain_by m order) v u) → ((u : ℕ) → has downs u ≡ hears (plain_by m order) u v) →
      (l' : Labels) (count : ℕ) (m' : Map) (after' : List ℕ) → Mended m (moved (k - 1) v order) ups downs l l' count → m' ≡ m → after' ≡ moved (k - 1) v order →
      Applied capacity (plain_by m order) (Rank v k) (Ok count) (plain_by m' after') × Agrees m' after' l'
  unfolding checks granted
  rank-done capacity k e ups downs up down l' count m' after' mended is same =
      changed capacity m order l keeps (Rank v k) m (moved (k - 1) v order) keeps.sound
      (rank_orders m order keeps.orders v (in_order m order keeps.orders v (one_known order v (all-absent (rank_checks (plain_by m order) v k) e).0)) (k - 1)) keeps.ringless e refl (λ u. Heard m u v) (λ u. Heard m v u)
      (rank-frame m keeps.sound order v (k - 1)) ups downs l' count m' after' mended
      (λ u h. in-set m order keeps.sound keeps.orders u v (has ups u) (up u) h) (λ u h. in-set m order keeps.sound keeps.orders v u (has downs u) (down u) h) is same

-- an order, by other terms for the map and the list
pub orders-at : (m n : Map) (xs ys : List ℕ) → m ≡ n → xs ≡ ys → Orders n ys → Orders m xs
orders-at m n xs ys e f o = subst (λ (k : Map). Orders k xs) (sym e) (subst (Orders n) (sym f) o)
