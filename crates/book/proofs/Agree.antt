-- Store, ranks and labels agree where the order is one of the map and the labels are exact.
use Rattle.std.proofs.Common.{◌≡◌, ℕ, false, List, [], sym, refl, ap, ◌∙◌, subst}
use Rattle.theory.specs.Maps.{Map, Sound, listed, nothing}
use Rattle.theory.specs.Chains.{NoRing}
use Rattle.theory.specs.Ranks.{rank_in, Orders}
use Rattle.theory.specs.Labels.{is_in_label}
use Rattle.theory.proofs.Tests.{same_tests}
use Rattle.theory.proofs.Maps.{same_map}
use Rattle.theory.proofs.Chains.{heard-first}
use Rattle.theory.proofs.Decide.{in-decided}
use Rattle.theory.proofs.Lists.{listed-on}
use Rattle.theory.proofs.Enrols.{changes-sound}
use Rattle.theory.proofs.Rings.{rings-kept-out}
use Rattle.labels.specs.declared.Labels.{Labels}
use Rattle.labels.specs.Holding.{holds, Exact}
use Rattle.plain.specs.Plain.{map_of}
use Rattle.book.specs.Views.{plain_by, Agrees}

-- the four facts on the map itself
pub record Keeps (m : Map) (order : List ℕ) (l : Labels) : Type 0 where
  pub sound : Sound m
  pub orders : Orders m order
  pub ringless : NoRing m
  pub exact : Exact m order l

pub stored-by : (m : Map) (order : List ℕ) → Orders m order → m ≡ map_of (plain_by m order)
stored-by m order o =
    same_map m (map_of (plain_by m order))
    (λ u. same_tests (m.unit u) (listed u order) (λ t. (listed-on u order).1 (o.every u t)) (λ t. o.only u ((listed-on u order).0 t)))
    (λ x y. refl)

pub agrees : (m : Map) (order : List ℕ) (l : Labels) → Keeps m order l → Agrees m order l
agrees m order l k =
    let e = stored-by m order k.orders in
    record {
      stored = e;
      lawful = record { sound = subst Sound e k.sound; orders = subst (λ (n : Map). Orders n order) e k.orders; ringless = subst NoRing e k.ringless };
      exact = subst (λ (n : Map). Exact n order l) e k.exact;
    }

pub keeps : (m : Map) (order : List ℕ) (l : Labels) → Agrees m order l → Keeps m order l
keeps m order l a =
    let e = sym a.stored in
    record {
      sound = subst Sound e a.lawful.sound;
      orders = subst (λ (n : Map). Orders n order) e a.lawful.orders;
      ringless = subst NoRing e a.lawful.ringless;
      exact = subst (λ (n : Map). Exact n order l) e a.exact;
    }

-- an empty store, no ranks, no labels
none-labelled : (rank : ℕ → ℕ) (u v : ℕ) → false ≡ is_in_label nothing rank u v
none-labelled rank u v =
    same_tests false (is_in_label nothing rank u v) (λ t. absurd t) (λ t. heard-first nothing changes-sound.none u v ((in-decided nothing changes-sound.none rank u v).0 t).heard)

pub nothing-kept : (l : Labels) → ((u v : ℕ) → holds l.ins u v ≡ false) → ((u v : ℕ) → holds l.outs u v ≡ false) → Keeps nothing [] l
nothing-kept l ins outs = record {
  sound = changes-sound.none;
  orders = changes-sound.none_orders;
  ringless = rings-kept-out.none;
  exact = record { ins = λ u v. ins u v ∙ none-labelled (rank_in []) u v; outs = λ u v. outs u v ∙ none-labelled (rank_in []) u v };
}

-- the same facts of a map and an order that go by other terms
pub agrees_at : (m n : Map) (order after : List ℕ) (l : Labels) → m ≡ n → order ≡ after → Keeps n after l → Agrees m order l
agrees_at m n order after l e f k =
    agrees m order l (subst (λ (x : Map). Keeps x order l) (sym e) (subst (λ (xs : List ℕ). Keeps n xs l) (sym f) k))

pub plain_at : (m n : Map) (order after : List ℕ) → m ≡ n → order ≡ after → plain_by m order ≡ plain_by n after
plain_at m n order after e f = ap (λ (x : Map). plain_by x order) e ∙ ap (plain_by n) f
