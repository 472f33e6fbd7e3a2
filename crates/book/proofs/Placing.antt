-- Best place: what its checks leave, and what it tells.
use Rattle.std.proofs.Common.{◌≡◌, ℕ, ◌+◌, ◌-◌, ◌≤◌, Bool, false, cond, ◌||◌, eqb, List, length, IsErrAnd, Some, None, Ok, Err, Result, sym, ap, ◌∙◌, subst, arith}
use Rattle.std.proofs.lemmas.Result.{err_from_is_err_and}
use Rattle.std.proofs.lemmas.Bool.{le-ltb}
use Rattle.theory.specs.Maps.{Map, Sound, enrolled}
use Rattle.theory.specs.Ranks.{rank_in, inserted, Orders}
use Rattle.theory.specs.Lists.{total}
use Rattle.theory.specs.Sizes.{Number, Stands}
use Rattle.theory.specs.Changes.{New}
use Rattle.theory.proofs.Enrols.{changes-sound, enrol_orders}
use Rattle.theory.proofs.Totals.{total-counted}
use Rattle.labels.specs.declared.Labels.{Labels}
use Rattle.plain.specs.declared.BookFault.{BookFault}
use Rattle.plain.specs.declared.BookFault.TheVariants as fault
use Rattle.plain.specs.Plain.{map_of}
use Rattle.plain.specs.Requests.{BestPlace, Enrol, checks, granted, first_cause, enrol_checks, place_checks, partners, stands, verdict}
use Rattle.plain.specs.Placing.{best_from, best_told, total_at}
use Rattle.plain.proofs.Placing.{Least, best-least}
use Rattle.places.specs.declared.place.Place.{Place}
use Rattle.places.specs.Trials.{told_of, trial}
use Rattle.book.specs.Views.{plain_by}
use Rattle.book.specs.Answers.{answered}
use Rattle.book.specs.Questions.{ByBest, place_by}
use Rattle.book.proofs.Agree.{Keeps, stored-by}
use Rattle.book.proofs.Answering.{no-cause, answered-ok, answered-err}
use Rattle.book.proofs.Enrolling.{new}

-- rank 1 is within, so the checks are those of enrolling there
as-enrol : (capacity : ℕ) (m : Map) (order : List ℕ) (v : ℕ) (sources listeners : List ℕ) →
    first_cause (enrol_checks capacity (plain_by m order) v 1 sources listeners) ≡ first_cause (place_checks capacity (plain_by m order) v sources listeners)
as-enrol capacity m order v sources listeners =
    ap (λ (b : Bool). cond (eqb v 0) (Some fault.Zero) (cond (stands (plain_by m order) v) (Some fault.Standing) (cond (false || b) (Some fault.RankOutside) (first_cause (partners capacity (plain_by m order) sources listeners)))))
    (le-ltb (length order + 1) 1 (omega arith))

module _ (capacity : ℕ) (m : Map) (order : List ℕ) (l : Labels) (keeps : Keeps m order l) (v : ℕ) (small : v ≤ 255) (sources listeners : List ℕ)
    (passed : Ok (tt {0}) ≡ answered (first_cause (place_checks capacity (plain_by m order) v sources listeners)) (tt {0})) where
  pub absent : first_cause (enrol_checks capacity (plain_by m order) v 1 sources listeners) ≡ None
  absent = as-enrol capacity m order v sources listeners ∙ no-cause (first_cause (place_checks capacity (plain_by m order) v sources listeners)) (tt {0}) passed

  pub place-new : New m v sources listeners
  place-new = new capacity m order l keeps v 1 small sources listeners absent

  abbrev n : Map
  n = enrolled v sources listeners m

  sound : Sound n
  sound = changes-sound.enrol m keeps.sound v sources listeners place-new

  orders : (k : ℕ) → Orders n (inserted k v order)
  orders k = enrol_orders m order keeps.orders v sources listeners place-new.fresh k

  -- the map with v, as the plain book has it
  after : (k : ℕ) → n ≡ map_of (granted (plain_by m order) (Enrol v k sources listeners))
  unfolding granted
  after k = stored-by n (inserted (k - 1) v order) (orders (k - 1))

  same_total : (k : ℕ) → trial n v order k ≡ total_at (plain_by m order) v sources listeners k
  unfolding granted
  same_total k = ap (λ (x : Map). total x (inserted (k - 1) v order)) (after k)

  numbered : (k t : ℕ) → t ≡ total_at (plain_by m order) v sources listeners k →
      Number (Stands (map_of (granted (plain_by m order) (Enrol v k sources listeners))) (rank_in (granted (plain_by m order) (Enrol v k sources listeners)).order)) t
  unfolding granted
  numbered k t e =
      subst (λ (x : Map). Number (Stands x (rank_in (inserted (k - 1) v order))) t) (after k)
      (subst (Number (Stands n (rank_in (inserted (k - 1) v order)))) (sym (e ∙ sym (same_total k))) (total-counted n sound (inserted (k - 1) v order) (orders (k - 1))))

  module _ (place : Place) (is : told_of place ≡ best_from (trial n v order) 1 (length order)) where
    same-told : told_of place ≡ best_told (plain_by m order) v sources listeners
    unfolding best_told
    same-told = is ∙ ap (λ (f : ℕ → ℕ). best_from f 1 (length order)) (λ i k. same_total k i)

    facts : Least (total_at (plain_by m order) v sources listeners) 1 (length order) (told_of place)
    unfolding best_told
    facts = subst (Least (total_at (plain_by m order) v sources listeners) 1 (length order)) (sym same-told) (best-least (total_at (plain_by m order) v sources listeners) 1 (length order))

    pub place-granted : (Ok place ≡ answered (verdict capacity (plain_by m order) (BestPlace v sources listeners)) (place_by (best_told (plain_by m order) v sources listeners))) ×
        ByBest (plain_by m order) v sources listeners (Ok place)
    unfolding checks
    place-granted = (
      answered-ok (first_cause (place_checks capacity (plain_by m order) v sources listeners)) place (place_by (best_told (plain_by m order) v sources listeners)) passed (ap place_by same-told),
      record {
        low = facts.low;
        high = let high = facts.high in omega arith;
        number = numbered place.rank place.total facts.is;
        least = λ k low high. facts.least k low (omega arith);
        first = facts.first;
      },
    )

pub place-refused : (capacity : ℕ) (m : Map) (order : List ℕ) (v : ℕ) (sources listeners : List ℕ) (cause : BookFault) (r : Result Place BookFault) →
    Err cause ≡ answered (first_cause (place_checks capacity (plain_by m order) v sources listeners)) (tt {0}) → IsErrAnd r (λ e. e ≡ cause) →
    (r ≡ answered (verdict capacity (plain_by m order) (BestPlace v sources listeners)) (place_by (best_told (plain_by m order) v sources listeners))) × ByBest (plain_by m order) v sources listeners r
unfolding checks
place-refused capacity m order v sources listeners cause r e by = (
  answered-err (first_cause (place_checks capacity (plain_by m order) v sources listeners)) (place_by (best_told (plain_by m order) v sources listeners)) r cause e by,
  subst (ByBest (plain_by m order) v sources listeners) (sym (err_from_is_err_and r by).1) tt,
)
