-- A load: the page is judged by itself, then the room for what it says; what is built is the lawful book that it says.
use Rattle.std.proofs.Common.{◌≡◌, ℕ, Bool, true, false, cond, not, ltb, leb, List, [], ◌∷◌, ◌++◌, Some, None, sym, refl, ap, ◌∙◌, subst, arith}
use Rattle.std.proofs.lemmas.Bool.{leb-true, leb-false, le-ltb, lt-ltb, not-false}
use Rattle.theory.specs.Maps.{Map}
use Rattle.theory.specs.Chains.{On}
use Rattle.theory.specs.Counts.{pair_count}
use Rattle.theory.specs.Ranks.{Orders}
use Rattle.labels.specs.declared.Labels.{Labels}
use Rattle.labels.specs.Holding.{Exact}
use Rattle.maps.specs.declared.fault.StoreFault.{StoreFault}
use Rattle.maps.specs.declared.fault.StoreFault.TheVariants.{Full}
use Rattle.maps.specs.Changes.{copy_cause}
use Rattle.ranks.specs.Orders as ranks
use Rattle.plain.specs.declared.BookFault.{BookFault}
use Rattle.plain.specs.declared.BookFault.TheVariants as fault
use Rattle.plain.specs.Plain.{Plain, map_of, Lawful}
use Rattle.plain.specs.Pages.{lawful_by_parts, page_units, page_book, has_ring}
use Rattle.plain.specs.Requests.{Load, Check, checks, first_cause, verdict, granted, step, unless, page_checks, too_many}
use Rattle.page_laws.proofs.Parts.{lawful-parted, ring-looped}
use Rattle.page_laws.proofs.Lawful.{parts}
use Rattle.page_laws.proofs.Book.{page-order, page-lawful}
use Rattle.book.specs.Views.{plain_by, Agrees}
use Rattle.book.proofs.Agree.{agrees_at, plain_at}
use Rattle.book.proofs.Changing.{all-absent}
use Rattle.book.proofs.Listing.{cause-first, cause-later}

module _ (capacity : ℕ) (p : Plain) (page : List ℕ) where
  room : List Check
  room = too_many capacity (pair_count (map_of (page_book page))) ∷ []

  -- the checks of a load, part by part
  load-verdict : verdict capacity p (Load page) ≡ first_cause (page_checks page ++ room)
  unfolding checks room
  load-verdict =
      ap (λ (l : Bool). first_cause ((fault.UnlawfulPage, not l) ∷ (fault.Ring, has_ring (page_book page)) ∷ room)) (lawful-parted page)
      ∙ ap (λ (r : Bool). first_cause ((fault.UnlawfulPage, not (lawful_by_parts page)) ∷ (fault.Ring, r) ∷ room)) (ring-looped (page_book page))

  -- refused for the page itself
  pub page-refused : (cause : BookFault) → first_cause (page_checks page) ≡ Some cause → verdict capacity p (Load page) ≡ Some cause
  page-refused cause e = load-verdict ∙ cause-first (page_checks page) room cause e

  later : first_cause (page_checks page) ≡ None → verdict capacity p (Load page) ≡ first_cause room
  later e = load-verdict ∙ cause-later (page_checks page) room e

  -- refused for want of room
  pub room-refused : first_cause (page_checks page) ≡ None → (m : Map) → m ≡ map_of (page_book page) → (why : StoreFault) → copy_cause m capacity ≡ Some why → verdict capacity p (Load page) ≡ Some (fault.Store why)
  unfolding room
  room-refused e m is why f = go (leb (pair_count m) capacity) refl
    where
      count : pair_count m ≡ pair_count (map_of (page_book page))
      count = ap pair_count is

      go : (b : Bool) → leb (pair_count m) capacity ≡ b → verdict capacity p (Load page) ≡ Some (fault.Store why)
      go true t = let none : copy_cause m capacity ≡ None = ap (λ (b : Bool). cond b None (Some Full)) t in let z : ◌≡◌ {A = ℕ} 0 1 = cc in absurd (omega arith)
      go false t =
          let full : copy_cause m capacity ≡ Some Full = ap (λ (b : Bool). cond b None (Some Full)) t in
          let same : Full ≡ why = cc in
          later e ∙ ap (λ (n : ℕ). first_cause ((fault.Store Full, ltb capacity n) ∷ [])) (sym count) ∙ ap (λ (b : Bool). cond b (Some (fault.Store Full)) None) (lt-ltb capacity (pair_count m) (leb-false _ _ t))
          ∙ ap (λ (w : StoreFault). Some (fault.Store w)) same

  pub load-granted : first_cause (page_checks page) ≡ None → (m : Map) → m ≡ map_of (page_book page) → copy_cause m capacity ≡ None → verdict capacity p (Load page) ≡ None
  unfolding room
  load-granted e m is f = go (leb (pair_count m) capacity) refl
    where
      go : (b : Bool) → leb (pair_count m) capacity ≡ b → verdict capacity p (Load page) ≡ None
      go true t =
          later e ∙ ap (λ (n : ℕ). first_cause ((fault.Store Full, ltb capacity n) ∷ [])) (ap pair_count (sym is)) ∙ ap (λ (b : Bool). cond b (Some (fault.Store Full)) None) (le-ltb capacity (pair_count m) (leb-true _ _ t))
      go false t = let full : copy_cause m capacity ≡ Some Full = ap (λ (b : Bool). cond b None (Some Full)) t in let z : ◌≡◌ {A = ℕ} 0 1 = cc in absurd (omega arith)

  -- a refused load, and a granted one, as the step of the plain book
  pub load-refused : (cause : BookFault) → verdict capacity p (Load page) ≡ Some cause → p ≡ step capacity p (Load page)
  load-refused cause v = ap (λ w. unless w p (granted p (Load page))) (sym v)

  pub load_step : verdict capacity p (Load page) ≡ None → (m : Map) (order : List ℕ) → m ≡ map_of (page_book page) → order ≡ page_units page → plain_by m order ≡ step capacity p (Load page)
  unfolding granted
  load_step v m order is units =
      plain_at m (map_of (page_book page)) order (page_book page).order is (units ∙ sym (page-order page)) ∙ ap (λ w. unless w p (granted p (Load page))) (sym v)

-- what the page says is lawful
pub said-lawful : (page order : List ℕ) → first_cause (page_checks page) ≡ None → order ≡ page_units page → ranks.Lawful order → Lawful (page_book page)
said-lawful page order e units law =
    let absent = all-absent (page_checks page) e in
    page-lawful page (parts page (not-from (lawful_by_parts page) absent.0)) (λ u o. law.high u (subst (On u) (sym units) o)) absent.1.0
  where
    not-from : (b : Bool) → not b ≡ false → b ≡ true
    not-from b f = not-false b f

pub said-orders : (page order : List ℕ) (m : Map) → m ≡ map_of (page_book page) → order ≡ page_units page → Lawful (page_book page) → Orders m order
said-orders page order m is units law =
    subst (λ (k : Map). Orders k order) (sym is) (subst (Orders (map_of (page_book page))) (page-order page ∙ sym units) law.orders)

pub said-agrees : (page order : List ℕ) (m n : Map) (slice after : List ℕ) (l : Labels) → Lawful (page_book page) → n ≡ map_of (page_book page) → m ≡ map_of (page_book page) → order ≡ page_units page → slice ≡ order → after ≡ order →
    Exact n slice l → Agrees m after l
said-agrees page order m n slice after l law is same units lent kept exact =
    agrees_at m (map_of (page_book page)) after (page_book page).order l same (kept ∙ units ∙ sym (page-order page)) (record {
      sound = law.sound;
      orders = law.orders;
      ringless = law.ringless;
      exact = subst (λ (k : Map). Exact k (page_book page).order l) is (subst (λ (xs : List ℕ). Exact n xs l) (lent ∙ units ∙ sym (page-order page)) exact);
    })
