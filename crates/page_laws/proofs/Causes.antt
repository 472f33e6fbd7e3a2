-- What a page is refused for, by what was found of it.
use Rattle.std.proofs.Common.{◌≡◌, ℕ, ◌≤◌, Bool, true, false, cond, not, T, eqb, List, Some, None, Option, sym, refl, ap, ◌∙◌, subst}
use Rattle.std.proofs.lemmas.Bool.{eq-eqb}
use Rattle.theory.specs.Maps.{Map, Sound}
use Rattle.theory.specs.Chains.{On}
use Rattle.theory.specs.Hearing.{is_heard}
use Rattle.theory.proofs.Tests.{or_fst, or_snd, passes, same_tests}
use Rattle.plain.specs.declared.BookFault.{BookFault}
use Rattle.plain.specs.declared.BookFault.TheVariants as fault
use Rattle.plain.specs.Lists.{some}
use Rattle.plain.specs.Plain.{map_of}
use Rattle.plain.specs.Pages.{page_units, page_book, has_ring_or_loop}
use Rattle.plain.specs.Requests.{first_cause, page_checks}
use Rattle.plain.proofs.Some.{some-on}
use Rattle.page_laws.specs.Parts.{Parts}
use Rattle.page_laws.proofs.Lawful.{lawful, unlawful}
use Rattle.page_laws.proofs.Book.{page-sound, ring-found, no-ring-found}

abbrev told : Bool → Bool → Option BookFault
told l r = cond (not l) (Some fault.UnlawfulPage) (cond r (Some fault.Ring) None)

pub refused-page : (page : List ℕ) → (Parts page → ⊥) → first_cause (page_checks page) ≡ Some fault.UnlawfulPage
refused-page page never = ap (λ (l : Bool). told l (has_ring_or_loop (page_book page))) (unlawful page never)

module _ (page : List ℕ) (p : Parts page) where
  refused-ring : has_ring_or_loop (page_book page) ≡ true → first_cause (page_checks page) ≡ Some fault.Ring
  refused-ring ring = ap (λ (l : Bool). told l (has_ring_or_loop (page_book page))) (lawful page p) ∙ ap (told true) ring

  granted-page : has_ring_or_loop (page_book page) ≡ false → first_cause (page_checks page) ≡ None
  granted-page none = ap (λ (l : Bool). told l (has_ring_or_loop (page_book page))) (lawful page p) ∙ ap (told true) none

  -- the pairings as they were read, asked of the units in their order
  module _ (order : List ℕ) (units : order ≡ page_units page) (high : (u : ℕ) → On u order → u ≤ 255) (row : ℕ → ℕ → Bool) (rows : (a b : ℕ) → row a b ≡ (page_book page).pair a b) where
    lower : (u : ℕ) → On u (page_units page) → u ≤ 255
    lower u o = high u (subst (On u) (sym units) o)

    pub self-ring : some (λ a. row a a) order ≡ true → first_cause (page_checks page) ≡ Some fault.Ring
    self-ring e =
        let s = (some-on (λ a. row a a) order).0 (passes _ e) in
        let a = s.0 in
        refused-ring (ring-found page p lower a a (subst T (rows a a) s.2) (or_fst (eqb a a) _ (passes _ (eq-eqb a a refl))))

    clear : some (λ a. row a a) order ≡ false → (a : ℕ) → On a (page_units page) → (page_book page).pair a a ≡ false
    clear e a o =
        same_tests ((page_book page).pair a a) false (λ t. subst T e ((some-on (λ a. row a a) order).1 (a, subst (On a) (sym units) o, subst T (sym (rows a a)) t))) (λ t. absurd t)

    pub sound-page : some (λ a. row a a) order ≡ false → Sound (map_of (page_book page))
    sound-page e = page-sound page p lower (clear e)

    pub found-ring : (m : Map) → m ≡ map_of (page_book page) → (a b : ℕ) → m.pair a b ≡ true → is_heard m b a ≡ true → first_cause (page_checks page) ≡ Some fault.Ring
    found-ring m is a b pair heard =
        refused-ring (ring-found page p lower a b (passes _ (ap (λ (n : Map). n.pair a b) (sym is) ∙ pair)) (or_snd (eqb a b) _ (passes _ (ap (λ (n : Map). is_heard n b a) (sym is) ∙ heard))))

    pub found_none : some (λ a. row a a) order ≡ false → (m : Map) → m ≡ map_of (page_book page) → ((a b : ℕ) → m.pair a b ≡ true → is_heard m b a ≡ false) → first_cause (page_checks page) ≡ None
    found_none e m is far =
        granted-page (no-ring-found page p lower (clear e) (λ a b t. ap (λ (n : Map). is_heard n b a) (sym is) ∙ far a b (ap (λ (n : Map). n.pair a b) is ∙ t)))
