-- The lawful page told fact by fact and told part by part are one, and so are the two tests for a ring.
use Rattle.std.proofs.Common.{◌≡◌, ℕ, zero, suc, Bool, true, false, not, ◌&&◌, ◌||◌, eqb, leb, ◌==◌, ◌+◌, ◌*◌, ◌⊎◌, List, [], ◌∷◌, length, get_or, refl, ap, sym, ◌∙◌, subst, inl, inr}
use Rattle.std.proofs.lemmas.Bool.{cases_eq, eq-eqb, ne_eqb}
use Rattle.theory.specs.Maps.{Map, listed}
use Rattle.theory.specs.Chains.{On}
use Rattle.theory.specs.Hearing.{reach, is_heard}
use Rattle.theory.proofs.Tests.{passed}
use Rattle.theory.proofs.Lists.{listed-on}
use Rattle.plain.specs.Lists.{every, some, doubled, numbers, each}
use Rattle.plain.specs.Plain.{Plain, map_of}
use Rattle.plain.specs.Pages.{unit_count, record_count, listener_in, first_of, unit_chain, chains, next_of, page_units, has_form, units_right, firsts_right, chains_right, listeners_right, lawful_page, lawful_by_parts, has_ring, has_ring_or_loop}

-- two tests at once
every-both : (f g : ℕ → Bool) (xs : List ℕ) → every (λ x. f x && g x) xs ≡ (every f xs && every g xs)
every-both f g [] = refl
every-both f g (x ∷ xs) = ap (λ (b : Bool). (f x && g x) && b) (every-both f g xs) ∙ turn (f x) (g x) (every f xs) (every g xs)
  where
    turn : (a b c d : Bool) → ((a && b) && (c && d)) ≡ ((a && c) && (b && d))
    turn false b c d = refl
    turn true false false d = refl
    turn true false true d = refl
    turn true true c d = refl

-- the same facts in parts
parted : (a b c d e f g h i j k l : Bool) →
    (a && (b && (c && (d && (e && (f && (g && (h && (i && (j && (k && l))))))))))) ≡
    ((a && (b && (c && d))) && ((e && f) && ((g && i) && (h && ((j && k) && l)))))
parted false b c d e f g h i j k l = refl
parted true false c d e f g h i j k l = refl
parted true true false d e f g h i j k l = refl
parted true true true false e f g h i j k l = refl
parted true true true true false f g h i j k l = refl
parted true true true true true false g h i j k l = refl
parted true true true true true true false h i j k l = refl
parted true true true true true true true false false j k l = refl
parted true true true true true true true false true j k l = refl
parted true true true true true true true true false j k l = refl
parted true true true true true true true true true false k l = refl
parted true true true true true true true true true true k l = refl

pub lawful-parted : (page : List ℕ) → lawful_page page ≡ lawful_by_parts page
unfolding lawful_page lawful_by_parts
lawful-parted page =
    parted (leb 4 (length page)) (length page == 4 + 3 * unit_count page + 3 * record_count page) (get_or page 0 0 == 1) (leb (record_count page) 8000)
    (every (λ u. not (u == 0)) (page_units page)) (not (doubled (page_units page)))
    (every (λ r. listed (listener_in page r) (page_units page)) (numbers 1 (record_count page)))
    (every (λ i. leb (first_of page i) (record_count page)) (numbers 0 (unit_count page)))
    (every (λ r. leb (next_of page r) (record_count page)) (numbers 1 (record_count page)))
    (every (λ r. listed r (chains page (numbers 0 (unit_count page)))) (numbers 1 (record_count page)))
    (not (doubled (chains page (numbers 0 (unit_count page)))))
    (every (λ i. not (doubled (each (listener_in page) (unit_chain page i)))) (numbers 0 (unit_count page)))
    ∙ ap (λ (b : Bool). has_form page && (units_right page && (b && (firsts_right page && (chains_right page && listeners_right page)))))
    (sym (every-both (λ r. listed (listener_in page r) (page_units page)) (λ r. leb (next_of page r) (record_count page)) (numbers 1 (record_count page))))

-- a unit that stands hears itself, in every map
reach-self : (m : Map) (k a : ℕ) → m.unit a ≡ true → reach m k a a ≡ true
unfolding reach
reach-self m zero a on = ap (λ (b : Bool). (b && eqb a a) || m.pair a a) on ∙ ap (λ (b : Bool). b || m.pair a a) (eq-eqb a a refl)
reach-self m (suc k) a on = at (m.unit (suc k)) (reach m k a a) (reach-self m k a on)
  where
    at : (here met : Bool) → met ≡ true →
        elim here [ false ↦ met | true ↦ elim met [ true ↦ true | false ↦ elim (reach m k a (suc k)) [ true ↦ reach m k (suc k) a | false ↦ false ] ] ] ≡ true
    at false met e = e
    at true met e = ap (λ (b : Bool). elim b [ true ↦ true | false ↦ elim (reach m k a (suc k)) [ true ↦ reach m k (suc k) a | false ↦ false ] ]) e

some-same : (f g : ℕ → Bool) (xs : List ℕ) → ((x : ℕ) → On x xs → f x ≡ g x) → some f xs ≡ some g xs
some-same f g [] e = refl
some-same f g (x ∷ xs) e = ap (λ (b : Bool). b || some f xs) (e x (inl refl)) ∙ ap (λ (b : Bool). g x || b) (some-same f g xs (λ y o. e y (inr o)))

pub ring-looped : (p : Plain) → has_ring p ≡ has_ring_or_loop p
unfolding has_ring has_ring_or_loop is_heard
ring-looped p = some-same _ _ p.order (λ a on. some-same _ _ p.order (λ b o. at a b on (cases_eq a b)))
  where
    at : (a b : ℕ) → On a p.order → (a ≡ b) ⊎ (a ≡ b → ⊥) → (p.pair a b && is_heard (map_of p) b a) ≡ (p.pair a b && (eqb a b || is_heard (map_of p) b a))
    at a b on (inl e) =
        let own = subst (λ (z : ℕ). reach (map_of p) 255 z a ≡ true) e (reach-self (map_of p) 255 a (passed _ ((listed-on a p.order).1 on))) in
        ap (λ (t : Bool). p.pair a b && t) (own ∙ sym (ap (λ (t : Bool). t || is_heard (map_of p) b a) (eq-eqb a b e)))
    at a b on (inr ne) = ap (λ (t : Bool). p.pair a b && (t || is_heard (map_of p) b a)) (sym (ne_eqb a b ne))
