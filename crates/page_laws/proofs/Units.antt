-- The units of a page, read one after the other.
use Rattle.std.proofs.Common.{◌≡◌, ℕ, suc, ◌+◌, ◌-◌, ◌<◌, true, List, [], ◌∷◌, ◌++◌, sym, refl, ap, ◌∙◌, subst, inl, arith}
use Rattle.theory.specs.Maps.{listed}
use Rattle.theory.specs.Chains.{On}
use Rattle.theory.specs.Ranks.{Once}
use Rattle.theory.proofs.Distinct.{on-from-listed}
use Rattle.std.proofs.lemmas.List.{map-append}
use Rattle.plain.specs.Lists.{numbers, each}
use Rattle.plain.specs.Pages.{unit_count, unit_in, page_units}
use Rattle.page_laws.specs.Parts.{Parts}
use Rattle.page_laws.proofs.Numbers.{numbers_more, numbers-split, on-numbers, on-each, once-append}

-- the units of the first i records
abbrev pub front : List ℕ → ℕ → List ℕ
front page i = each (unit_in page) (numbers 0 i)

pub units-grown : (page : List ℕ) (i : ℕ) → front page (i + 1) ≡ front page i ++ unit_in page i ∷ []
units-grown page i =
    let up : i + 1 ≡ suc i = omega arith in
    let here : 0 + i ≡ i = omega arith in
    ap (front page) up ∙ ap (each (unit_in page)) (numbers_more 0 i) ∙ map-append (unit_in page) (numbers 0 i) ((0 + i) ∷ []) ∙ ap (λ (n : ℕ). front page i ++ unit_in page n ∷ []) here

pub units-all : (page : List ℕ) → page_units page ≡ front page (unit_count page)
unfolding page_units
units-all page = refl

-- the unit of a record is one of the page
pub unit-on : (page : List ℕ) (i : ℕ) → i < unit_count page → On (unit_in page i) (page_units page)
unit-on page i h =
    subst (On (unit_in page i)) (sym (units-all page)) (on-each (unit_in page) (numbers 0 (unit_count page)) i ((on-numbers 0 (unit_count page) i).1 (omega arith, omega arith)))

-- a unit that stands further up stands twice
pub unit-twice : (page : List ℕ) (i : ℕ) → i < unit_count page → On (unit_in page i) (front page i) → Once (page_units page) → ⊥
unit-twice page i h o once =
    let more = unit_count page - suc i in
    let sum : unit_count page ≡ i + suc more = omega arith in
    let here : i ≡ 0 + i = omega arith in
    let split =
    units-all page ∙ ap (front page) sum ∙ ap (each (unit_in page)) (numbers-split 0 i (suc more)) ∙ map-append (unit_in page) (numbers 0 i) (numbers (0 + i) (suc more)) in
    ((once-append (front page i) (each (unit_in page) (numbers (0 + i) (suc more)))).0 (subst Once split once)).2 (unit_in page i) o (inl (ap (unit_in page) here))

pub unit-listed : (page : List ℕ) (i : ℕ) → i < unit_count page → listed (unit_in page i) (front page i) ≡ true → Parts page → ⊥
unit-listed page i h e p = unit-twice page i h (on-from-listed _ _ e) p.differ

pub unit-zero : (page : List ℕ) (i : ℕ) → i < unit_count page → unit_in page i ≡ 0 → Parts page → ⊥
unit-zero page i h e p = p.units (unit_in page i) (unit-on page i h) e
