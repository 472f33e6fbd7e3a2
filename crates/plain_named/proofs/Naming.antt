-- After every line a number has a name exactly while its unit stands, and no two have the same.
use Rattle.std.proofs.Common.{◌≡◌, ℕ, ◌-◌, ◌≤◌, Bool, true, false, not, ◌&&◌, ◌||◌, eqb, ◌⊎◌, List, [], ◌∷◌, length, is_some, Some, None, Ok, Err, Option, Result, sym, refl, ap, ◌∙◌, subst, inl, inr, arith, MatchOption}
use Rattle.std.proofs.lemmas.Bool.{eq-eqb, ne_eqb, cases_eq, cond-true, cond-false, or_parts, not-false}
use Rattle.grammar.specs.Grammar.{Said, IsName, fields, LawfulFields, Right}
use Rattle.grammar.proofs.Theorem.{reading-right}
use Rattle.grammar.specs.Grammar as said
use Rattle.grammar.specs.Reading.{read}
use Rattle.names.specs.declared.fault.NameFault.{NameFault}
use Rattle.names.specs.Names.{Names, renamed, unit_named, found_at, free_at}
use Rattle.names.proofs.Finding.{holder}
use Rattle.theory.specs.Maps.{listed}
use Rattle.plain.specs.declared.BookFault.{BookFault}
use Rattle.plain.specs.Requests.{Check, stands, unknown, no_rank, granted, verdict, checks, first_cause}
use Rattle.plain_named.specs.Named.{Named, nobody, WellNamed}
use Rattle.plain_named.specs.Lines.{Asked, Enrol, Drop, Pair, Unpair, Rank, Hear, asked, next, request_of, names_after}
use Rattle.plain_named.specs.Replies.{unless, left_by, left_by_read, left, after}
use Rattle.plain_named.proofs.Orders.{listed-inserted, listed-removed, listed-moved}

-- what a line may ask: a new name is lawful, and nobody has it
abbrev pub Fit : Names → Asked → Type 0
Fit names (Enrol unit name rank) = IsName name × ((u : ℕ) → names u ≡ Some name → ⊥) × (unit ≤ 255)
Fit names (Drop unit) = Unit {0}
Fit names (Pair source listener) = Unit {0}
Fit names (Unpair source listener) = Unit {0}
Fit names (Rank unit rank) = Unit {0}
Fit names (Hear source listener) = Unit {0}

-- no check of a granted request fails
all_pass : (c : Check) (cs : List Check) → first_cause (c ∷ cs) ≡ None → (c.1 ≡ false) × (first_cause cs ≡ None)
all_pass (fault, true) cs e = let z : ◌≡◌ {A = ℕ} 0 1 = cc in absurd (omega arith)
all_pass (fault, false) cs e = (refl, e)

-- the names of an enrolled and of a dropped unit
renamed-is : (u k : ℕ) (o : Option (List ℕ)) (names : Names) → k ≡ u → renamed u o names k ≡ o
renamed-is u k o names e = cond-true (eqb k u) o (names k) (eq-eqb k u e)

renamed-other : (u k : ℕ) (o : Option (List ℕ)) (names : Names) → (k ≡ u → ⊥) → renamed u o names k ≡ names k
renamed-other u k o names ne = cond-false (eqb k u) o (names k) (ne_eqb k u ne)

enrolled : (n : Named) (unit : ℕ) (name : List ℕ) (rank : ℕ) (order : List ℕ) → WellNamed n → Fit n.names (Enrol unit name rank) → ((u : ℕ) → listed u order ≡ (eqb u unit || listed u n.book.order)) →
    (pair : ℕ → ℕ → Bool) → WellNamed (record { book = record { order = order; pair = pair }; names = renamed unit (Some name) n.names })
enrolled n unit name rank order w fit is pair = record {
  standing = λ u. at u (cases_eq u unit) ∙ sym (is u);
  apart = λ a b x ea eb. two a b x ea eb (cases_eq a unit) (cases_eq b unit);
  few = λ u h. renamed-other unit u (Some name) n.names (λ e. let z = fit.2 in omega arith) ∙ w.few u h;
  lawful = λ u x e. of u x e (cases_eq u unit);
}
  where
    at : (u : ℕ) → (u ≡ unit) ⊎ (u ≡ unit → ⊥) → is_some (renamed unit (Some name) n.names u) ≡ (eqb u unit || listed u n.book.order)
    at u (inl e) = ap is_some (renamed-is unit u (Some name) n.names e) ∙ sym (ap (λ (b : Bool). b || listed u n.book.order) (eq-eqb u unit e))
    at u (inr ne) = ap is_some (renamed-other unit u (Some name) n.names ne) ∙ (w.standing u ∙ sym (ap (λ (b : Bool). b || listed u n.book.order) (ne_eqb u unit ne)))

    own : (u : ℕ) (x : List ℕ) → u ≡ unit → renamed unit (Some name) n.names u ≡ Some x → name ≡ x
    own u x is e = let f = sym (renamed-is unit u (Some name) n.names is) ∙ e in cc

    kept : (u : ℕ) (x : List ℕ) → (u ≡ unit → ⊥) → renamed unit (Some name) n.names u ≡ Some x → n.names u ≡ Some x
    kept u x ne e = sym (renamed-other unit u (Some name) n.names ne) ∙ e

    two : (a b : ℕ) (x : List ℕ) → renamed unit (Some name) n.names a ≡ Some x → renamed unit (Some name) n.names b ≡ Some x → (a ≡ unit) ⊎ (a ≡ unit → ⊥) → (b ≡ unit) ⊎ (b ≡ unit → ⊥) → a ≡ b
    two a b x ea eb (inl ia) (inl ib) = ia ∙ sym ib
    two a b x ea eb (inl ia) (inr nb) = absurd (fit.1 b (kept b x nb eb ∙ ap Some (sym (own a x ia ea))))
    two a b x ea eb (inr na) (inl ib) = absurd (fit.1 a (kept a x na ea ∙ ap Some (sym (own b x ib eb))))
    two a b x ea eb (inr na) (inr nb) = w.apart a b x (kept a x na ea) (kept b x nb eb)

    of : (u : ℕ) (x : List ℕ) → renamed unit (Some name) n.names u ≡ Some x → (u ≡ unit) ⊎ (u ≡ unit → ⊥) → IsName x
    of u x e (inl is) = subst IsName (own u x is e) fit.0
    of u x e (inr ne) = w.lawful u x (kept u x ne e)

dropped : (n : Named) (unit : ℕ) (order : List ℕ) → WellNamed n → ((u : ℕ) → listed u order ≡ (not (eqb u unit) && listed u n.book.order)) → (pair : ℕ → ℕ → Bool) →
    WellNamed (record { book = record { order = order; pair = pair }; names = renamed unit None n.names })
dropped n unit order w is pair = record {
  standing = λ u. at u (cases_eq u unit) ∙ sym (is u);
  apart = λ a b x ea eb. w.apart a b x (kept a x ea (cases_eq a unit)) (kept b x eb (cases_eq b unit));
  few = λ u h. none u h (cases_eq u unit);
  lawful = λ u x e. w.lawful u x (kept u x e (cases_eq u unit));
}
  where
    at : (u : ℕ) → (u ≡ unit) ⊎ (u ≡ unit → ⊥) → is_some (renamed unit None n.names u) ≡ (not (eqb u unit) && listed u n.book.order)
    at u (inl e) = ap is_some (renamed-is unit u None n.names e) ∙ sym (ap (λ (b : Bool). not b && listed u n.book.order) (eq-eqb u unit e))
    at u (inr ne) = ap is_some (renamed-other unit u None n.names ne) ∙ (w.standing u ∙ sym (ap (λ (b : Bool). not b && listed u n.book.order) (ne_eqb u unit ne)))

    kept : (u : ℕ) (x : List ℕ) → renamed unit None n.names u ≡ Some x → (u ≡ unit) ⊎ (u ≡ unit → ⊥) → n.names u ≡ Some x
    kept u x e (inl is) = let f = sym (renamed-is unit u None n.names is) ∙ e in let z : ◌≡◌ {A = ℕ} 0 1 = cc in absurd (omega arith)
    kept u x e (inr ne) = sym (renamed-other unit u None n.names ne) ∙ e

    none : (u : ℕ) → 256 ≤ u → (u ≡ unit) ⊎ (u ≡ unit → ⊥) → renamed unit None n.names u ≡ None
    none u h (inl is) = renamed-is unit u None n.names is
    none u h (inr ne) = renamed-other unit u None n.names ne ∙ w.few u h

-- the same units under the same names
reordered : (n : Named) (order : List ℕ) → WellNamed n → ((u : ℕ) → listed u order ≡ listed u n.book.order) → (pair : ℕ → ℕ → Bool) →
    WellNamed (record { book = record { order = order; pair = pair }; names = n.names })
reordered n order w is pair = record { standing = λ u. w.standing u ∙ sym (is u); apart = w.apart; few = w.few; lawful = w.lawful }

granted-well : (capacity : ℕ) (n : Named) (a : Asked) → WellNamed n → Fit n.names a → verdict capacity n.book (request_of a) ≡ None →
    WellNamed (record { book = granted n.book (request_of a); names = names_after a n.names })
unfolding granted checks
granted-well capacity n (Enrol unit name rank) w fit v = enrolled n unit name rank _ w fit (λ u. listed-inserted u unit (rank - 1) n.book.order) _
granted-well capacity n (Drop unit) w fit v = dropped n unit _ w (λ u. listed-removed u unit n.book.order) _
granted-well capacity n (Pair source listener) w fit v = reordered n n.book.order w (λ u. refl) _
granted-well capacity n (Unpair source listener) w fit v = reordered n n.book.order w (λ u. refl) _
granted-well capacity n (Rank unit rank) w fit v =
    reordered n _ w (λ u. listed-moved u unit (rank - 1) n.book.order (not-false (stands n.book unit) (or_parts (not (stands n.book unit)) false (all_pass (unknown n.book (unit ∷ [])) (no_rank (length n.book.order) rank ∷ []) v).0).0)) _
granted-well capacity n (Hear source listener) w fit v = w

left-well : (capacity : ℕ) (n : Named) (r : Result Asked NameFault) → WellNamed n → ((a : Asked) → r ≡ Ok a → Fit n.names a) → WellNamed (left_by capacity n r)
unfolding left_by
left-well capacity n (Err cause) w fit = w
left-well capacity n (Ok a) w fit = go (verdict capacity n.book (request_of a)) refl
  where
    go : (o : Option BookFault) → verdict capacity n.book (request_of a) ≡ o → WellNamed (unless o n (record { book = granted n.book (request_of a); names = names_after a n.names }))
    go None e = granted-well capacity n a w (fit a refl) e
    go (Some cause) e = w

-- what a lawful line asks is fit
fit-one : (names : Names) (asks : ℕ → Asked) → ((u : ℕ) → Fit names (asks u)) → (at : ℕ) (o : Option ℕ) (a : Asked) → next (found_at at o) (λ u. Ok (asks u)) ≡ Ok a → Fit names a
fit-one names asks fits at None a e = let z : ◌≡◌ {A = ℕ} 0 1 = cc in absurd (omega arith)
fit-one names asks fits at (Some u) a e = let f : asks u ≡ a = cc in subst (Fit names) f (fits u)

fit-two : (names : Names) (asks : ℕ → ℕ → Asked) → ((u v : ℕ) → Fit names (asks u v)) → (at then : ℕ) (o p : Option ℕ) (a : Asked) →
    next (found_at at o) (λ u. next (found_at then p) (λ v. Ok (asks u v))) ≡ Ok a → Fit names a
fit-two names asks fits at then None p a e = let z : ◌≡◌ {A = ℕ} 0 1 = cc in absurd (omega arith)
fit-two names asks fits at then (Some u) p a e = fit-one names (asks u) (fits u) then p a e

fit-new : (names : Names) (unit : ℕ) (name : List ℕ) (rank : ℕ) → IsName name → unit ≤ 255 → (at : ℕ) (o : Option ℕ) → MatchOption o ((u : ℕ) → names u ≡ Some name → ⊥) (λ u. names u ≡ Some name) → (a : Asked) →
    next (free_at at o) (λ _. Ok (Enrol unit name rank)) ≡ Ok a → Fit names a
fit-new names unit name rank is few at None nobody a e = let f : Enrol unit name rank ≡ a = cc in subst (Fit names) f (is, nobody, few)
fit-new names unit name rank is few at (Some u) somebody a e = let z : ◌≡◌ {A = ℕ} 0 1 = cc in absurd (omega arith)

asked-fit : (names : Names) → ((u : ℕ) → 256 ≤ u → names u ≡ None) → (s : Said) → LawfulFields (fields s) → (a : Asked) → asked names s ≡ Ok a → Fit names a
unfolding asked
asked-fit names few (said.Enrol number name rank) l a e = fit-new names number name rank l.1.0 l.0 _ (unit_named names name) (holder names name few) a e
asked-fit names few (said.Drop name) l a e = fit-one names Drop (λ u. tt) _ (unit_named names name) a e
asked-fit names few (said.Pair s t) l a e = fit-two names Pair (λ u v. tt) _ _ (unit_named names s) (unit_named names t) a e
asked-fit names few (said.Unpair s t) l a e = fit-two names Unpair (λ u v. tt) _ _ (unit_named names s) (unit_named names t) a e
asked-fit names few (said.Rank name rank) l a e = fit-one names (λ u. Rank u rank) (λ u. tt) _ (unit_named names name) a e
asked-fit names few (said.Hear s t) l a e = fit-two names Hear (λ u v. tt) _ _ (unit_named names s) (unit_named names t) a e

pub said-well : (capacity : ℕ) (n : Named) (s : Said) → LawfulFields (fields s) → WellNamed n → WellNamed (left capacity n s)
said-well capacity n s l w = left-well capacity n (asked n.names s) w (λ a e. asked-fit n.names w.few s l a e)

pub after-well : (capacity : ℕ) (n : Named) (line : List ℕ) → WellNamed n → WellNamed (after capacity n line)
unfolding after
after-well capacity n line w = go (read line) (reading-right.right line)
  where
    go : (r : Result Said ℕ) → Right line r → WellNamed (left_by_read capacity n r)
    go (Ok s) says = said-well capacity n s says.lawful w
    go (Err at) malformed = w

pub nobody-well : WellNamed nobody
nobody-well = record {
  standing = λ u. refl;
  apart = λ a b name ea eb. let z : ◌≡◌ {A = ℕ} 0 1 = cc in absurd (omega arith);
  few = λ u h. refl;
  lawful = λ u name e. let z : ◌≡◌ {A = ℕ} 0 1 = cc in absurd (omega arith);
}
