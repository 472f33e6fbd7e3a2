-- A unit that is found by its name stands, so the book does not refuse it as unknown.
use Rattle.std.proofs.Common.{◌≡◌, ℕ, Bool, true, false, not, ◌||◌, ◌⊎◌, List, [], ◌∷◌, is_some, Some, None, Ok, Err, Option, Result, sym, refl, ap, ◌∙◌, subst, inl, inr, arith}
use Rattle.std.proofs.lemmas.Bool.{true≢false}
use Rattle.std.proofs.lemmas.Option.{MatchOption-at_some}
use Rattle.grammar.specs.Grammar.{Said}
use Rattle.grammar.specs.Grammar as said
use Rattle.grammar.specs.Reading.{read}
use Rattle.names.specs.declared.fault.NameFault.{NameFault}
use Rattle.names.specs.Names.{unit_named, found_at, free_at}
use Rattle.names.proofs.Finding.{holder}
use Rattle.plain.specs.declared.BookFault.{BookFault}
use Rattle.plain.specs.declared.BookFault.TheVariants as fault
use Rattle.plain.specs.Plain.{Plain}
use Rattle.plain.specs.Requests.{Check, stands, verdict, checks, first_cause}
use Rattle.answers.specs.declared.Told.{Told}
use Rattle.answers.specs.declared.fault.LineFault.{LineFault}
use Rattle.answers.specs.declared.fault.LineFault.TheVariants.{Form, Book}
use Rattle.answers.specs.declared.fault.Refusal.{Refusal}
use Rattle.plain_named.specs.Named.{Named, WellNamed}
use Rattle.plain_named.specs.Lines.{Asked, Enrol, Drop, Pair, Unpair, Rank, Hear, asked, next, request_of}
use Rattle.plain_named.specs.Replies.{tells, replied, reply, reply_to, placed, reply_to_read, line_reply}

-- the units that a line asks about stand
abbrev Stand : Plain → Asked → Type 0
Stand p (Enrol unit name rank) = Unit {0}
Stand p (Drop unit) = stands p unit ≡ true
Stand p (Pair source listener) = (stands p source ≡ true) × (stands p listener ≡ true)
Stand p (Unpair source listener) = (stands p source ≡ true) × (stands p listener ≡ true)
Stand p (Rank unit rank) = stands p unit ≡ true
Stand p (Hear source listener) = (stands p source ≡ true) × (stands p listener ≡ true)

abbrev is_unknown : BookFault → Bool
is_unknown fault.Zero = false
is_unknown fault.Standing = false
is_unknown fault.RankOutside = false
is_unknown fault.Unknown = true
is_unknown fault.Doubled = false
is_unknown fault.Ring = false
is_unknown fault.AlreadyPaired = false
is_unknown fault.NotPaired = false
is_unknown fault.ShortBuffer = false
is_unknown fault.BadSheet = false
is_unknown fault.UnlawfulPage = false
is_unknown (fault.Store cause) = false

-- the first cause is another, where this one is looked for and absent, or not looked for
abbrev Others : List Check → Type 0
Others [] = Unit {0}
Others (c ∷ cs) = ((c.1 ≡ false) ⊎ (is_unknown c.0 ≡ false)) × Others cs

not_first : (cs : List Check) → Others cs → first_cause cs ≡ Some fault.Unknown → ⊥
not_first [] o e = let z : ◌≡◌ {A = ℕ} 0 1 = cc in omega arith
not_first ((cause, true) ∷ cs) o e = go o.0
  where
    go : (true ≡ false) ⊎ (is_unknown cause ≡ false) → ⊥
    go (inl t) = true≢false t
    go (inr other) = let same : cause ≡ fault.Unknown = cc in true≢false (sym (ap is_unknown same) ∙ other)
not_first ((cause, false) ∷ cs) o e = not_first cs o.1 e

one-stands : (a : Bool) → a ≡ true → (not a || false) ≡ false
one-stands a e = ap (λ (x : Bool). not x || false) e

two-stand : (a b : Bool) → a ≡ true → b ≡ true → (not a || (not b || false)) ≡ false
two-stand a b e f = ap (λ (x : Bool). not x || (not b || false)) e ∙ ap (λ (x : Bool). not x || false) f

known : (capacity : ℕ) (p : Plain) (a : Asked) → Stand p a → verdict capacity p (request_of a) ≡ Some fault.Unknown → ⊥
unfolding checks
known capacity p (Enrol unit name rank) stand e = not_first (checks capacity p (request_of (Enrol unit name rank))) (inr refl, (inr refl, (inr refl, (inl refl, (inr refl, (inr refl, (inr refl, tt))))))) e
known capacity p (Drop unit) stand e = not_first (checks capacity p (request_of (Drop unit))) (inl (one-stands (stands p unit) stand), tt) e
known capacity p (Pair s t) stand e = not_first (checks capacity p (request_of (Pair s t))) (inl (two-stand (stands p s) (stands p t) stand.0 stand.1), (inr refl, (inr refl, (inr refl, tt)))) e
known capacity p (Unpair s t) stand e = not_first (checks capacity p (request_of (Unpair s t))) (inl (two-stand (stands p s) (stands p t) stand.0 stand.1), (inr refl, tt)) e
known capacity p (Rank unit rank) stand e = not_first (checks capacity p (request_of (Rank unit rank))) (inl (one-stands (stands p unit) stand), (inr refl, tt)) e
known capacity p (Hear s t) stand e = not_first (checks capacity p (request_of (Hear s t))) (inl (two-stand (stands p s) (stands p t) stand.0 stand.1), tt) e

-- a unit that has a name stands
found-stands : (n : Named) → WellNamed n → (name : List ℕ) (u : ℕ) → unit_named n.names name ≡ Some u → stands n.book u ≡ true
found-stands n w name u e = sym (w.standing u) ∙ ap is_some (MatchOption-at_some _ (λ k. n.names k ≡ Some name) u e (holder n.names name w.few))

stand-one : (n : Named) → WellNamed n → (asks : ℕ → Asked) → ((u : ℕ) → stands n.book u ≡ true → Stand n.book (asks u)) → (at : ℕ) (name : List ℕ) (o : Option ℕ) → unit_named n.names name ≡ o → (a : Asked) →
    next (found_at at o) (λ u. Ok (asks u)) ≡ Ok a → Stand n.book a
stand-one n w asks stand at name None found a e = let z : ◌≡◌ {A = ℕ} 0 1 = cc in absurd (omega arith)
stand-one n w asks stand at name (Some u) found a e = let f : asks u ≡ a = cc in subst (Stand n.book) f (stand u (found-stands n w name u found))

stand-two : (n : Named) → WellNamed n → (asks : ℕ → ℕ → Asked) → ((u v : ℕ) → stands n.book u ≡ true → stands n.book v ≡ true → Stand n.book (asks u v)) → (at then : ℕ) (s t : List ℕ) (o p : Option ℕ) → unit_named n.names s ≡ o →
    unit_named n.names t ≡ p → (a : Asked) → next (found_at at o) (λ u. next (found_at then p) (λ v. Ok (asks u v))) ≡ Ok a → Stand n.book a
stand-two n w asks stand at then s t None p es et a e = let z : ◌≡◌ {A = ℕ} 0 1 = cc in absurd (omega arith)
stand-two n w asks stand at then s t (Some u) p es et a e = stand-one n w (asks u) (λ v h. stand u v (found-stands n w s u es) h) then t p et a e

stand-new : (p : Plain) (unit : ℕ) (name : List ℕ) (rank at : ℕ) (o : Option ℕ) (a : Asked) → next (free_at at o) (λ _. Ok (Enrol unit name rank)) ≡ Ok a → Stand p a
stand-new p unit name rank at None a e = let f : Enrol unit name rank ≡ a = cc in subst (Stand p) f tt
stand-new p unit name rank at (Some u) a e = let z : ◌≡◌ {A = ℕ} 0 1 = cc in absurd (omega arith)

asked-stand : (n : Named) → WellNamed n → (s : Said) (a : Asked) → asked n.names s ≡ Ok a → Stand n.book a
unfolding asked
asked-stand n w (said.Enrol number name rank) a e = stand-new n.book number name rank _ (unit_named n.names name) a e
asked-stand n w (said.Drop name) a e = stand-one n w Drop (λ u h. h) _ name _ refl a e
asked-stand n w (said.Pair s t) a e = stand-two n w Pair (λ u v h k. (h, k)) _ _ s t _ _ refl refl a e
asked-stand n w (said.Unpair s t) a e = stand-two n w Unpair (λ u v h k. (h, k)) _ _ s t _ _ refl refl a e
asked-stand n w (said.Rank name rank) a e = stand-one n w (λ u. Rank u rank) (λ u h. h) _ name _ refl a e
asked-stand n w (said.Hear s t) a e = stand-two n w Hear (λ u v h k. (h, k)) _ _ s t _ _ refl refl a e

-- a reply with the cause comes from a verdict with it
by-verdict : (o : Option BookFault) (told : Told) → replied o told ≡ Err (Book fault.Unknown) → o ≡ Some fault.Unknown
by-verdict None told e = let z : ◌≡◌ {A = ℕ} 0 1 = cc in absurd (omega arith)
by-verdict (Some cause) told e = cc

by-reply : (capacity : ℕ) (n : Named) (r : Result Asked NameFault) → ((a : Asked) → r ≡ Ok a → Stand n.book a) → reply_to capacity n r ≡ Err (Book fault.Unknown) → ⊥
unfolding reply_to
by-reply capacity n (Ok a) stand e = known capacity n.book a (stand a refl) (by-verdict (verdict capacity n.book (request_of a)) (tells n.book a) e)
by-reply capacity n (Err cause) stand e = let z : ◌≡◌ {A = ℕ} 0 1 = cc in omega arith

abbrev fault_in : LineFault → Result Told Refusal → LineFault
fault_in none (Ok told) = none
fault_in none (Err refusal) = refusal.fault

by_place : (s : Said) (r : Result Told LineFault) (at : ℕ) → placed s r ≡ Err (record { fault = Book fault.Unknown; place = at }) → r ≡ Err (Book fault.Unknown)
by_place s (Ok told) at e = let z : ◌≡◌ {A = ℕ} 0 1 = cc in absurd (omega arith)
by_place s (Err cause) at e = ap Err (ap (fault_in cause) e)

pub never-unknown : (capacity : ℕ) (n : Named) (line : List ℕ) (at : ℕ) → WellNamed n → line_reply capacity n line ≡ Err (record { fault = Book fault.Unknown; place = at }) → ⊥
never-unknown capacity n line at w = go (read line)
  where
    go : (r : Result Said ℕ) → reply_to_read capacity n r ≡ Err (record { fault = Book fault.Unknown; place = at }) → ⊥
    go (Ok s) e = by-reply capacity n (asked n.names s) (λ a h. asked-stand n w s a h) (by_place s (reply capacity n s) at e)
    go (Err other) e = let f : Form (record { place = other }) ≡ Book fault.Unknown = ap (fault_in (Book fault.Unknown)) e in let z : ◌≡◌ {A = ℕ} 0 1 = cc in omega arith
