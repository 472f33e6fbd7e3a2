-- Every field of a lawful line begins at place 36 or before, and so does what is malformed.
use Rattle.std.proofs.Common.{◌≡◌, ℕ, zero, suc, ◌<◌, ◌≤◌, List, [], ◌∷◌, ◌++◌, length, get_or, Some, None, Ok, Err, Option, Result, refl, ap, ◌∙◌, subst, arith}
use Rattle.std.proofs.lemmas.List.{length-append, append_assoc}
use Rattle.grammar.specs.Grammar.{Said, Field, Number, Name as NameField, text, fields, letter, spaced, written, LawfulField, LawfulFields, Right, Says, MalformedAt}
use Rattle.grammar.specs.Grammar as said
use Rattle.grammar.specs.Reading.{read}
use Rattle.grammar.proofs.Theorem.{reading-right}
use Rattle.lines.proofs.Near.{digits-few, malformed-near}
use Rattle.names.specs.declared.fault.NameFault.{NameFault}
use Rattle.names.specs.declared.fault.NameFault.TheVariants as fault
use Rattle.names.specs.Faults.{name_place}
use Rattle.names.specs.Names.{Names, unit_named, found_at, free_at}
use Rattle.plain.specs.declared.BookFault.{BookFault}
use Rattle.plain.specs.declared.BookFault.TheVariants as book
use Rattle.plain.specs.Requests.{verdict}
use Rattle.answers.specs.declared.Told.{Told}
use Rattle.answers.specs.Texts.{Near}
use Rattle.plain_named.specs.Named.{Named}
use Rattle.plain_named.specs.Theorems.{FieldAt}
use Rattle.plain_named.specs.Lines.{Asked, asked, next, begins, place, request_of}
use Rattle.plain_named.specs.Replies.{tells, replied, reply, reply_to, fault_field, placed, reply_to_read, line_reply}

-- the first three fields
pub first-near : (s : Said) → place s 0 ≤ 36
first-near (said.Enrol number name rank) = omega arith
first-near (said.Drop name) = omega arith
first-near (said.Pair s t) = omega arith
first-near (said.Unpair s t) = omega arith
first-near (said.Rank name rank) = omega arith
first-near (said.Hear s t) = omega arith

pub second-near : (s : Said) → LawfulFields (fields s) → place s 1 ≤ 36
second-near (said.Enrol number name rank) l = let d = digits-few number l.0 in omega arith
second-near (said.Drop name) l = let d = l.0.short in omega arith
second-near (said.Pair s t) l = let d = l.0.short in omega arith
second-near (said.Unpair s t) l = let d = l.0.short in omega arith
second-near (said.Rank name rank) l = let d = l.0.short in omega arith
second-near (said.Hear s t) l = let d = l.0.short in omega arith

book-near : (s : Said) → LawfulFields (fields s) → (cause : BookFault) → place s (fault_field s cause) ≤ 36
book-near s l book.Zero = first-near s
book-near s l book.Standing = first-near s
book-near (said.Enrol number name rank) l book.RankOutside = let d = digits-few number l.0 in let e = l.1.0.short in omega arith
book-near (said.Drop name) l book.RankOutside = second-near (said.Drop name) l
book-near (said.Pair s t) l book.RankOutside = second-near (said.Pair s t) l
book-near (said.Unpair s t) l book.RankOutside = second-near (said.Unpair s t) l
book-near (said.Rank name rank) l book.RankOutside = second-near (said.Rank name rank) l
book-near (said.Hear s t) l book.RankOutside = second-near (said.Hear s t) l
book-near s l book.Unknown = second-near s l
book-near s l book.Doubled = second-near s l
book-near s l book.Ring = second-near s l
book-near s l book.AlreadyPaired = second-near s l
book-near s l book.NotPaired = second-near s l
book-near s l book.ShortBuffer = second-near s l
book-near s l book.BadSheet = second-near s l
book-near s l book.UnlawfulPage = second-near s l
book-near s l (book.Store cause) = second-near s l

-- the place of a name's fault
near-one : (asks : ℕ → Asked) (at : ℕ) (o : Option ℕ) (cause : NameFault) → at ≤ 36 → next (found_at at o) (λ u. Ok (asks u)) ≡ Err cause → name_place cause ≤ 36
near-one asks at None cause h e = let f : fault.Unknown at ≡ cause = cc in subst (λ c. name_place c ≤ 36) f h
near-one asks at (Some u) cause h e = let z : ◌≡◌ {A = ℕ} 0 1 = cc in absurd (omega arith)

near-two : (asks : ℕ → ℕ → Asked) (at then : ℕ) (o p : Option ℕ) (cause : NameFault) → at ≤ 36 → then ≤ 36 →
    next (found_at at o) (λ u. next (found_at then p) (λ v. Ok (asks u v))) ≡ Err cause → name_place cause ≤ 36
near-two asks at then None p cause h k e = let f : fault.Unknown at ≡ cause = cc in subst (λ c. name_place c ≤ 36) f h
near-two asks at then (Some u) p cause h k e = near-one (asks u) then p cause k e

near_new : (a : Asked) (at : ℕ) (o : Option ℕ) (cause : NameFault) → at ≤ 36 → next (free_at at o) (λ _. Ok a) ≡ Err cause → name_place cause ≤ 36
near_new a at None cause h e = let z : ◌≡◌ {A = ℕ} 0 1 = cc in absurd (omega arith)
near_new a at (Some u) cause h e = let f : fault.Taken at ≡ cause = cc in subst (λ c. name_place c ≤ 36) f h

name-near : (names : Names) (s : Said) → LawfulFields (fields s) → (cause : NameFault) → asked names s ≡ Err cause → name_place cause ≤ 36
unfolding asked
name-near names (said.Enrol number name rank) l cause e = near_new _ _ (unit_named names name) cause (second-near (said.Enrol number name rank) l) e
name-near names (said.Drop name) l cause e = near-one _ _ (unit_named names name) cause (first-near (said.Drop name)) e
name-near names (said.Pair s t) l cause e = near-two _ _ _ (unit_named names s) (unit_named names t) cause (first-near (said.Pair s t)) (second-near (said.Pair s t) l) e
name-near names (said.Unpair s t) l cause e = near-two _ _ _ (unit_named names s) (unit_named names t) cause (first-near (said.Unpair s t)) (second-near (said.Unpair s t) l) e
name-near names (said.Rank name rank) l cause e = near-one _ _ (unit_named names name) cause (first-near (said.Rank name rank)) e
name-near names (said.Hear s t) l cause e = near-two _ _ _ (unit_named names s) (unit_named names t) cause (first-near (said.Hear s t)) (second-near (said.Hear s t) l) e

pub reply-near : (capacity : ℕ) (n : Named) (s : Said) → LawfulFields (fields s) → Near (placed s (reply capacity n s))
unfolding reply_to
reply-near capacity n s l = go (asked n.names s) refl
  where
    at : (o : Option BookFault) (told : Told) → Near (placed s (replied o told))
    at None told = tt
    at (Some cause) told = book-near s l cause

    go : (r : Result Asked NameFault) → asked n.names s ≡ r → Near (placed s (reply_to capacity n r))
    go (Ok a) e = at (verdict capacity n.book (request_of a)) (tells n.book a)
    go (Err cause) e = name-near n.names s l cause e

pub line-near : (capacity : ℕ) (n : Named) (line : List ℕ) → Near (line_reply capacity n line)
line-near capacity n line = go (read line) (reading-right.right line)
  where
    go : (r : Result Said ℕ) → Right line r → Near (reply_to_read capacity n r)
    go (Ok s) says = reply-near capacity n s says.lawful
    go (Err at) malformed = malformed-near line at malformed

-- a field among others: what stands before it, and after
record Spaced (fs : List Field) (i : ℕ) (f : Field) : Type 0 where
  before : List ℕ
  after : List ℕ
  split : before ++ (text f ++ after) ≡ spaced fs
  here : begins fs i ≡ suc (suc (length before))

spaced-at : (fs : List Field) (i : ℕ) (d : Field) → i < length fs → Spaced fs i (get_or fs i d)
spaced-at [] i d h = absurd (omega arith)
spaced-at (f ∷ fs) zero d h = record { before = 32 ∷ []; after = spaced fs; split = refl; here = refl }
spaced-at (f ∷ fs) (suc i) d h =
    let r = spaced-at fs i d (omega arith) in
    record {
      before = 32 ∷ (text f ++ r.before);
      after = r.after;
      split = ap (λ (xs : List ℕ). 32 ∷ xs) (append_assoc (text f) r.before (text (get_or fs i d) ++ r.after) ∙ ap (λ (xs : List ℕ). text f ++ xs) r.split);
      here = let l = length-append (text f) r.before in let p = r.here in omega arith;
    }

pub field_at : (s : Said) (i : ℕ) (d : Field) → i < length (fields s) → FieldAt s i (get_or (fields s) i d)
field_at s i d h =
    let r = spaced-at (fields s) i d h in
    record { before = letter s ∷ r.before; after = r.after; split = ap (λ (xs : List ℕ). letter s ∷ xs) r.split; here = r.here }
