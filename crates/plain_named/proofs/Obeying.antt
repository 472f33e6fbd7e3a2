-- What the book answers is the reply to the line, and what it leaves is what the line leaves.
use Rattle.std.proofs.Common.{◌≡◌, ℕ, suc, ◌+◌, ◌≤◌, Bool, true, ltb, List, ◌++◌, length, drop, IsErrAnd, Some, None, Ok, Err, decimal, Option, Result, sym, refl, ap, ◌∙◌, subst, arith}
use Rattle.std.proofs.lemmas.Bool.{le-ltb, cond-true, cond-false}
use Rattle.grammar.specs.Grammar.{Said}
use Rattle.grammar.specs.Grammar as said
use Rattle.grammar.specs.Reading.{read}
use Rattle.names.specs.declared.fault.NameFault.{NameFault}
use Rattle.names.specs.Names.{Names, unit_named, found_at, free_at}
use Rattle.plain.specs.declared.BookFault.{BookFault}
use Rattle.plain.specs.declared.BookFault.TheVariants.{ShortBuffer}
use Rattle.plain.specs.Plain.{Plain}
use Rattle.plain.specs.Requests as plain
use Rattle.plain.specs.Requests.{Request, verdict, granted}
use Rattle.book.specs.Answers.{answered, alters, Applied}
use Rattle.book.proofs.Answering.{the-cause}
use Rattle.std.proofs.lemmas.Result.{err_from_is_err_and}
use Rattle.answers.specs.declared.Told.{Told}
use Rattle.answers.specs.declared.Told.TheVariants.{Changed, Heard}
use Rattle.answers.specs.declared.fault.LineFault.{LineFault}
use Rattle.answers.specs.declared.fault.LineFault.TheVariants.{Form, Name, Book}
use Rattle.answers.specs.declared.fault.Refusal.{Refusal}
use Rattle.answers.specs.Texts.{text}
use Rattle.plain_named.specs.Named.{Named}
use Rattle.plain_named.specs.Lines.{Asked, Enrol, asked, next, of_one, of_two, request_of, names_after}
use Rattle.plain_named.specs.Replies.{tells, replied, reply, reply_to, unless, left, left_by, placed, reply_to_read, left_by_read, line_reply, answer, after}
use Rattle.plain_named.specs.Calls.{Obeyed, Answered, of_book, both_at, both_found}

-- the names of a line
pub two-asked : (names : Names) (asks : ℕ → ℕ → Asked) (s t : List ℕ) (a b : ℕ) → ◌≡◌ {A = Result (ℕ × ℕ) NameFault} (Ok (a, b)) (both_found names s t) → of_two names asks 3 (suc (length s) + 3) s t ≡ Ok (asks a b)
two-asked names asks s t a b e = ap (λ (k : ℕ). of_two names asks 3 k s t) (omega arith) ∙ go (unit_named names s) (unit_named names t) e
  where
    go : (o p : Option ℕ) → ◌≡◌ {A = Result (ℕ × ℕ) NameFault} (Ok (a, b)) (both_at (4 + length s) o p) → next (found_at 3 o) (λ x. next (found_at (4 + length s) p) (λ y. Ok (asks x y))) ≡ Ok (asks a b)
    go None p h = let z : ◌≡◌ {A = ℕ} 0 1 = cc in absurd (omega arith)
    go (Some x) None h = let z : ◌≡◌ {A = ℕ} 0 1 = cc in absurd (omega arith)
    go (Some x) (Some y) h = let q : ◌≡◌ {A = ℕ × ℕ} (x, y) (a, b) = cc in ap (λ (p : ℕ × ℕ). Ok (asks p.0 p.1)) q

pub two-refused : (names : Names) (asks : ℕ → ℕ → Asked) (s t : List ℕ) (cause : NameFault) → Err cause ≡ both_found names s t → of_two names asks 3 (suc (length s) + 3) s t ≡ Err cause
two-refused names asks s t cause e = ap (λ (k : ℕ). of_two names asks 3 k s t) (omega arith) ∙ go (unit_named names s) (unit_named names t) e
  where
    go : (o p : Option ℕ) → Err cause ≡ both_at (4 + length s) o p → next (found_at 3 o) (λ x. next (found_at (4 + length s) p) (λ y. Ok (asks x y))) ≡ Err cause
    go None p h = cc
    go (Some x) None h = cc
    go (Some x) (Some y) h = let z : ◌≡◌ {A = ℕ} 0 1 = cc in absurd (omega arith)

pub one-asked : (names : Names) (asks : ℕ → Asked) (s : List ℕ) (u : ℕ) → Ok u ≡ found_at 3 (unit_named names s) → of_one names asks 3 s ≡ Ok (asks u)
one-asked names asks s u e = ap (λ r. next r (λ x. Ok (asks x))) (sym e)

pub one-refused : (names : Names) (asks : ℕ → Asked) (s : List ℕ) (cause : NameFault) → Err cause ≡ found_at 3 (unit_named names s) → of_one names asks 3 s ≡ Err cause
one-refused names asks s cause e = ap (λ r. next r (λ x. Ok (asks x))) (sym e)

-- a new name, after a number of so many digits
new-place : (digits number : ℕ) → digits ≡ length (decimal number) → 4 + digits ≡ suc (length (decimal number)) + 3
new-place digits number e = omega arith

pub new-asked : (names : Names) (number digits : ℕ) (name : List ℕ) (rank : ℕ) → digits ≡ length (decimal number) → Ok tt ≡ free_at (4 + digits) (unit_named names name) → asked names (said.Enrol number name rank) ≡ Ok (Enrol number name rank)
unfolding asked
new-asked names number digits name rank d e = ap (λ r. next r (λ _. Ok (Enrol number name rank))) (sym (e ∙ ap (λ (k : ℕ). free_at k (unit_named names name)) (new-place digits number d)))

pub new-refused : (names : Names) (number digits : ℕ) (name : List ℕ) (rank : ℕ) (cause : NameFault) → digits ≡ length (decimal number) → Err cause ≡ free_at (4 + digits) (unit_named names name) → asked names (said.Enrol number name rank) ≡ Err cause
unfolding asked
new-refused names number digits name rank cause d e = ap (λ r. next r (λ _. Ok (Enrol number name rank))) (sym (e ∙ ap (λ (k : ℕ). free_at k (unit_named names name)) (new-place digits number d)))

-- a name is refused
pub name-refused : (capacity : ℕ) (n : Named) (s : Said) (cause : NameFault) → asked n.names s ≡ Err cause → Obeyed capacity n s (Err (Name cause)) n
unfolding reply_to left_by
name-refused capacity n s cause e = record { told = sym (ap (reply_to capacity n) e); left = sym (ap (left_by capacity n) e) }

-- the exit of a `?`
pub name-exit : (capacity : ℕ) (n : Named) (s : Said) (r : Result Told LineFault) (cause : NameFault) → asked n.names s ≡ Err cause → IsErrAnd r (λ y. y ≡ Name cause) → Obeyed capacity n s r n
name-exit capacity n s r cause e by =
    let p = err_from_is_err_and r by in subst (λ (x : Result Told LineFault). Obeyed capacity n s x n) (sym (p.1 ∙ ap Err p.2)) (name-refused capacity n s cause e)

-- the reply of the book, and the book that is left
told_is : {A : Type 0} (tell : A → Told) (o : Option BookFault) (x : A) → of_book tell (answered o x) ≡ replied o (tell x)
told_is tell None x = refl
told_is tell (Some cause) x = refl

-- a question
pub book-asked : (capacity : ℕ) (n : Named) (s : Said) (a : Asked) → asked n.names s ≡ Ok a → (answer : Result Bool BookFault) (b : Bool) → answer ≡ answered (verdict capacity n.book (request_of a)) b →
    tells n.book a ≡ Heard b → granted n.book (request_of a) ≡ n.book → names_after a n.names ≡ n.names → (r : Result Told LineFault) → r ≡ of_book Heard answer → Obeyed capacity n s r n
unfolding reply_to left_by
book-asked capacity n s a e answer b told tell stays same r is =
    let v = verdict capacity n.book (request_of a) in
    record {
      told = is ∙ ap (of_book Heard) told ∙ (told_is Heard v b ∙ (ap (replied v) (sym tell) ∙ sym (ap (reply_to capacity n) e)));
      left =
          left-same v ∙
          (ap (λ (p : Plain). unless v n (record { book = p; names = n.names })) (sym stays) ∙
          (ap (λ (names : Names). unless v n (record { book = granted n.book (request_of a); names = names })) (sym same) ∙ sym (ap (left_by capacity n) e)));
    }
  where
    left-same : (o : Option BookFault) → n ≡ unless o n (record { book = n.book; names = n.names })
    left-same None = refl
    left-same (Some cause) = refl

-- a request that writes a card anew: refused, and granted
granted-by : (o : Option BookFault) (x y : ℕ) → Ok y ≡ answered o x → (o ≡ None) × (x ≡ y)
granted-by None x y e = (refl, cc)
granted-by (Some other) x y e = let z : ◌≡◌ {A = ℕ} 0 1 = cc in absurd (omega arith)

pub card-refused : (capacity : ℕ) (n : Named) (s : Said) (a : Asked) → asked n.names s ≡ Ok a → (cause : BookFault) (after : Plain) → Applied capacity n.book (request_of a) (Err cause) after → Obeyed capacity n s (Err (Book cause)) n
unfolding reply_to left_by
card-refused capacity n s a e cause after applied =
    let is = the-cause (verdict capacity n.book (request_of a)) (alters n.book (granted n.book (request_of a))) cause applied.told in
    record {
      told = sym (ap (reply_to capacity n) e ∙ ap (λ o. replied o (tells n.book a)) is);
      left = sym (ap (left_by capacity n) e ∙ ap (λ o. unless o n (record { book = granted n.book (request_of a); names = names_after a n.names })) is);
    }

pub card-exit : (capacity : ℕ) (n : Named) (s : Said) (a : Asked) → asked n.names s ≡ Ok a → (r : Result Told LineFault) (cause : BookFault) (after : Plain) → Applied capacity n.book (request_of a) (Err cause) after →
    IsErrAnd r (λ y. y ≡ Book cause) → Obeyed capacity n s r n
card-exit capacity n s a e r cause after applied by =
    let p = err_from_is_err_and r by in subst (λ (x : Result Told LineFault). Obeyed capacity n s x n) (sym (p.1 ∙ ap Err p.2)) (card-refused capacity n s a e cause after applied)

pub card-written : (capacity : ℕ) (n : Named) (s : Said) (a : Asked) → asked n.names s ≡ Ok a → (labels : ℕ) (after : Plain) (names : Names) → Applied capacity n.book (request_of a) (Ok labels) after →
    tells n.book a ≡ Changed (alters n.book (granted n.book (request_of a))) → names ≡ names_after a n.names → Obeyed capacity n s (Ok (Changed labels)) (record { book = after; names = names })
unfolding reply_to left_by
card-written capacity n s a e labels after names applied tell written =
    let g = granted-by (verdict capacity n.book (request_of a)) (alters n.book (granted n.book (request_of a))) labels applied.told in
    record {
      told = sym (ap (reply_to capacity n) e ∙ (ap (λ o. replied o (tells n.book a)) g.0 ∙ (ap Ok tell ∙ ap (λ (k : ℕ). Ok (Changed k)) g.1)));
      left =
          ap (λ (p : Plain). record { book = p; names = names }) (applied.left ∙ ap (λ o. plain.unless o n.book (granted n.book (request_of a))) g.0) ∙
          (ap (λ (x : Names). record { book = granted n.book (request_of a); names = x }) written ∙
          sym (ap (left_by capacity n) e ∙ ap (λ o. unless o n (record { book = granted n.book (request_of a); names = names_after a n.names })) g.0));
    }

pub not-refused : {X A E : Type 0} (told : A) (cause : E) → Ok told ≡ Err cause → X
not-refused told cause e = let z : ◌≡◌ {A = ℕ} 0 1 = cc in absurd (omega arith)

-- a whole line: read, obeyed, and answered
pub form-told : (capacity : ℕ) (n : Named) (line : List ℕ) (at : ℕ) (r : Result Told Refusal) → Err at ≡ read line → IsErrAnd r (λ y. y ≡ record { fault = Form (record { place = at }); place = at }) → r ≡ line_reply capacity n line
form-told capacity n line at r e by = let p = err_from_is_err_and r by in p.1 ∙ (ap Err p.2 ∙ ap (reply_to_read capacity n) e)

pub form-left : (capacity : ℕ) (n : Named) (line : List ℕ) (at : ℕ) → Err at ≡ read line → n ≡ after capacity n line
unfolding after
form-left capacity n line at e = ap (left_by_read capacity n) e

pub said-told : (capacity : ℕ) (n : Named) (line : List ℕ) (s : Said) (answer : Result Told LineFault) (r : Result Told Refusal) → Ok s ≡ read line → answer ≡ reply capacity n s → r ≡ placed s answer → r ≡ line_reply capacity n line
said-told capacity n line s answer r e told is = is ∙ (ap (placed s) told ∙ ap (reply_to_read capacity n) e)

pub said-left : (capacity : ℕ) (n : Named) (line : List ℕ) (s : Said) (then : Named) → Ok s ≡ read line → then ≡ left capacity n s → then ≡ after capacity n line
unfolding after
said-left capacity n line s then e is = is ∙ ap (left_by_read capacity n) e

pub from-obeyed : {X : Type 0} (s : Said) (answer : Result Told LineFault) (refusal : Refusal) → placed s answer ≡ Err refusal → ((cause : LineFault) → answer ≡ Err cause → X) → X
from-obeyed s (Ok told) refusal e kept = let z : ◌≡◌ {A = ℕ} 0 1 = cc in absurd (omega arith)
from-obeyed s (Err cause) refusal e kept = kept cause refl

pub line-answered : (capacity : ℕ) (n : Named) (line before : List ℕ) (r : Result Told Refusal) (len : ℕ) (then : Named) (buffer : List ℕ) → 16 ≤ length before → r ≡ line_reply capacity n line →
    len ≡ length (text r) → buffer ≡ text r ++ drop (length (text r)) before → then ≡ after capacity n line → Answered capacity n line before (Ok len) then buffer
unfolding answer
line-answered capacity n line before r len then buffer room is long written left =
    let enough = le-ltb (length before) 16 room in
    let t = ap text is in
    record {
      told = ap Ok (long ∙ ap length t) ∙ sym (cond-false (ltb (length before) 16) _ _ enough);
      left = left ∙ sym (cond-false (ltb (length before) 16) _ _ enough);
      written = written ∙ (ap (λ (x : List ℕ). x ++ drop (length x) before) t ∙ sym (cond-false (ltb (length before) 16) _ _ enough));
    }

pub line_refused : (capacity : ℕ) (n : Named) (line before : List ℕ) → ltb (length before) 16 ≡ true → Answered capacity n line before (Err ShortBuffer) n before
line_refused capacity n line before short = record {
  told = sym (cond-true (ltb (length before) 16) _ _ short);
  left = sym (cond-true (ltb (length before) 16) _ _ short);
  written = sym (cond-true (ltb (length before) 16) _ _ short);
}
