-- A list call: its unit is looked for first, then its buffer.
use Rattle.std.proofs.Common.{◌≡◌, ℕ, Bool, true, false, cond, ltb, leb, List, [], ◌∷◌, ◌++◌, length, drop, IsErrAnd, Some, None, Ok, Err, Result, sym, refl, ap, ◌∙◌, subst, arith}
use Rattle.std.proofs.lemmas.Result.{err_from_is_err_and}
use Rattle.std.proofs.lemmas.Bool.{leb-true, leb-false, le-ltb, lt-ltb}
use Rattle.labels.specs.declared.lists.ShortBuffer.{ShortBuffer}
use Rattle.labels.specs.declared.Labels.{Labels}
use Rattle.labels.specs.declared.ranked.Ranked.{Ranked}
use Rattle.labels.specs.OfMaps.{ExactOf}
use Rattle.labels.specs.Holding.{Exact}
use Rattle.labels.specs.Listed.{Listed, list_of}
use Rattle.labels.specs.declared.lists.List.{List as Wanted}
use Rattle.labels.specs.declared.lists.List.TheVariants as wanted
use Rattle.theory.specs.Maps.{Map}
use Rattle.plain.specs.declared.BookFault.{BookFault}
use Rattle.plain.specs.declared.BookFault.TheVariants as fault
use Rattle.plain.specs.Plain.{Plain, map_of}
use Rattle.plain.specs.Requests.{Request, Check, checks, first_cause, unknown, short_list, verdict}
use Rattle.book.specs.Answers.{answered, filled, fault_of, list_request, Lists}
use Rattle.book.proofs.Answering.{no-cause, the-cause}

-- the first of two lists of checks has the first word
pub cause-first : (cs ds : List Check) (cause : BookFault) → first_cause cs ≡ Some cause → first_cause (cs ++ ds) ≡ Some cause
cause-first [] ds cause e = absurd (let z : ◌≡◌ {A = ℕ} 0 1 = cc in omega arith)
cause-first (c ∷ cs) ds cause e = go c.1 (cause-first cs ds cause) e
  where
    go : (b : Bool) → (first_cause cs ≡ Some cause → first_cause (cs ++ ds) ≡ Some cause) → cond b (Some c.0) (first_cause cs) ≡ Some cause → cond b (Some c.0) (first_cause (cs ++ ds)) ≡ Some cause
    go true next is = is
    go false next is = next is

pub cause-later : (cs ds : List Check) → first_cause cs ≡ None → first_cause (cs ++ ds) ≡ first_cause ds
cause-later [] ds e = refl
cause-later (c ∷ cs) ds e = go c.1 (cause-later cs ds) e
  where
    go : (b : Bool) → (first_cause cs ≡ None → first_cause (cs ++ ds) ≡ first_cause ds) → cond b (Some c.0) (first_cause cs) ≡ None → cond b (Some c.0) (first_cause (cs ++ ds)) ≡ first_cause ds
    go true next is = absurd (let z : ◌≡◌ {A = ℕ} 0 1 = cc in omega arith)
    go false next is = next is

-- the checks of one of the lists
pub list-checks : (capacity : ℕ) (p : Plain) (list : Wanted) (u room : ℕ) → checks capacity p (list_request list u room) ≡ short_list p (list_of list (map_of p) p.order u) u room
unfolding checks
list-checks capacity p wanted.InLabels u room = refl
list-checks capacity p wanted.OutLabels u room = refl
list-checks capacity p wanted.InHolders u room = refl
list-checks capacity p wanted.OutHolders u room = refl

module _ (capacity : ℕ) (p : Plain) (r : Request) (xs before : List ℕ) (u : ℕ) (is : checks capacity p r ≡ short_list p xs u (length before)) where
  pub list-refused : (cause : BookFault) (answer : Result ℕ BookFault) → Err cause ≡ answered (first_cause (unknown p (u ∷ []) ∷ [])) (tt {0}) → IsErrAnd answer (λ e. e ≡ cause) → Lists capacity p r xs before answer before
  list-refused cause answer e by =
      let q = err_from_is_err_and answer by in
      let v : verdict capacity p r ≡ Some cause =
      ap first_cause is ∙ cause-first (unknown p (u ∷ []) ∷ []) ((fault.ShortBuffer, ltb (length before) (length xs)) ∷ []) cause (the-cause (first_cause (unknown p (u ∷ []) ∷ [])) (tt {0}) cause e) in
      record {
        told = q.1 ∙ ap (λ z. Err z) q.2 ∙ ap (λ w. answered w (length xs)) (sym v);
        left = ap (λ w. filled w xs before) (sym v);
      }

  pub list-told : (got : Result ℕ ShortBuffer) (answer : Result ℕ BookFault) (after : List ℕ) → Ok (tt {0}) ≡ answered (first_cause (unknown p (u ∷ []) ∷ [])) (tt {0}) →
      Listed xs before got after → answer ≡ fault_of got → Lists capacity p r xs before answer after
  list-told got answer after e l f = go (leb (length xs) (length before)) refl
    where
      v : verdict capacity p r ≡ cond (ltb (length before) (length xs)) (Some fault.ShortBuffer) None
      v = ap first_cause is ∙ cause-later (unknown p (u ∷ []) ∷ []) ((fault.ShortBuffer, ltb (length before) (length xs)) ∷ []) (no-cause (first_cause (unknown p (u ∷ []) ∷ [])) (tt {0}) e)

      go : (b : Bool) → leb (length xs) (length before) ≡ b → Lists capacity p r xs before answer after
      go true t =
          let w : verdict capacity p r ≡ None = v ∙ ap (λ (z : Bool). cond z (Some fault.ShortBuffer) None) (le-ltb (length before) (length xs) (leb-true _ _ t)) in
          record {
            told = f ∙ ap fault_of (l.tells ∙ ap (λ (z : Bool). cond z (Ok (length xs)) (Err (record {}))) t) ∙ ap (λ z. answered z (length xs)) (sym w);
            left = l.leaves ∙ ap (λ (z : Bool). cond z (xs ++ drop (length xs) before) before) t ∙ ap (λ z. filled z xs before) (sym w);
          }
      go false t =
          let w : verdict capacity p r ≡ Some fault.ShortBuffer = v ∙ ap (λ (z : Bool). cond z (Some fault.ShortBuffer) None) (lt-ltb (length before) (length xs) (leb-false _ _ t)) in
          record {
            told = f ∙ ap fault_of (l.tells ∙ ap (λ (z : Bool). cond z (Ok (length xs)) (Err (record {}))) t) ∙ ap (λ z. answered z (length xs)) (sym w);
            left = l.leaves ∙ ap (λ (z : Bool). cond z (xs ++ drop (length xs) before) before) t ∙ ap (λ z. filled z xs before) (sym w);
          }

-- the labels and the order as they were lent
pub by_order : (L : Map → List ℕ → ℕ → List ℕ) (u : ℕ) (before after : List ℕ) (got : Result ℕ ShortBuffer) (r : Ranked) (l : Labels) (order : List ℕ) → r.labels.now ≡ l → r.order.now ≡ order →
    ((m : Map) → ExactOf m r → Listed (L m r.order.now u) before got after) → (m : Map) → Exact m order l → Listed (L m order u) before got after
by_order L u before after got r l order le oe f m exact =
    subst (λ (xs : List ℕ). Listed (L m xs u) before got after) oe (f m (subst (λ (xs : List ℕ). Exact m xs r.labels.now) (sym oe) (subst (Exact m order) (sym le) exact)))

-- a kept list is the list of the definition, and was asked for as such
pub listed_kept : (capacity : ℕ) (p : Plain) (r : Request) (xs kept before : List ℕ) (answer : Result ℕ BookFault) (after : List ℕ) → kept ≡ xs → Lists capacity p r xs before answer after → Lists capacity p r kept before answer after
listed_kept capacity p r xs kept before answer after e = subst (λ (ys : List ℕ). Lists capacity p r ys before answer after) (sym e)
