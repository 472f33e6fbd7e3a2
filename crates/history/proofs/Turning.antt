-- The answer to a call is the reply to its request, and the book is left as the request leaves it.
use Rattle.std.proofs.Common.{◌≡◌, ℕ, ◌+◌, ◌*◌, ◌≤◌, ltb, List, [], ◌∷◌, ◌++◌, length, take, drop, IfOk, IsOkAnd, MatchResult, Some, None, Ok, Err, Option, Result, sym, refl, ap, ◌∙◌, subst, arith, length-append}
use Rattle.std.proofs.lemmas.Bool.{ltb-false}
use Rattle.std.proofs.lemmas.Result.{MatchResult-at_ok, MatchResult-at_err}
use Rattle.std.proofs.lemmas.List.{take_at, drop_at, length-take-le}
use Rattle.theory.specs.Counts.{pair_count}
use Rattle.plain.specs.declared.BookFault.{BookFault}
use Rattle.plain.specs.declared.BookFault.TheVariants as fault
use Rattle.plain.specs.Plain.{Plain, map_of}
use Rattle.plain.specs.Saving.{saved_page}
use Rattle.plain.specs.Requests.{Request, Save, verdict, granted, step, unless, checks}
use Rattle.book.proofs.Changing.{all-absent}
use Rattle.book.specs.Answers.{answered, filled, placed, Lists, Saves}
use Rattle.histories.specs.Replies.{Written, replied, told}
use Rattle.history.specs.declared.calls.Told.{Told}
use Rattle.history.specs.Calls.{Answer, reply_told, reply_of, part_written, Turned}

-- a question leaves the book
pub asked-left : (capacity : ℕ) (p : Plain) (r : Request) → granted p r ≡ p → p ≡ step capacity p r
asked-left capacity p r e = go (verdict capacity p r)
  where
    go : (v : Option BookFault) → p ≡ unless v p (granted p r)
    go None = sym e
    go (Some cause) = refl

module _ (capacity : ℕ) (p : Plain) (r : Request) (xs before : List ℕ) (answer : Result ℕ BookFault) (after : List ℕ) (l : Lists capacity p r xs before answer after) where
  pub list-fits : IfOk answer (λ n. 0 + n ≤ length after)
  list-fits = go (verdict capacity p r) answer after l.told l.left
    where
      go : (v : Option BookFault) (got : Result ℕ BookFault) (end : List ℕ) → got ≡ answered v (length xs) → end ≡ filled v xs before → IfOk got (λ n. 0 + n ≤ length end)
      go None got end e f =
          subst (λ z. IfOk z (λ n. 0 + n ≤ length end)) (sym e) (let long = ap length f ∙ length-append xs (drop (length xs) before) in let h : 0 + length xs ≤ length end = omega arith in h)
      go (Some cause) got end e f = subst (λ z. IfOk z (λ n. 0 + n ≤ length end)) (sym e) tt

  pub list-turned : (a : Answer) → reply_of a ≡ part_written answer 0 after → told p r ≡ Written xs → granted p r ≡ p → Turned capacity r p p a
  list-turned a is by same = record { answered = is ∙ go (verdict capacity p r) answer after l.told l.left; left = asked-left capacity p r same }
    where
      go : (v : Option BookFault) (got : Result ℕ BookFault) (end : List ℕ) → got ≡ answered v (length xs) → end ≡ filled v xs before → part_written got 0 end ≡ replied v (told p r)
      go None got end e f =
          ap (λ z. part_written z 0 end) e ∙ ap (λ (ys : List ℕ). Written (take (length xs) ys)) f ∙ ap Written (take_at xs (drop (length xs) before) (length xs) refl) ∙ sym by
      go (Some cause) got end e f = ap (λ z. part_written z 0 end) e

module _ (capacity : ℕ) (p : Plain) (place : ℕ) (before : List ℕ) (answer : Result ℕ BookFault) (after : List ℕ) (s : Saves capacity p place before answer after) where
  -- a page that was written lies within the buffer
  pub within : verdict capacity p (Save place (length before)) ≡ None → place ≤ length before
  unfolding checks
  within e =
      let long = 4 + 3 * length p.order + 3 * pair_count (map_of p) in
      let few = ltb-false (length before) (place + long) (all-absent ((fault.ShortBuffer, ltb (length before) (place + long)) ∷ []) e).0 in
      omega arith

  pub save-fits : IfOk answer (λ n. place + n ≤ length after)
  save-fits = go (verdict capacity p (Save place (length before))) refl answer after s.told s.left
    where
      go : (v : Option BookFault) → verdict capacity p (Save place (length before)) ≡ v → (got : Result ℕ BookFault) (end : List ℕ) → got ≡ answered v (length (saved_page p)) → end ≡ placed v place (saved_page p) before →
          IfOk got (λ n. place + n ≤ length end)
      go None is got end e f =
          let h = length-take-le place before (within is) in
          let k = length-append (take place before) (saved_page p ++ drop (place + length (saved_page p)) before) in
          let m = length-append (saved_page p) (drop (place + length (saved_page p)) before) in
          let n = ap length f in
          let fit : place + length (saved_page p) ≤ length end = omega arith in
          subst (λ z. IfOk z (λ n. place + n ≤ length end)) (sym e) fit
      go (Some cause) is got end e f = subst (λ z. IfOk z (λ n. place + n ≤ length end)) (sym e) tt

  pub save-turned : (a : Answer) → reply_of a ≡ part_written answer place after → Turned capacity (Save place (length before)) p p a
  unfolding granted
  save-turned a is = record { answered = is ∙ go (verdict capacity p (Save place (length before))) refl answer after s.told s.left; left = asked-left capacity p (Save place (length before)) refl }
    where
      go : (v : Option BookFault) → verdict capacity p (Save place (length before)) ≡ v → (got : Result ℕ BookFault) (end : List ℕ) → got ≡ answered v (length (saved_page p)) → end ≡ placed v place (saved_page p) before →
          part_written got place end ≡ replied v (Written (saved_page p))
      go None w got end e f =
          let rest = drop (place + length (saved_page p)) before in
          ap (λ z. part_written z place end) e ∙ ap (λ (ys : List ℕ). Written (take (length (saved_page p)) (drop place ys))) f
          ∙ ap (λ (ys : List ℕ). Written (take (length (saved_page p)) ys)) (drop_at (take place before) (saved_page p ++ rest) place (length-take-le place before (within w)))
          ∙ ap Written (take_at (saved_page p) rest (length (saved_page p)) refl)
      go (Some cause) w got end e f = ap (λ z. part_written z place end) e

-- what the book told, wrapped, is the answer
pub wrapped-turned : {A : Type 0} (capacity : ℕ) (p q : Plain) (r : Request) (x : A) (wrap : A → Told) (got : Result A BookFault) (a : Answer) → got ≡ answered (verdict capacity p r) x →
    MatchResult got (λ y. IsOkAnd a (λ t. t ≡ wrap y)) (λ e. a ≡ Err e) → told p r ≡ reply_told (wrap x) → q ≡ step capacity p r → Turned capacity r p q a
wrapped-turned {A = A} capacity p q r x wrap got a e cases by left = record { answered = go (verdict capacity p r) got e cases; left = left }
  where
    from_ok : (b : Answer) (y : Told) → IsOkAnd b (λ t. t ≡ y) → reply_of b ≡ reply_told y
    from_ok (Ok t) y h = ap reply_told h
    from_ok (Err cause) y h = absurd h

    go : (v : Option BookFault) (got : Result A BookFault) → got ≡ answered v x → MatchResult got (λ y. IsOkAnd a (λ t. t ≡ wrap y)) (λ e. a ≡ Err e) → reply_of a ≡ replied v (told p r)
    go None got e h = from_ok a (wrap x) (MatchResult-at_ok (λ y. IsOkAnd a (λ t. t ≡ wrap y)) (λ d. a ≡ Err d) x e h) ∙ sym by
    go (Some cause) got e h = ap reply_of (MatchResult-at_err (λ y. IsOkAnd a (λ t. t ≡ wrap y)) (λ d. a ≡ Err d) cause e h)
