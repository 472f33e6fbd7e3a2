-- One argument for all changes: labels mended after a change are exact again, and what is told and left is what the request makes of the plain book.
use Rattle.std.proofs.Common.{◌≡◌, ℕ, Bool, true, false, cond, T, List, [], ◌∷◌, IsErrAnd, Some, None, Ok, Err, Result, sym, refl, ap, ◌∙◌, subst, arith}
use Rattle.std.proofs.lemmas.Result.{err_from_is_err_and}
use Rattle.units.specs.declared.UnitSet.{UnitSet}
use Rattle.units.specs.Has.{has}
use Rattle.theory.specs.Maps.{Map, Sound}
use Rattle.theory.specs.Chains.{Heard, NoRing}
use Rattle.theory.specs.Hearing.{is_heard}
use Rattle.theory.specs.Ranks.{rank_in, Orders}
use Rattle.theory.specs.Lists.{labels_changed}
use Rattle.theory.specs.Changes.{Frame}
use Rattle.theory.proofs.Warshall.{heard-complete}
use Rattle.labels.specs.declared.Labels.{Labels}
use Rattle.labels.specs.declared.ranked.Ranked.{Ranked}
use Rattle.labels.specs.Asked.{Kept}
use Rattle.labels.specs.OfMaps.{KeptOf}
use Rattle.mending.specs.Mended.{Mended}
use Rattle.plain.specs.declared.BookFault.{BookFault}
use Rattle.plain.specs.Plain.{map_of}
use Rattle.plain.specs.Requests.{Request, Check, first_cause, verdict, granted, unless}
use Rattle.book.specs.Views.{plain_by, Agrees}
use Rattle.book.specs.Answers.{answered, alters, Applied}
use Rattle.book.proofs.Agree.{Keeps, stored-by, agrees_at, plain_at}
use Rattle.book.proofs.Answering.{the-cause}

-- where no cause is the first, none is present
abbrev pub AllAbsent : List Check → Type 0
AllAbsent [] = Unit {0}
AllAbsent (c ∷ cs) = (c.1 ≡ false) × AllAbsent cs

pub all-absent : (cs : List Check) → first_cause cs ≡ None → AllAbsent cs
all-absent [] e = tt
all-absent (c ∷ cs) e = go c.1 refl (all-absent cs) e
  where
    go : (b : Bool) → c.1 ≡ b → (first_cause cs ≡ None → AllAbsent cs) → cond b (Some c.0) (first_cause cs) ≡ None → (c.1 ≡ false) × AllAbsent cs
    go true is next n = absurd (let z : ◌≡◌ {A = ℕ} 0 1 = cc in omega arith)
    go false is next n = (is, next n)

-- mended labels, by other terms for the map and its order
pub mended-at : (n m : Map) (xs ys : List ℕ) (ups downs : UnitSet) (l l' : Labels) (count : ℕ) → n ≡ m → xs ≡ ys → Mended n xs ups downs l l' count → Mended m ys ups downs l l' count
mended-at n m xs ys ups downs l l' count e f h =
    subst (λ (k : Map). Mended k ys ups downs l l' count) e (subst (λ (zs : List ℕ). Mended n zs ups downs l l' count) f h)

-- a frame between larger sets
wider : (m : Map) (rank : ℕ → ℕ) (n : Map) (rate : ℕ → ℕ) (A D B E : ℕ → Type 0) → Frame m rank n rate A D → ((u : ℕ) → A u → B u) → ((v : ℕ) → D v → E v) → Frame m rank n rate B E
wider m rank n rate A D B E frame a d u v off = frame u v (λ x y. off (a u x) (d v y))

-- what hears a unit is in a set that was asked for it
pub in-set : (m : Map) (order : List ℕ) → Sound m → Orders m order → (s t : ℕ) (has-it : Bool) → has-it ≡ is_heard (map_of (plain_by m order)) s t → Heard m s t → T has-it
in-set m order sound orders s t b e h = subst T (sym e) (subst (λ (n : Map). T (is_heard n s t)) (stored-by m order orders) (heard-complete m sound s t h))

-- a refused request, at the exit of the check that refused it
pub refused : (capacity : ℕ) (m : Map) (order : List ℕ) (r : Request) (answer : Result ℕ BookFault) (cause : BookFault) → Err cause ≡ answered (verdict capacity (plain_by m order) r) (tt {0}) →
    IsErrAnd answer (λ e. e ≡ cause) → Applied capacity (plain_by m order) r answer (plain_by m order)
refused capacity m order r answer cause is by =
    let v = the-cause (verdict capacity (plain_by m order) r) (tt {0}) cause is in
    let p = err_from_is_err_and answer by in
    record {
      told = p.1 ∙ ap (λ z. Err z) p.2 ∙ ap (λ w. answered w (alters (plain_by m order) (granted (plain_by m order) r))) (sym v);
      left = ap (λ w. unless w (plain_by m order) (granted (plain_by m order) r)) (sym v);
    }

-- a granted answer is no refusal
pub not-refused : {A : Type 0} (count : ℕ) (cause : BookFault) → Ok count ≡ Err cause → A
not-refused count cause e = absurd (let z : ◌≡◌ {A = ℕ} 0 1 = cc in omega arith)

-- kept labels, as they and their order were lent
pub asked-at : (m : Map) (order : List ℕ) (l : Labels) (r : Ranked) → Keeps m order l → r.labels.now ≡ l → r.order.now ≡ order → KeptOf m r
asked-at m order l r k le oe =
    subst (λ (xs : List ℕ). Kept m xs r.labels.now) (sym oe) (subst (Kept m order) (sym le) (record { sound = k.sound; orders = k.orders; exact = k.exact }))

module _ (capacity : ℕ) (m : Map) (order : List ℕ) (l : Labels) (keeps : Keeps m order l) (r : Request) where
  -- a granted one, from the map n and its order after
  module _ (n : Map) (after : List ℕ) (sound : Sound n) (orders : Orders n after) (ringless : NoRing n) (v : verdict capacity (plain_by m order) r ≡ None)
      (is : granted (plain_by m order) r ≡ plain_by n after) (A D : ℕ → Type 0) (frame : Frame m (rank_in order) n (rank_in after) A D) where
    pub changed : (ups downs : UnitSet) (l' : Labels) (count : ℕ) (m' : Map) (after' : List ℕ) → Mended n after ups downs l l' count →
        ((u : ℕ) → A u → T (has ups u)) → ((w : ℕ) → D w → T (has downs w)) → m' ≡ n → after' ≡ after →
        Applied capacity (plain_by m order) r (Ok count) (plain_by m' after') × Agrees m' after' l'
    changed ups downs l' count m' after' mended a d e f =
        let done = mended m order keeps.sound keeps.orders keeps.exact
        (wider m (rank_in order) n (rank_in after) A D (λ u. T (has ups u)) (λ w. T (has downs w)) frame a d) in
        let same : plain_by m' after' ≡ granted (plain_by m order) r = plain_at m' n after' after e f ∙ sym is in
        let number : count ≡ alters (plain_by m order) (granted (plain_by m order) r) =
        done.1 ∙ ap (λ (k : Map). labels_changed k order n after) (stored-by m order keeps.orders)
        ∙ ap (λ (k : Map). labels_changed (map_of (plain_by m order)) order k after) (stored-by n after orders) ∙ ap (alters (plain_by m order)) (sym is) in (
          record {
            told = ap (λ (k : ℕ). Ok k) number ∙ ap (λ w. answered w (alters (plain_by m order) (granted (plain_by m order) r))) (sym v);
            left = same ∙ ap (λ w. unless w (plain_by m order) (granted (plain_by m order) r)) (sym v);
          },
          agrees_at m' n after' after l' e f (record { sound = sound; orders = orders; ringless = ringless; exact = done.0 }),
        )
