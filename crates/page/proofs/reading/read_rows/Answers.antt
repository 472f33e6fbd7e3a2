use Rattle.std.proofs.Common.{◌≡◌, ℕ, ◌<◌, ◌≤◌, Bool, true, false, cond, eqb, List, MatchOption, refl, sym, ap, ◌∙◌, subst, arith}
use Rattle.std.specs.Bool.{then_some}
use Rattle.units.specs.Has.{has, in_row}
use Rattle.theory.specs.Chains.{On}
use Rattle.theory.specs.Ranks.{Once}
use Rattle.plain.specs.Pages.{unit_in, unit_count, page_units, page_book}
use Rattle.page_laws.specs.Parts.{Parts, Followed}
use Rattle.page_laws.specs.Pairs.{paired_by}
use Rattle.page_laws.proofs.Rows.{paired-more, paired-all, followed-none, followed-all, not-reached}
use Rattle.page.proofs.reading.read_rows.Goals as goal

pub loop-i-init : goal.loop-i-init
loop-i-init c = (followed-none c.args.ranked.now.page c.none_seen-seen.result c.none_seen-seen.ensures, c.empty_rows-rows.ensures)

pub loop-i-preserved : goal.loop-i-preserved
loop-i-preserved c =
    let page = c.args.ranked.now.page in
    let i = c.loop-i.i in
    let got = c.in_ok-row.ensures in
    let once = subst Once c.args.ranked.now.units c.lawful.ensures.once in (
      got.0,
      λ a b. c.write_row.ensures a b ∙ ap (λ (u : ℕ). cond (eqb a u) (has c.in_ok-row.row b) (in_row c.loop-i.rows a b)) c.unit.ensures
          ∙ both _ _ _ _ (got.1 b) (c.loop-i.invariant.1 a b) (eqb a (unit_in page i)) ∙ sym (paired-more page i (subst (λ n. i < n) c.units-i-end.ensures.is c.loop-i-test.true) once a b),
    )
  where
    both : (x y z w : Bool) → x ≡ y → z ≡ w → (t : Bool) → cond t x z ≡ cond t y w
    both x y z w e f true = e
    both x y z w e f false = f

last : (page : List ℕ) (seen : List Bool) (i n : ℕ) → n ≡ unit_count page → i ≤ n → n ≤ i → Followed page i seen → Followed page (unit_count page) seen
last page seen i n is a b f = let e : i ≡ unit_count page = omega arith in subst (λ (n : ℕ). Followed page n seen) e f

told : {A : Type 0} (N : Type 0) (S : A → Type 0) (t : Bool) (x : A) → (t ≡ false → N) → (t ≡ true → S x) → MatchOption (then_some t x) N S
told N S true x none some = some refl
told N S false x none some = none refl

pub returns : goal.returns
returns c =
    let page = c.args.ranked.now.page in
    let low = λ (u : ℕ) (o : On u (page_units page)). c.lawful.ensures.low u (subst (On u) (sym c.args.ranked.now.units) o) in
    let here : c.loop-i.i ≡ unit_count page = let a = c.loop-i.auto.i-end in let b = c.loop-i-test.false in let n = c.units-i-end.ensures.is in omega arith in
    let done = last page c.loop-i.seen c.loop-i.i c.units-i-end.result c.units-i-end.ensures.is c.loop-i.auto.i-end c.loop-i-test.false c.loop-i.invariant.0 in
    subst (λ r. MatchOption r (Parts page → ⊥) (λ rows. Parts page × ((a b : ℕ) → in_row rows a b ≡ (page_book page).pair a b))) (sym c.then_some.ensures)
    (told _ _ c.all_seen.result c.loop-i.rows
    (λ e. not-reached page c.loop-i.seen done (sym c.all_seen.ensures ∙ e))
    (λ e. (
      followed-all page c.loop-i.seen c.units-i-end.ensures.form low (subst Once c.args.ranked.now.units c.lawful.ensures.once) done (sym c.all_seen.ensures ∙ e),
      λ a b. c.loop-i.invariant.1 a b ∙ ap (λ (n : ℕ). paired_by page n a b) here ∙ sym (paired-all page a b),
    )))
