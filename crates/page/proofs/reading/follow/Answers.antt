-- Each turn goes on along the chain, to a listener not met before; where it cannot, the page breaks a rule.
use Rattle.std.proofs.Common.{rules, ◌≡◌, ℕ, ◌<◌, ◌≤◌, Bool, true, ◌||◌, eqb, ◌≢◌, List, [], ◌∷◌, ◌++◌, set, Some, Option, sym, refl, ap, ◌∙◌, subst, arith, length-set}
use Rattle.std.proofs.lemmas.Bool.{leb-true}
use Rattle.units.specs.Has.{has}
use Rattle.plain.specs.Pages.{record_count, listener_in}
use Rattle.page_laws.specs.Along.{Along}
use Rattle.page_laws.proofs.Follow.{stuck, followed-more, met-falls, along-done}
use Rattle.page.specs.Indices.{IsIndex, index_of}
use Rattle.page.proofs.Indices.{index-is, index_itself, counted}
use Rattle.page.proofs.reading.follow.Goals as goal

pub loop-next-init : goal.loop-next-init
loop-next-init c =
    let e = index-is _ _ c.first-next.ensures in
    (c.told-seen, index_itself _ _ c.first-next.ensures, search rules)

-- the record that is met
module _ (page : List ℕ) (i : ℕ) (seen : List Bool) (row : ℕ → Bool) (next : Option ℕ) (r : ℕ) (list : List ℕ) (is : next ≡ Some r) (index : IsIndex (index_of next) next) (along : Along page i seen row (index_of next) list) where
  low : 1 ≤ r
  low = counted next r index is

  some_record : r ≢ 0
  some_record e = let l = low in omega arith

  front : Along page i seen row r list
  front = subst (λ o. Along page i seen row (index_of o) list) is along

  high : r ≤ record_count page
  high = front.small

pub may_follow-requires : goal.may_follow-requires
may_follow-requires c =
    let inv = c.loop-next.invariant in
    record { low = low c.args.ranked.now.page c.args.i _ _ _ _ _ c.in-Some.is inv.1 inv.2.1; high = high c.args.ranked.now.page c.args.i _ _ _ _ _ c.in-Some.is inv.1 inv.2.1 }

pub listener-requires : goal.listener-requires
listener-requires c =
    let inv = c.loop-next.invariant in
    record { low = low c.args.ranked.now.page c.args.i _ _ _ _ _ c.in-Some.is inv.1 inv.2.1; high = high c.args.ranked.now.page c.args.i _ _ _ _ _ c.in-Some.is inv.1 inv.2.1 }

pub next-next-requires : goal.next-next-requires
next-next-requires c =
    let inv = c.loop-next.invariant in
    record { low = low c.args.ranked.now.page c.args.i _ _ _ _ _ c.in-Some.is inv.1 inv.2.1; high = high c.args.ranked.now.page c.args.i _ _ _ _ _ c.in-Some.is inv.1 inv.2.1 }

pub returns-then-not-may_follow : goal.returns-then-not-may_follow
returns-then-not-may_follow c =
    let inv = c.loop-next.invariant in
    let page = c.args.ranked.now.page in
    stuck page c.args.i c.loop-next.seen (has c.loop-next.row) c.in-Some.r inv.2.0 (front page c.args.i _ _ _ _ _ c.in-Some.is inv.1 inv.2.1) c.args.ranked.now.ranks c.args.ranked.now.units c.requires.within
    (some_record page c.args.i _ _ _ _ _ c.in-Some.is inv.1 inv.2.1) (sym c.if-not-may_follow.ensures)

wider : (c : goal.After-next-next) (k : ℕ) → has c.insert.new.self k ≡ (eqb k (listener_in c.args.ranked.now.page c.in-Some.r) || has c.loop-next.row k)
wider c k = c.insert.ensures k ∙ ap (λ (l : ℕ). eqb k l || has c.loop-next.row k) c.listener.ensures

pub loop-next-smaller : goal.loop-next-smaller
loop-next-smaller c =
    met-falls c.args.ranked.now.page c.args.ranked.now.ranks c.loop-next.seen (has c.loop-next.row) (has c.insert.new.self) c.in-Some.r
    (subst (λ (l : ℕ). l < 256) c.listener.ensures c.listener.type_inv) (sym c.if-not-may_follow.ensures) (wider c)

pub loop-next-preserved : goal.loop-next-preserved
loop-next-preserved c =
    let inv = c.loop-next.invariant in
    let page = c.args.ranked.now.page in
    let more = set c.loop-next.seen c.in-Some.r true in
    let most = c.records.ensures.most in
    let many = c.records.ensures.is in
    let long = inv.0 in (
      length-set c.loop-next.seen c.in-Some.r true ∙ inv.0,
      index_itself _ _ c.next-next.ensures,
      (
        inv.2.0 ++ c.in-Some.r ∷ [],
        subst (λ (n : ℕ). Along page c.args.i more (has c.insert.new.self) n (inv.2.0 ++ c.in-Some.r ∷ [])) (sym (index-is _ _ c.next-next.ensures))
            (followed-more page c.args.i c.loop-next.seen (has c.loop-next.row) c.in-Some.r inv.2.0 (front page c.args.i _ _ _ _ _ c.in-Some.is inv.1 inv.2.1) c.args.ranked.now.ranks c.args.ranked.now.units
            more (has c.insert.new.self) (some_record page c.args.i _ _ _ _ _ c.in-Some.is inv.1 inv.2.1) (omega arith) (sym c.if-not-may_follow.ensures) refl (wider c)),
      ),
    )

pub returns : goal.returns
returns c =
    let inv = c.loop-next.invariant in
    let first = index-is _ _ c.first-next.ensures in
    let few = leb-true _ _ (sym c.is_record.ensures ∙ c.if-not-is_record.false) in
    let many = c.records.ensures.is in
    along-done c.args.ranked.now.page c.args.i c.loop-next.seen (has c.loop-next.row) (index_of c.loop-next.next) inv.2.0 inv.2.1 c.args.seen.now c.requires.before
    (omega arith) (ap index_of c.in_default.is)
