use Rattle.std.proofs.Common.{◌≡◌, ℕ, ◌+◌, ◌*◌, ◌≤◌, true, List, [], ◌∷◌, ◌++◌, length, take, Some, Option, sym, ap, ◌∙◌, arith}
use Rattle.units.specs.declared.UnitSet.{UnitSet}
use Rattle.units.specs.Has.{has}
use Rattle.units.specs.Sets.{Least}
use Rattle.units.proofs.Words.{member-small}
use Rattle.plain.specs.Saving.{ascending, record_bytes, chain_bytes}
use Rattle.page_laws.specs.Ahead.{ahead, following_index}
use Rattle.page_laws.proofs.Writing.{all-ahead, next-ahead, chain_more, written, all-written, none_ahead}
use Rattle.page.proofs.writing.write_chain.Goals as goal

small : (s : UnitSet) (k : ℕ) → has s k ≡ true → k ≤ 255
small s k t = let h = member-small s.words k t in omega arith

pub loop-next-init : goal.loop-next-init
loop-next-init c =
    let f = has c.args.listeners.now in
    let e = all-ahead f c.least_above-next.result c.least_above-next.ensures (small c.args.listeners.now) in (
      ap (λ (xs : List ℕ). take c.args.from c.args.page.now ++ chain_bytes c.args.at xs) (sym e),
      ap (λ (xs : List ℕ). c.args.at + length xs) (sym e),
      ap (λ (xs : List ℕ). c.args.from + 3 * length xs) (sym e),
    )

-- the listener that comes next stands before those after it
one_less : (s : UnitSet) (next r : Option ℕ) (l : ℕ) → next ≡ Some l → Least (has s) (l + 1) r → ahead (has s) next ≡ l ∷ ahead (has s) r
one_less s next r l is least = ap (ahead (has s)) is ∙ next-ahead (has s) l r least (small s)

pub loop-next-smaller : goal.loop-next-smaller
loop-next-smaller c =
    let e = ap length (one_less c.args.listeners.now c.loop-next.next c.least_above-next-in-Some.result c.in-Some.listener c.in-Some.is c.least_above-next-in-Some.ensures) in
    omega arith

pub loop-next-preserved : goal.loop-next-preserved
loop-next-preserved c =
    let s = c.args.listeners.now in
    let l = c.in-Some.listener in
    let r = c.least_above-next-in-Some.result in
    let number = c.loop-next.number in
    let e = one_less s c.loop-next.next r l c.in-Some.is c.least_above-next-in-Some.ensures in
    let many = ap length e in
    let inv = c.loop-next.invariant in
    let ahead-is = next-ahead (has s) l r c.least_above-next-in-Some.ensures (small s) in (
      written (take c.loop-next.to c.loop-next.page) (take (c.loop-next.to + 3) c.write_record.new.page) (record_bytes l (following_index number r)) (chain_bytes (number + 1) (ahead (has s) r)) _
          (ap (λ (xs : List ℕ). take c.loop-next.to c.loop-next.page ++ xs) (sym (ap (λ n. chain_bytes number (ahead (has s) n)) c.in-Some.is ∙ chain_more (has s) number l r ahead-is)) ∙ inv.0)
          (c.write_record.ensures ∙ ap (λ (n : ℕ). take c.loop-next.to c.loop-next.page ++ record_bytes l n) c.following.ensures),
      omega arith,
      omega arith,
    )

pub write_record-requires : goal.write_record-requires
write_record-requires c =
    let e = ap length (one_less c.args.listeners.now c.loop-next.next c.least_above-next-in-Some.result c.in-Some.listener c.in-Some.is c.least_above-next-in-Some.ensures) in
    let inv = c.loop-next.invariant.2 in
    let room = c.requires.room in
    let long = c.loop-next.auto.page in
    omega arith

pub returns : goal.returns
returns c =
    let s = c.args.listeners.now in
    let none : ahead (has s) c.loop-next.next ≡ [] = ap (ahead (has s)) c.in_default.is ∙ none_ahead (has s) in
    let many = ap length none in
    let inv = c.loop-next.invariant.2 in
    let end : c.args.from + 3 * length (ascending (has s)) ≡ c.loop-next.to = omega arith in
    ap (λ (n : ℕ). take n c.loop-next.page) end ∙ all-written (take c.loop-next.to c.loop-next.page) _ _ c.loop-next.invariant.0 (ap (chain_bytes c.loop-next.number) none)
