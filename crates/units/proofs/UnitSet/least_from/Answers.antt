use Rattle.std.proofs.Common.{◌/◌, ◌%◌, inl, inr, arith}
use Rattle.std.proofs.lemmas.Bool.{cases_lt}
use Rattle.units.proofs.Words.{member-past, word_none, word_some}
use Rattle.units.proofs.UnitSet.least_from.Goals as goal

pub overflow_add-result : goal.overflow_add-result
overflow_add-result c = let s = c.in-Some.ensures.small in omega arith

pub returns-in-Some : goal.returns-in-Some
returns-in-Some c =
    let e = c.in-Some.ensures in
    let s = e.small in
    word_some c.args.self.now.words c.args.from (c.args.from / 64) (c.args.from % 64) c.in-Some.b
    (omega arith) (omega arith) (omega arith) (λ k lo hi. absurd (omega arith)) e.least

pub loop-w-init : goal.loop-w-init
loop-w-init c =
    word_none c.args.self.now.words c.args.from (c.args.from / 64) (c.args.from % 64) (omega arith)
    (λ k lo hi. absurd (omega arith)) c.in_default.ensures.least

pub overflow_add-result-in-Some-first_set : goal.overflow_add-result-in-Some-first_set
overflow_add-result-in-Some-first_set c = let s = c.in-Some-first_set.ensures.small in omega arith

pub returns-in-Some-first_set : goal.returns-in-Some-first_set
returns-in-Some-first_set c =
    let e = c.in-Some-first_set.ensures in
    let s = e.small in
    word_some c.args.self.now.words c.args.from c.loop-w.w 0 c.in-Some-first_set.b
    (omega arith) (omega arith) (omega arith) (λ k lo hi. c.loop-w.invariant k lo (omega arith)) e.least

pub loop-w-preserved : goal.loop-w-preserved
loop-w-preserved c =
    word_none c.args.self.now.words c.args.from c.loop-w.w 0 (omega arith)
    (λ k lo hi. c.loop-w.invariant k lo (omega arith)) c.in_default-first_set.ensures.least

pub returns : goal.returns
returns c = λ k lo. elim (cases_lt k 256) [ inl b ↦ c.loop-w.invariant k lo (omega arith) | inr p ↦ member-past c.args.self.now.words k p ]
