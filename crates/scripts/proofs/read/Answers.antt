use Rattle.std.proofs.Common.{rules, ◌≡◌, [], ◌∷◌, arith, length-append}
use Rattle.std.specs.Str.Iter.{lines_steps, lines_rest}
use Rattle.std.specs.Str.Lines.{lines}
use Rattle.std.proofs.lemmas.Iterator.Splits.{YieldsList-from_lines}
use Rattle.scripts.proofs.Lines.{one_more}
use Rattle.scripts.proofs.read.Goals as goal

pub loop-i-init : goal.loop-i-init
loop-i-init c =
    let rest : lines_rest c.into_iter-i-iterator.result.iter ≡ c.args.text.now = search rules in
    (lines c.args.text.now, (YieldsList-from_lines c.args.text.now rest).runs, search rules, search rules, search rules)

pub loop-i-preserved : goal.loop-i-preserved
loop-i-preserved c =
    let more = one_more lines_steps (λ x. x.now) c.loop-i.invariant.0 _ c.in-Some.line _ c.loop-i.invariant.1 c.in-Some.ensures.steps.0 in
    let before = c.loop-i.invariant.2 in
    let one = length-append c.loop-i.yielded ((c.in-Some.i, c.in-Some.line) ∷ []) in
    let fewer = more.2 in
    (more.0, more.1, omega arith, search rules, search rules)

pub returns-in-Err-At : goal.returns-in-Err-At
returns-in-Err-At c =
    let more = one_more lines_steps (λ x. x.now) c.loop-i.invariant.0 _ c.in-Some.line c.next.new.self.iter c.loop-i.invariant.1 c.in-Some.ensures.steps.0 in
    let before = c.loop-i.invariant.2 in
    let fewer = more.2 in
    (search rules, search rules, search rules, search rules)
