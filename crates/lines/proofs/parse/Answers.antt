use Rattle.std.proofs.Common.{◌≡◌, Err, ◌∙◌, sym, arith, ltb-true}
use Rattle.lines.proofs.Letters.{first-letter, no-letter}
use Rattle.lines.proofs.Near.{fault-near}
use Rattle.grammar.specs.Reading.{read}
use Rattle.grammar.proofs.Theorem.{answer-right, answer-only}
use Rattle.lines.proofs.parse.Goals as goal

pub returns-in_default : goal.returns-in_default
returns-in_default c =
    let is = no-letter c.args.line.now (omega (arith, ltb-true)) in
    record { is = is; right = answer-right _ _ is; only = answer-only _ _ is }

pub overflow_cast-result : goal.overflow_cast-result
overflow_cast-result c =
    let is : Err c.in-Err.place ≡ read c.args.line.now = c.in-Err.ensures ∙ first-letter c.args.line.now c.in-len1-up.len_at_least in
    omega (arith, fault-near c.args.line.now c.in-Err.place (sym is))

pub returns-in-Ok : goal.returns-in-Ok
returns-in-Ok c =
    let is = c.in-Ok.ensures ∙ first-letter c.args.line.now c.in-len1-up.len_at_least in
    record { is = is; right = answer-right _ _ is; only = answer-only _ _ is }

pub returns-in-Err : goal.returns-in-Err
returns-in-Err c =
    let is = c.in-Err.ensures ∙ first-letter c.args.line.now c.in-len1-up.len_at_least in
    record { is = is; right = answer-right _ _ is; only = answer-only _ _ is }
