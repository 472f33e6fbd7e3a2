use Rattle.std.proofs.Common.{rules, tests, ◌∙◌}
use Rattle.std.proofs.lemmas.Iterator.{YieldsList-from_slice, YieldsList-from_take}
use Rattle.std.proofs.lemmas.Iterator.Consumers.{YieldsList-at, count_from_yields_List}
use Rattle.std.proofs.lemmas.Iterator.Search.{YieldsList-from_take_while}
use Rattle.grammar.specs.Grammar.{name_byte}
use Rattle.lines.proofs.Runs.{name-run}
use Rattle.lines.proofs.rest.name_len.Goals as goal

pub returns-clause-is : goal.returns-clause-is
returns-clause-is c =
    let front = YieldsList-from_take c.args.most (YieldsList-at c.take.ensures.source (YieldsList-from_slice c.args.text.now cc)) c.take.ensures.count in
    count_from_yields_List c.take_while.result _ c.count.ensures.ran
    (YieldsList-from_take_while _ name_byte (YieldsList-at c.take_while.ensures.source front) c.take_while.ensures.closure c.take_while.ensures.done (λ x b q k. search (rules, tests)))
    ∙ name-run c.args.most c.args.text.now
