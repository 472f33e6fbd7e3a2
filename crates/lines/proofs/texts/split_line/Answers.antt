use Rattle.std.proofs.Common.{◌+◌, ◌∙◌, sym}
use Rattle.std.proofs.lemmas.List.{take_rest}
use Rattle.lines.proofs.Feeds.{cut-at, never_cut}
use Rattle.lines.proofs.texts.split_line.Goals as goal

pub returns-in-Some-clause-line : goal.returns-in-Some-clause-line
returns-in-Some-clause-line c = (cut-at c.args.text.now c.in-Some.i (sym c.in-Some.ensures)).0

pub returns-in-Some-clause-rest : goal.returns-in-Some-clause-rest
returns-in-Some-clause-rest c = take_rest c.args.text.now (c.in-Some.i + 1) ∙ (cut-at c.args.text.now c.in-Some.i (sym c.in-Some.ensures)).1

pub returns-in-None-clause-line : goal.returns-in-None-clause-line
returns-in-None-clause-line c = (never_cut c.args.text.now (sym c.in-None.ensures)).0

pub returns-in-None-clause-rest : goal.returns-in-None-clause-rest
returns-in-None-clause-rest c = (never_cut c.args.text.now (sym c.in-None.ensures)).1
