-- The first unit that passes the test is the first of those picked by it.
use Rattle.std.proofs.Common.{◌∙◌}
use Rattle.labels.specs.Asked.{sharing}
use Rattle.labels.proofs.Picked.{find-picked}
use Rattle.labels.proofs.Compared.{told-shared, told-heard, told-highest}
use Rattle.labels.proofs.ranked.Ranked.highest_shared.Goals as goal

pub returns : goal.returns
returns c =
    let l = c.args.self.now.labels.now in
    let order = c.args.self.now.order.now in
    let s = c.args.s in
    let t = c.args.t in
    let e = c.first_shared.ensures ∙ find-picked (sharing l s t) order in
    record { shared = told-shared order l s t _ e; heard = told-heard order l s t _ e; highest = told-highest order l s t _ e }
