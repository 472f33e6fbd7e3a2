-- What is written is the list by the labels, and so that of the map.
use Rattle.std.proofs.Common.{ℕ, List, filter, Ok, Err, rules, subst}
use Rattle.labels.specs.Listed.{Listed, is_listed}
use Rattle.labels.proofs.Told.{list_told}
use Rattle.labels.proofs.ranked.Ranked.list.Goals as goal

pub returns-then-n-buffer : goal.returns-then-n-buffer
returns-then-n-buffer c m exact =
    let l = c.args.self.now.labels.now in
    let order = c.args.self.now.order.now in
    let b = c.args.buffer.now in
    let short : Listed (filter (is_listed c.args.list l c.args.u) order) b (Err (record {})) b = record { tells = search rules; leaves = search rules } in
    subst (λ (xs : List ℕ). Listed xs b (Err (record {})) b) (list_told c.args.list m order l exact c.args.u) short

pub returns : goal.returns
returns c m exact =
    let l = c.args.self.now.labels.now in
    let order = c.args.self.now.order.now in
    let b = c.args.buffer.now in
    let n = c.list_len-n.result in
    let new = c.write_list.new.buffer in
    let all : Listed (filter (is_listed c.args.list l c.args.u) order) b (Ok n) new = record { tells = search rules; leaves = search rules } in
    subst (λ (xs : List ℕ). Listed xs b (Ok n) new) (list_told c.args.list m order l exact c.args.u) all
