-- So many units of the list are written as have come.
use Rattle.std.proofs.Common.{length, filter}
use Rattle.labels.specs.Listed.{is_listed}
use Rattle.labels.proofs.Written.{Written}
use Rattle.labels.proofs.ranked.Ranked.write_list.Given as goal

abbrev pub invariant-loop-i : goal.invariant-loop-i
invariant-loop-i l =
    (goal.iterator-loop-i).can_next l.i-iterator × (goal.iterator-loop-i).is_finite l.i-iterator
    × Written (filter (is_listed l.fn.list l.self.labels.now l.fn.u) l.self.order.now) l.initial.buffer l.buffer (length l.yielded)
