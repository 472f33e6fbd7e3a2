use Rattle.std.proofs.Common.{◌∙◌, arith}
use Rattle.units.specs.Has.{has}
use Rattle.labels.specs.Holding.{holds}
use Rattle.mending.proofs.Differences.{difference-one}
use Rattle.mending.proofs.replace.Goals as goal

pub returns : goal.returns
returns c = record {
  row = c.set.ensures;
  number = difference-one (holds c.args.table.now) (holds c.set.new.self) c.args.u (has c.of-old.result) (has c.args.set) c.from.result
      (omega arith) c.of-old.ensures c.set.ensures (c.from.ensures ∙ c.difference_len.ensures.number);
  most = let few = c.difference_len.ensures.most in let same = c.from.ensures in omega arith;
}
