use Rattle.std.proofs.Common.{T, sym, refl, subst, arith}
use Rattle.labels.specs.Holding.{holds}
use Rattle.mending.proofs.Differences.{difference-none}
use Rattle.mending.proofs.renew.Goals as goal

pub returns-then-not-contains : goal.returns-then-not-contains
returns-then-not-contains g c = record {
  row = record { right = λ settled _. settled (λ t. subst T (sym c.if-not-contains.ensures) t); others = λ x ne v. refl };
  number = sym (difference-none (holds c.args.ins.now));
  most = omega arith;
}
