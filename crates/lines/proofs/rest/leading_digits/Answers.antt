use Rattle.lines.proofs.Runs.{digit-goes, value-goes, is-followed}
use Rattle.lines.proofs.rest.leading_digits.Goals as goal

pub loop-n-preserved : goal.loop-n-preserved
loop-n-preserved c =
    let f = is-followed _ _ _ c.in-Some.ensures in (
      digit-goes c.args.text.now c.loop-n.value c.loop-n.n c.in-Some.more c.loop-n-test.true c.loop-n.invariant.0 f.0 f.1,
      value-goes c.args.text.now c.loop-n.value c.loop-n.n c.in-Some.more c.loop-n-test.true c.loop-n.invariant.1 f.1,
    )
