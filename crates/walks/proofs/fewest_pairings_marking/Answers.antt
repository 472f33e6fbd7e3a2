use Rattle.std.proofs.Common.{◌+◌, ◌<◌, sym, refl, ◌∙◌}
use Rattle.units.specs.Has.{has}
use Rattle.walks.proofs.Walked.{left}
use Rattle.walks.proofs.Levels.{Level, level-start, level-more, level-found, level-short, level-none}
use Rattle.walks.proofs.fewest_pairings_marking.Given as given
use Rattle.walks.proofs.fewest_pairings_marking.Goals as goal

pub loop-level-init : goal.loop-level-init
loop-level-init g c = (
  level-start (g.M.Map.meaning c.args.m.now) c.args.s c.args.t (g.K.Marks.marked c.mark.new.self) (has c.only-level.result) (sym c.if-not-stands.ensures)
      (g.K.Marks.marked c.args.seen.now) c.requires c.mark.ensures.marked c.only-level.ensures,
  refl,
)

pub returns-then-contains : goal.returns-then-contains
returns-then-contains g c =
    let level = c.loop-level.invariant.0 in
    let on = sym {b = has c.loop-level.level c.args.t} c.if-contains.ensures in record {
      fewest = level-found (g.M.Map.meaning c.args.m.now) c.args.s c.args.t c.loop-level.n (g.K.Marks.marked c.loop-level.seen) (has c.loop-level.level) (sym c.if-not-stands.ensures) level on;
      few = level-short (g.M.Map.meaning c.args.m.now) c.sound.ensures c.args.s c.args.t c.loop-level.n (g.K.Marks.marked c.loop-level.seen) (has c.loop-level.level) level on;
      below = c.loop-level.invariant.1 ∙ c.mark.ensures.below;
    }

-- one turn: the invariant again, and fewer numbers left
turn : (g : given.Over) (c : goal.After-next_level-level g)
    → Level (g.M.Map.meaning c.args.m.now) c.args.s c.args.t (c.loop-level.n + 1) (g.K.Marks.marked c.next_level-level.new.seen) (has c.next_level-level.result)
    × (left (g.K.Marks.marked c.next_level-level.new.seen) (has c.next_level-level.result) < left (g.K.Marks.marked c.loop-level.seen) (has c.loop-level.level))
turn g c =
    let some = c.loop-level-test.ensures in
    level-more (g.M.Map.meaning c.args.m.now) c.sound.ensures c.args.s c.args.t c.loop-level.n (g.K.Marks.marked c.loop-level.seen) (has c.loop-level.level) (has c.next_level-level.result) (g.K.Marks.marked c.next_level-level.new.seen)
    c.next_level-level.ensures.next c.next_level-level.ensures.seen c.loop-level.invariant.0 some.0 some.1 (sym {b = has c.loop-level.level c.args.t} c.if-contains.ensures)

pub loop-level-smaller : goal.loop-level-smaller
loop-level-smaller g c = (turn g c).1

pub loop-level-preserved : goal.loop-level-preserved
loop-level-preserved g c = ((turn g c).0, c.next_level-level.ensures.below ∙ c.loop-level.invariant.1)

pub returns : goal.returns
returns g c = record {
  fewest = level-none (g.M.Map.meaning c.args.m.now) c.sound.ensures c.args.s c.args.t c.loop-level.n (g.K.Marks.marked c.loop-level.seen) (has c.loop-level.level) c.loop-level.invariant.0 c.loop-level-test.ensures;
  few = tt;
  below = c.loop-level.invariant.1 ∙ c.mark.ensures.below;
}
