-- What mending promises: the labels of the changed map and order, and how many labels came or went.
use Rattle.std.specs.Prelude.{◌≡◌, ℕ, T, List}
use Rattle.units.specs.declared.UnitSet.{UnitSet}
use Rattle.units.specs.Has.{has}
use Rattle.theory.specs.Maps.{Map, Sound}
use Rattle.theory.specs.Ranks.{rank_in, Orders}
use Rattle.theory.specs.Lists.{labels_changed}
use Rattle.theory.specs.Changes.{Frame}
use Rattle.labels.specs.declared.Labels.{Labels}
use Rattle.labels.specs.Holding.{Exact}

-- From whatever map and order the labels were exact for: where the change to the map `after` and its order alters only
-- labels between a unit of ups and a unit of downs, the labels are exact for that map and order now, and `changed` is how
-- many labels stand before or after the change, and not both.
abbrev pub Mended : Map → List ℕ → UnitSet → UnitSet → Labels → Labels → ℕ → Type 0
Mended after order ups downs old new changed =
    (before : Map) (earlier : List ℕ) → Sound before → Orders before earlier → Exact before earlier old →
    Frame before (rank_in earlier) after (rank_in order) (λ u. T (has ups u)) (λ v. T (has downs v)) →
    Exact after order new × (changed ≡ labels_changed before earlier after order)
