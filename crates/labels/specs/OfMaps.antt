-- Kept labels with their order, as those of a map.
use Rattle.theory.specs.Maps.{Map}
use Rattle.labels.specs.declared.ranked.Ranked.{Ranked}
use Rattle.labels.specs.Holding.{Exact}
use Rattle.labels.specs.Asked.{Kept}

-- The labels are those of the map in the order.
abbrev pub ExactOf : Map → Ranked → Type 0
ExactOf m r = Exact m r.order.now r.labels.now

-- And the map is sound, and the order has its units.
abbrev pub KeptOf : Map → Ranked → Type 0
KeptOf m r = Kept m r.order.now r.labels.now
