-- The list of a unit by exact labels is its list in the map.
use Rattle.std.proofs.Common.{◌≡◌, ℕ, filter, List, ◌∙◌}
use Rattle.theory.specs.Maps.{Map, turned}
use Rattle.theory.specs.Ranks.{rank_in}
use Rattle.theory.specs.Labels.{is_in_label}
use Rattle.labels.specs.declared.lists.List.{List as Wanted}
use Rattle.labels.specs.declared.lists.List.TheVariants as wanted
use Rattle.labels.specs.declared.Labels.{Labels}
use Rattle.labels.specs.Holding.{Exact}
use Rattle.labels.specs.Listed.{is_listed, list_of}
use Rattle.labels.proofs.Picked.{picked_same, filter-picked}

pub list_told : (list : Wanted) (m : Map) (order : List ℕ) (l : Labels) → Exact m order l → (u : ℕ) → filter (is_listed list l u) order ≡ list_of list m order u
list_told wanted.InLabels m order l exact u =
    filter-picked _ order ∙ picked_same _ (λ v. is_in_label m (rank_in order) v u) order (λ v o. exact.ins v u)
list_told wanted.OutLabels m order l exact u =
    filter-picked _ order ∙ picked_same _ (λ v. is_in_label (turned m) (rank_in order) v u) order (λ v o. exact.outs v u)
list_told wanted.InHolders m order l exact u =
    filter-picked _ order ∙ picked_same _ (λ v. is_in_label m (rank_in order) u v) order (λ v o. exact.ins u v)
list_told wanted.OutHolders m order l exact u =
    filter-picked _ order ∙ picked_same _ (λ v. is_in_label (turned m) (rank_in order) u v) order (λ v o. exact.outs u v)
