-- What a book over a store stands for, and what every call keeps.
use Rattle.std.specs.Prelude.{◌≡◌, ℕ, List}
use Rattle.theory.specs.Maps.{Map}
use Rattle.theory.specs.Lists.{picked}
use Rattle.labels.specs.declared.Labels.{Labels}
use Rattle.labels.specs.declared.lists.List.{List as Wanted}
use Rattle.labels.specs.declared.lists.List.TheVariants as wanted
use Rattle.labels.specs.Holding.{holds, Exact}
pub use Rattle.plain.specs.Plain.{plain_by}
use Rattle.plain.specs.Plain.{Plain, map_of, Lawful}
use Rattle.book.specs.declared.Book.{Book}

-- The map has exactly the units and pairings of the plain book, which is lawful, and the kept labels are those of the definition.
pub record Agrees (m : Map) (order : List ℕ) (l : Labels) : Type 0 where
  pub stored : m ≡ map_of (plain_by m order)
  pub lawful : Lawful (plain_by m order)
  pub exact : Exact (map_of (plain_by m order)) order l

-- `means` gives the meaning of the store.
module _ {S : Type 0} (means : S → Map) where
  -- The plain book that a book stands for: its units in the order of the ranks, with the pairings of its store.
  abbrev pub plain_of : Book S → Plain
  plain_of b = plain_by (means b.store) b.ranks

  -- Store, ranks and labels agree.
  abbrev pub Whole : Book S → Type 0
  Whole b = Agrees (means b.store) b.ranks b.labels

  -- The four lists of a unit as the book keeps them, in the order of its ranks.
  abbrev pub kept_in_labels : Book S → ℕ → List ℕ
  kept_in_labels b v = picked (λ u. holds b.labels.ins u v) b.ranks

  abbrev pub kept_out_labels : Book S → ℕ → List ℕ
  kept_out_labels b v = picked (λ u. holds b.labels.outs u v) b.ranks

  abbrev pub kept_in_holders : Book S → ℕ → List ℕ
  kept_in_holders b u = picked (λ v. holds b.labels.ins u v) b.ranks

  abbrev pub kept_out_holders : Book S → ℕ → List ℕ
  kept_out_holders b u = picked (λ v. holds b.labels.outs u v) b.ranks

  abbrev pub kept_list : Wanted → Book S → ℕ → List ℕ
  kept_list wanted.InLabels = kept_in_labels
  kept_list wanted.OutLabels = kept_out_labels
  kept_list wanted.InHolders = kept_in_holders
  kept_list wanted.OutHolders = kept_out_holders
