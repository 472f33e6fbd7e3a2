-- A book to which requests were put, from its making on.
use Rattle.std.specs.Prelude.{ℕ, List, [], vec_items}
use Rattle.theory.specs.Maps.{Map}
use Rattle.plain.specs.Plain.{empty}
use Rattle.plain.specs.Requests.{Request}
use Rattle.book.specs.Views.{plain_of, Whole}
use Rattle.history.specs.declared.Replayed.{Replayed}
use Rattle.history.specs.Played.{Played}

pub record Begun {S : Type 0} (means : S → Map) (capacity : ℕ) (requests : List Request) (x : Replayed S) : Type 0 where
  pub played : Played capacity requests empty (plain_of means x.book) [] (vec_items x.answers)
  pub whole : Whole means x.book
