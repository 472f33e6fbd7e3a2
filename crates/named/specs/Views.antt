-- What a named book over a store stands for, and what every call keeps.
use Rattle.std.specs.Prelude.{◌≡◌, ℕ, Err, Result}
use Rattle.theory.specs.Maps.{Map}
use Rattle.grammar.specs.Grammar.{Said}
use Rattle.book.specs.Views.{plain_of, Whole}
use Rattle.names.specs.Cards.{names_of}
use Rattle.answers.specs.declared.Told.{Told}
use Rattle.answers.specs.declared.fault.LineFault.{LineFault}
use Rattle.plain_named.specs.Named.{Named, WellNamed}
use Rattle.plain_named.specs.Calls.{Obeyed}
use Rattle.named.specs.declared.NamedBook.{NamedBook}

-- `means` gives the meaning of the store.
module _ {S : Type 0} (means : S → Map) where
  -- The plain named book that it stands for.
  abbrev pub named_of : NamedBook S → Named
  named_of b = record { book = plain_of means b.book; names = names_of b.cards }

  -- Store, ranks and labels agree, and a card holds a name exactly while its unit stands, no name twice.
  abbrev pub Agreed : NamedBook S → Type 0
  Agreed b = Whole means b.book × WellNamed (named_of b)

  -- What a line says was carried out: the answer and what is left are those of the plain named book, store, ranks and labels agree, and a refused line
  -- changed nothing.
  pub record CarriedOut (capacity : ℕ) (old : NamedBook S) (s : Said) (answer : Result Told LineFault) (new : NamedBook S) : Type 0 where
    pub obeyed : Obeyed capacity (named_of old) s answer (named_of new)
    pub whole : Whole means new.book
    pub kept : (cause : LineFault) → answer ≡ Err cause → new ≡ old
