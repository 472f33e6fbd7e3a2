-- What every call promises that changes a book.
use Rattle.std.specs.Prelude.{◌≡◌, ℕ, Err, Result}
use Rattle.theory.specs.Maps.{Map}
use Rattle.plain.specs.declared.BookFault.{BookFault}
use Rattle.plain.specs.Requests.{Request}
use Rattle.book.specs.declared.Book.{Book}
use Rattle.book.specs.Views.{plain_of, Whole}
use Rattle.book.specs.Answers.{Applied}

-- The request led from the one book to the other and got the answer; a refusal leaves the whole book as it was.
pub record Changes {S : Type 0} (means : S → Map) (capacity : ℕ) (old : Book S) (r : Request) (answer : Result ℕ BookFault) (new : Book S) : Type 0 where
  pub applied : Applied capacity (plain_of means old) r answer (plain_of means new)
  pub whole : Whole means new
  pub kept : (cause : BookFault) → answer ≡ Err cause → new ≡ old
