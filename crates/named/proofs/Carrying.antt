-- The exits of the calls: a name is refused, the book refuses, and the book grants.
use Rattle.std.proofs.Common.{◌≡◌, ℕ, Bool, IsErrAnd, Ok, Err, Result, sym, refl, ap, ◌∙◌, subst}
use Rattle.std.proofs.lemmas.Result.{err_from_is_err_and}
use Rattle.theory.specs.Maps.{Map}
use Rattle.grammar.specs.Grammar.{Said}
use Rattle.book.specs.declared.Book.{Book}
use Rattle.book.specs.Views.{plain_of, Whole}
use Rattle.book.specs.Answers.{alters, answered, Applied}
use Rattle.names.specs.declared.Cards.{Cards}
use Rattle.names.specs.declared.fault.NameFault.{NameFault}
use Rattle.names.specs.Cards.{names_of}
use Rattle.plain.specs.declared.BookFault.{BookFault}
use Rattle.plain.specs.Requests.{verdict, granted}
use Rattle.answers.specs.declared.Told.{Told}
use Rattle.answers.specs.declared.Told.TheVariants.{Changed, Heard}
use Rattle.answers.specs.declared.fault.LineFault.{LineFault}
use Rattle.answers.specs.declared.fault.LineFault.TheVariants.{Name, Book as OfBook}
use Rattle.plain_named.specs.Lines.{Asked, asked, request_of, names_after}
use Rattle.plain_named.specs.Replies.{tells}
use Rattle.plain_named.specs.Calls.{Obeyed, of_book}
use Rattle.plain_named.proofs.Obeying.{name-exit, card-exit, card-written, book-asked, not-refused}
use Rattle.named.specs.declared.NamedBook.{NamedBook}
use Rattle.named.specs.Views.{named_of, Agreed, CarriedOut}

module _ {S : Type 0} (means : S → Map) (capacity : ℕ) (b : NamedBook S) (s : Said) where
  pub name-refused : Agreed means b → (cause : NameFault) → asked (names_of b.cards) s ≡ Err cause → (r : Result Told LineFault) → IsErrAnd r (λ y. y ≡ Name cause) → CarriedOut means capacity b s r b
  name-refused agreed cause e r by = record {
    obeyed = name-exit capacity (named_of means b) s r cause e by;
    whole = agreed.0;
    kept = λ other is. refl;
  }

  module _ (a : Asked) (asks : asked (names_of b.cards) s ≡ Ok a) where
    -- a change
    pub change-refused : (book : Book S) (cause : BookFault) → Applied capacity (plain_of means b.book) (request_of a) (Err cause) (plain_of means book) → Whole means book → book ≡ b.book →
        (r : Result Told LineFault) → IsErrAnd r (λ y. y ≡ OfBook cause) → CarriedOut means capacity b s r (record b { book = book })
    change-refused book cause applied whole same r by =
        let stays : ◌≡◌ {A = NamedBook S} (record b { book = book }) b = ap (λ (x : Book S). record b { book = x }) same in
        record {
          obeyed = subst (λ (x : NamedBook S). Obeyed capacity (named_of means b) s r (named_of means x)) (sym stays) (card-exit capacity (named_of means b) s a asks r cause (plain_of means book) applied by);
          whole = whole;
          kept = λ other is. stays;
        }

    pub change-granted : (book : Book S) (cards : Cards) (labels : ℕ) → Applied capacity (plain_of means b.book) (request_of a) (Ok labels) (plain_of means book) → Whole means book →
        tells (plain_of means b.book) a ≡ Changed (alters (plain_of means b.book) (granted (plain_of means b.book) (request_of a))) → names_of cards ≡ names_after a (names_of b.cards) →
        CarriedOut means capacity b s (Ok (Changed labels)) (record { book = book; cards = cards })
    change-granted book cards labels applied whole tell written = record {
      obeyed = card-written capacity (named_of means b) s a asks labels (plain_of means book) (names_of cards) applied tell written;
      whole = whole;
      kept = λ cause is. not-refused _ cause is;
    }

    -- a question
    pub asked-book : Agreed means b → (answer : Result Bool BookFault) (heard : Bool) → answer ≡ answered (verdict capacity (plain_of means b.book) (request_of a)) heard →
        tells (plain_of means b.book) a ≡ Heard heard → granted (plain_of means b.book) (request_of a) ≡ plain_of means b.book → names_after a (names_of b.cards) ≡ names_of b.cards →
        (r : Result Told LineFault) → r ≡ of_book Heard answer → CarriedOut means capacity b s r b
    asked-book agreed answer heard told tell stays same r is = record {
      obeyed = book-asked capacity (named_of means b) s a asks answer heard told tell stays same r is;
      whole = agreed.0;
      kept = λ other h. refl;
    }

-- the exit of a `?` on an answer of the book
pub exit-of : {A : Type 0} (tell : A → Told) (cause : BookFault) (r : Result Told LineFault) → IsErrAnd r (λ y. y ≡ OfBook cause) → r ≡ of_book tell (Err cause)
exit-of tell cause r by = let p = err_from_is_err_and r by in p.1 ∙ ap Err p.2
