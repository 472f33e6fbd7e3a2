-- What a list of calls does.
use Rattle.std.specs.Prelude.{◌≡◌, ℕ, List, ◌++◌, map}
use Rattle.plain.specs.Plain.{Plain}
use Rattle.plain.specs.Requests.{Request, run}
use Rattle.histories.specs.Replies.{replies}
use Rattle.histories.specs.Alters.{LawfulAlong}
use Rattle.history.specs.Calls.{Answer, reply_of}

-- From the plain book p the requests led to q, and their answers were added to those before.
pub record Played (capacity : ℕ) (requests : List Request) (p q : Plain) (before after : List Answer) : Type 0 where
  pub left : q ≡ run capacity p requests
  pub answered : map reply_of after ≡ map reply_of before ++ replies capacity p requests
  pub lawful : LawfulAlong capacity p requests
