-- Calls as requests, and answers as replies.
use Rattle.std.specs.Prelude.{◌≡◌, ℕ, List, [], ◌∷◌, take, drop, Some, None, Ok, Err, vec_items, Option, Result}
use Rattle.book.specs.Answers.{list_request}
use Rattle.plain.specs.declared.BookFault.{BookFault}
use Rattle.plain.specs.Plain.{Plain, map_of}
use Rattle.plain.specs.Requests as request
use Rattle.plain.specs.Requests.{Request}
use Rattle.histories.specs.Replies as reply
use Rattle.histories.specs.Replies.{Reply}
use Rattle.history.specs.declared.calls.Call.{Call}
use Rattle.history.specs.declared.calls.Call.TheVariants as call
use Rattle.history.specs.declared.calls.Told.{Told}
use Rattle.history.specs.declared.calls.Told.TheVariants as told

abbrev pub request_of : Call → Request
request_of (call.Load page) = request.Load (vec_items page)
request_of (call.Enrol unit rank with) = request.Enrol unit rank (vec_items with.sources) (vec_items with.listeners)
request_of (call.Drop unit) = request.Drop unit
request_of (call.Pair source listener) = request.Pair source listener
request_of (call.Unpair source listener) = request.Unpair source listener
request_of (call.Rank unit rank) = request.Rank unit rank
request_of (call.Hear source listener) = request.Hear source listener
request_of (call.BestPlace unit with) = request.BestPlace unit (vec_items with.sources) (vec_items with.listeners)
request_of (call.List list unit room) = list_request list unit room
request_of (call.Reach source listener sheet) = request.Reach source listener (vec_items sheet)
request_of (call.Save place room) = request.Save place room

abbrev pub Answer : Type 0
Answer = Result Told BookFault

abbrev pub reply_told : Told → Reply
reply_told told.Done = reply.Done
reply_told (told.Changed labels) = reply.Changed labels
reply_told (told.Heard heard) = reply.Heard heard
reply_told (told.Placed place) = reply.Placed place.rank place.total
reply_told (told.Written bytes) = reply.Written (vec_items bytes)
reply_told (told.Reached pairings) = reply.Reached pairings

abbrev pub reply_of : Answer → Reply
reply_of (Err cause) = reply.Refused cause
reply_of (Ok t) = reply_told t

-- The requests with which a book begins: it is made, and the page, where there is one, is loaded.
abbrev pub opening : Option (List ℕ) → List Request
opening None = request.Make ∷ []
opening (Some page) = request.Make ∷ request.Load page ∷ []

-- What was written from a place of the buffer on, or the cause for which nothing was.
abbrev pub part_written : Result ℕ BookFault → ℕ → List ℕ → Reply
part_written (Ok n) place buffer = reply.Written (take n (drop place buffer))
part_written (Err cause) place buffer = reply.Refused cause

-- From the plain book p a request led to q, and was answered.
pub record Turned (capacity : ℕ) (r : Request) (p q : Plain) (a : Answer) : Type 0 where
  pub answered : reply_of a ≡ reply.reply capacity p r
  pub left : q ≡ request.step capacity p r
