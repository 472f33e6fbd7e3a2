-- One request more at the end of a list: the run, the replies, and the laws along it.
use Rattle.std.proofs.Common.{◌≡◌, ℕ, List, [], ◌∷◌, ◌++◌, refl, ap}
use Rattle.plain.specs.Plain.{Plain, Lawful}
use Rattle.plain.specs.Requests.{Request, step, run}
use Rattle.histories.specs.Replies.{Reply, reply, replies}
use Rattle.histories.specs.Alters.{LawfulAlong}

pub run-append : (capacity : ℕ) (p : Plain) (rs qs : List Request) → run capacity p (rs ++ qs) ≡ run capacity (run capacity p rs) qs
run-append capacity p [] qs = refl
run-append capacity p (r ∷ rs) qs = run-append capacity (step capacity p r) rs qs

pub replies-append : (capacity : ℕ) (p : Plain) (rs qs : List Request) → replies capacity p (rs ++ qs) ≡ replies capacity p rs ++ replies capacity (run capacity p rs) qs
replies-append capacity p [] qs = refl
replies-append capacity p (r ∷ rs) qs = ap (λ (xs : List Reply). reply capacity p r ∷ xs) (replies-append capacity (step capacity p r) rs qs)

pub along-append : (capacity : ℕ) (p : Plain) (rs qs : List Request) → LawfulAlong capacity p rs → LawfulAlong capacity (run capacity p rs) qs → LawfulAlong capacity p (rs ++ qs)
along-append capacity p [] qs h k = k
along-append capacity p (r ∷ rs) qs h k = (h.0, along-append capacity (step capacity p r) rs qs h.1 k)

pub along-last : (capacity : ℕ) (p : Plain) (rs : List Request) → LawfulAlong capacity p rs → Lawful (run capacity p rs)
along-last capacity p [] h = h
along-last capacity p (r ∷ rs) h = along-last capacity (step capacity p r) rs h.1
