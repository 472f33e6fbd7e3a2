-- Calls that were played, and one call more.
use Rattle.std.proofs.Common.{◌≡◌, ℕ, List, [], ◌∷◌, ◌++◌, map, sym, refl, ap, ◌∙◌, subst, append_assoc, append-nil}
use Rattle.std.proofs.lemmas.List.{map-append}
use Rattle.plain.specs.Plain.{Plain, Lawful}
use Rattle.plain.specs.Requests.{Request, run}
use Rattle.histories.specs.Replies.{Reply, replies}
use Rattle.histories.specs.Alters.{LawfulAlong}
use Rattle.histories.proofs.Runs.{run-append, replies-append, along-append}
use Rattle.history.specs.Calls.{Answer, reply_of, Turned}
use Rattle.history.specs.Played.{Played}

pub played-none : (capacity : ℕ) (p : Plain) (before : List Answer) → Lawful p → Played capacity [] p p before before
played-none capacity p before law = record { left = refl; answered = sym (append-nil (map reply_of before)); lawful = law }

-- more requests after those that were played
pub played-more : (capacity : ℕ) (rs qs : List Request) (p q o : Plain) (before mid after : List Answer) → Played capacity rs p q before mid → Played capacity qs q o mid after → Played capacity (rs ++ qs) p o before after
played-more capacity rs qs p q o before mid after a b = record {
  left = b.left ∙ ap (λ (k : Plain). run capacity k qs) a.left ∙ sym (run-append capacity p rs qs);
  answered =
      b.answered ∙ ap (λ (xs : List Reply). xs ++ replies capacity q qs) a.answered ∙ append_assoc (map reply_of before) (replies capacity p rs) (replies capacity q qs)
      ∙ ap (λ (k : Plain). map reply_of before ++ (replies capacity p rs ++ replies capacity k qs)) a.left ∙ ap (λ (xs : List Reply). map reply_of before ++ xs) (sym (replies-append capacity p rs qs));
  lawful = along-append capacity p rs qs a.lawful (subst (λ (k : Plain). LawfulAlong capacity k qs) a.left b.lawful);
}

-- one call by itself
pub played-one : (capacity : ℕ) (r : Request) (p q : Plain) (a : Answer) (before after : List Answer) → Turned capacity r p q a → Lawful p → Lawful q → after ≡ before ++ a ∷ [] → Played capacity (r ∷ []) p q before after
played-one capacity r p q a before after turned law later added = record {
  left = turned.left;
  answered = ap (map reply_of) added ∙ map-append reply_of before (a ∷ []) ∙ ap (λ (x : Reply). map reply_of before ++ x ∷ []) turned.answered;
  lawful = (law, subst Lawful turned.left later);
}
