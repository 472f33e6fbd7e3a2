-- A log is played line by line: what was written and what is left so far are those of the lines done.
use Rattle.std.proofs.Common.{◌≡◌, ℕ, true, List, [], ◌∷◌, ◌++◌, is_err, Ok, Err, Result, sym, refl, ap, ◌∙◌}
use Rattle.std.proofs.lemmas.List.{append_assoc, append-nil}
use Rattle.std.proofs.lemmas.Bool.{false≢true}
use Rattle.lines.specs.Texts.{lines_of}
use Rattle.plain_named.specs.Named.{Named}
use Rattle.plain_named.specs.Replies.{answer, after}
use Rattle.plain_named.specs.Logs.{answers, after_all}
use Rattle.plain_named.proofs.Cutting.{answers-more, after_more}
use Rattle.logs.specs.Plays.{Played, Outcome}

-- some lines are done; they and the lines of the rest are those of the log
pub record SoFar (capacity : ℕ) (n : Named) (log before rest : List ℕ) (then : Named) (out : List ℕ) : Type 0 where
  pub done : List (List ℕ)
  pub lines : lines_of log ≡ done ++ lines_of rest
  pub written : out ≡ before ++ answers capacity n done
  pub left : then ≡ after_all capacity n done

pub begun : (capacity : ℕ) (n : Named) (log before rest : List ℕ) → rest ≡ log → SoFar capacity n log before rest n before
unfolding answers after_all
begun capacity n log before rest e = record { done = []; lines = ap lines_of (sym e); written = sym (append-nil before); left = refl }

pub more : (capacity : ℕ) (n : Named) (log before rest : List ℕ) (now : Named) (out line left : List ℕ) (then : Named) (all : List ℕ) → SoFar capacity n log before rest now out →
    lines_of rest ≡ line ∷ lines_of left → all ≡ out ++ answer capacity now line → then ≡ after capacity now line → SoFar capacity n log before left then all
more capacity n log before rest now out line left then all so cut written leaves = record {
  done = so.done ++ line ∷ [];
  lines = so.lines ∙ (ap (λ (ls : List (List ℕ)). so.done ++ ls) cut ∙ sym (append_assoc so.done (line ∷ []) (lines_of left)));
  written =
      written ∙
      (ap (λ (xs : List ℕ). xs ++ answer capacity now line) so.written ∙
      (append_assoc before (answers capacity n so.done) (answer capacity now line) ∙
      ap (λ (xs : List ℕ). before ++ xs) (ap (λ (x : Named). answers capacity n so.done ++ answer capacity x line) so.left ∙ sym (answers-more capacity n so.done line))));
  left = leaves ∙ (ap (λ (x : Named). after capacity x line) so.left ∙ sym (after_more capacity n so.done line));
}

pub ended : (capacity : ℕ) (n : Named) (log before rest : List ℕ) (then : Named) (out : List ℕ) → SoFar capacity n log before rest then out → lines_of rest ≡ [] → Played capacity n log before then out
ended capacity n log before rest then out so none =
    let e : lines_of log ≡ so.done = so.lines ∙ (ap (λ (ls : List (List ℕ)). so.done ++ ls) none ∙ append-nil so.done) in
    record {
      written = so.written ∙ ap (λ (ls : List (List ℕ)). before ++ answers capacity n ls) (sym e);
      left = so.left ∙ ap (after_all capacity n) (sym e);
    }

pub stopped : {A E : Type 0} (capacity : ℕ) (n : Named) (log before rest : List ℕ) (now : Named) (out line left : List ℕ) (then : Named) (same : List ℕ) (r : Result A E) → is_err r ≡ true →
    SoFar capacity n log before rest now out → lines_of rest ≡ line ∷ lines_of left → same ≡ out → then ≡ after capacity now line → Outcome capacity n log before r then same
stopped capacity n log before rest now out line left then same (Ok x) err so cut written leaves = absurd (false≢true err)
stopped capacity n log before rest now out line left then same (Err e) err so cut written leaves = record {
  done = so.done;
  last = line;
  undone = lines_of left;
  lines = so.lines ∙ ap (λ (ls : List (List ℕ)). so.done ++ ls) cut;
  written = written ∙ so.written;
  left = leaves ∙ (ap (λ (x : Named). after capacity x line) so.left ∙ sym (after_more capacity n so.done line));
}
