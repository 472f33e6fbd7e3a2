-- A log goes line by line: one line more at its end.
use Rattle.std.proofs.Common.{◌≡◌, ℕ, List, [], ◌∷◌, ◌++◌, sym, refl, ap, ◌∙◌}
use Rattle.std.proofs.lemmas.List.{append_assoc, append-nil}
use Rattle.plain_named.specs.Named.{Named}
use Rattle.plain_named.specs.Replies.{answer, after}
use Rattle.plain_named.specs.Logs.{answers, after_all}

pub answers-more : (capacity : ℕ) (n : Named) (lines : List (List ℕ)) (line : List ℕ) → answers capacity n (lines ++ line ∷ []) ≡ answers capacity n lines ++ answer capacity (after_all capacity n lines) line
unfolding answers after_all
answers-more capacity n [] line = append-nil (answer capacity n line)
answers-more capacity n (l ∷ lines) line =
    ap (λ (xs : List ℕ). answer capacity n l ++ xs) (answers-more capacity (after capacity n l) lines line) ∙
    sym (append_assoc (answer capacity n l) (answers capacity (after capacity n l) lines) (answer capacity (after_all capacity (after capacity n l) lines) line))

pub after_more : (capacity : ℕ) (n : Named) (lines : List (List ℕ)) (line : List ℕ) → after_all capacity n (lines ++ line ∷ []) ≡ after capacity (after_all capacity n lines) line
unfolding after_all
after_more capacity n [] line = refl
after_more capacity n (l ∷ lines) line = after_more capacity (after capacity n l) lines line
