-- A list written into a buffer from its start, one number after another.
use Rattle.std.proofs.Common.{◌≡◌, ℕ, ◌+◌, ◌<◌, ◌≤◌, List, [], ◌∷◌, ◌++◌, length, get_or, take, drop, set, sym, ap, ◌∙◌, ap₂, arith}
use Rattle.std.specs.List.{enumerate_from}
use Rattle.std.proofs.lemmas.Grind.{get_or_default_zero}
use Rattle.std.proofs.lemmas.List.FromFn.{get_or-enumerate_from, length-enumerate_from}
use Rattle.std.proofs.lemmas.List.{take_more, take_more_set, take_all, drop-set-lt, drop-drop, take-append-drop}

-- the first n numbers of the list are written over the old bytes
pub record Written (xs old new : List ℕ) (n : ℕ) : Type 0 where
  pub front : take n new ≡ take n xs
  pub back : drop n new ≡ drop n old

-- the number that comes with its place
pub record Place (xs : List ℕ) (n i w : ℕ) : Type 0 where
  pub within : n < length xs
  pub index : i ≡ n
  pub value : w ≡ get_or xs n 0

pub place : (xs : List ℕ) (n i w : ℕ) → (n < length (enumerate_from 0 xs)) × ((i, w) ≡ get_or (enumerate_from 0 xs) n (i, w)) → Place xs n i w
place xs n i w came =
    let h : n < length xs = omega (arith, came.0, length-enumerate_from 0 xs) in
    let e : (i, w) ≡ (0 + n, get_or xs n w) = came.1 ∙ get_or-enumerate_from 0 xs n (i, w) h in
    record {
      within = h;
      index = omega (arith, ap (λ p. p.0) e);
      value = ap (λ p. p.1) e ∙ get_or_default_zero xs n w h;
    }

module _ (xs old new : List ℕ) (n : ℕ) where
  pub written_more : (i w : ℕ) → Place xs n i w → length xs ≤ length new → Written xs old new n → Written xs old (set new i w) (n + 1)
  written_more i w came fits written =
      let within = came.within in
      rw came.index (record {
        front =
            take_more_set new n w (omega arith) ∙ ap₂ (λ a b. a ++ b ∷ []) written.front came.value ∙ sym (take_more xs n 0 within);
        back = drop-set-lt (n + 1) new n w (omega arith) ∙ sym (drop-drop 1 n new) ∙ ap (drop 1) written.back ∙ drop-drop 1 n old;
      })

  pub written-all : n ≡ length xs → Written xs old new n → new ≡ xs ++ drop (length xs) old
  written-all all written = sym (take-append-drop n new) ∙ ap₂ (λ a b. a ++ b) (written.front ∙ take_all n xs (omega arith)) (written.back ∙ ap (λ k. drop k old) all)
