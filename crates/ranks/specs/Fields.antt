-- The fields of a table, and that they are a function of its units.
use Rattle.std.specs.Prelude.{◌≡◌, ℕ, ◌-◌, ◌<◌, ◌≤◌, ◌⊎◌, List, ◌++◌, map, length, take, replicate, None, Option, slice_index}
use Rattle.std.specs.List.{range_with_len}
use Rattle.std.proofs.Common.{get_or, inl, inr, sym, ◌∙◌, arith}
use Rattle.std.proofs.lemmas.Bool.{cases_lt}
use Rattle.std.proofs.lemmas.List.{ext_get_or, length-append, length-replicate, length-take-le, get_or_append_left, get_or-append_right, get_or-take, get_or-replicate}
use Rattle.std.proofs.lemmas.List.FromFn.{length-map-range_with_len, get_or-map-range_with_len}
use Rattle.ranks.specs.Orders.{rank_found, Ranking}

-- What the fields of a table keep: the first n places of its order are the units, and the others are 0.
pub record Kept (order : List ℕ) (n : ℕ) (place : List (Option ℕ)) : Type 0 where
  pub long : length order ≡ 255
  pub wide : length place ≡ 256
  pub within : n ≤ 255
  pub spare : (i : ℕ) → n ≤ i → slice_index order i ≡ 0
  pub ranking : Ranking (take n order) place

-- These units in an array.
abbrev pub padded : List ℕ → List ℕ
padded units = units ++ replicate (255 - length units) 0

-- The rank of each number from 0 to 255 in the order of these units.
pub all_ranks : List ℕ → List (Option ℕ)
all_ranks units = map (rank_found units) (range_with_len 0 256)

module _ (order : List ℕ) (n : ℕ) (place : List (Option ℕ)) (kept : Kept order n place) where
  pub filled : length (take n order) ≡ n
  filled = length-take-le n order (omega (arith, kept.long, kept.within))

  pub padded_is : padded (take n order) ≡ order
  padded_is = ext_get_or 0 (padded xs) order size (λ i h. at i (omega (arith, size, kept.long)) (cases_lt i n))
    where
      xs : List ℕ
      xs = take n order

      more : List ℕ
      more = replicate (255 - length xs) 0

      size : length (padded xs) ≡ length order
      size = omega (arith, length-append xs more, filled, kept.long, kept.within, length-replicate {A = ℕ} (255 - length xs) 0)

      at : (i : ℕ) → i < 255 → (i < n) ⊎ (n ≤ i) → get_or (padded xs) i 0 ≡ get_or order i 0
      at i h (inl b) = get_or_append_left xs more 0 i (omega (arith, filled)) ∙ get_or-take n order i 0 b
      at i h (inr b) = get_or-append_right xs more n i 0 filled b ∙ get_or-replicate (255 - length xs) (i - n) 0 0 (omega (arith, filled)) ∙ sym (kept.spare i b)

  pub all_ranks_is : all_ranks (take n order) ≡ place
  unfolding all_ranks
  all_ranks_is =
      let many = length-map-range_with_len (rank_found (take n order)) 0 256 in
      ext_get_or None (all_ranks (take n order)) place (many ∙ sym kept.wide)
      (λ i h. get_or-map-range_with_len (rank_found (take n order)) 0 256 i i None (omega (arith, many)) (omega arith) ∙ sym (kept.ranking.ranked i))
