-- An order with a unit put in or taken out, place by place and as a list.
use Rattle.std.proofs.Common.{◌≡◌, ℕ, suc, ◌+◌, ◌-◌, ◌<◌, ◌≤◌, ◌⊎◌, List, ◌∷◌, ◌++◌, length, get_or, take, drop, sym, ap, ◌∙◌, subst, inl, inr, arith}
use Rattle.std.specs.List.{remove}
use Rattle.std.proofs.lemmas.List.{length-take-le, get_or-take, ext_get_or}
use Rattle.std.proofs.lemmas.List.Edits.{length-insert, get_or-insert_below, get_or-insert_at, get_or-insert_above, length-remove, get_or-remove_below, get_or-remove_above}
use Rattle.std.proofs.lemmas.Bool.{cases_order, cases_lt}
use Rattle.theory.specs.Chains.{On}
use Rattle.theory.specs.Ranks.{rank_in, Once, inserted}
use Rattle.theory.proofs.Distinct.{on-at, rank-at}
use Rattle.ranks.proofs.Whole.{inserted-is}

-- v stands at k, and those from k on have moved down by one
pub opened : (old new : List ℕ) (n k v : ℕ) → n ≤ length old → n + 1 ≤ length new → k ≤ n → ((i : ℕ) → i < k → get_or new i 0 ≡ get_or old i 0) → get_or new k 0 ≡ v
    → ((i : ℕ) → k < i → i ≤ n → get_or new i 0 ≡ get_or old (i - 1) 0) → take (n + 1) new ≡ inserted k v (take n old)
opened old new n k v ho hn hk above here below =
    let size = length-take-le (n + 1) new hn in
    ext_get_or 0 (take (n + 1) new) ys (size ∙ sym (ap (λ m. m + 1) many) ∙ sym (length-insert xs k v within))
    (λ i h. get_or-take (n + 1) new i 0 (omega arith) ∙ at i (omega arith) (cases_order i k)) ∙ sym (inserted-is k v xs)
  where
    xs : List ℕ
    xs = take n old

    ys : List ℕ
    ys = take k xs ++ v ∷ drop k xs

    many : length xs ≡ n
    many = length-take-le n old ho

    within : k ≤ length xs
    within = omega (arith, many)

    at : (i : ℕ) → i ≤ n → (i ≡ k) ⊎ ((i < k) ⊎ (k < i)) → get_or new i 0 ≡ get_or ys i 0
    at i h (inl e) = subst (λ j. get_or new j 0 ≡ get_or ys j 0) (sym e) (here ∙ sym (get_or-insert_at xs k v 0 within))
    at i h (inr (inl b)) = above i b ∙ sym (get_or-take n old i 0 (omega arith)) ∙ sym (get_or-insert_below xs k v 0 i b within)
    at i h (inr (inr b)) =
        let next : i - 1 + 1 ≡ i = omega arith in
        below i b h ∙ sym (get_or-take n old (i - 1) 0 (omega arith)) ∙ sym (get_or-insert_above xs k v 0 (i - 1) (omega arith) within) ∙ ap (λ j. get_or ys j 0) next

-- what stood at k is gone, and those below it have moved up by one
pub closed : (old new : List ℕ) (n k : ℕ) → n ≤ length old → n ≤ length new → k < n → ((i : ℕ) → i < k → get_or new i 0 ≡ get_or old i 0)
    → ((i : ℕ) → k ≤ i → i < n - 1 → get_or new i 0 ≡ get_or old (i + 1) 0) → take (n - 1) new ≡ remove (take n old) k
closed old new n k ho hn hk above below =
    let size = length-take-le (n - 1) new (omega arith) in
    let less = length-remove xs k within in
    ext_get_or 0 (take (n - 1) new) ys (omega (arith, many)) (λ i h. get_or-take (n - 1) new i 0 (omega arith) ∙ at i (omega arith) (cases_lt i k))
  where
    xs : List ℕ
    xs = take n old

    ys : List ℕ
    ys = take k xs ++ drop (suc k) xs

    many : length xs ≡ n
    many = length-take-le n old ho

    within : k < length xs
    within = omega (arith, many)

    at : (i : ℕ) → i < n - 1 → (i < k) ⊎ (k ≤ i) → get_or new i 0 ≡ get_or ys i 0
    at i h (inl b) = above i b ∙ sym (get_or-take n old i 0 (omega arith)) ∙ sym (get_or-remove_below xs k 0 i b within)
    at i h (inr b) = below i b h ∙ sym (get_or-take n old (i + 1) 0 (omega arith)) ∙ sym (get_or-remove_above xs k 0 i b within)

-- what stands at two places is different
pub apart : (order : List ℕ) (n i j : ℕ) → n ≤ length order → Once (take n order) → i < n → j < n → get_or order i 0 ≡ get_or order j 0 → i ≡ j
apart order n i j h once hi hj e =
    let xs = take n order in
    let many = length-take-le n order h in
    let a = rank-at xs once i (omega arith) in
    let b = rank-at xs once j (omega arith) in
    let same : get_or xs i 0 ≡ get_or xs j 0 = get_or-take n order i 0 hi ∙ e ∙ sym (get_or-take n order j 0 hj) in
    omega (arith, ap (rank_in xs) same)

pub on-order : (order : List ℕ) (n i : ℕ) → n ≤ length order → i < n → On (get_or order i 0) (take n order)
on-order order n i h l = let many = length-take-le n order h in subst (λ (u : ℕ). On u (take n order)) (get_or-take n order i 0 l) (on-at (take n order) i (omega arith))
