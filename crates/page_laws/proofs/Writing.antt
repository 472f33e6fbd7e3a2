-- Records written one after the other: what is written and what is left to write are the whole.
use Rattle.std.proofs.Common.{◌≡◌, ℕ, zero, suc, ◌+◌, ◌-◌, ◌*◌, ◌<◌, ◌≤◌, Bool, true, false, cond, eqb, ◌⊎◌, List, [], ◌∷◌, ◌++◌, length, get_or, take, drop, set, Some, None, Option, sym, refl, ap, ◌∙◌, inl, inr, append_assoc, append-nil, arith, length-append, length-set}
use Rattle.std.proofs.lemmas.List.{take_more_set, at_drop_more, at_drop_all}
use Rattle.std.proofs.lemmas.Bool.{cases_eq, ne_eqb}
use Rattle.units.specs.Sets.{Least}
use Rattle.theory.specs.Lists.{picked, sum}
use Rattle.plain.specs.Lists.{numbers}
use Rattle.plain.specs.Saving.{ascending, record_bytes, next_index, unit_bytes, chain_bytes, pairing_bytes}
use Rattle.page_laws.specs.Ahead.{ahead, following_index}

picked_none : (f : ℕ → Bool) (from many : ℕ) → ((k : ℕ) → from ≤ k → k < from + many → f k ≡ false) → picked f (numbers from many) ≡ []
picked_none f from zero none = refl
picked_none f from (suc many) none =
    ap (λ (b : Bool). cond b (from ∷ picked f (numbers (suc from) many)) (picked f (numbers (suc from) many))) (none from (omega arith) (omega arith))
    ∙ picked_none f (suc from) many (λ k a b. none k (omega arith) (omega arith))

picked_first : (f : ℕ → Bool) (from many l : ℕ) → from ≤ l → l < from + many → ((k : ℕ) → from ≤ k → k < l → f k ≡ false) → f l ≡ true →
    picked f (numbers from many) ≡ l ∷ picked f (numbers (suc l) ((from + many) - suc l))
picked_first f from zero l low high none here = absurd (omega arith)
picked_first f from (suc many) l low high none here = go (cases_eq from l) (picked_first f (suc from) many l)
  where
    go : (from ≡ l) ⊎ (from ≡ l → ⊥) → (suc from ≤ l → l < suc from + many → ((k : ℕ) → suc from ≤ k → k < l → f k ≡ false) → f l ≡ true → picked f (numbers (suc from) many) ≡ l ∷ picked f (numbers (suc l) ((suc from + many) - suc l))) →
        picked f (numbers from (suc many)) ≡ l ∷ picked f (numbers (suc l) ((from + suc many) - suc l))
    go (inl e) next =
        let left : many ≡ (from + suc many) - suc l = omega arith in
        ap (λ (b : Bool). cond b (from ∷ picked f (numbers (suc from) many)) (picked f (numbers (suc from) many))) (ap f e ∙ here)
        ∙ ap (λ (k : ℕ). k ∷ picked f (numbers (suc k) many)) e ∙ ap (λ (k : ℕ). l ∷ picked f (numbers (suc l) k)) left
    go (inr ne) next =
        let same : (suc from + many) - suc l ≡ (from + suc many) - suc l = omega arith in
        ap (λ (b : Bool). cond b (from ∷ picked f (numbers (suc from) many)) (picked f (numbers (suc from) many))) (none from (omega arith) (omega arith))
        ∙ next (omega arith) (omega arith) (λ k a b. none k (omega arith) b) here ∙ ap (λ (k : ℕ). l ∷ picked f (numbers (suc l) k)) same

-- the members above c, by the least of them
pub least-ahead : (f : ℕ → Bool) (c : ℕ) (r : Option ℕ) → Least f (c + 1) r → ((k : ℕ) → f k ≡ true → k ≤ 255) → picked f (numbers (suc c) (255 - c)) ≡ ahead f r
unfolding ahead
least-ahead f c None none small = picked_none f (suc c) (255 - c) (λ k a b. none k (omega arith))
least-ahead f c (Some l) (low, here, none) small =
    let most = small l here in
    let left : (suc c + (255 - c)) - suc l ≡ 255 - l = omega arith in
    picked_first f (suc c) (255 - c) l (omega arith) (omega arith) (λ k a b. none k (omega arith) b) here ∙ ap (λ (k : ℕ). l ∷ picked f (numbers (suc l) k)) left

pub all-ahead : (f : ℕ → Bool) (r : Option ℕ) → Least f 1 r → ((k : ℕ) → f k ≡ true → k ≤ 255) → ascending f ≡ ahead f r
unfolding ascending
all-ahead f r least small = least-ahead f 0 r least small

pub next-ahead : (f : ℕ → Bool) (l : ℕ) (r : Option ℕ) → Least f (l + 1) r → ((k : ℕ) → f k ≡ true → k ≤ 255) → ahead f (Some l) ≡ l ∷ ahead f r
unfolding ahead
next-ahead f l r least small = ap (λ (xs : List ℕ). l ∷ xs) (least-ahead f l r least small)

-- one record more of what is left
pub written : (before after piece rest whole : List ℕ) → before ++ (piece ++ rest) ≡ whole → after ≡ before ++ piece → after ++ rest ≡ whole
written before after piece rest whole inv e = ap (λ (xs : List ℕ). xs ++ rest) e ∙ append_assoc before piece rest ∙ inv

pub index-count : (at : ℕ) (ls : List ℕ) → next_index at ls ≡ cond (eqb (length ls) 0) 0 at
index-count at [] = refl
index-count at (l ∷ ls) = ap (λ (b : Bool). cond b 0 at) (sym (ne_eqb (suc (length ls)) 0 (λ e. omega arith)))

pub length-chain : (at : ℕ) (ls : List ℕ) → length (chain_bytes at ls) ≡ 3 * length ls
length-chain at [] = refl
length-chain at (l ∷ ls) = let rest = length-chain (at + 1) ls in omega arith

pub length-units : (pair : ℕ → ℕ → Bool) (at : ℕ) (us : List ℕ) → length (unit_bytes pair at us) ≡ 3 * length us
length-units pair at [] = refl
length-units pair at (u ∷ us) = let rest = length-units pair (at + length (ascending (pair u))) us in omega arith

pub length-pairings : (pair : ℕ → ℕ → Bool) (at : ℕ) (us : List ℕ) → length (pairing_bytes pair at us) ≡ 3 * sum us (λ u. length (ascending (pair u)))
unfolding sum
length-pairings pair at [] = refl
length-pairings pair at (u ∷ us) =
    let rest = length-pairings pair (at + length (ascending (pair u))) us in
    let here = length-chain at (ascending (pair u)) in
    let both = length-append (chain_bytes at (ascending (pair u))) (pairing_bytes pair (at + length (ascending (pair u))) us) in
    omega arith

-- three bytes written one after the other
pub record-written : (xs : List ℕ) (at a b c : ℕ) → at + 3 ≤ length xs → take (at + 3) (set (set (set xs at a) (at + 1) b) (at + 2) c) ≡ take at xs ++ (a ∷ b ∷ c ∷ [])
record-written xs at a b c h =
    let s1 = set xs at a in
    let s2 = set s1 (at + 1) b in
    let l1 = length-set xs at a in
    let l2 = length-set s1 (at + 1) b in
    let e3 : at + 3 ≡ (at + 2) + 1 = omega arith in
    let e2 : at + 2 ≡ (at + 1) + 1 = omega arith in
    ap (λ (n : ℕ). take n (set s2 (at + 2) c)) e3 ∙ take_more_set s2 (at + 2) c (omega arith) ∙ ap (λ (zs : List ℕ). zs ++ c ∷ []) (ap (λ (n : ℕ). take n s2) e2 ∙ take_more_set s1 (at + 1) b (omega arith)
    ∙ ap (λ (zs : List ℕ). zs ++ b ∷ []) (take_more_set xs at a (omega arith))) ∙ ap (λ (zs : List ℕ). zs ++ c ∷ []) (append_assoc (take at xs) (a ∷ []) (b ∷ [])) ∙ append_assoc (take at xs) (a ∷ b ∷ []) (c ∷ [])

module _ (pair : ℕ → ℕ → Bool) (order : List ℕ) (i : ℕ) (h : i < length order) where
  pub unit-next : (at : ℕ) → unit_bytes pair at (drop i order) ≡ record_bytes (get_or order i 0) (next_index at (ascending (pair (get_or order i 0)))) ++ unit_bytes pair (at + length (ascending (pair (get_or order i 0)))) (drop (i + 1) order)
  unit-next at = at_drop_more (unit_bytes pair at) order i 0 h

  pub pairing-next : (at : ℕ) → pairing_bytes pair at (drop i order) ≡ chain_bytes at (ascending (pair (get_or order i 0))) ++ pairing_bytes pair (at + length (ascending (pair (get_or order i 0)))) (drop (i + 1) order)
  pairing-next at = at_drop_more (pairing_bytes pair at) order i 0 h

pub sum-next : (f : ℕ → ℕ) (order : List ℕ) (i : ℕ) → i < length order → sum (drop i order) f ≡ f (get_or order i 0) + sum (drop (i + 1) order) f
unfolding sum
sum-next f order i h = at_drop_more (λ xs. sum xs f) order i 0 h

pub sum-end : (f : ℕ → ℕ) (order : List ℕ) (i : ℕ) → length order ≤ i → sum (drop i order) f ≡ 0
unfolding sum
sum-end f order i h = at_drop_all (λ xs. sum xs f) order i h

-- nothing is left
pub all-written : (xs rest whole : List ℕ) → xs ++ rest ≡ whole → rest ≡ [] → xs ≡ whole
all-written xs rest whole e none = sym (append-nil xs) ∙ ap (λ (zs : List ℕ). xs ++ zs) (sym none) ∙ e

-- one record of a chain more
pub chain_more : (f : ℕ → Bool) (number l : ℕ) (r : Option ℕ) → ahead f (Some l) ≡ l ∷ ahead f r →
    chain_bytes number (ahead f (Some l)) ≡ record_bytes l (following_index number r) ++ chain_bytes (number + 1) (ahead f r)
unfolding ahead
chain_more f number l r e = ap (chain_bytes number) e ∙ ap (λ (n : ℕ). record_bytes l n ++ chain_bytes (number + 1) (ahead f r)) (index f number r)
  where
    index : (f : ℕ → Bool) (number : ℕ) (r : Option ℕ) → next_index (number + 1) (ahead f r) ≡ following_index number r
    index f number None = refl
    index f number (Some l) = refl

pub none_ahead : (f : ℕ → Bool) → ahead f None ≡ []
unfolding ahead
none_ahead f = refl

-- tests that agree pick the same
pub same-ascending : (f g : ℕ → Bool) → ((k : ℕ) → f k ≡ g k) → ascending f ≡ ascending g
unfolding ascending
same-ascending f g e = same (numbers 1 255)
  where
    same : (xs : List ℕ) → picked f xs ≡ picked g xs
    same [] = refl
    same (x ∷ xs) = ap (λ (b : Bool). cond b (x ∷ picked f xs) (picked f xs)) (e x) ∙ ap (λ (zs : List ℕ). cond (g x) (x ∷ zs) zs) (same xs)
