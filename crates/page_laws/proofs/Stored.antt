-- The records of a page by their places: what stands where in the bytes of a page that was written.
use Rattle.std.proofs.Common.{◌≡◌, ℕ, suc, ◌+◌, ◌-◌, ◌*◌, ◌/◌, ◌%◌, ◌≤◌, Bool, List, [], ◌∷◌, ◌++◌, length, get_or, sym, ap, ◌∙◌, append_assoc, arith, length-append}
use native.Mathlib.Nat.{mod-add-div}
use Rattle.std.proofs.lemmas.List.{get_or-append-add}
use Rattle.plain.specs.Pages.{word, unit_count, unit_in, first_of, listener_in, next_of}
use Rattle.plain.specs.Saving.{ascending, record_bytes, next_index, unit_bytes, chain_bytes, pairing_bytes}
use Rattle.page_laws.proofs.Writing.{length-chain}

-- the record at a place has the number and the index
abbrev Record : List ℕ → ℕ → ℕ → ℕ → Type 0
Record page at number index = (get_or page at 0 ≡ number) × (word page (at + 1) ≡ index)

-- where the bytes before it are as many as the place
record-there : (before rest : List ℕ) (at number index : ℕ) → length before ≡ at → Record (before ++ (record_bytes number index ++ rest)) at number index
record-there before rest at number index long =
    let page = before ++ (record_bytes number index ++ rest) in
    let bytes = number ∷ index % 256 ∷ index / 256 ∷ rest in
    let e0 : at ≡ length before + 0 = omega arith in
    let e1 : at + 1 ≡ length before + 1 = omega arith in
    let e2 : (at + 1) + 1 ≡ length before + 2 = omega arith in
    let b0 = ap (λ (n : ℕ). get_or page n 0) e0 ∙ get_or-append-add before bytes 0 0 in
    let b1 = ap (λ (n : ℕ). get_or page n 0) e1 ∙ get_or-append-add before bytes 1 0 in
    let b2 = ap (λ (n : ℕ). get_or page n 0) e2 ∙ get_or-append-add before bytes 2 0 in
    (b0, ap (λ (n : ℕ). n + 256 * get_or page ((at + 1) + 1) 0) b1 ∙ ap (λ (n : ℕ). index % 256 + 256 * n) b2 ∙ mod-add-div index 256)

-- The records numbered from `at` are a chain with these listeners.
abbrev pub Links : List ℕ → ℕ → List ℕ → Type 0
Links page at [] = Unit {0}
Links page at (l ∷ ls) = (listener_in page at ≡ l) × (next_of page at ≡ next_index (at + 1) ls) × Links page (at + 1) ls

-- The chains of the units follow each other, the first numbered from `at`.
abbrev pub AllLinks : (ℕ → ℕ → Bool) → List ℕ → ℕ → List ℕ → Type 0
AllLinks pair page at [] = Unit {0}
AllLinks pair page at (u ∷ us) = Links page at (ascending (pair u)) × AllLinks pair page (at + length (ascending (pair u))) us

-- The unit records from i on are those of the units.
abbrev pub Heads : (ℕ → ℕ → Bool) → List ℕ → ℕ → ℕ → List ℕ → Type 0
Heads pair page i at [] = Unit {0}
Heads pair page i at (u ∷ us) = (unit_in page i ≡ u) × (first_of page i ≡ next_index at (ascending (pair u))) × Heads pair page (suc i) (at + length (ascending (pair u))) us

module _ (pair : ℕ → ℕ → Bool) (page : List ℕ) where
  pub heads-stored : (before rest : List ℕ) (i at : ℕ) (us : List ℕ) → page ≡ before ++ (unit_bytes pair at us ++ rest) → length before ≡ 4 + 3 * i → Heads pair page i at us
  heads-stored before rest i at [] is long = tt
  heads-stored before rest i at (u ∷ us) is long =
      let index = next_index at (ascending (pair u)) in
      let here = record-there before (unit_bytes pair (at + length (ascending (pair u))) us ++ rest) (4 + 3 * i) u index long in
      let next =
      heads-stored (before ++ record_bytes u index) rest (suc i) (at + length (ascending (pair u))) us
      (is ∙ sym (append_assoc before (record_bytes u index) (unit_bytes pair (at + length (ascending (pair u))) us ++ rest)))
      (let all = length-append before (record_bytes u index) in omega arith) in
      (ap (λ (xs : List ℕ). get_or xs (4 + 3 * i) 0) is ∙ here.0, ap (λ (xs : List ℕ). word xs ((4 + 3 * i) + 1)) is ∙ here.1, next)

  pub links-stored : (before rest : List ℕ) (at : ℕ) (ls : List ℕ) → 1 ≤ at → page ≡ before ++ (chain_bytes at ls ++ rest) → length before ≡ 4 + 3 * unit_count page + 3 * (at - 1) → Links page at ls
  links-stored before rest at [] one is long = tt
  links-stored before rest at (l ∷ ls) one is long =
      let index = next_index (at + 1) ls in
      let place = 4 + 3 * unit_count page + 3 * (at - 1) in
      let here = record-there before (chain_bytes (at + 1) ls ++ rest) place l index long in
      let next =
      links-stored (before ++ record_bytes l index) rest (at + 1) ls (omega arith) (is ∙ sym (append_assoc before (record_bytes l index) (chain_bytes (at + 1) ls ++ rest)))
      (let all = length-append before (record_bytes l index) in omega arith) in
      (ap (λ (xs : List ℕ). get_or xs place 0) is ∙ here.0, ap (λ (xs : List ℕ). word xs (place + 1)) is ∙ here.1, next)

  pub all-links-stored : (before rest : List ℕ) (at : ℕ) (us : List ℕ) → 1 ≤ at → page ≡ before ++ (pairing_bytes pair at us ++ rest) → length before ≡ 4 + 3 * unit_count page + 3 * (at - 1) → AllLinks pair page at us
  all-links-stored before rest at [] one is long = tt
  all-links-stored before rest at (u ∷ us) one is long =
      let ls = ascending (pair u) in
      let chain = chain_bytes at ls in
      let others = pairing_bytes pair (at + length ls) us in
      let first : page ≡ before ++ (chain ++ (others ++ rest)) = is ∙ ap (λ (xs : List ℕ). before ++ xs) (append_assoc chain others rest) in (
        links-stored before (others ++ rest) at ls one first long,
        all-links-stored (before ++ chain) rest (at + length ls) us (omega arith) (first ∙ sym (append_assoc before chain (others ++ rest)))
            (let all = length-append before chain in let each = length-chain at ls in omega arith),
      )
