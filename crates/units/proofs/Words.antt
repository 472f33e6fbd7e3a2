-- What a write to a row of words does to its members.
use Rattle.std.proofs.Common.{◌≡◌, ℕ, zero, suc, ◌+◌, ◌-◌, ◌*◌, ◌/◌, ◌%◌, ◌^◌, ◌<◌, ◌≤◌, Bool, true, false, not, ◌&&◌, ◌||◌, eqb, ltb, ◌≢◌, List, [], ◌∷◌, length, get_or, set, Some, None, sym, refl, ap, ◌∙◌, subst, ap₂, inl, inr, arith, lit<, get_or-set_other, get_or-set_same}
use mathlib.Core.Bool.{xor}
use lib.Bits.{bit_and, bit_or, bit_xor}
use Rattle.std.proofs.lemmas.Bool.{both_ways, lt-ltb, le-ltb, cases_lt, ltb-true, eqb-true, ne_eqb, eq-eqb, cases_eq, cases_Bool, and_left, or_parts, or_cases}
use Rattle.std.proofs.lemmas.Nat.{pow_below}
use Rattle.units.specs.Bit.{bit, member, lacking, joined}
use Rattle.units.proofs.Bits.{bit-or, bit-and, bit-xor, bit-pow, bit_not, bit-zero, bit-add, bit_past, same-eqb, at-trailing, below-trailing}
use Rattle.units.specs.Sets.{Inhabited, Least}
use lib.Count.{count_trailing_zeros}

-- a number below 256 is read by its word and its place there
pub member-read : (ws : List ℕ) (u : ℕ) → u < 256 → member ws u ≡ bit (get_or ws (u / 64) 0) (u % 64)
unfolding member
member-read ws u h = ap (λ b. b && bit (get_or ws (u / 64) 0) (u % 64)) (lt-ltb u 256 h)

and-false : (b : Bool) → (b && false) ≡ false
and-false true = refl
and-false false = refl

zeros : (i : ℕ) → ◌≡◌ {A = ℕ} (get_or (0 ∷ 0 ∷ 0 ∷ 0 ∷ []) i 0) 0
zeros zero = refl
zeros (suc zero) = refl
zeros (suc (suc zero)) = refl
zeros (suc (suc (suc zero))) = refl
zeros (suc (suc (suc (suc i)))) = refl

pub member-none : (k : ℕ) → member (0 ∷ 0 ∷ 0 ∷ 0 ∷ []) k ≡ false
unfolding member
member-none k = ap (λ (x : ℕ). ltb k 256 && bit x (k % 64)) (zeros (k / 64)) ∙ ap (λ b. ltb k 256 && b) (bit-zero (k % 64)) ∙ and-false (ltb k 256)

pub member-blank : (k : ℕ) → member [] k ≡ false
unfolding member
member-blank k = ap (λ b. ltb k 256 && b) (bit-zero (k % 64)) ∙ and-false (ltb k 256)

member-same : (ws : List ℕ) (i v k : ℕ) → i < length ws → k / 64 ≡ i → member (set ws i v) k ≡ (ltb k 256 && bit v (k % 64))
unfolding member
member-same ws i v k h e =
    ap (λ (x : ℕ). ltb k 256 && bit (get_or (set ws i v) x 0) (k % 64)) e ∙ ap (λ (x : ℕ). ltb k 256 && bit x (k % 64)) (get_or-set_same ws i v 0 h)

member-other : (ws : List ℕ) (i v k : ℕ) → k / 64 ≢ i → member (set ws i v) k ≡ member ws k
unfolding member
member-other ws i v k n = ap (λ (x : ℕ). ltb k 256 && bit x (k % 64)) (get_or-set_other ws i (k / 64) v 0 n)

-- places of one word are told apart by their remainders
same_place : (k u : ℕ) → k / 64 ≡ u / 64 → eqb (k % 64) (u % 64) ≡ eqb k u
same_place k u h = same-eqb (k % 64) (u % 64) k u (λ e. omega arith) (λ e. ap (λ (x : ℕ). x % 64) e)

swap_or : (t x e : Bool) → (e ≡ true → t ≡ true) → (t && (x || e)) ≡ (e || (t && x))
swap_or true true true h = refl
swap_or true true false h = refl
swap_or true false true h = refl
swap_or true false false h = refl
swap_or false x true h = h refl
swap_or false x false h = refl

swap-not : (t x e : Bool) → (t && (x && not e)) ≡ (not e && (t && x))
swap-not true true true = refl
swap-not true true false = refl
swap-not true false true = refl
swap-not true false false = refl
swap-not false x true = refl
swap-not false x false = refl

below-256 : (k u : ℕ) → u < 256 → eqb k u ≡ true → ltb k 256 ≡ true
below-256 k u h e = lt-ltb k 256 (subst (λ (x : ℕ). x < 256) (sym (eqb-true k u e)) h)

-- not in the word written to, so not the number
apart : (k u : ℕ) → (k / 64 ≡ u / 64 → ⊥) → eqb k u ≡ false
apart k u n = elim (cases_eq k u) [ inl e ↦ absurd (n (ap (λ (x : ℕ). x / 64) e)) | inr d ↦ ne_eqb k u d ]

pub member-insert : (ws : List ℕ) (u : ℕ) → length ws ≡ 4 → u < 256
    → (k : ℕ) → member (set ws (u / 64) (bit_or (get_or ws (u / 64) 0) (2 ^ (u % 64)))) k ≡ (eqb k u || member ws k)
unfolding member
member-insert ws u l h k = elim (cases_eq (k / 64) (u / 64)) [
  | inl e ↦
      member-same ws (u / 64) _ k (omega arith) e
      ∙ ap (λ b. ltb k 256 && b) (bit-or (get_or ws (u / 64) 0) (2 ^ (u % 64)) (k % 64))
      ∙ ap (λ b. ltb k 256 && (bit (get_or ws (u / 64) 0) (k % 64) || b)) (bit-pow (u % 64) (k % 64) ∙ same_place k u e)
      ∙ swap_or (ltb k 256) (bit (get_or ws (u / 64) 0) (k % 64)) (eqb k u) (below-256 k u h)
      ∙ ap (λ (x : ℕ). eqb k u || (ltb k 256 && bit (get_or ws x 0) (k % 64))) (sym e)
  | inr n ↦ member-other ws (u / 64) _ k n ∙ ap (λ b. b || member ws k) (sym (apart k u n))
]

pub member-remove : (ws : List ℕ) (u : ℕ) → length ws ≡ 4 → u < 256
    → (k : ℕ) → member (set ws (u / 64) (lacking (get_or ws (u / 64) 0) (2 ^ (u % 64)))) k ≡ (not (eqb k u) && member ws k)
unfolding member
member-remove ws u l h k = elim (cases_eq (k / 64) (u / 64)) [
  | inl e ↦
      member-same ws (u / 64) _ k (omega arith) e
      ∙ ap (λ b. ltb k 256 && b) (bit-and (get_or ws (u / 64) 0) (18446744073709551615 - 2 ^ (u % 64)) (k % 64))
      ∙ ap (λ b. ltb k 256 && (bit (get_or ws (u / 64) 0) (k % 64) && b)) (not-mask ∙ ap not (same_place k u e))
      ∙ swap-not (ltb k 256) (bit (get_or ws (u / 64) 0) (k % 64)) (eqb k u)
      ∙ ap (λ (x : ℕ). not (eqb k u) && (ltb k 256 && bit (get_or ws x 0) (k % 64))) (sym e)
  | inr n ↦ member-other ws (u / 64) _ k n ∙ ap (λ b. not b && member ws k) (sym (apart k u n))
]
  where
    not-mask : bit (18446744073709551615 - 2 ^ (u % 64)) (k % 64) ≡ not (eqb (k % 64) (u % 64))
    not-mask =
        bit_not 64 (2 ^ (u % 64)) (k % 64) (pow_below (u % 64) 64 (omega arith)) (omega arith)
        ∙ ap not (bit-pow (u % 64) (k % 64))

-- ---- word by word

-- ... and is made from two rows word by word, by what makes one digit from two
module _ (op : ℕ → ℕ → ℕ) (g : Bool → Bool → Bool) (off : g false false ≡ false) where
  spread : (t x y : Bool) → (t && g x y) ≡ g (t && x) (t && y)
  spread true x y = refl
  spread false x y = sym off

  words-made : (xs ys ws : List ℕ) → ((i : ℕ) → i < 4 → get_or ws i 0 ≡ op (get_or xs i 0) (get_or ys i 0))
      → ((i j : ℕ) → i < 4 → j < 64 → bit (op (get_or xs i 0) (get_or ys i 0)) j ≡ g (bit (get_or xs i 0) j) (bit (get_or ys i 0) j))
      → (k : ℕ) → member ws k ≡ g (member xs k) (member ys k)
  unfolding member
  words-made xs ys ws made each k = elim (cases_Bool (ltb k 256)) [
    | inl t ↦
        let h = ltb-true k 256 t in
        ap (λ b. b && bit (get_or ws (k / 64) 0) (k % 64)) t
        ∙ ap (λ (x : ℕ). bit x (k % 64)) (made (k / 64) (omega arith)) ∙ each (k / 64) (k % 64) (omega arith) (omega arith)
        ∙ sym (ap (λ b. g (b && bit (get_or xs (k / 64) 0) (k % 64)) (b && bit (get_or ys (k / 64) 0) (k % 64))) t)
    | inr t ↦
        ap (λ b. b && bit (get_or ws (k / 64) 0) (k % 64)) t ∙ sym off
        ∙ sym (ap (λ b. g (b && bit (get_or xs (k / 64) 0) (k % 64)) (b && bit (get_or ys (k / 64) 0) (k % 64))) t)
  ]

-- each word of ws is what op makes of the words of xs and ys at its place
abbrev Made : (ℕ → ℕ → ℕ) → List ℕ → List ℕ → List ℕ → Type 0
Made op xs ys ws = (i : ℕ) → i < 4 → get_or ws i 0 ≡ op (get_or xs i 0) (get_or ys i 0)

pub union_words : (xs ys ws : List ℕ) → Made bit_or xs ys ws → (k : ℕ) → member ws k ≡ (member xs k || member ys k)
union_words xs ys ws made = words-made bit_or ◌||◌ refl xs ys ws made (λ i j hi hj. bit-or (get_or xs i 0) (get_or ys i 0) j)

pub intersection_words : (xs ys ws : List ℕ) → Made bit_and xs ys ws → (k : ℕ) → member ws k ≡ (member xs k && member ys k)
intersection_words xs ys ws made = words-made bit_and ◌&&◌ refl xs ys ws made (λ i j hi hj. bit-and (get_or xs i 0) (get_or ys i 0) j)

pub difference_words : (xs ys ws : List ℕ) → Made bit_xor xs ys ws → (k : ℕ) → member ws k ≡ xor (member xs k) (member ys k)
unfolding xor
difference_words xs ys ws made = words-made bit_xor xor refl xs ys ws made (λ i j hi hj. bit-xor (get_or xs i 0) (get_or ys i 0) j)

pub each-four : (P : ℕ → Type 0) → P 0 → P 1 → P 2 → P 3 → (i : ℕ) → i < 4 → P i
each-four P p0 p1 p2 p3 zero h = p0
each-four P p0 p1 p2 p3 (suc zero) h = p1
each-four P p0 p1 p2 p3 (suc (suc zero)) h = p2
each-four P p0 p1 p2 p3 (suc (suc (suc zero))) h = p3
each-four P p0 p1 p2 p3 (suc (suc (suc (suc i)))) h = absurd (omega arith)

pub minus_words : (xs ys ws : List ℕ) → Made lacking xs ys ws → ((i : ℕ) → i < 4 → get_or ys i 0 < 2 ^ 64)
    → (k : ℕ) → member ws k ≡ (member xs k && not (member ys k))
minus_words xs ys ws made fits =
    words-made lacking (λ a b. a && not b) refl xs ys ws made
    (λ i j hi hj. bit-and (get_or xs i 0) _ j ∙ ap (λ b. bit (get_or xs i 0) j && b) (bit_not 64 (get_or ys i 0) j (fits i hi) hj))

-- ---- the least set digit from a place on, by `word >> from`

pub first-none : (n from : ℕ) → n / 2 ^ from ≡ 0 → Least (bit n) from None
first-none n from e k h =
    let at : from + (k - from) ≡ k = omega arith in
    sym (bit-add n from (k - from) ∙ ap (bit n) at) ∙ ap (λ (x : ℕ). bit x (k - from)) e ∙ bit-zero (k - from)

pub first_some : (n from : ℕ) → 0 < n / 2 ^ from → n / 2 ^ from < 2 ^ 64 → Least (bit n) from (Some (from + count_trailing_zeros 64 (n / 2 ^ from)))
first_some n from p h =
    let t = at-trailing 64 (n / 2 ^ from) p h in (
      omega arith,
      sym (bit-add n from (count_trailing_zeros 64 (n / 2 ^ from))) ∙ t.1,
      λ k lo hi.
          let at : from + (k - from) ≡ k = omega arith in
          let in_rest : k - from < count_trailing_zeros 64 (n / 2 ^ from) = omega arith in
          sym (bit-add n from (k - from) ∙ ap (bit n) at) ∙ below-trailing 64 (n / 2 ^ from) (k - from) in_rest,
    )

pub member-past : (ws : List ℕ) (k : ℕ) → 256 ≤ k → member ws k ≡ false
unfolding member
member-past ws k h = and_left (ltb k 256) _ (le-ltb k 256 h)

pub member-small : (ws : List ℕ) (k : ℕ) → member ws k ≡ true → k < 256
member-small ws k e = elim (cases_lt k 256) [ inl b ↦ b | inr p ↦ absurd (both_ways (member ws k) (member-past ws k p) e) ]

-- Nothing from `low` on stands before the place f of the word i.
abbrev pub Clear : List ℕ → ℕ → ℕ → Type 0
Clear ws low end = (k : ℕ) → low ≤ k → k < end → member ws k ≡ false

pub word_none : (ws : List ℕ) (low i f : ℕ) → i < 4 → Clear ws low (i * 64 + f) → Least (bit (get_or ws i 0)) f None → Clear ws low ((i + 1) * 64)
word_none ws low i f hi clear none k lo h = elim (cases_lt k (i * 64 + f)) [
  | inl b ↦ clear k lo b
  | inr b ↦
      let q : k / 64 ≡ i = omega arith in
      member-read ws k (omega arith) ∙ ap (λ (x : ℕ). bit (get_or ws x 0) (k % 64)) q ∙ none (k % 64) (omega arith)
]

pub word_some : (ws : List ℕ) (low i f b : ℕ) → i < 4 → b < 64 → low ≤ i * 64 + f → Clear ws low (i * 64 + f) → Least (bit (get_or ws i 0)) f (Some b)
    → Least (member ws) low (Some (i * 64 + b))
word_some ws low i f b hi hb le clear some =
    let q : (i * 64 + b) / 64 ≡ i = omega arith in
    let r : (i * 64 + b) % 64 ≡ b = omega arith in
    let from-f = some.0 in (
      omega arith,
      member-read ws (i * 64 + b) (omega arith) ∙ ap₂ (λ (x y : ℕ). bit (get_or ws x 0) y) q r ∙ some.1,
      λ k lo h. elim (cases_lt k (i * 64 + f)) [
        | inl before ↦ clear k lo before
        | inr here ↦
            let qk : k / 64 ≡ i = omega arith in
            member-read ws k (omega arith) ∙ ap (λ (x : ℕ). bit (get_or ws x 0) (k % 64)) qk ∙ some.2 (k % 64) (omega arith) (omega arith)
      ],
    )

-- a set digit stands below the width
pub set_below : (n w k : ℕ) → n < 2 ^ w → bit n k ≡ true → k < w
set_below n w k h e = elim (cases_lt k w) [ inl b ↦ b | inr p ↦ absurd (both_ways (bit n k) (bit_past n w k h p) e) ]

-- ---- whether a row has a member

module _ (xs : List ℕ) where
  abbrev all : ℕ
  all = joined xs

  bit-all : (j : ℕ) → bit all j ≡ (((bit (get_or xs 0 0) j || bit (get_or xs 1 0) j) || bit (get_or xs 2 0) j) || bit (get_or xs 3 0) j)
  bit-all j =
      bit-or (bit_or (bit_or (get_or xs 0 0) (get_or xs 1 0)) (get_or xs 2 0)) (get_or xs 3 0) j
      ∙ ap (λ b. b || bit (get_or xs 3 0) j) (bit-or (bit_or (get_or xs 0 0) (get_or xs 1 0)) (get_or xs 2 0) j ∙ ap (λ b. b || bit (get_or xs 2 0) j) (bit-or (get_or xs 0 0) (get_or xs 1 0) j))

  none_in : ((i j : ℕ) → i < 4 → bit (get_or xs i 0) j ≡ false) → Inhabited false (member xs)
  none_in no_digit k = elim (cases_lt k 256) [ inl h ↦ member-read xs k h ∙ no_digit (k / 64) (k % 64) (omega arith) | inr p ↦ member-past xs k p ]

  one_in : (i j : ℕ) → i < 4 → j < 64 → bit (get_or xs i 0) j ≡ true → Inhabited true (member xs)
  one_in i j hi hj e =
      let q : (i * 64 + j) / 64 ≡ i = omega arith in
      let r : (i * 64 + j) % 64 ≡ j = omega arith in
      (i * 64 + j, member-read xs (i * 64 + j) (omega arith) ∙ ap₂ (λ (a b : ℕ). bit (get_or xs a 0) b) q r ∙ e)

  pub inhabited : all < 2 ^ 64 → Inhabited (not (eqb all 0)) (member xs)
  inhabited small = elim (cases_eq all 0) [
    | inl e ↦
        let no-bit : (j : ℕ) → (((bit (get_or xs 0 0) j || bit (get_or xs 1 0) j) || bit (get_or xs 2 0) j) || bit (get_or xs 3 0) j) ≡ false = λ j. sym (bit-all j) ∙ ap (λ (x : ℕ). bit x j) e ∙ bit-zero j in
        subst (λ b. Inhabited (not b) (member xs)) (sym (eq-eqb all 0 e)) (none_in (λ i j h.
        let p3 = or_parts _ _ (no-bit j) in
        let p2 = or_parts _ _ p3.0 in
        let p1 = or_parts _ _ p2.0 in
        each-four (λ i. bit (get_or xs i 0) j ≡ false) p1.0 p1.1 p2.1 p3.1 i h))
    | inr n ↦
        let t = at-trailing 64 all (omega (arith, n)) small in
        let j = count_trailing_zeros 64 all in
        subst (λ b. Inhabited (not b) (member xs)) (sym (ne_eqb all 0 n)) (
        elim (or_cases _ _ (sym (bit-all j) ∙ t.1)) [
          | inr e3 ↦ one_in 3 j (lit< tt) t.0 e3
          | inl a3 ↦ elim (or_cases _ _ a3) [
            | inr e2 ↦ one_in 2 j (lit< tt) t.0 e2
            | inl a2 ↦ elim (or_cases _ _ a2) [ inr e1 ↦ one_in 1 j (lit< tt) t.0 e1 | inl e0 ↦ one_in 0 j (lit< tt) t.0 e0 ]
          ]
        ])
  ]
