-- The digits of `|`, `&`, `^`, `!` and `1 << k`, and the place that `trailing_zeros` finds.
use Rattle.std.proofs.Common.{◌≡◌, ℕ, zero, suc, ◌+◌, ◌-◌, ◌*◌, ◌/◌, ◌%◌, ◌^◌, ◌<◌, ◌≤◌, true, false, not, ◌&&◌, ◌||◌, eqb, sym, refl, ap, ◌∙◌, inl, inr, mod-lt, zero-lt-suc, pow-suc, div-one, mul-div_cancel, arith}
use mathlib.Core.Bool.{xor}
use native.Mathlib.Nat.{zero-div, mul-mod_left}
use lib.Count.{count_trailing_zeros, under}
use Rattle.std.proofs.lemmas.Nat.{shr-shr, div_below, pow_pos}
use Rattle.std.proofs.lemmas.Bool.{eq-eqb, ne_eqb, cases_eq}
use lib.Bits.{bit_and, bit_or, bit_xor, or_shr, and_shr, xor_shr, or_mod, and_mod, xor_mod}
use Rattle.units.specs.Bit.{bit}

-- what holds of each two digits
digits : (P : ℕ → ℕ → Type 0) → P 0 0 → P 0 1 → P 1 0 → P 1 1 → (x y : ℕ) → x < 2 → y < 2 → P x y
digits P a b c d zero zero hx hy = a
digits P a b c d zero (suc zero) hx hy = b
digits P a b c d zero (suc (suc y)) hx hy = absurd (omega arith)
digits P a b c d (suc zero) zero hx hy = c
digits P a b c d (suc zero) (suc zero) hx hy = d
digits P a b c d (suc zero) (suc (suc y)) hx hy = absurd (omega arith)
digits P a b c d (suc (suc x)) y hx hy = absurd (omega arith)

digit_or : (x y : ℕ) → x < 2 → y < 2 → eqb (bit_or x y) 1 ≡ (eqb x 1 || eqb y 1)
digit_or = digits (λ x y. eqb (bit_or x y) 1 ≡ (eqb x 1 || eqb y 1)) refl refl refl refl

digit_and : (x y : ℕ) → x < 2 → y < 2 → eqb (bit_and x y) 1 ≡ (eqb x 1 && eqb y 1)
digit_and = digits (λ x y. eqb (bit_and x y) 1 ≡ (eqb x 1 && eqb y 1)) refl refl refl refl

digit-xor : (x y : ℕ) → x < 2 → y < 2 → eqb (bit_xor x y) 1 ≡ xor (eqb x 1) (eqb y 1)
unfolding xor
digit-xor = digits (λ x y. eqb (bit_xor x y) 1 ≡ xor (eqb x 1) (eqb y 1)) refl refl refl refl

pub same-eqb : (a b c d : ℕ) → (a ≡ b → c ≡ d) → (c ≡ d → a ≡ b) → eqb a b ≡ eqb c d
same-eqb a b c d to from = elim (cases_eq a b) [ inl e ↦ eq-eqb a b e ∙ sym (eq-eqb c d (to e)) | inr n ↦ ne_eqb a b n ∙ sym (ne_eqb c d (λ e. n (from e))) ]

two_pos : zero < 2
two_pos = zero-lt-suc 1

pub bit-or : (a b k : ℕ) → bit (bit_or a b) k ≡ (bit a k || bit b k)
unfolding bit
bit-or a b k =
    ap (λ (x : ℕ). eqb (x % 2) 1) (or_shr a b k) ∙ ap (λ (x : ℕ). eqb x 1) (or_mod (a / 2 ^ k) (b / 2 ^ k) 1)
    ∙ digit_or (a / 2 ^ k % 2) (b / 2 ^ k % 2) (mod-lt (a / 2 ^ k) two_pos) (mod-lt (b / 2 ^ k) two_pos)

pub bit-and : (a b k : ℕ) → bit (bit_and a b) k ≡ (bit a k && bit b k)
unfolding bit
bit-and a b k =
    ap (λ (x : ℕ). eqb (x % 2) 1) (and_shr a b k) ∙ ap (λ (x : ℕ). eqb x 1) (and_mod (a / 2 ^ k) (b / 2 ^ k) 1)
    ∙ digit_and (a / 2 ^ k % 2) (b / 2 ^ k % 2) (mod-lt (a / 2 ^ k) two_pos) (mod-lt (b / 2 ^ k) two_pos)

pub bit-xor : (a b k : ℕ) → bit (bit_xor a b) k ≡ xor (bit a k) (bit b k)
unfolding bit
bit-xor a b k =
    ap (λ (x : ℕ). eqb (x % 2) 1) (xor_shr a b k) ∙ ap (λ (x : ℕ). eqb x 1) (xor_mod (a / 2 ^ k) (b / 2 ^ k) 1)
    ∙ digit-xor (a / 2 ^ k % 2) (b / 2 ^ k % 2) (mod-lt (a / 2 ^ k) two_pos) (mod-lt (b / 2 ^ k) two_pos)

-- one place up is one place up in the half
pub bit-suc : (n k : ℕ) → bit n (suc k) ≡ bit (n / 2) k
unfolding bit
bit-suc n k = ap (λ (x : ℕ). eqb (n / 2 ^ x % 2) 1) (omega arith) ∙ ap (λ (x : ℕ). eqb (x % 2) 1) (sym (shr-shr n 1 k))

pub bit-add : (n j k : ℕ) → bit (n / 2 ^ j) k ≡ bit n (j + k)
unfolding bit
bit-add n j k = ap (λ (x : ℕ). eqb (x % 2) 1) (shr-shr n j k)

pub bit-zero : (k : ℕ) → bit zero k ≡ false
unfolding bit
bit-zero k = ap (λ (x : ℕ). eqb (x % 2) 1) (zero-div (2 ^ k))

pub bit-low : (n : ℕ) → bit n zero ≡ eqb (n % 2) 1
unfolding bit
bit-low n = ap (λ (x : ℕ). eqb (x % 2) 1) (div-one n)

-- `1 << j`
pub bit-pow : (j k : ℕ) → bit (2 ^ j) k ≡ eqb k j
bit-pow zero zero = bit-low 1
bit-pow zero (suc k) = bit-suc 1 k ∙ bit-zero k ∙ sym (ne_eqb (suc k) 0 (λ e. omega arith))
bit-pow (suc j) zero = bit-low (2 ^ suc j) ∙ ap (λ (x : ℕ). eqb (x % 2) 1) (pow-suc 2 j) ∙ ap (λ (x : ℕ). eqb x 1) (mul-mod_left (2 ^ j) 2) ∙ sym (ne_eqb 0 (suc j) (λ e. omega arith))
bit-pow (suc j) (suc k) =
    bit-suc (2 ^ suc j) k ∙ ap (λ (x : ℕ). bit (x / 2) k) (pow-suc 2 j) ∙ ap (λ (x : ℕ). bit x k) (mul-div_cancel (2 ^ j) two_pos) ∙ bit-pow j k
    ∙ same-eqb k j (suc k) (suc j) (λ e. omega arith) (λ e. omega arith)

flip-digit : (x y : ℕ) → x + y ≡ 1 → eqb x 1 ≡ not (eqb y 1)
flip-digit zero y h = let e : 1 ≡ y = omega arith in ap (λ (z : ℕ). not (eqb z 1)) e
flip-digit (suc zero) zero h = refl
flip-digit (suc zero) (suc y) h = absurd (omega arith)
flip-digit (suc (suc x)) y h = absurd (omega arith)

-- `!a` at w digits
pub bit_not : (w a k : ℕ) → a < 2 ^ w → k < w → bit (2 ^ w - 1 - a) k ≡ not (bit a k)
bit_not zero a k ha hk = absurd (omega arith)
bit_not (suc w) a zero ha hk =
    let h : a < 2 ^ w * 2 = rw (pow-suc 2 w) at ha in
    bit-low (2 ^ suc w - 1 - a) ∙ ap (λ (x : ℕ). eqb ((x - 1 - a) % 2) 1) (pow-suc 2 w)
    ∙ flip-digit ((2 ^ w * 2 - 1 - a) % 2) (a % 2) (omega arith) ∙ ap not (sym (bit-low a))
bit_not (suc w) a (suc k) ha hk =
    let h : a < 2 ^ w * 2 = rw (pow-suc 2 w) at ha in
    let half : (2 ^ w * 2 - 1 - a) / 2 ≡ 2 ^ w - 1 - a / 2 = omega arith in
    bit-suc (2 ^ suc w - 1 - a) k ∙ ap (λ (x : ℕ). bit ((x - 1 - a) / 2) k) (pow-suc 2 w) ∙ ap (λ (x : ℕ). bit x k) half
    ∙ bit_not w (a / 2) k (omega arith) (omega arith) ∙ ap not (sym (bit-suc a k))

-- no digit past the width
pub bit_past : (n w k : ℕ) → n < 2 ^ w → w ≤ k → bit n k ≡ false
bit_past n w k h l =
    let at : w + (k - w) ≡ k = omega arith in
    let under_one = div_below n (2 ^ w) 1 (pow_pos w) (omega arith) in
    let none : n / 2 ^ w ≡ 0 = omega arith in
    ap (bit n) (sym at) ∙ sym (bit-add n w (k - w)) ∙ ap (λ (x : ℕ). bit x (k - w)) none ∙ bit-zero (k - w)

-- ---- `trailing_zeros` is the place of the lowest set digit

pub below-trailing : (w n k : ℕ) → k < count_trailing_zeros w n → bit n k ≡ false
unfolding count_trailing_zeros
below-trailing zero n k h = absurd (omega arith)
below-trailing (suc w) n k h = go (below-trailing w (n / 2)) (n % 2) refl k h
  where
    go : ((k : ℕ) → k < count_trailing_zeros w (n / 2) → bit (n / 2) k ≡ false) → (d : ℕ) → n % 2 ≡ d → (k : ℕ) → k < under d (count_trailing_zeros w (n / 2)) → bit n k ≡ false
    go ih zero e zero h = bit-low n ∙ ap (λ (x : ℕ). eqb x 1) e
    go ih zero e (suc k) h = bit-suc n k ∙ ih k (omega arith)
    go ih (suc d) e k h = absurd (omega arith)

pub at-trailing : (w n : ℕ) → zero < n → n < 2 ^ w → (count_trailing_zeros w n < w) × (bit n (count_trailing_zeros w n) ≡ true)
unfolding count_trailing_zeros
at-trailing zero n p h = absurd (omega arith)
at-trailing (suc w) n p h = go (at-trailing w (n / 2)) (n % 2) refl (rw (pow-suc 2 w) at h)
  where
    go : (zero < n / 2 → n / 2 < 2 ^ w → (count_trailing_zeros w (n / 2) < w) × (bit (n / 2) (count_trailing_zeros w (n / 2)) ≡ true))
        → (d : ℕ) → n % 2 ≡ d → n < 2 ^ w * 2 → (under d (count_trailing_zeros w (n / 2)) < suc w) × (bit n (under d (count_trailing_zeros w (n / 2))) ≡ true)
    go ih zero e l =
        let t = ih (omega arith) (omega arith) in
        (omega arith, bit-suc n (count_trailing_zeros w (n / 2)) ∙ t.1)
    go ih (suc zero) e l = (omega arith, bit-low n ∙ ap (λ (x : ℕ). eqb x 1) e)
    go ih (suc (suc d)) e l = absurd (omega arith)
