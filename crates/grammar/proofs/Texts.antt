-- Names and numbers are such fields: no start of one that goes on is longer than the run.
use Rattle.std.proofs.Common.{◌≡◌, ℕ, zero, suc, ◌^◌, ◌<◌, ◌≤◌, Bool, true, false, cond, ◌&&◌, T, eqb, leb, ◌⊎◌, List, [], ◌∷◌, ◌++◌, length, get_or, take, decimal, sym, refl, ap, ◌∙◌, subst, inl, inr, arith, rules}
use Rattle.std.proofs.lemmas.List.{length-append, length-take-le}
use Rattle.std.proofs.lemmas.Bool.{and_parts, and_from, leb-true, le-leb, eqb-true, eqb-false, both_ways, false≢true}
use Rattle.std.proofs.lemmas.Str.Parse.{IsNumeralModel, numerals_by_fold}
use Rattle.std.proofs.lemmas.Fmt.{decimal_digit, decimal_nonempty, first_decimal, digits_decimal, digits_value-decimal, decimal_injective, decimal-digits_value}
use Rattle.grammar.specs.Grammar.{IsName, name_byte, every}
use Rattle.grammar.specs.Reading.{name_run, number_run, digit_run, value_after, digit, followed}
use Rattle.grammar.proofs.Fields.{Kind, head-same, tail-same, no-cons}

-- what every byte passes, the byte at a place does
every-at : (test : ℕ → Bool) (f : List ℕ) (b : ℕ) (g : List ℕ) → every test (f ++ b ∷ g) ≡ true → test b ≡ true
every-at test [] b g e = (and_parts (test b) (every test g) e).0
every-at test (x ∷ f) b g e = every-at test f b g (and_parts (test x) (every test (f ++ b ∷ g)) e).1

passed : (b : Bool) → T b → b ≡ true
passed true t = refl
passed false t = absurd t

passes : (b : Bool) → b ≡ true → T b
passes true e = tt
passes false e = absurd (false≢true e)

name-within : (most : ℕ) (xs : List ℕ) → (name_run most xs ≤ length xs) × (name_run most xs ≤ most) × (every name_byte (take (name_run most xs) xs) ≡ true)
name-within zero xs = (omega arith, omega arith, refl)
name-within (suc most) [] = (omega arith, omega arith, refl)
name-within (suc most) (x ∷ xs) = go (name_byte x) refl (name-within most xs)
  where
    go : (b : Bool) → name_byte x ≡ b → (name_run most xs ≤ length xs) × (name_run most xs ≤ most) × (every name_byte (take (name_run most xs) xs) ≡ true) →
        (cond b (suc (name_run most xs)) 0 ≤ suc (length xs)) × (cond b (suc (name_run most xs)) 0 ≤ suc most) × (every name_byte (take (cond b (suc (name_run most xs)) 0) (x ∷ xs)) ≡ true)
    go true e r = (omega (arith, r.0), omega (arith, r.1), and_from (name_byte x) (every name_byte (take (name_run most xs) xs)) e r.2)
    go false e r = (omega arith, omega arith, refl)

-- the run is as long as asked for, or the byte after it is no name's
name-last : (most : ℕ) (xs : List ℕ) (b : ℕ) (rest : List ℕ) → xs ≡ take (name_run most xs) xs ++ b ∷ rest → (name_run most xs ≡ most) ⊎ (name_byte b ≡ false)
name-last zero xs b rest e = inl refl
name-last (suc most) [] b rest e = absurd (no-cons b rest e)
name-last (suc most) (x ∷ xs) b rest e = go (name_byte x) refl (name-last most xs b rest) e
  where
    go : (t : Bool) → name_byte x ≡ t → (xs ≡ take (name_run most xs) xs ++ b ∷ rest → (name_run most xs ≡ most) ⊎ (name_byte b ≡ false)) → x ∷ xs ≡ take (cond t (suc (name_run most xs)) 0) (x ∷ xs) ++ b ∷ rest → (cond t (suc (name_run most xs)) 0 ≡ suc most) ⊎ (name_byte b ≡ false)
    go true is next h = one_more (next (tail-same x x xs (take (name_run most xs) xs ++ b ∷ rest) h))
      where
        one_more : (name_run most xs ≡ most) ⊎ (name_byte b ≡ false) → (suc (name_run most xs) ≡ suc most) ⊎ (name_byte b ≡ false)
        one_more (inl m) = inl (ap suc m)
        one_more (inr f) = inr f
    go false is next h = inr (ap name_byte (sym (head-same x b xs rest h)) ∙ is)

pub name-kind : Kind (λ (name : List ℕ). name) IsName (name_run 16) (λ (name : List ℕ). name)
name-kind = record {
  within = λ xs. (name-within 16 xs).0;
  law = λ xs some. record {
    some = let l = length-take-le (name_run 16 xs) xs (name-within 16 xs).0 in omega arith;
    short = let l = length-take-le (name_run 16 xs) xs (name-within 16 xs).0 in omega (arith, (name-within 16 xs).1);
    bytes = passes (every name_byte (take (name_run 16 xs) xs)) (name-within 16 xs).2;
  };
  made = λ xs some. refl;
  longest = longest;
  solid = λ a law f g e. false≢true (every-at name_byte f 32 g (ap (every name_byte) (sym e) ∙ passed (every name_byte a) law.bytes));
  some = λ a law e. let l = law.some in let z = ap length e in omega arith;
  alike = λ a b la lb e. e;
  one = 48 ∷ [];
  one-law = record { some = omega arith; short = omega arith; bytes = tt };
}
  where
    longest : (xs : List ℕ) (b : ℕ) (rest : List ℕ) → xs ≡ take (name_run 16 xs) xs ++ b ∷ rest → (a more : List ℕ) → IsName a → a ≡ take (name_run 16 xs) xs ++ b ∷ more → ⊥
    longest xs b rest e a more law t = go (name-last 16 xs b rest e)
      where
        go : (name_run 16 xs ≡ 16) ⊎ (name_byte b ≡ false) → ⊥
        go (inl full) =
            let l = length-take-le (name_run 16 xs) xs (name-within 16 xs).0 in
            let z = ap length t ∙ length-append (take (name_run 16 xs) xs) (b ∷ more) in
            omega (arith, law.short)
        go (inr off) = both_ways (name_byte b) off (every-at name_byte (take (name_run 16 xs) xs) b more (ap (every name_byte) (sym t) ∙ passed (every name_byte a) law.bytes))

-- digits by the fold of the definition
own : IsNumeralModel (λ ds. every digit ds ≡ true) (value_after 0)
own = numerals_by_fold _ (search rules) value_after (search rules)

-- the digits of a run, and the number that they make after n
digit-within : (n : ℕ) (xs : List ℕ) → n ≤ 255 → (digit_run n xs ≤ length xs) × (every digit (take (digit_run n xs) xs) ≡ true) × (value_after n (take (digit_run n xs) xs) ≤ 255)
digit-within n [] h = (omega arith, refl, h)
digit-within n (x ∷ xs) h = go (digit x && leb (followed n x) 255) refl (digit-within (followed n x) xs)
  where
    go : (b : Bool) → (digit x && leb (followed n x) 255) ≡ b →
        (followed n x ≤ 255 → (digit_run (followed n x) xs ≤ length xs) × (every digit (take (digit_run (followed n x) xs) xs) ≡ true) × (value_after (followed n x) (take (digit_run (followed n x) xs) xs) ≤ 255)) →
        (cond b (suc (digit_run (followed n x) xs)) 0 ≤ suc (length xs)) × (every digit (take (cond b (suc (digit_run (followed n x) xs)) 0) (x ∷ xs)) ≡ true)
        × (value_after n (take (cond b (suc (digit_run (followed n x) xs)) 0) (x ∷ xs)) ≤ 255)
    go true e next =
        let p = and_parts (digit x) (leb (followed n x) 255) e in
        let r = next (leb-true (followed n x) 255 p.1) in
        (omega (arith, r.0), and_from (digit x) (every digit (take (digit_run (followed n x) xs) xs)) p.0 r.1, r.2)
    go false e next = (omega arith, refl, h)

-- the byte after the run is no digit, or makes the number too large
digit-last : (n : ℕ) (xs : List ℕ) (b : ℕ) (rest : List ℕ) → xs ≡ take (digit_run n xs) xs ++ b ∷ rest → (digit b && leb (followed (value_after n (take (digit_run n xs) xs)) b) 255) ≡ false
digit-last n [] b rest e = absurd (no-cons b rest e)
digit-last n (x ∷ xs) b rest e = go (digit x && leb (followed n x) 255) refl (digit-last (followed n x) xs b rest) e
  where
    go : (t : Bool) → (digit x && leb (followed n x) 255) ≡ t →
        (xs ≡ take (digit_run (followed n x) xs) xs ++ b ∷ rest → (digit b && leb (followed (value_after (followed n x) (take (digit_run (followed n x) xs) xs)) b) 255) ≡ false) → x ∷ xs ≡ take (cond t (suc (digit_run (followed n x) xs)) 0) (x ∷ xs) ++ b ∷ rest →
        (digit b && leb (followed (value_after n (take (cond t (suc (digit_run (followed n x) xs)) 0) (x ∷ xs))) b) 255) ≡ false
    go true is next h = next (tail-same x x xs (take (digit_run (followed n x) xs) xs ++ b ∷ rest) h)
    go false is next h = ap (λ (c : ℕ). digit c && leb (followed n c) 255) (sym (head-same x b xs rest h)) ∙ is

-- more digits make no smaller number
value_grows : (n : ℕ) (ds : List ℕ) → n ≤ value_after n ds
value_grows n [] = omega arith
value_grows n (d ∷ ds) = let l = value_grows (followed n d) ds in omega arith

value-append : (n : ℕ) (f g : List ℕ) → value_after n (f ++ g) ≡ value_after (value_after n f) g
value-append n [] g = refl
value-append n (d ∷ f) g = value-append (followed n d) f g

-- a numeral of a number up to 255
abbrev small : (n : ℕ) → n ≤ 255 → n < 2 ^ 64
small n h = omega arith

digits_of : (n : ℕ) → n ≤ 255 → every digit (decimal n) ≡ true
digits_of n h = digits_decimal own n (small n h)

-- one more digit than the run has is too much
too_much : (n : ℕ) → n ≤ 255 → (f : List ℕ) (b : ℕ) (more : List ℕ) → decimal n ≡ f ++ b ∷ more → (digit b && leb (followed (value_after 0 f) b) 255) ≡ false → ⊥
too_much n h f b more e off =
    let d : digit b ≡ true = every-at digit f b more (ap (every digit) (sym e) ∙ digits_of n h) in
    let v : value_after 0 (f ++ b ∷ more) ≡ n = ap (value_after 0) (sym e) ∙ digits_value-decimal own n (small n h) in
    let g = value_grows (followed (value_after 0 f) b) more in
    let l : leb (followed (value_after 0 f) b) 255 ≡ true = le-leb (followed (value_after 0 f) b) 255 (omega (arith, value-append 0 f (b ∷ more))) in
    both_ways (digit b && leb (followed (value_after 0 f) b) 255) off (and_from (digit b) (leb (followed (value_after 0 f) b) 255) d l)

-- a numeral with a zero in front has nothing after it
zero-alone : (n : ℕ) → n ≤ 255 → (b : ℕ) (more : List ℕ) → decimal n ≡ 48 ∷ b ∷ more → ⊥
zero-alone zero h b more e = no-cons b more (tail-same 48 48 [] (b ∷ more) (sym (decimal_digit 0 (omega arith)) ∙ e))
zero-alone (suc n) h b more e = let l = first_decimal (suc n) (omega arith) (small (suc n) h) in let z = ap (λ (ds : List ℕ). get_or ds 0 0) e in omega arith

-- the first k bytes of a text are its longest number, or k is 0
pub record Longest (xs : List ℕ) (k : ℕ) : Type 0 where
  pub within : k ≤ length xs
  pub law : value_after 0 (take k xs) ≤ 255
  pub made : (k ≡ 0 → ⊥) → decimal (value_after 0 (take k xs)) ≡ take k xs
  pub last : (b : ℕ) (rest : List ℕ) → xs ≡ take k xs ++ b ∷ rest → (n : ℕ) (more : List ℕ) → n ≤ 255 → decimal n ≡ take k xs ++ b ∷ more → ⊥

zero-longest : (xs : List ℕ) → eqb (get_or xs 0 0) 48 ≡ true → Longest xs 1
zero-longest [] e = absurd (false≢true e)
zero-longest (x ∷ xs) e =
    let is = eqb-true x 48 e in
    subst (λ (c : ℕ). Longest (c ∷ xs) 1) (sym is) (record {
      within = omega arith;
      law = omega arith;
      made = λ z. decimal_digit 0 (omega arith);
      last = λ b rest h n more l t. zero-alone n l b more t;
    })

digit-longest : (xs : List ℕ) → eqb (get_or xs 0 0) 48 ≡ false → Longest xs (digit_run 0 xs)
digit-longest xs e =
    let w = digit-within 0 xs (omega arith) in
    let l = length-take-le (digit_run 0 xs) xs w.0 in
    record {
      within = w.0;
      law = w.2;
      made = λ some. decimal-digits_value own (take (digit_run 0 xs) xs) w.1 (omega (arith, l)) (λ z. absurd (eqb-false (get_or xs 0 0) 48 e (sym (first xs (digit_run 0 xs) some) ∙ z))) (omega (arith, w.2));
      last = λ b rest h n more le t. too_much n le (take (digit_run 0 xs) xs) b more t (digit-last 0 xs b rest h);
    }
  where
    first : (ys : List ℕ) (k : ℕ) → (k ≡ 0 → ⊥) → get_or (take k ys) 0 0 ≡ get_or ys 0 0
    first ys zero h = absurd (h refl)
    first [] (suc k) h = refl
    first (y ∷ ys) (suc k) h = refl

number-longest : (xs : List ℕ) → Longest xs (number_run xs)
number-longest xs = go (eqb (get_or xs 0 0) 48) refl
  where
    go : (b : Bool) → eqb (get_or xs 0 0) 48 ≡ b → Longest xs (cond b 1 (digit_run 0 xs))
    go true e = zero-longest xs e
    go false e = digit-longest xs e

pub number-kind : Kind decimal (λ (n : ℕ). n ≤ 255) number_run (value_after 0)
number-kind = record {
  within = λ xs. (number-longest xs).within;
  law = λ xs some. (number-longest xs).law;
  made = λ xs some. (number-longest xs).made some;
  longest = λ xs b rest e n more le t. (number-longest xs).last b rest e n more le t;
  solid = λ n le f g e. false≢true (every-at digit f 32 g (ap (every digit) (sym e) ∙ digits_of n le));
  some = λ n le e. let l = decimal_nonempty n (small n le) in let z = ap length e in omega arith;
  alike = λ m n lm ln e. decimal_injective m n (small m lm) (small n ln) e;
  one = 0;
  one-law = omega arith;
}
