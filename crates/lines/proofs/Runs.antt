-- The longest start of a text that is a field: one byte more of it.
use Rattle.std.proofs.Common.{◌≡◌, ℕ, zero, suc, ◌+◌, ◌<◌, Bool, true, false, cond, ◌&&◌, leb, List, [], ◌∷◌, ◌++◌, length, get_or, take, drop, Some, None, sym, refl, ap, ◌∙◌, arith}
use Rattle.std.specs.List.{prefix_len, take_while}
use Rattle.std.proofs.lemmas.List.{at_drop_more, take_more}
use Rattle.std.proofs.lemmas.List.Folds.{length-prefix_len}
use Rattle.grammar.specs.Grammar.{name_byte}
use Rattle.grammar.specs.Reading.{name_run, digit_run, value_after, digit, followed}

-- the bytes of a name, of the first so many
prefix-is : (most : ℕ) (xs : List ℕ) → prefix_len name_byte (take most xs) ≡ name_run most xs
prefix-is zero [] = refl
prefix-is zero (x ∷ xs) = refl
prefix-is (suc most) [] = refl
prefix-is (suc most) (x ∷ xs) =
    let more : 1 + prefix_len name_byte (take most xs) ≡ suc (name_run most xs) = omega (arith, prefix-is most xs) in
    ap (λ (n : ℕ). cond (name_byte x) n 0) more

pub name-run : (most : ℕ) (text : List ℕ) → length (take_while name_byte (take most text)) ≡ name_run most text
name-run most text = length-prefix_len name_byte (take most text) ∙ prefix-is most text

-- the digit at the place can follow the number v, or not
abbrev Follows : List ℕ → ℕ → ℕ → Bool
Follows xs v n = digit (get_or xs n 0) && leb (followed v (get_or xs n 0)) 255

digit-more : (xs : List ℕ) (v n : ℕ) → n < length xs → (b : Bool) → Follows xs v n ≡ b → digit_run v (drop n xs) ≡ cond b (suc (digit_run (followed v (get_or xs n 0)) (drop (n + 1) xs))) 0
digit-more xs v n h b e = at_drop_more (digit_run v) xs n 0 h ∙ ap (λ (t : Bool). cond t (suc (digit_run (followed v (get_or xs n 0)) (drop (n + 1) xs))) 0) e

pub digit-goes : (xs : List ℕ) (v n w : ℕ) → n < length xs → n + digit_run v (drop n xs) ≡ digit_run 0 xs → Follows xs v n ≡ true → w ≡ followed v (get_or xs n 0) →
    n + 1 + digit_run w (drop (n + 1) xs) ≡ digit_run 0 xs
digit-goes xs v n w h inv on is =
    let step = digit-more xs v n h true on in
    let same : digit_run w (drop (n + 1) xs) ≡ digit_run (followed v (get_or xs n 0)) (drop (n + 1) xs) = ap (λ (u : ℕ). digit_run u (drop (n + 1) xs)) is in
    omega (arith, step, same)

value-push : (v : ℕ) (xs : List ℕ) (y : ℕ) → value_after v (xs ++ y ∷ []) ≡ followed (value_after v xs) y
value-push v [] y = refl
value-push v (x ∷ xs) y = value-push (followed v x) xs y

pub value-goes : (xs : List ℕ) (v n w : ℕ) → n < length xs → v ≡ value_after 0 (take n xs) → w ≡ followed v (get_or xs n 0) → w ≡ value_after 0 (take (n + 1) xs)
value-goes xs v n w h inv is =
    is ∙ ap (λ (u : ℕ). followed u (get_or xs n 0)) inv ∙ sym (ap (value_after 0) (take_more xs n 0 h) ∙ value-push 0 (take n xs) (get_or xs n 0))

-- what `followed` of the code answers
pub is-followed : (b : Bool) (n m : ℕ) → Some m ≡ cond b (Some n) None → (b ≡ true) × (m ≡ n)
is-followed true n m e = (refl, cc)
is-followed false n m e = absurd (cc)
