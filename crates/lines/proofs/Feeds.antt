-- A text is cut at its first line feed, and so into lines: a text that is not empty is its first line and the lines after it.
use Rattle.std.proofs.Common.{◌≡◌, ℕ, suc, ◌+◌, ◌<◌, Bool, true, false, not, cond, eqb, ltb, ◌⊎◌, List, [], ◌∷◌, ◌++◌, length, take, drop, Some, None, sym, refl, ap, ◌∙◌, inl, inr, arith}
use Rattle.std.specs.List.{position, position_or_len}
use Rattle.std.proofs.lemmas.List.{append_assoc, append-nil, length_push, take_all, drop_all}
use Rattle.std.proofs.lemmas.Bool.{ne_eqb, ltb-false}
use Rattle.lines.specs.Texts.{first_line, after_line, lines_from, lines_of}

-- how many bytes stand before the first line feed
abbrev before : List ℕ → ℕ
before xs = position_or_len (λ b. eqb b 10) xs

line-before : (xs : List ℕ) → take (before xs) xs ≡ first_line xs
line-before [] = refl
line-before (x ∷ xs) = go (eqb x 10) (line-before xs)
  where
    go : (b : Bool) → take (before xs) xs ≡ first_line xs → take (cond (not b) (1 + before xs) 0) (x ∷ xs) ≡ cond b [] (x ∷ first_line xs)
    go true rest = refl
    go false rest = let s : 1 + before xs ≡ suc (before xs) = omega arith in rw s (ap (λ (l : List ℕ). x ∷ l) rest)

rest_after : (xs : List ℕ) → drop (suc (before xs)) xs ≡ after_line xs
rest_after [] = refl
rest_after (x ∷ xs) = go (eqb x 10) (rest_after xs)
  where
    go : (b : Bool) → drop (suc (before xs)) xs ≡ after_line xs → drop (cond (not b) (1 + before xs) 0) xs ≡ cond b xs (after_line xs)
    go true rest = refl
    go false rest = let s : 1 + before xs ≡ suc (before xs) = omega arith in rw s rest

pub cut-at : (xs : List ℕ) (i : ℕ) → position (λ b. eqb b 10) xs ≡ Some i → (take i xs ≡ first_line xs) × (drop (i + 1) xs ≡ after_line xs)
cut-at xs i e = go (ltb (before xs) (length xs)) e
  where
    go : (b : Bool) → cond b (Some (before xs)) None ≡ Some i → (take i xs ≡ first_line xs) × (drop (i + 1) xs ≡ after_line xs)
    go true is =
        let at : before xs ≡ i = cc in
        let more : i + 1 ≡ suc (before xs) = omega (arith, at) in
        (rw (← at) (line-before xs), rw more (rest_after xs))
    go false is = absurd (cc)

pub never_cut : (xs : List ℕ) → position (λ b. eqb b 10) xs ≡ None → (xs ≡ first_line xs) × ([] ≡ after_line xs)
never_cut xs e = go (ltb (before xs) (length xs)) refl e
  where
    go : (b : Bool) → ltb (before xs) (length xs) ≡ b → cond b (Some (before xs)) None ≡ None → (xs ≡ first_line xs) × ([] ≡ after_line xs)
    go true t is = absurd (cc)
    go false t is =
        let far = ltb-false (before xs) (length xs) t in
        (sym (take_all (before xs) xs far) ∙ line-before xs, sym (drop_all (suc (before xs)) xs (omega arith)) ∙ rest_after xs)

cut-from : (line bytes : List ℕ) → (0 < length line) ⊎ (0 < length bytes) → lines_from line bytes ≡ (line ++ first_line bytes) ∷ lines_of (after_line bytes)
unfolding lines_from
cut-from line [] (inl h) = ap (λ (b : Bool). cond b [] (line ∷ [])) (ne_eqb (length line) 0 (omega arith)) ∙ ap (λ (l : List ℕ). l ∷ []) (sym (append-nil line))
cut-from line [] (inr h) = absurd (omega arith)
cut-from line (b ∷ bytes) h = go (eqb b 10) (cut-from (line ++ b ∷ []) bytes (inl (let e = length_push line b in omega arith)))
  where
    go : (t : Bool) → lines_from (line ++ b ∷ []) bytes ≡ ((line ++ b ∷ []) ++ first_line bytes) ∷ lines_of (after_line bytes) →
        cond t (line ∷ lines_from [] bytes) (lines_from (line ++ b ∷ []) bytes) ≡ (line ++ cond t [] (b ∷ first_line bytes)) ∷ lines_of (cond t bytes (after_line bytes))
    go true rest = ap (λ (l : List ℕ). l ∷ lines_of bytes) (sym (append-nil line))
    go false rest = rest ∙ ap (λ (l : List ℕ). l ∷ lines_of (after_line bytes)) (append_assoc line (b ∷ []) (first_line bytes))

pub cut : (bytes : List ℕ) → 0 < length bytes → lines_of bytes ≡ first_line bytes ∷ lines_of (after_line bytes)
cut bytes h = cut-from [] bytes (inr h)

pub no_line : (bytes : List ℕ) → length bytes ≡ 0 → lines_of bytes ≡ []
unfolding lines_from
no_line [] h = refl
no_line (b ∷ bytes) h = absurd (omega arith)

pub next_line : (bytes line rest : List ℕ) → 0 < length bytes → line ≡ first_line bytes → rest ≡ after_line bytes → lines_of bytes ≡ line ∷ lines_of rest
next_line bytes line rest some is after = cut bytes some ∙ sym (ap (λ (l : List ℕ). l ∷ lines_of rest) is ∙ ap (λ (l : List ℕ). first_line bytes ∷ lines_of l) after)

pub fewer_lines : (bytes rest : List ℕ) → 0 < length bytes → rest ≡ after_line bytes → length (lines_of rest) < length (lines_of bytes)
fewer_lines bytes rest some after = let e = ap length (next_line bytes (first_line bytes) rest some refl after) in omega (arith, e)
