-- Names in blocks of 16 bytes: two blocks are equal exactly when the names in them are, and no name in a block is longer.
use Rattle.std.proofs.Common.{◌≡◌, ℕ, ◌-◌, ◌<◌, ◌≤◌, ◌&&◌, nat_eq, Bool, true, false, cond, nat_lt, slice_index_or, List, ◌++◌, Some, None, Option, length, take, drop, replicate, sym, ap, ◌∙◌, arith}
use Rattle.std.specs.Str.{bytes_eq}
use Rattle.std.proofs.lemmas.Bool.Decides.{same_from_decides, Decides-like, Decides-and, Decides-eqb}
use Rattle.std.proofs.lemmas.List.{take-append-drop, length-take, length-take-le}
use Rattle.std.proofs.lemmas.Option.{none-some, same_Some}
use Rattle.std.proofs.lemmas.Slice.Eq.{bytes_eq-Decides}
use Rattle.names.specs.declared.name.Name.{Name}
use Rattle.names.specs.declared.Cards.{Cards}
use Rattle.names.specs.Cards.{name_on, names_of}
use Rattle.names.specs.Names.{unit_named}
use Rattle.names.proofs.Finding.{nobody}

whole : (xs : List ℕ) (m : ℕ) → drop m xs ≡ replicate (16 - m) 0 → xs ≡ take m xs ++ replicate (16 - m) 0
whole xs m padded = sym (take-append-drop m xs) ∙ ap (λ rest. take m xs ++ rest) padded

long : (xs : List ℕ) (m : ℕ) → length xs ≡ 16 → m ≤ 16 → length (take m xs) ≡ m
long xs m l h = length-take-le m xs (omega arith)

-- one that begins with the other is longer, so the lengths are compared too
same-blocks : (xs ys : List ℕ) (m n : ℕ) → length xs ≡ 16 → length ys ≡ 16 → m ≤ 16 → n ≤ 16 → drop m xs ≡ replicate (16 - m) 0 → drop n ys ≡ replicate (16 - n) 0 → (bytes_eq xs ys && nat_eq m n) ≡ bytes_eq (take m xs) (take n ys)
same-blocks xs ys m n lx ly hm hn p q = same_from_decides _ _ (Decides-and _ _ (bytes_eq-Decides xs ys) (Decides-eqb m n)) (Decides-like _ blocks names (bytes_eq-Decides (take m xs) (take n ys)))
  where
    blocks : take m xs ≡ take n ys → (xs ≡ ys) × (m ≡ n)
    blocks e =
        let at : m ≡ n = sym (long xs m lx hm) ∙ ap length e ∙ long ys n ly hn in
        (whole xs m p ∙ ap (λ front. front ++ replicate (16 - m) 0) e ∙ ap (λ (k : ℕ). take n ys ++ replicate (16 - k) 0) at ∙ sym (whole ys n q), at)

    names : (xs ≡ ys) × (m ≡ n) → take m xs ≡ take n ys
    names e = ap (take m) e.0 ∙ ap (λ (k : ℕ). take k ys) e.1

pub same_blocks : (xs ys : List ℕ) (m n : ℕ) (r : Bool) → length xs ≡ 16 → length ys ≡ 16 → m ≤ 16 → n ≤ 16 → drop m xs ≡ replicate (16 - m) 0 → drop n ys ≡ replicate (16 - n) 0 → r ≡ bytes_eq xs ys → r ≡ true → nat_eq m n ≡ bytes_eq (take m xs) (take n ys)
same_blocks xs ys m n r lx ly hm hn p q eq is = ap (λ b. b && nat_eq m n) (sym is ∙ eq) ∙ same-blocks xs ys m n lx ly hm hn p q

pub other_blocks : (xs ys : List ℕ) (m n : ℕ) (r : Bool) → length xs ≡ 16 → length ys ≡ 16 → m ≤ 16 → n ≤ 16 → drop m xs ≡ replicate (16 - m) 0 → drop n ys ≡ replicate (16 - n) 0 → r ≡ bytes_eq xs ys → r ≡ false → r ≡ bytes_eq (take m xs) (take n ys)
other_blocks xs ys m n r lx ly hm hn p q eq is = is ∙ ap (λ b. b && nat_eq m n) (sym is ∙ eq) ∙ same-blocks xs ys m n lx ly hm hn p q

-- what is on a card is no longer than the card
too-long : (name : List ℕ) → 16 < length name → (b : Bool) (card : Option Name) → cond b (name_on card) None ≡ Some name → ⊥
too-long name l false card e = none-some name e
too-long name l true None e = none-some name e
too-long name l true (Some own) e = let same = ap length (same_Some (take own.len own.bytes) name e) in omega (arith, length-take own.len own.bytes, own.short)

pub nobody_long : (cards : Cards) (name : List ℕ) → 16 < length name → None ≡ unit_named (names_of cards) name
nobody_long cards name l = sym (nobody (names_of cards) name (λ u. too-long name l (nat_lt u 256) (slice_index_or cards.cards u None)))
