-- What wiping leaves of a clean sheet and of one more mark, and what a clean sheet says.
use Rattle.std.proofs.Common.{◌≡◌, ℕ, ◌-◌, ◌%◌, ◌<◌, ◌≤◌, Bool, false, ◌&&◌, leb, ◌⊎◌, List, length, get_or, set, Option, sym, ap, ◌∙◌, subst, inl, inr, arith}
use Rattle.std.proofs.lemmas.Bool.{cases_lt, le-leb, lt-leb, ne_eqb, and_left, and_right}
use Rattle.std.proofs.lemmas.List.{length-map, get_or-map, get_or_past, ext_get_or, map-set, set-get_or}
use Rattle.theory.specs.Maps.{Map, hidden}
use Rattle.theory.specs.Chains.{FewestOrNone}
use Rattle.plain.specs.Reaching.{off}
use Rattle.sheets.specs.Sheets.{wiped, marked, Clean}

pub wiped-clean : (xs : List ℕ) → Clean xs → wiped xs ≡ xs
wiped-clean xs h =
    ext_get_or 0 (wiped xs) xs (length-map xs (λ x. x % 2)) (λ k l.
    let m : k < length xs = rw (length-map xs (λ x. x % 2)) at l in
    let s = h k m in
    let e = get_or-map (λ x. x % 2) xs k 0 0 m in
    omega (arith, e, s))

-- a mark that leaves the low bit is wiped away
pub wiped-mark : (xs : List ℕ) (i y : ℕ) → i < length xs → y % 2 ≡ get_or xs i 0 % 2 → wiped (set xs i y) ≡ wiped xs
wiped-mark xs i y l e =
    map-set (λ x. x % 2) xs i y ∙
    (ap (set (wiped xs) i) (e ∙ sym (get_or-map (λ x. x % 2) xs i 0 0 l)) ∙ set-get_or (wiped xs) i 0)

-- no unit is marked on a clean sheet
pub clean-unmarked : (sheet : List ℕ) → Clean sheet → (k : ℕ) → marked sheet k ≡ false
clean-unmarked sheet clean k = and_right (leb 1 k) _ (lt-leb 2 (get_or sheet (k - 1) 0) (low (cases_lt (k - 1) (length sheet))))
  where
    low : (k - 1 < length sheet) ⊎ (length sheet ≤ k - 1) → get_or sheet (k - 1) 0 < 2
    low (inl h) = clean (k - 1) h
    low (inr h) = let e = get_or_past sheet (k - 1) 0 h in omega arith

-- past the last byte no unit is off
pub all-off : (sheet : List ℕ) → length sheet ≡ 255 → (units : ℕ → Bool) (i : ℕ) → 255 ≤ i → ((u : ℕ) → units u ≡ (leb u i && off sheet u)) → (u : ℕ) → units u ≡ off sheet u
all-off sheet wide units i done all u = all u ∙ go (cases_lt i u)
  where
    go : (i < u) ⊎ (u ≤ i) → (leb u i && off sheet u) ≡ off sheet u
    go (inr h) = ap (λ (b : Bool). b && off sheet u) (le-leb u i h)
    go (inl h) =
        let past : get_or sheet (u - 1) 0 ≡ 0 = get_or_past sheet (u - 1) 0 (omega arith) in
        and_left (leb u i) (off sheet u) (lt-leb u i h) ∙ sym (and_right (leb 1 u) _ (ne_eqb (get_or sheet (u - 1) 0) 1 (λ e. let z : ◌≡◌ {A = ℕ} 0 1 = sym past ∙ e in omega arith)))

-- the fewest pairings of a hidden map, by other terms for it
pub fewest-at : (f g : ℕ → Bool) (m n : Map) (s t : ℕ) (r : Option ℕ) → ((k : ℕ) → f k ≡ g k) → m ≡ n → FewestOrNone (hidden f m) s t r → FewestOrNone (hidden g n) s t r
fewest-at f g m n s t r e d h = subst (λ (x : Map). FewestOrNone (hidden g x) s t r) d (subst (λ (p : ℕ → Bool). FewestOrNone (hidden p m) s t r) (λ i k. e k i) h)
