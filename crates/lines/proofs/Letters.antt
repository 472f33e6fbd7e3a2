-- The first byte chooses how the rest is read.
use Rattle.std.proofs.Common.{◌≡◌, ℕ, suc, ◌-◌, ◌≤◌, Bool, false, cond, eqb, List, [], ◌∷◌, length, get_or, take, drop, Err, sym, ap, ◌∙◌, arith}
use Rattle.std.proofs.lemmas.List.{take_rest, nil_from_length}
use Rattle.std.proofs.lemmas.Bool.{ne_eqb}
use Rattle.grammar.specs.Reading.{read, read_by}

pub first-letter : (line : List ℕ) → 1 ≤ length line → read_by (get_or line 0 0) (take (length line - 1) (drop 1 line)) ≡ read line
first-letter [] some = absurd (omega arith)
first-letter (x ∷ xs) some =
    let n : eqb (suc (length xs)) 0 ≡ false = ne_eqb (suc (length xs)) 0 (λ z. omega arith) in
    ap (read_by x) (take_rest (x ∷ xs) 1) ∙ ap (λ (b : Bool). cond b (Err 1) (read_by x xs)) (sym n)

pub no-letter : (line : List ℕ) → length line ≡ 0 → Err 1 ≡ read line
no-letter line none = sym (ap read (nil_from_length line none))

pub other-letter : (l : ℕ) (rest : List ℕ) → (l ≡ 101 → ⊥) → (l ≡ 100 → ⊥) → (l ≡ 112 → ⊥) → (l ≡ 97 → ⊥) → (l ≡ 114 → ⊥) → (l ≡ 104 → ⊥) → Err 1 ≡ read_by l rest
unfolding read_by
other-letter l rest e d p a r h = rw (ne_eqb l 101 e, ne_eqb l 100 d, ne_eqb l 112 p, ne_eqb l 97 a, ne_eqb l 114 r, ne_eqb l 104 h)
