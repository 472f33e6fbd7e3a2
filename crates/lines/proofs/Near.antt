-- A lawful line has at most 35 bytes, so what is malformed is told at place 36 or before.
use Rattle.std.proofs.Common.{◌≡◌, ℕ, suc, ◌≤◌, List, [], ◌∷◌, ◌++◌, length, Err, decimal, ap, ◌∙◌, subst, arith}
use Rattle.std.proofs.lemmas.List.{length-append}
use Rattle.std.proofs.lemmas.Fmt.{length-decimal-le}
use Rattle.grammar.specs.Grammar.{Said, fields, written, LawfulFields, Right, MalformedAt}
use Rattle.grammar.specs.Grammar as said
use Rattle.grammar.specs.Reading.{read}
use Rattle.grammar.proofs.Theorem.{reading-right}

-- a number has at most three digits
pub digits-few : (n : ℕ) → n ≤ 255 → length (decimal n) ≤ 3
digits-few n h = length-decimal-le 3 n (omega arith) (omega arith) (omega arith)

two-short : (s t : List ℕ) → length s ≤ 16 → length t ≤ 16 → suc (length (32 ∷ (s ++ 32 ∷ (t ++ [])))) ≤ 35
two-short s t a b = let x = length-append s (32 ∷ (t ++ [])) in let y = length-append t [] in omega arith

written-short : (s : Said) → LawfulFields (fields s) → length (written s) ≤ 35
written-short (said.Enrol number name rank) l =
    let d = digits-few number l.0 in
    let e = l.1.0.short in
    let f = digits-few rank l.1.1.0 in
    let x = length-append (decimal number) (32 ∷ (name ++ 32 ∷ (decimal rank ++ []))) in
    let y = length-append name (32 ∷ (decimal rank ++ [])) in
    let z = length-append (decimal rank) [] in
    omega arith
written-short (said.Drop name) l = let e = l.0.short in let x = length-append name [] in omega arith
written-short (said.Pair s t) l = two-short s t l.0.short l.1.0.short
written-short (said.Unpair s t) l = two-short s t l.0.short l.1.0.short
written-short (said.Rank name rank) l =
    let e = l.0.short in
    let f = digits-few rank l.1.0 in
    let y = length-append name (32 ∷ (decimal rank ++ [])) in
    let z = length-append (decimal rank) [] in
    omega arith
written-short (said.Hear s t) l = two-short s t l.0.short l.1.0.short

pub malformed-near : (line : List ℕ) (at : ℕ) → MalformedAt line at → at ≤ 36
malformed-near line at m =
    let says = m.begins.1.1 in
    let w = written-short m.begins.1.0 says.lawful in
    let e = ap length says.is ∙ length-append m.before m.begins.0 in
    let h = m.here in
    omega arith

pub fault-near : (line : List ℕ) (at : ℕ) → read line ≡ Err at → at ≤ 36
fault-near line at e = malformed-near line at (subst (Right line) e (reading-right.right line))
