-- An answer whose checks passed, and one whose check did not.
use Rattle.std.proofs.Common.{◌≡◌, ℕ, Bool, true, false, IsErrAnd, Some, None, Ok, Err, Option, Result, sym, refl, ap, ◌∙◌, arith}
use Rattle.std.proofs.lemmas.Result.{err_from_is_err_and}
use Rattle.plain.specs.declared.BookFault.{BookFault}
use Rattle.std.proofs.lemmas.Bool.{both_ways}
use Rattle.theory.specs.Maps.{Map, Sound}
use Rattle.theory.specs.Hearing.{is_heard}
use Rattle.theory.proofs.Tests.{passes, passed}
use Rattle.theory.proofs.Warshall.{heard-sound, heard-complete}
use Rattle.book.specs.Answers.{answered, ByChains}

pub no-cause : {A : Type 0} (v : Option BookFault) (x : A) → Ok x ≡ answered v x → v ≡ None
no-cause None x e = refl
no-cause (Some cause) x e = absurd (let z : ◌≡◌ {A = ℕ} 0 1 = cc in omega arith)

pub the-cause : {A : Type 0} (v : Option BookFault) (x : A) (cause : BookFault) → Err cause ≡ answered v x → v ≡ Some cause
the-cause None x cause e = absurd (let z : ◌≡◌ {A = ℕ} 0 1 = cc in omega arith)
the-cause (Some c) x cause e = cc

-- what a call tells after its checks passed
pub answered-ok : {A : Type 0} (v : Option BookFault) (x y : A) → Ok (tt {0}) ≡ answered v (tt {0}) → x ≡ y → Ok x ≡ answered v y
answered-ok v x y e same = ap (λ z. Ok z) same ∙ ap (λ w. answered w y) (sym (no-cause v (tt {0}) e))

-- the exit of `?` at a cause
pub told-cause : {A : Type 0} (v : Option BookFault) (y : A) (r : Result A BookFault) (cause : BookFault) → v ≡ Some cause → IsErrAnd r (λ e. e ≡ cause) → r ≡ answered v y
told-cause v y r cause e by =
    let p = err_from_is_err_and r by in
    p.1 ∙ ap (λ z. Err z) p.2 ∙ ap (λ w. answered w y) (sym e)

-- and where a check did not pass
pub answered-err : {A : Type 0} (v : Option BookFault) (y : A) (r : Result A BookFault) (cause : BookFault) → Err cause ≡ answered v (tt {0}) → IsErrAnd r (λ e. e ≡ cause) → r ≡ answered v y
answered-err v y r cause e by = told-cause v y r cause (the-cause v (tt {0}) cause e) by

-- what is told of hearing, over chains
pub by-chains : (m : Map) → Sound m → (s t : ℕ) (v : Option BookFault) (answer : Result Bool BookFault) → answer ≡ answered v (is_heard m s t) → ByChains m s t answer
by-chains m sound s t None answer e = record {
  heard = λ y. heard-sound m sound s t (passes (is_heard m s t) (let z : is_heard m s t ≡ true = cc in z));
  unheard = λ n h. both_ways (is_heard m s t) (let z : is_heard m s t ≡ false = cc in z) (passed (is_heard m s t) (heard-complete m sound s t h));
}
by-chains m sound s t (Some cause) answer e = record {
  heard = λ y. absurd (let z : ◌≡◌ {A = ℕ} 0 1 = cc in omega arith);
  unheard = λ n. absurd (let z : ◌≡◌ {A = ℕ} 0 1 = cc in omega arith);
}
