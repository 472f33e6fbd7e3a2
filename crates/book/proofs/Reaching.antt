-- Reach: what its checks leave, and what it tells.
use Rattle.std.proofs.Common.{◌≡◌, ℕ, ◌≤◌, false, not, eqb, ltb, List, length, get_or, IfSome, IsErrAnd, Ok, Err, Option, Result, sym, subst, ⊎_elim, arith}
use Rattle.std.proofs.lemmas.Result.{err_from_is_err_and}
use Rattle.std.proofs.lemmas.Bool.{cases_lt, or_parts, both_ways, eqb-true, not-false, lt-ltb}
use Rattle.theory.specs.Maps.{Map, hidden}
use Rattle.theory.specs.Chains.{FewestOrNone}
use Rattle.theory.proofs.Tests.{passes, passed}
use Rattle.theory.proofs.Distinct.{on-at}
use Rattle.sheets.specs.Sheets.{Clean}
use Rattle.plain.specs.declared.BookFault.{BookFault}
use Rattle.plain.specs.Plain.{Plain, Lawful, map_of}
use Rattle.plain.specs.Lists.{some}
use Rattle.plain.specs.Requests.{Reach, checks, first_cause, reach_checks, verdict}
use Rattle.plain.specs.Reaching.{off, open_map, reach_told}
use Rattle.plain.proofs.Some.{some-on}
use Rattle.plain.proofs.Reaching.{reach-is}
use Rattle.book.specs.Views.{plain_by}
use Rattle.book.specs.Answers.{answered}
use Rattle.book.specs.Questions.{ByFewest}
use Rattle.book.proofs.Answering.{no-cause, answered-ok, answered-err}
use Rattle.book.proofs.Changing.{all-absent}

-- a sheet that passed
pub sheet-lawful : (p : Plain) (s t : ℕ) (sheet : List ℕ) → Ok (tt {0}) ≡ answered (first_cause (reach_checks p s t sheet)) (tt {0}) → (length sheet ≡ 255) × Clean sheet
sheet-lawful p s t sheet e =
    let absent = all-absent (reach_checks p s t sheet) (no-cause (first_cause (reach_checks p s t sheet)) (tt {0}) e) in
    let parts = or_parts (not (eqb (length sheet) 255)) (some (λ b. ltb 1 b) sheet) absent.1.0 in
    (eqb-true (length sheet) 255 (not-false (eqb (length sheet) 255) parts.0), clean parts.1)
  where
    clean : some (λ b. ltb 1 b) sheet ≡ false → Clean sheet
    clean none k h = ⊎_elim (λ less. less)
        (λ more. absurd (both_ways _ none (passed _ ((some-on (λ b. ltb 1 b) sheet).1 (get_or sheet k 0, on-at sheet k h, passes _ (lt-ltb 1 (get_or sheet k 0) (omega arith)))))))
        (cases_lt (get_or sheet k 0) 2)

-- what is told where the checks passed
module _ (capacity : ℕ) (m : Map) (order : List ℕ) (stored : m ≡ map_of (plain_by m order)) (lawful : Lawful (plain_by m order)) (s t : ℕ) (sheet : List ℕ) where
  pub reach-granted : Ok (tt {0}) ≡ answered (first_cause (reach_checks (plain_by m order) s t sheet)) (tt {0}) → (r : Option ℕ) →
      FewestOrNone (hidden (off sheet) m) s t r → IfSome r (λ n. n ≤ 255) →
      (Ok r ≡ answered (verdict capacity (plain_by m order) (Reach s t sheet)) (reach_told (plain_by m order) s t sheet)) × FewestOrNone (open_map (plain_by m order) sheet) s t r
  unfolding checks
  reach-granted e r few small =
      let there : FewestOrNone (open_map (plain_by m order) sheet) s t r = subst (λ (n : Map). FewestOrNone (hidden (off sheet) n) s t r) stored few in
      (answered-ok _ r (reach_told (plain_by m order) s t sheet) e (reach-is (plain_by m order) sheet lawful.sound s t r there small), there)

  pub reach-refused : (cause : BookFault) (r : Result (Option ℕ) BookFault) → Err cause ≡ answered (first_cause (reach_checks (plain_by m order) s t sheet)) (tt {0}) → IsErrAnd r (λ e. e ≡ cause) →
      (r ≡ answered (verdict capacity (plain_by m order) (Reach s t sheet)) (reach_told (plain_by m order) s t sheet)) × ByFewest (open_map (plain_by m order) sheet) s t r
  unfolding checks
  reach-refused cause r e by = (
    answered-err (first_cause (reach_checks (plain_by m order) s t sheet)) (reach_told (plain_by m order) s t sheet) r cause e by,
    subst (ByFewest (open_map (plain_by m order) sheet) s t) (sym (err_from_is_err_and r by).1) tt,
  )
