use Rattle.std.proofs.Common.{◌≡◌, ℕ, ◌+◌, ◌/◌, ◌%◌, ◌<◌, ◌≤◌, length, decimal, sym, ap, ◌∙◌, arith}
use Rattle.std.proofs.lemmas.List.{length_push}
use Rattle.std.proofs.lemmas.Fmt.{decimal_digit, decimal_step}
use Rattle.placing.proofs.digits.Goals as goal

one : (n : ℕ) → n < 10 → length (decimal n) ≡ 1
one n h = ap length (decimal_digit n h)

more : (n : ℕ) → 10 ≤ n → n < 256 → length (decimal n) ≡ length (decimal (n / 10)) + 1
more n h l = ap length (decimal_step n h (omega arith)) ∙ length_push (decimal (n / 10)) (48 + n % 10)

pub returns-in-0-to-9-clause-is : goal.returns-in-0-to-9-clause-is
returns-in-0-to-9-clause-is c = sym (one c.args.n (omega arith))

pub returns-in-10-to-99-clause-is : goal.returns-in-10-to-99-clause-is
returns-in-10-to-99-clause-is c = let a = more c.args.n (omega arith) (omega arith) in let b = one (c.args.n / 10) (omega arith) in omega arith

pub returns-in_default-clause-is : goal.returns-in_default-clause-is
returns-in_default-clause-is c =
    let a = more c.args.n (omega arith) (omega arith) in
    let b = more (c.args.n / 10) (omega arith) (omega arith) in
    let d = one (c.args.n / 10 / 10) (omega arith) in
    omega arith
