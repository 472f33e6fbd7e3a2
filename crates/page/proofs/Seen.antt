-- A part of the marks, asked one after the other.
use Rattle.std.proofs.Common.{◌≡◌, ℕ, zero, suc, ◌+◌, ◌≤◌, Bool, false, ◌&&◌, List, length, get_or, take, drop, refl, ap, ◌∙◌, arith}
use Rattle.std.specs.List.{list_all}
use Rattle.std.proofs.Math.Seq.{drop-cons}
use Rattle.plain.specs.Lists.{every, numbers}

pub all_marked : (seen : List Bool) (from many : ℕ) → from + many ≤ length seen → list_all (λ b. b) (take many (drop from seen)) ≡ every (λ k. get_or seen k false) (numbers from many)
all_marked seen from zero h = refl
all_marked seen from (suc many) h =
    ap (λ (xs : List Bool). list_all (λ b. b) (take (suc many) xs)) (drop-cons seen from false (omega arith))
    ∙ ap (λ (b : Bool). get_or seen from false && b) (all_marked seen (suc from) many (omega arith))
