use Rattle.std.proofs.Common.{◌≡◌, ℕ, sym, ap, ◌∙◌, arith, rules}
use Rattle.grammar.specs.Grammar.{Pair, Unpair, Hear}
use Rattle.grammar.specs.Reading.{read_by}
use Rattle.lines.specs.Lines.{said}
use Rattle.lines.specs.Rests.{read_as}
use Rattle.lines.proofs.Letters.{other-letter}
use Rattle.lines.proofs.parse_after.Goals as goal

pub returns-in-101 : goal.returns-in-101
unfolding read_by
returns-in-101 c = c.parse_enrol.ensures ∙ ap (λ (l : ℕ). read_by l c.args.bytes.now) (sym c.in-101.is)

pub returns-in-100 : goal.returns-in-100
unfolding read_by
returns-in-100 c = c.parse_drop.ensures ∙ ap (λ (l : ℕ). read_by l c.args.bytes.now) (sym c.in-100.is)

pub returns-in-114 : goal.returns-in-114
unfolding read_by
returns-in-114 c = c.parse_rank.ensures ∙ ap (λ (l : ℕ). read_by l c.args.bytes.now) (sym c.in-114.is)

pub returns-in-112 : goal.returns-in-112
unfolding read_by
returns-in-112 c =
    let made : read_as said c.map.result ≡ read_as (λ x. Pair x.0.now x.1.now) c.two_names.result = search rules in
    made ∙ c.two_names.ensures Pair ∙ ap (λ (l : ℕ). read_by l c.args.bytes.now) (sym c.in-112.is)

pub returns-in-97 : goal.returns-in-97
unfolding read_by
returns-in-97 c =
    let made : read_as said c.map-in-97.result ≡ read_as (λ x. Unpair x.0.now x.1.now) c.two_names-in-97.result = search rules in
    made ∙ c.two_names-in-97.ensures Unpair ∙ ap (λ (l : ℕ). read_by l c.args.bytes.now) (sym c.in-97.is)

pub returns-in-104 : goal.returns-in-104
unfolding read_by
returns-in-104 c =
    let made : read_as said c.map-in-104.result ≡ read_as (λ x. Hear x.0.now x.1.now) c.two_names-in-104.result = search rules in
    made ∙ c.two_names-in-104.ensures Hear ∙ ap (λ (l : ℕ). read_by l c.args.bytes.now) (sym c.in-104.is)

pub returns-in_default : goal.returns-in_default
returns-in_default c = other-letter c.args.letter c.args.bytes.now (λ e. omega arith) (λ e. omega arith) (λ e. omega arith) (λ e. omega arith) (λ e. omega arith) (λ e. omega arith)
