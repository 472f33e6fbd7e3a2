-- Which labels a request may alter.
use Rattle.std.specs.Prelude.{◌≡◌, ℕ, ◌⊎◌, List, [], ◌∷◌}
use Rattle.theory.specs.Chains as chains
use Rattle.theory.specs.Changes.{Local}
use Rattle.plain.specs.Plain.{Plain, map_of, Lawful}
use Rattle.plain.specs.Requests.{Request, Make, Load, Enrol, Drop, Pair, Unpair, Rank, Hear, BestPlace, InLabels, OutLabels, InHolders, OutHolders, Reach, Save, step}

-- t hears s, in the plain book.
abbrev pub Hears : Plain → ℕ → ℕ → Type 0
Hears p t s = chains.Heard (map_of p) s t

-- Only the in-labels of units that hear v before or after the request differ, and only the out-labels of units that v hears at either time.
abbrev pub ByUnit : Plain → Plain → ℕ → Type 0
ByUnit p q v = Local (map_of p) p.order (map_of q) q.order (λ s. Hears p v s ⊎ Hears q v s) (λ t. Hears p t v ⊎ Hears q t v)

-- Only the in-labels of units that hear b, before and after, differ, and only the out-labels of units that a hears.
abbrev pub ByPairing : Plain → Plain → ℕ → ℕ → Type 0
ByPairing p q a b = Local (map_of p) p.order (map_of q) q.order (λ s. Hears p a s × Hears q a s) (λ t. Hears p t b × Hears q t b)

-- What the request may alter, from the plain book p to q. A question alters nothing at all; making and loading replace the whole book.
abbrev pub AltersOnly : Plain → Request → Plain → Type 0
AltersOnly p Make q = Unit {0}
AltersOnly p (Load page) q = Unit {0}
AltersOnly p (Enrol unit rank sources listeners) q = ByUnit p q unit
AltersOnly p (Drop unit) q = ByUnit p q unit
AltersOnly p (Rank unit rank) q = ByUnit p q unit
AltersOnly p (Pair source listener) q = ByPairing p q source listener
AltersOnly p (Unpair source listener) q = ByPairing p q source listener
AltersOnly p (Hear source listener) q = q ≡ p
AltersOnly p (BestPlace unit sources listeners) q = q ≡ p
AltersOnly p (InLabels unit room) q = q ≡ p
AltersOnly p (OutLabels unit room) q = q ≡ p
AltersOnly p (InHolders unit room) q = q ≡ p
AltersOnly p (OutHolders unit room) q = q ≡ p
AltersOnly p (Reach source listener sheet) q = q ≡ p
AltersOnly p (Save place room) q = q ≡ p

-- The plain book is lawful before each request and after the last.
abbrev pub LawfulAlong : ℕ → Plain → List Request → Type 0
LawfulAlong capacity p [] = Lawful p
LawfulAlong capacity p (r ∷ rs) = Lawful p × LawfulAlong capacity (step capacity p r) rs
