-- What the cards say.
use Rattle.std.specs.Prelude.{ℕ, cond, List, take, None, Option, nat_lt, slice_index_or}
use Rattle.std.specs.Option.{option_map}
use Rattle.names.specs.declared.Cards.{Cards}
use Rattle.names.specs.declared.name.Name.{Name}
use Rattle.names.specs.Names.{Names}

-- The name on a card. A blank card has none.
abbrev pub name_on : Option Name → Option (List ℕ)
name_on card = option_map (λ name. take name.len name.bytes) card

-- There are cards for the numbers below 256.
abbrev pub names_of : Cards → Names
names_of cards u = cond (nat_lt u 256) (name_on (slice_index_or cards.cards u None)) None
