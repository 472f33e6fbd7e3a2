-- What an index that was read stands for.
use Rattle.std.proofs.Common.{◌≡◌, ℕ, ◌≤◌, Some, None, Option, sym, refl, subst}
use Rattle.page.specs.Indices.{IsIndex, index_of}

pub index-is : (n : ℕ) (o : Option ℕ) → IsIndex n o → index_of o ≡ n
index-is n None h = sym h
index-is n (Some r) h = sym h.1

pub index_itself : (n : ℕ) (o : Option ℕ) → IsIndex n o → IsIndex (index_of o) o
index_itself n None h = refl
index_itself n (Some r) h = (h.0, refl)

pub counted : (o : Option ℕ) (r : ℕ) → IsIndex (index_of o) o → o ≡ Some r → 1 ≤ r
counted o r h is = (subst (λ p. IsIndex (index_of p) p) is h).0
