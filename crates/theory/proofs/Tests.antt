-- Tests as types.
use Rattle.std.proofs.Common.{◌≡◌, ℕ, Bool, true, false, not, ◌&&◌, ◌||◌, T, eqb, ◌≢◌, ◌⊎◌, refl, subst, inl, inr, eqb→eq, T_not}
use Rattle.std.proofs.lemmas.Bool.{false≢true}
use lib.Dec.{eqb_refl, not_T}

pub and-fst : (a b : Bool) → T (a && b) → T a
and-fst true b h = tt
and-fst false b h = h

pub and-snd : (a b : Bool) → T (a && b) → T b
and-snd true b h = h
and-snd false b h = absurd h

pub and_both : (a b : Bool) → T a → T b → T (a && b)
and_both true b h k = k
and_both false b h k = h

pub or-either : (a b : Bool) → T (a || b) → T a ⊎ T b
or-either true b h = inl tt
or-either false b h = inr h

pub or_fst : (a b : Bool) → T a → T (a || b)
or_fst true b h = tt
or_fst false b h = absurd h

pub or_snd : (a b : Bool) → T b → T (a || b)
or_snd true b h = tt
or_snd false b h = h

-- a test under a condition
pub if-use : (a b : Bool) → T (not a || b) → T a → T b
if-use true b h k = h
if-use false b h k = absurd k

pub if-make : (a b : Bool) → (T a → T b) → T (not a || b)
if-make true b f = f tt
if-make false b f = tt

pub decided : (b : Bool) → Dec (T b)
decided true = yes tt
decided false = no (λ h. h)

-- tests that pass together are equal
pub same_tests : (a b : Bool) → (T a → T b) → (T b → T a) → a ≡ b
same_tests true true f g = refl
same_tests true false f g = absurd (f tt)
same_tests false true f g = absurd (g tt)
same_tests false false f g = refl

pub and_comm : (a b : Bool) → (a && b) ≡ (b && a)
and_comm true true = refl
and_comm true false = refl
and_comm false true = refl
and_comm false false = refl

pub differs : (a b : ℕ) → a ≢ b → T (not (eqb a b))
differs a b ne = not_T (eqb a b) (λ t. ne (eqb→eq a b t))

pub differ : (a b : ℕ) → T (not (eqb a b)) → a ≢ b
differ a b t e = T_not (eqb a b) t (subst (λ z. T (eqb a z)) e (eqb_refl a))

-- a test that passes, as a type and as an equation
pub passes : (b : Bool) → b ≡ true → T b
passes true e = tt
passes false e = absurd (false≢true e)

pub passed : (b : Bool) → T b → b ≡ true
passed true t = refl
passed false t = absurd t
