-- What digits behind a point are. Nobody has to believe these: the clause of `decimal` says what is found.
use Rattle.std.specs.Prelude.{◌≡◌, ℕ, ◌*◌, ◌^◌, ◌<◌, List, ◌++◌, length}
use Rattle.std.specs.Int.{IsGcd}
use Rattle.quil_number.specs.declared.part.Part.{Part}
use Rattle.quil_number.specs.declared.places.Places.{Places}
use Rattle.quil_number.specs.declared.places.Places.TheVariants.{Exact, TooFine}
use Rattle.quil_number.specs.Decimal.{number}

-- the digits behind a point are p/q
pub record AreFraction (ds : List ℕ) (p q : ℕ) : Type 0 where
  pub equal : p * 10 ^ length ds ≡ number ds * q

-- the last of the digits have a q above 2^62 in lowest terms
pub record AreTooFine (ds : List ℕ) : Type 0 where
  pub front : List ℕ
  pub last : List ℕ
  pub split : ds ≡ front ++ last
  pub p : ℕ
  pub q : ℕ
  pub equal : AreFraction last p q
  pub lowest : IsGcd p q 1
  pub wide : 2 ^ 62 < q

abbrev pub AreTenths : List ℕ → Part → Type 0
AreTenths ds x = AreFraction ds x.p x.q

abbrev pub Are : List ℕ → Places → Type 0
Are ds (Exact x) = AreTenths ds x
Are ds TooFine = AreTooFine ds
