-- The numbers of a value, got back from what contracts see of it. Nobody has to believe these: they make a value one that is copied.
use Rattle.std.specs.Prelude.{◌≡◌, refl}
use Rattle.quil_value.specs.declared.value.Kind.{Kind}
use Rattle.quil_value.specs.declared.value.Kind.TheVariants as kind
use Rattle.quil_value.specs.Exact.{Exact, Ring, Rational, Pi, ImagPi}
use Rattle.quil_value.specs.Value.{exact_of}

abbrev pub kind_of : Exact → Kind
kind_of (Ring z m) = kind.Ring (record { num = record { a = z.a; b = z.b; c = z.c; d = z.d }; m = m })
kind_of (Rational x) = kind.Rational x
kind_of (Pi x) = kind.Pi x
kind_of (ImagPi x) = kind.ImagPi x

pub kind_back : (k : Kind) → kind_of (exact_of k) ≡ k
kind_back (kind.Ring x) = refl
kind_back (kind.Rational x) = refl
kind_back (kind.Pi x) = refl
kind_back (kind.ImagPi x) = refl
