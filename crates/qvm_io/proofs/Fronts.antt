-- Lemmas on fronts that are moved one after the other.
use Rattle.std.proofs.Common.{ℕ, ◌+◌, ◌≤◌, List, ◌++◌, take, drop, length, Option, Result, Ok, Err, OnErr, sym, subst, arith, length-append}
use Rattle.std.proofs.Math.Seq.{take-add, take-append-add}
use Rattle.std.specs.Io.KnownBytes.{Appends, Consumes}
use Rattle.std.proofs.KnownBytes.{Appends-trans, Consumes-trans}
use Rattle.qvm_io.specs.Transfer.{LosesFront, GainsFront}

-- the first m of the piece were taken, and then the first n of the rest
pub Appends-take-add : (a b c : Option (List ℕ)) (piece : List ℕ) (m n : ℕ)
    → Appends a b (take m piece) → Appends b c (take n (drop m piece)) → Appends a c (take (m + n) piece)
Appends-take-add a b c piece m n p q =
    subst (Appends a c) (sym (take-add m n piece)) (Appends-trans a b c _ _ p q)

-- a front was taken, and then a front of the rest
pub LosesFront-after : (a b c : Option (List ℕ)) (front : List ℕ) (room limit : ℕ)
    → Consumes a b front → LosesFront b c room → length front + room ≤ limit → LosesFront a c limit
LosesFront-after a b c front room limit p q h =
    (front ++ q.0, omega (arith, length-append front q.0, q.1, h), Consumes-trans a b c _ _ p q.2)

-- a whole piece was taken, and then a front of the next
pub GainsFront-after : (a b c : Option (List ℕ)) (piece next : List ℕ)
    → Appends a b piece → GainsFront b c next → GainsFront a c (piece ++ next)
GainsFront-after a b c piece next p q = (
  length piece + q.0,
  omega (arith, length-append piece next, q.1),
  subst (Appends a c) (sym (take-append-add piece next q.0)) (Appends-trans a b c _ _ p q.2),
)

-- what holds anyway holds on an error
pub OnErr-of : {T E P : Type 0} (r : Result T E) → P → OnErr r P
OnErr-of (Ok x) p = tt
OnErr-of (Err e) p = p
