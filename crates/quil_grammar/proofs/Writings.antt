-- What reading makes, run on a stack, gives the written expression back, so it is the only one.
use Rattle.std.proofs.Common.{◌≡◌, ℕ, List, [], ◌∷◌, ◌++◌, refl, sym, ◌∙◌, ap, append_assoc, append-nil}
use Rattle.quil_tree.specs.declared.place.Place.{Place}
use Rattle.quil_tree.specs.declared.expr.Atom.TheVariants as atom
use Rattle.quil_tree.specs.declared.expr.Operator.{Operator}
use Rattle.quil_grammar.specs.Grammar.{Event, Around, Piece}
use Rattle.quil_grammar.specs.Grammar.Event.{Stands, Region, Index, Between, Joined, Opens, Closes, Makes}
use Rattle.quil_grammar.specs.Written.{Written, events}
use Rattle.quil_grammar.specs.Written.Written.{Alone, Joins, Within}

-- an expression, what waits for one, or what was made outside expressions
pub data Item : Type 0 where
  Done : Written → Item
  Named : Place → List ℕ → Item
  Operating : Operator → Item
  Opened : Around → Item
  Kept : Piece → Item

unfoldable pub act : Event → List Item → List Item
act (Stands p a) is = Done (Alone p a) ∷ is
act (Region p x) is = Named p x ∷ is
act (Index i) (Named p x ∷ is) = Done (Alone p (atom.Cell (record { region = x; index = i }))) ∷ is
act (Index i) _ = []
act (Between o) is = Operating o ∷ is
act Joined (Done b ∷ Operating o ∷ Done a ∷ is) = Done (Joins o a b) ∷ is
act Joined _ = []
act (Opens m) is = Opened m ∷ is
act Closes (Done a ∷ Opened m ∷ is) = Done (Within m a) ∷ is
act Closes _ = []
act (Makes p) is = Kept p ∷ is

unfoldable pub run : List Event → List Item → List Item
run [] is = is
run (m ∷ ms) is = run ms (act m is)

pub run_events : (w : Written) (ms : List Event) (is : List Item) → run (events w ++ ms) is ≡ run ms (Done w ∷ is)
unfolding run act
run_events (Alone p (atom.Number x)) ms is = refl
run_events (Alone p (atom.Imaginary x)) ms is = refl
run_events (Alone p atom.Pi) ms is = refl
run_events (Alone p atom.I) ms is = refl
run_events (Alone p (atom.Parameter n)) ms is = refl
run_events (Alone p (atom.Cell a)) ms is = refl
run_events (Joins o a b) ms is =
    ap (λ xs. run xs is) (append_assoc (events a) (Between o ∷ (events b ++ Joined ∷ [])) ms)
    ∙ run_events a (Between o ∷ ((events b ++ Joined ∷ []) ++ ms)) is
    ∙ ap (λ xs. run xs (Operating o ∷ Done a ∷ is)) (append_assoc (events b) (Joined ∷ []) ms)
    ∙ run_events b (Joined ∷ ms) (Operating o ∷ Done a ∷ is)
run_events (Within m a) ms is =
    ap (λ xs. run xs (Opened m ∷ is)) (append_assoc (events a) (Closes ∷ []) ms)
    ∙ run_events a (Closes ∷ ms) (Opened m ∷ is)

run_all : (w : Written) → run (events w) [] ≡ Done w ∷ []
unfolding run
run_all w = ap (λ xs. run xs []) (sym (append-nil (events w))) ∙ run_events w [] []

pub same_written : (w v : Written) → events w ≡ events v → w ≡ v
same_written w v e =
    let same : Done w ∷ [] ≡ Done v ∷ [] = sym (run_all w) ∙ ap (λ ms. run ms []) e ∙ run_all v in
    cc
