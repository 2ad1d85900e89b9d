-- What reading makes of a statement, a header or a row, run on a stack, gives its parts back, so they are the only ones.
use Rattle.std.proofs.Common.{◌≡◌, List, [], ◌∷◌, ◌++◌, refl, sym, ◌∙◌, ap, append-nil}
use Rattle.quil_grammar.specs.Parts.{Part, Made, Value, parts_events}
use Rattle.quil_grammar.proofs.Writings.{Item, act, run, run_events}
use Rattle.quil_grammar.proofs.Writings.Item.{Done, Named, Operating, Opened, Kept}

item_of : Part → Item
item_of (Made p) = Kept p
item_of (Value w) = Done w

-- the items of parts, the last on top
items : List Part → List Item → List Item
items [] is = is
items (x ∷ xs) is = items xs (item_of x ∷ is)

run_parts : (xs : List Part) (is : List Item) → run (parts_events xs) is ≡ items xs is
unfolding run act items item_of
run_parts [] is = refl
run_parts (Made p ∷ xs) is = run_parts xs (Kept p ∷ is)
run_parts (Value w ∷ xs) is = run_events w (parts_events xs) is ∙ run_parts xs (Done w ∷ is)

-- the parts of items, before others
parts_of : List Item → List Part → List Part
parts_of [] ps = ps
parts_of (Done w ∷ is) ps = parts_of is (Value w ∷ ps)
parts_of (Kept p ∷ is) ps = parts_of is (Made p ∷ ps)
parts_of (Named p x ∷ is) ps = parts_of is ps
parts_of (Operating o ∷ is) ps = parts_of is ps
parts_of (Opened m ∷ is) ps = parts_of is ps

parts_again : (xs : List Part) (is : List Item) (ps : List Part) → parts_of (items xs is) ps ≡ parts_of is (xs ++ ps)
unfolding parts_of items item_of
parts_again [] is ps = refl
parts_again (Made p ∷ xs) is ps = parts_again xs (Kept p ∷ is) ps
parts_again (Value w ∷ xs) is ps = parts_again xs (Done w ∷ is) ps

parts_back : (xs : List Part) → parts_of (run (parts_events xs) []) [] ≡ xs
unfolding parts_of
parts_back xs = ap (λ is. parts_of is []) (run_parts xs []) ∙ parts_again xs [] [] ∙ append-nil xs

pub same_parts : (xs ys : List Part) → parts_events xs ≡ parts_events ys → xs ≡ ys
same_parts xs ys e = sym (parts_back xs) ∙ ap (λ ms. parts_of (run ms []) []) e ∙ parts_back ys
