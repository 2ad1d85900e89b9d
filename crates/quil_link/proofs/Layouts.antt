-- The first fault of the declarations.
use Rattle.std.proofs.Common.{◌≡◌, ◌≤◌, List, [], ◌∷◌, length, get_or, refl, sym, ap, ◌∙◌, inl, inr, arith}
use Rattle.std.specs.Prelude.{Result, Ok, Err, fold}
use Rattle.quil_tree.specs.declared.item.Item.{Item}
use Rattle.quil_tree.specs.declared.item.Item.TheVariants as item
use Rattle.quil_memory.specs.declared.claim.Claim.{Claim}
use Rattle.quil_memory.specs.declared.fault.LayoutFault.{LayoutFault}
use Rattle.quil_memory.specs.Layout.{Regions, with_claims, with_claim, with_next}
use Rattle.quil_code.specs.declared.load_fault.LoadFault.{LoadFault}
use Rattle.quil_link.specs.Passes.{Loads}
use Rattle.quil_link.specs.Layout.{as_load, claims_of, claim_of}
use Rattle.quil_link.specs.Steps.{with_item}

fault_stays : (g : LayoutFault) (cs : List Claim) → fold with_next (Err g) cs ≡ Err g
fault_stays g [] = refl
fault_stays g (c ∷ cs) = fault_stays g cs

fault_kept : (r : Result Regions LayoutFault) (cs : List Claim) (f : LoadFault) → as_load r ≡ Err f → as_load (fold with_next r cs) ≡ Err f
fault_kept (Ok l) cs f e = cc
fault_kept (Err g) cs f e = rw (fault_stays g cs) e

fault_of_first : (l : Regions) (i : Item) (is : List Item) (f : LoadFault) → with_item l i ≡ Err f → as_load (with_claims l (claims_of (i ∷ is))) ≡ Err f
fault_of_first l (item.Declare d) is f e = fault_kept (with_claim l (claim_of d)) (claims_of is) f e
fault_of_first l (item.DefGate d) is f e = cc
fault_of_first l (item.DefCircuit d) is f e = cc
fault_of_first l (item.Plain s) is f e = cc

-- where the first item has a fault, it is that of all the items
pub fault_of_items : (l : Regions) (i : Item) (is : List Item) (f : LoadFault) → 1 ≤ length is → i ≡ get_or is 0 i → with_item l i ≡ Err f → as_load (with_claims l (claims_of is)) ≡ Err f
fault_of_items l i [] f h here e = absurd (omega arith)
fault_of_items l i (j ∷ is) f h here e = fault_of_first l j is f (ap (with_item l) (sym here) ∙ e)

-- a fault that is given there, or want of memory
pub loads_fault : (l : Regions) (i : Item) (is : List Item) (f : LoadFault) → 1 ≤ length is → i ≡ get_or is 0 i → Loads (Err f) (with_item l i) → Loads (Err f) (as_load (with_claims l (claims_of is)))
loads_fault l i is f h here (inl e) = inl (sym (fault_of_items l i is f h here (sym e)))
loads_fault l i is f h here (inr e) = inr e

pub loads_as : {A : Type 0} (r want same : Result A LoadFault) (f : LoadFault) → r ≡ Err f → want ≡ same → Loads (Err f) want → Loads r same
loads_as r want same f e g (inl h) = inl (e ∙ h ∙ g)
loads_as r want same f e g (inr h) = inr (e ∙ h)
