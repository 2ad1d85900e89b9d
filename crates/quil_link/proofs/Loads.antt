-- What a text is loaded as: one thing alone, and it is given unless memory runs out.
use Rattle.std.proofs.Common.{◌≡◌, ◌≢◌, ◌⊎◌, ℕ, List, inl, inr, sym, ap, ◌∙◌}
use Rattle.std.specs.Prelude.{Result, Ok, Err}
use Rattle.quil_tree.specs.declared.item.Item.{Item}
use Rattle.quil_grammar.specs.declared.fault.ReadFault.{ReadFault}
use Rattle.quil_grammar.specs.declared.fault.ReadFault.TheVariants as reading
use Rattle.quil_grammar.specs.Answer.{Gives}
use Rattle.quil_parse.specs.Program.{IsTreeOf, IsFaultOf}
use Rattle.quil_code.specs.declared.load_fault.LoadFault.{LoadFault}
use Rattle.quil_code.specs.declared.load_fault.LoadFault.TheVariants as fault
use Rattle.quil_code.specs.Program.{Program}
use Rattle.quil_link.specs.Passes.{Loads}
use Rattle.quil_link.specs.Load.{load_tree, of_reading, IsLoaded}

-- ---- one thing alone

pub one_loaded : ((text : List ℕ) (t u : List Item) → IsTreeOf text t → IsTreeOf text u → t ≡ u)
    → ((text : List ℕ) (f g : ReadFault) → f ≢ reading.OutOfMemory → g ≢ reading.OutOfMemory → IsFaultOf text f → IsFaultOf text g → f ≡ g)
    → ((text : List ℕ) (t : List Item) (f : ReadFault) → f ≢ reading.OutOfMemory → IsTreeOf text t → ¬ (IsFaultOf text f))
    → (text : List ℕ) (r s : Result Program LoadFault) → IsLoaded text r → IsLoaded text s → r ≡ s
one_loaded trees faults not_both text r s (inl a) (inl b) = a.is_refusal ∙ ap (λ f. Err (of_reading f)) (faults text a.reason b.reason a.has_memory b.has_memory a.is_fault b.is_fault) ∙ sym b.is_refusal
one_loaded trees faults not_both text r s (inl a) (inr b) = absurd (not_both text b.tree a.reason a.has_memory b.is_tree a.is_fault)
one_loaded trees faults not_both text r s (inr a) (inl b) = absurd (not_both text a.tree b.reason b.has_memory a.is_tree b.is_fault)
one_loaded trees faults not_both text r s (inr a) (inr b) = a.is_loaded ∙ ap load_tree (trees text a.tree b.tree a.is_tree b.is_tree) ∙ sym b.is_loaded

-- ---- what is given

loads_same : (result want r : Result Program LoadFault) → want ≡ r → Loads result want → Loads result r
loads_same result want r e (inl h) = inl (h ∙ e)
loads_same result want r e (inr h) = inr h

tree_given : (result r : Result Program LoadFault) (t u : List Item) → r ≡ load_tree u → Loads result (load_tree t) → Gives {A = List Item} (Ok t) (Ok u) → Loads result r
tree_given result r t u e loads (inl h) =
    let same : t ≡ u = cc in
    loads_same result (load_tree t) r (ap load_tree same ∙ sym e) loads
tree_given result r t u e loads (inr h) = cc

no_fault : (P : Type 0) (t : List Item) (f : ReadFault) → Gives {A = List Item} (Ok t) (Err f) → P
no_fault P t f (inl h) = cc
no_fault P t f (inr h) = cc

-- where the text has a tree
pub only_of_tree : (text : List ℕ) (t : List Item) (result r : Result Program LoadFault)
    → ((u : List Item) → IsTreeOf text u → Gives {A = List Item} (Ok t) (Ok u))
    → ((f : ReadFault) → f ≢ reading.OutOfMemory → IsFaultOf text f → Gives {A = List Item} (Ok t) (Err f))
    → Loads result (load_tree t) → IsLoaded text r → Loads result r
only_of_tree text t result r only only_fault loads (inl a) = no_fault (Loads result r) t a.reason (only_fault a.reason a.has_memory a.is_fault)
only_of_tree text t result r only only_fault loads (inr a) = tree_given result r t a.tree a.is_loaded loads (only a.tree a.is_tree)

no_memory : (g : ReadFault) (f : LoadFault) → g ≡ reading.OutOfMemory → (f ≡ of_reading g) ⊎ (f ≡ fault.OutOfMemory) → f ≡ fault.OutOfMemory
no_memory g f e (inl h) = h ∙ ap of_reading e
no_memory g f e (inr h) = h

refused_so : (g h : ReadFault) (f : LoadFault) (r : Result Program LoadFault) → r ≡ Err (of_reading h) → g ≡ h → (f ≡ of_reading g) ⊎ (f ≡ fault.OutOfMemory) → Loads (Err f) r
refused_so g h f r e same (inl k) = inl (ap (λ x. Err x) (k ∙ ap of_reading same) ∙ sym e)
refused_so g h f r e same (inr k) = inr (ap (λ x. Err x) k)

fault_given : (g h : ReadFault) (f : LoadFault) (r : Result Program LoadFault) → r ≡ Err (of_reading h) → (f ≡ of_reading g) ⊎ (f ≡ fault.OutOfMemory) → Gives {A = List Item} (Err g) (Err h) → Loads (Err f) r
fault_given g h f r e told (inl k) = refused_so g h f r e (cc) told
fault_given g h f r e told (inr k) = inr (ap (λ x. Err x) (no_memory g f (cc) told))

no_tree : (g : ReadFault) (u : List Item) (f : LoadFault) (r : Result Program LoadFault) → (f ≡ of_reading g) ⊎ (f ≡ fault.OutOfMemory) → Gives {A = List Item} (Err g) (Ok u) → Loads (Err f) r
no_tree g u f r told (inl k) = cc
no_tree g u f r told (inr k) = inr (ap (λ x. Err x) (no_memory g f (cc) told))

-- where it is refused
pub only_of_fault : (text : List ℕ) (g : ReadFault) (f : LoadFault) (r : Result Program LoadFault)
    → ((u : List Item) → IsTreeOf text u → Gives {A = List Item} (Err g) (Ok u))
    → ((h : ReadFault) → h ≢ reading.OutOfMemory → IsFaultOf text h → Gives {A = List Item} (Err g) (Err h))
    → (f ≡ of_reading g) ⊎ (f ≡ fault.OutOfMemory) → IsLoaded text r → Loads (Err f) r
only_of_fault text g f r only only_fault told (inl a) = fault_given g a.reason f r a.is_refusal told (only_fault a.reason a.has_memory a.is_fault)
only_of_fault text g f r only only_fault told (inr a) = no_tree g a.tree f r told (only a.tree a.is_tree)
