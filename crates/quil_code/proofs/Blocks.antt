-- The product of any gate under modifiers, by the list of its blocks.
use Rattle.std.proofs.Common.{◌≡◌, refl, ◌∙◌, ap, ℕ, Bool, true, false, List, ◌++◌, length}
use Rattle.qvm_ring.specs.Ray.{Ray}
use Rattle.qvm_ring.specs.Gate.{Gate, product_at}
use Rattle.quil_code.specs.Controls.{Modification, modified, controls_of, is_dagger_of, daggered_if, block_at, block_product, IsFamily}
use Rattle.quil_code.proofs.Modifications.{modified_is_under}
use Rattle.quil_code.proofs.Collapse.{collapse}
use Rattle.qvm_ring.proofs.LocalStates.{AreDifferent}

pub same_arity : (b : Bool) (g : Gate) → (daggered_if b g).arity ≡ g.arity
same_arity true g = refl
same_arity false g = refl

pub same_root_twos : (b : Bool) (g : Gate) → (daggered_if b g).root_twos ≡ g.root_twos
same_root_twos true g = refl
same_root_twos false g = refl

pub product_by_blocks : (ms : List Modification) (n m : ℕ) (f : List ℕ → Gate) → IsFamily n m f → (xs ds qs : List ℕ) (ray : Ray) (x : ℕ) →
    length ds ≡ length (controls_of ms) → length qs ≡ n → AreDifferent (ds ++ qs) →
    product_at (modified ms f xs) (ds ++ qs) ray x ≡ block_product (block_at (controls_of ms) ds x xs) m (λ ys. daggered_if (is_dagger_of ms) (f ys)) qs ray x
product_by_blocks ms n m f h xs ds qs ray x e k d =
    let base : List ℕ → Gate = λ ys. daggered_if (is_dagger_of ms) (f ys) in
    let family : IsFamily n m base = record { arity = λ ys. same_arity (is_dagger_of ms) (f ys) ∙ h.arity ys; root_twos = λ ys. same_root_twos (is_dagger_of ms) (f ys) ∙ h.root_twos ys } in
    ap (λ (g : Gate). product_at g (ds ++ qs) ray x) (modified_is_under ms f xs)
    ∙ collapse (controls_of ms) n m base family xs ds qs ray x e k d
