-- Lists of numbers that are built one by one: number x is f x.
use Rattle.std.proofs.Common.{◌≡◌, refl, sym, ◌∙◌, ap, subst, ℕ, zero, suc, ◌+◌, ◌^◌, ◌<◌, inl, inr, List, [], ◌∷◌, ◌++◌, length, All, arith}
use Rattle.std.proofs.lemmas.List.{length-map, length-append, map-append}
use Rattle.std.proofs.lemmas.List.Elements.{All-push}
use Rattle.qvm_ring.specs.declared.wide.Wide.{Wide}
use Rattle.qvm_ring.specs.Ring.{Element}
use Rattle.qvm_ring.specs.Ray.{ray_of}
use Rattle.qvm_ring.specs.Views.{wide_element, IsBelow, at, wide_elements_of, map_of}
use Rattle.qvm_ring.proofs.FiniteMaps.{order_of}
use Rattle.qvm_ring.proofs.Vectors.{same_ray_of}

at_before : (ws : List Wide) (w : Wide) (i : ℕ) → i < length ws → at (wide_elements_of (ws ++ w ∷ [])) i ≡ at (wide_elements_of ws) i
at_before [] w i h = absurd (omega arith)
at_before (v ∷ ws) w zero h = refl
at_before (v ∷ ws) w (suc i) h = at_before ws w i (omega arith)

at_last : (ws : List Wide) (w : Wide) → at (wide_elements_of (ws ++ w ∷ [])) (length ws) ≡ wide_element w
at_last [] w = refl
at_last (v ∷ ws) w = at_last ws w

-- the first i numbers are those of f, and none is too wide
pub record HasValues (f : ℕ → Element) (ws : List Wide) (i : ℕ) : Type 0 where
  pub count : length ws ≡ i
  pub values : (x : ℕ) → x < i → at (wide_elements_of ws) x ≡ f x
  pub bounds : All (IsBelow (2 ^ 125)) (wide_elements_of ws)

pub values_begun : (f : ℕ → Element) → HasValues f [] 0
values_begun f = record { count = refl; values = λ x h. absurd (omega arith); bounds = λ k d h. absurd (omega arith) }

pub values_push : (f : ℕ → Element) (ws : List Wide) (i : ℕ) (w : Wide) → HasValues f ws i → wide_element w ≡ f i → IsBelow (2 ^ 125) (wide_element w) → HasValues f (ws ++ w ∷ []) (i + 1)
values_push f ws i w h e b =
    let c : length ws ≡ i = h.count in
    record {
      count = omega (arith, length-append ws (w ∷ []), c);
      values = λ x l. elim (order_of x i) [
        | inl j ↦ at_before ws w x (omega (arith, c, j)) ∙ h.values x j
        | inr (inl j) ↦ ap (at (wide_elements_of (ws ++ w ∷ []))) (j ∙ sym c) ∙ at_last ws w ∙ e ∙ ap f (sym j)
        | inr (inr j) ↦ absurd (omega arith)
      ];
      bounds = subst (λ (zs : List Element). All (IsBelow (2 ^ 125)) zs) (sym (map-append wide_element ws (w ∷ []))) (All-push (IsBelow (2 ^ 125)) (wide_elements_of ws) (wide_element w) h.bounds b);
    }

pub values_end : (f : ℕ → Element) (ws : List Wide) (i m : ℕ) → HasValues f ws i → i ≡ m → map_of (wide_elements_of ws) ≡ ray_of m f
values_end f ws i m h e =
    ap (λ (k : ℕ). ray_of k (at (wide_elements_of ws))) (length-map ws wide_element ∙ h.count ∙ e)
    ∙ same_ray_of m _ _ (λ x l. h.values x (omega (arith, e, l)))
