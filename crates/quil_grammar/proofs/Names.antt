-- Names as slices, and as their bytes.
use Rattle.std.proofs.Common.{◌≡◌, ℕ, ◌+◌, Bool, true, false, not, ◌||◌, bytes_eq, List, [], ◌∷◌, ◌++◌, map, refl, ap, ◌∙◌, if◌then◌else◌, cond, Bor}
use Rattle.std.proofs.lemmas.List.{map-append}
use Rattle.std.specs.List.{list_any, position_or_len}
use Rattle.quil_tree.specs.Names.{with_name}
use Rattle.quil_grammar.specs.Token.{number_among}

pub number_by_text : (name : Bor (List ℕ)) (keys : List (Bor (List ℕ))) → position_or_len (λ k. bytes_eq name.now k.now) keys ≡ number_among (map (λ k. k.now) keys) name.now
number_by_text name [] = refl
number_by_text name (k ∷ ks) = ap (λ n. cond (not (bytes_eq name.now k.now)) (1 + n) 0) (number_by_text name ks)

any_by_text : (name : Bor (List ℕ)) (keys : List (Bor (List ℕ))) → list_any (λ k. bytes_eq name.now k.now) keys ≡ list_any (bytes_eq name.now) (map (λ k. k.now) keys)
any_by_text name [] = refl
any_by_text name (k ∷ ks) = ap (λ b. bytes_eq name.now k.now || b) (any_by_text name ks)

added : (b : Bool) (name : Bor (List ℕ)) (keys : List (Bor (List ℕ))) → map (λ k. k.now) (if b then keys else keys ++ name ∷ []) ≡ (if b then map (λ k. k.now) keys else map (λ k. k.now) keys ++ name.now ∷ [])
added true name keys = refl
added false name keys = map-append (λ k. k.now) keys (name ∷ [])

pub names_by_text : (name : Bor (List ℕ)) (keys new : List (Bor (List ℕ))) → new ≡ (if list_any (λ k. bytes_eq name.now k.now) keys then keys else keys ++ name ∷ []) → map (λ k. k.now) new ≡ with_name (map (λ k. k.now) keys) name.now
names_by_text name keys new e =
    ap (λ ks. map (λ k. k.now) ks) e ∙ added (list_any (λ k. bytes_eq name.now k.now) keys) name keys
    ∙ ap (λ b. if b then map (λ k. k.now) keys else map (λ k. k.now) keys ++ name.now ∷ []) (any_by_text name keys)
