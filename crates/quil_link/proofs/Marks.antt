-- The places of a list that are marked.
use Rattle.std.proofs.Common.{◌≡◌, ℕ, zero, suc, ◌+◌, ◌<◌, Bool, true, false, cond, List, [], ◌∷◌, ◌++◌, length, get_or, take, drop, Global, refl, sym, ap, ◌∙◌, add-one, arith}
use Rattle.std.specs.Prelude.{Vec, Result, Ok, Err, IfOk}
use Rattle.std.specs.declared.alloc.AllocError.{AllocError}
use Rattle.std.proofs.Math.Seq.{take-append_seam}
use Rattle.std.specs.List.{filter, range_with_len}
use Rattle.std.proofs.lemmas.List.{append-nil}
use Rattle.std.proofs.lemmas.List.Elements.{filter-append}
use Rattle.quil_code.specs.declared.instruction.Line.{Line}
use Rattle.quil_link.specs.Built.{qubit_limit}
use Rattle.quil_link.specs.Numbered.{is_used, qubits_of}
use Rattle.quil_link.specs.Steps.{marked_places}

range_more : (a n : ℕ) → range_with_len a (suc n) ≡ range_with_len a n ++ (a + n) ∷ []
range_more a zero = ap (λ (k : ℕ). k ∷ []) (omega arith)
range_more a (suc n) = ap (λ (ks : List ℕ). a ∷ ks) (range_more (a + 1) n ∙ ap (λ (k : ℕ). range_with_len (a + 1) n ++ k ∷ []) (omega arith))

filter_more : (t : ℕ → Bool) (n m : ℕ) → m ≡ n → filter t (range_with_len 0 n ++ m ∷ []) ≡ filter t (range_with_len 0 n) ++ cond (t n) (n ∷ []) []
filter_more t n m e = rw (e, filter-append t (range_with_len 0 n) (n ∷ [])) refl

marked_more : (t : ℕ → Bool) (n : ℕ) → filter t (range_with_len 0 (n + 1)) ≡ filter t (range_with_len 0 n) ++ cond (t n) (n ∷ []) []
marked_more t n = rw add-one (ap (filter t) (range_more 0 n) ∙ filter_more t n (0 + n) (omega arith))

-- the places that pass a test, when one more was tried
pub marked_yes : (t : ℕ → Bool) (n : ℕ) → t n ≡ true → filter t (range_with_len 0 (n + 1)) ≡ filter t (range_with_len 0 n) ++ n ∷ []
marked_yes t n h = marked_more t n ∙ ap (λ b. filter t (range_with_len 0 n) ++ cond b (n ∷ []) []) h

pub marked_no : (t : ℕ → Bool) (n : ℕ) → t n ≡ false → filter t (range_with_len 0 (n + 1)) ≡ filter t (range_with_len 0 n)
marked_no t n h = marked_more t n ∙ ap (λ b. filter t (range_with_len 0 n) ++ cond b (n ∷ []) []) h ∙ append-nil (filter t (range_with_len 0 n))

filter_same : (t u : ℕ → Bool) (a n : ℕ) → ((q : ℕ) → q < a + n → t q ≡ u q) → filter t (range_with_len a n) ≡ filter u (range_with_len a n)
filter_same t u a zero h = refl
filter_same t u a (suc n) h =
    let here : t a ≡ u a = h a (omega arith) in
    let rest = filter_same t u (a + 1) n (λ q k. h q (omega arith)) in
    rw (here, rest) refl

-- marks that answer a test are at the places that pass it
marked_by : (t : ℕ → Bool) (marks : List Bool) (n : ℕ) → length marks ≡ n → ((q : ℕ) → q < n → get_or marks q false ≡ t q) → marked_places marks ≡ filter t (range_with_len 0 n)
marked_by t marks n e h = rw e (filter_same (λ q. get_or marks q false) t 0 n (λ q k. h q (omega arith)))

-- the qubits that are used, if they are marked so
pub marked_qubits : (lines : List Line) (marks xs : List Bool) (r : Result (Vec ℕ Global) AllocError) → xs ≡ marks → length marks ≡ qubit_limit → ((q : ℕ) → q < qubit_limit → get_or marks q false ≡ is_used lines q) → IfOk r (λ places. places.items ≡ marked_places xs)
    → IfOk r (λ qubits. qubits.items ≡ qubits_of lines)
unfolding qubits_of
marked_qubits lines marks xs (Ok places) e size h given = given ∙ ap marked_places e ∙ marked_by (is_used lines) marks qubit_limit size h
marked_qubits lines marks xs (Err f) e size h given = given

-- all of a list is written
pub written_whole : {A : Type 0} (n : ℕ) (new old : List A) → length new ≡ length old → n ≡ length old → take n (new ++ drop (length new) old) ≡ new
written_whole n new old e k = rw (k ∙ sym e) (take-append_seam new (drop (length new) old))
