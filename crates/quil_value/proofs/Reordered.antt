-- Products of ring elements with their factors in another order.
use Rattle.std.proofs.Common.{◌≡◌, refl, sym, ◌∙◌, ap}
use Rattle.qvm_ring.specs.Ring.{Element, times}
use Rattle.qvm_ring.proofs.Associative.{times_assoc}
use Rattle.quil_value.proofs.Powers.{times_comm}

-- an operation whose operands may stand in any order
pub record IsAbelian {A : Type 0} (op : A → A → A) : Type 0 where
  pub assoc : (x y z : A) → op (op x y) z ≡ op x (op y z)
  pub comm : (x y : A) → op x y ≡ op y x
  pub left : (x y z : A) → op x (op y z) ≡ op y (op x z)

abelian : IsAbelian times
abelian = record {
  assoc = times_assoc;
  comm = times_comm;
  left = λ x y z. sym (times_assoc x y z) ∙ ap (λ (t : Element). times t z) (times_comm x y) ∙ times_assoc y x z;
}

product_first_in : {A : Type 0} (op : A → A → A) (h : IsAbelian op) (r w v n : A) → op (op r r) (op w (op v n)) ≡ op (op (op w v) r) (op r n)
product_first_in op h r w v n = simp (h.assoc, h.comm, h.left) refl

pub product_first : (r w v n : Element) → times (times r r) (times w (times v n)) ≡ times (times (times w v) r) (times r n)
product_first r w v n = product_first_in times abelian r w v n

dividend_first_in : {A : Type 0} (op : A → A → A) (h : IsAbelian op) (d n z r : A) → op (op d (op n n)) (op z r) ≡ op (op (op d z) n) (op r n)
dividend_first_in op h d n z r = simp (h.assoc, h.comm, h.left) refl

pub dividend_first : (d n z r : Element) → times (times d (times n n)) (times z r) ≡ times (times (times d z) n) (times r n)
dividend_first d n z r = dividend_first_in times abelian d n z r

power_inside_in : {A : Type 0} (op : A → A → A) (h : IsAbelian op) (w v m j : A) → op (op (op w v) m) j ≡ op (op (op w j) v) m
power_inside_in op h w v m j = simp (h.assoc, h.comm, h.left) refl

pub power_inside : (w v m j : Element) → times (times (times w v) m) j ≡ times (times (times w j) v) m
power_inside w v m j = power_inside_in times abelian w v m j

power_twice_in : {A : Type 0} (op : A → A → A) (h : IsAbelian op) (z n j : A) → op (op (op z n) j) j ≡ op (op (op j j) z) n
power_twice_in op h z n j = simp (h.assoc, h.comm, h.left) refl

pub power_twice : (z n j : Element) → times (times (times z n) j) j ≡ times (times (times j j) z) n
power_twice z n j = power_twice_in times abelian z n j

powers_apart_in : {A : Type 0} (op : A → A → A) (h : IsAbelian op) (w j v m k : A) → op (op (op (op w j) v) m) k ≡ op (op (op w k) j) (op v m)
powers_apart_in op h w j v m k = simp (h.assoc, h.comm, h.left) refl

pub powers_apart : (w j v m k : Element) → times (times (times (times w j) v) m) k ≡ times (times (times w k) j) (times v m)
powers_apart w j v m k = powers_apart_in times abelian w j v m k

powers_joined_in : {A : Type 0} (op : A → A → A) (h : IsAbelian op) (t j v m : A) → op (op (op t j) j) (op v m) ≡ op (op (op t v) m) (op j j)
powers_joined_in op h t j v m = simp (h.assoc, h.comm, h.left) refl

pub powers_joined : (t j v m : Element) → times (times (times t j) j) (times v m) ≡ times (times (times t v) m) (times j j)
powers_joined t j v m = powers_joined_in times abelian t j v m

powers_last_in : {A : Type 0} (op : A → A → A) (h : IsAbelian op) (z n k j : A) → op (op (op z n) k) (op j j) ≡ op (op (op (op j j) z) n) k
powers_last_in op h z n k j = simp (h.assoc, h.comm, h.left) refl

pub powers_last : (z n k j : Element) → times (times (times z n) k) (times j j) ≡ times (times (times (times j j) z) n) k
powers_last z n k j = powers_last_in times abelian z n k j

multiple_in_in : {A : Type 0} (op : A → A → A) (h : IsAbelian op) (q u v m c : A) → op (op (op (op q u) v) m) c ≡ op (op q (op v c)) (op u m)
multiple_in_in op h q u v m c = simp (h.assoc, h.comm, h.left) refl

pub multiple_in : (q u v m c : Element) → times (times (times (times q u) v) m) c ≡ times (times q (times v c)) (times u m)
multiple_in q u v m c = multiple_in_in times abelian q u v m c

odd_first_in : {A : Type 0} (op : A → A → A) (h : IsAbelian op) (q o p u m : A) → op (op q (op o p)) (op u m) ≡ op (op q o) (op (op u p) m)
odd_first_in op h q o p u m = simp (h.assoc, h.comm, h.left) refl

pub odd_first : (q o p u m : Element) → times (times q (times o p)) (times u m) ≡ times (times q o) (times (times u p) m)
odd_first q o p u m = odd_first_in times abelian q o p u m

multiple_out_in : {A : Type 0} (op : A → A → A) (h : IsAbelian op) (z n d c : A) → op (op (op z n) d) c ≡ op (op c z) (op n d)
multiple_out_in op h z n d c = simp (h.assoc, h.comm, h.left) refl

pub multiple_out : (z n d c : Element) → times (times (times z n) d) c ≡ times (times c z) (times n d)
multiple_out z n d c = multiple_out_in times abelian z n d c

dividend_apart_in : {A : Type 0} (op : A → A → A) (h : IsAbelian op) (x a n p m : A) → op (op x a) (op n (op p m)) ≡ op x (op (op a n) (op p m))
dividend_apart_in op h x a n p m = simp (h.assoc, h.comm, h.left) refl

pub dividend_apart : (x a n p m : Element) → times (times x a) (times n (times p m)) ≡ times x (times (times a n) (times p m))
dividend_apart x a n p m = dividend_apart_in times abelian x a n p m

quotient_inside_in : {A : Type 0} (op : A → A → A) (h : IsAbelian op) (t v m c : A) → op (op (op t v) m) c ≡ op (op t (op v c)) m
quotient_inside_in op h t v m c = simp (h.assoc, h.comm, h.left) refl

pub quotient_inside : (t v m c : Element) → times (times (times t v) m) c ≡ times (times t (times v c)) m
quotient_inside t v m c = quotient_inside_in times abelian t v m c

quotient_odd_in : {A : Type 0} (op : A → A → A) (h : IsAbelian op) (t o p m : A) → op (op t (op o p)) m ≡ op (op t (op p m)) o
quotient_odd_in op h t o p m = simp (h.assoc, h.comm, h.left) refl

pub quotient_odd : (t o p m : Element) → times (times t (times o p)) m ≡ times (times t (times p m)) o
quotient_odd t o p m = quotient_odd_in times abelian t o p m

quotient_dividend_in : {A : Type 0} (op : A → A → A) (h : IsAbelian op) (x a n k : A) → op (op x a) (op n k) ≡ op x (op (op a n) k)
quotient_dividend_in op h x a n k = simp (h.assoc, h.comm, h.left) refl

pub quotient_dividend : (x a n k : Element) → times (times x a) (times n k) ≡ times x (times (times a n) k)
quotient_dividend x a n k = quotient_dividend_in times abelian x a n k

factors_swapped_in : {A : Type 0} (op : A → A → A) (h : IsAbelian op) (f s z : A) → op (op f s) z ≡ op s (op f z)
factors_swapped_in op h f s z = simp (h.assoc, h.comm, h.left) refl

pub factors_swapped : (f s z : Element) → times (times f s) z ≡ times s (times f z)
factors_swapped f s z = factors_swapped_in times abelian f s z

odd_last_in : {A : Type 0} (op : A → A → A) (h : IsAbelian op) (t k o : A) → op (op t k) o ≡ op (op t o) k
odd_last_in op h t k o = simp (h.assoc, h.comm, h.left) refl

pub odd_last : (t k o : Element) → times (times t k) o ≡ times (times t o) k
odd_last t k o = odd_last_in times abelian t k o

level_apart_in : {A : Type 0} (op : A → A → A) (h : IsAbelian op) (x k f s : A) → op (op (op x k) f) s ≡ op (op (op x f) s) k
level_apart_in op h x k f s = simp (h.assoc, h.comm, h.left) refl

pub level_apart : (x k f s : Element) → times (times (times x k) f) s ≡ times (times (times x f) s) k
level_apart x k f s = level_apart_in times abelian x k f s

level_last_in : {A : Type 0} (op : A → A → A) (h : IsAbelian op) (o e s k : A) → op (op (op o e) s) k ≡ op (op o s) (op k e)
level_last_in op h o e s k = simp (h.assoc, h.comm, h.left) refl

pub level_last : (o e s k : Element) → times (times (times o e) s) k ≡ times (times o s) (times k e)
level_last o e s k = level_last_in times abelian o e s k

rational_up_in : {A : Type 0} (op : A → A → A) (h : IsAbelian op) (p v m d k : A) → op (op (op p v) m) (op d k) ≡ op (op (op p d) v) (op m k)
rational_up_in op h p v m d k = simp (h.assoc, h.comm, h.left) refl

pub rational_up : (p v m d k : Element) → times (times (times p v) m) (times d k) ≡ times (times (times p d) v) (times m k)
rational_up p v m d k = rational_up_in times abelian p v m d k

rational_down_in : {A : Type 0} (op : A → A → A) (h : IsAbelian op) (q z n d k : A) → op (op (op q z) n) (op d k) ≡ op q (op (op z k) (op d n))
rational_down_in op h q z n d k = simp (h.assoc, h.comm, h.left) refl

pub rational_down : (q z n d k : Element) → times (times (times q z) n) (times d k) ≡ times q (times (times z k) (times d n))
rational_down q z n d k = rational_down_in times abelian q z n d k

rational_last_in : {A : Type 0} (op : A → A → A) (h : IsAbelian op) (q t m u k : A) → op q (op (op t m) (op u k)) ≡ op (op (op q u) t) (op m k)
rational_last_in op h q t m u k = simp (h.assoc, h.comm, h.left) refl

pub rational_last : (q t m u k : Element) → times q (times (times t m) (times u k)) ≡ times (times (times q u) t) (times m k)
rational_last q t m u k = rational_last_in times abelian q t m u k
