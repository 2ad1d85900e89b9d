-- An operand is read as an expression without references is, where no whole number is all of it.
use Rattle.std.proofs.Common.{◌≡◌, Bool, true, false, not, ◌||◌, ◌&&◌, List, [], ◌∷◌, refl, sym, ◌∙◌, ap, ap₂, subst}
use Rattle.quil_shape.specs.Shape.{Shape}
use Rattle.quil_shape.specs.Shape.Shape.{One, Seq, Or, Rule}
use Rattle.quil_shape.specs.Condition.{skips}
use Rattle.quil_shape.specs.Outcome.{Outcome}
use Rattle.quil_shape.specs.Outcome.Outcome.{Stuck}
use Rattle.quil_shape.specs.Reads.{Reads, starts, is_barred}
use Rattle.quil_grammar.specs.Token.{Token}
use Rattle.quil_grammar.specs.Grammar.{quil, accepts, Name, Sum, OperandSum, OperandPrimary, Primary, Event, body_of, cell, is_wide_whole_next, is_whole_number, is_wide, is_operator_next}
use Rattle.quil_grammar.specs.Tables.{tables}
use Rattle.quil_grammar.specs.Literals.{is_plain_next, is_signed_next}
use Rattle.quil_grammar.specs.declared.class.Class.{Class}
use Rattle.quil_grammar.specs.declared.class.Class.TheVariants as class

-- what reading the first shape from these tokens comes to, reading the second does
record Moves (a b : Shape Class Event Name) (ts : List Token) : Type 0 where
  same : starts quil tables b ts ≡ starts quil tables a ts
  same_skips : skips tables b ≡ skips tables a
  moves : (out : Outcome Event Token) → Reads quil tables a ts out → Reads quil tables b ts out

or_nothing : (b : Bool) → (b || false) ≡ b
or_nothing true = refl
or_nothing false = refl

never : (b : Bool) → (b && false) ≡ false
never true = refl
never false = refl

starts_or : (a b : Shape Class Event Name) (ts : List Token) → starts quil tables (Or a b) ts ≡ (starts quil tables a ts || starts quil tables b ts)
starts_or a b [] = refl
starts_or a b (t ∷ ts) = refl

starts_seq : (a b : Shape Class Event Name) (ts : List Token) → skips tables a ≡ false → starts quil tables (Seq a b) ts ≡ starts quil tables a ts
starts_seq a b [] e = refl
starts_seq a b (t ∷ ts) e = rw e (or_nothing _)

same_barred : (a b : Shape Class Event Name) (ts : List Token) → starts quil tables b ts ≡ starts quil tables a ts → skips tables b ≡ skips tables a → is_barred quil tables a ts ≡ true → is_barred quil tables b ts ≡ true
same_barred a b ts e f h = rw (e, f) h

same_choice : {a b c d : Shape Class Event Name} {ts : List Token} → Moves a c ts → Moves b d ts → (starts quil tables a ts || is_barred quil tables b ts) ≡ true → (starts quil tables c ts || is_barred quil tables d ts) ≡ true
same_choice m n h = rw (m.same, n.same, n.same_skips) h

or_same : {a b c d : Shape Class Event Name} {ts : List Token} → Moves a c ts → Moves b d ts → starts quil tables (Or c d) ts ≡ starts quil tables (Or a b) ts
or_same {a = a} {b = b} {c = c} {d = d} {ts = ts} m n = starts_or c d ts ∙ ap₂ (λ x y. x || y) m.same n.same ∙ sym (starts_or a b ts)

or_reads : {a b c d : Shape Class Event Name} {ts : List Token} {out : Outcome Event Token} → Moves a c ts → Moves b d ts → Reads quil tables (Or a b) ts out → Reads quil tables (Or c d) ts out
or_reads m n (Reads.left h r) = Reads.left (same_choice m n h) (m.moves _ r)
or_reads m n (Reads.right h r) = Reads.right (same_choice n m h) (n.moves _ r)
or_reads {a = a} {b = b} {c = c} {d = d} {ts = ts} m n (Reads.barred h) = Reads.barred (same_barred (Or a b) (Or c d) ts (or_same m n) (ap₂ (λ x y. x || y) m.same_skips n.same_skips) h)

or_moves : {a b c d : Shape Class Event Name} {ts : List Token} → Moves a c ts → Moves b d ts → Moves (Or a b) (Or c d) ts
or_moves m n = record { same = or_same m n; same_skips = ap₂ (λ x y. x || y) m.same_skips n.same_skips; moves = λ out r. or_reads m n r }

seq_same : {a c : Shape Class Event Name} {ts : List Token} (b : Shape Class Event Name) → skips tables a ≡ false → Moves a c ts → starts quil tables (Seq c b) ts ≡ starts quil tables (Seq a b) ts
seq_same {a = a} {c = c} {ts = ts} b e m = starts_seq c b ts (m.same_skips ∙ e) ∙ m.same ∙ sym (starts_seq a b ts e)

seq_reads : {a b c : Shape Class Event Name} {ts : List Token} {out : Outcome Event Token} → skips tables a ≡ false → Moves a c ts → Reads quil tables (Seq a b) ts out → Reads quil tables (Seq c b) ts out
seq_reads e m (Reads.seq r q) = Reads.seq (m.moves _ r) q
seq_reads e m (Reads.seq_stuck r) = Reads.seq_stuck (m.moves _ r)
seq_reads e m (Reads.seq_large r) = Reads.seq_large (m.moves _ r)
seq_reads {a = a} {b = b} {c = c} {ts = ts} e m (Reads.barred h) = Reads.barred (same_barred (Seq a b) (Seq c b) ts (seq_same b e m) (ap (λ x. x && skips tables b) m.same_skips) h)

seq_moves : {a b c : Shape Class Event Name} {ts : List Token} → skips tables a ≡ false → Moves a c ts → Moves (Seq a b) (Seq c b) ts
seq_moves {b = b} e m = record { same = seq_same b e m; same_skips = ap (λ x. x && skips tables b) m.same_skips; moves = λ out r. seq_reads e m r }

rule_reads : {r q : Name} {ts : List Token} {out : Outcome Event Token} → starts quil tables (Rule q) ts ≡ starts quil tables (Rule r) ts → Moves (body_of r) (body_of q) ts → Reads quil tables (Rule r) ts out → Reads quil tables (Rule q) ts out
unfolding quil tables
rule_reads e m (Reads.rule x) = Reads.rule (m.moves _ x)
rule_reads {r = r} {q = q} {ts = ts} e m (Reads.barred h) = Reads.barred (same_barred (Rule r) (Rule q) ts e refl h)

rule_moves : {r q : Name} {ts : List Token} → starts quil tables (Rule q) ts ≡ starts quil tables (Rule r) ts → Moves (body_of r) (body_of q) ts → Moves (Rule r) (Rule q) ts
unfolding quil tables
rule_moves e m = record { same = e; same_skips = refl; moves = λ out x. rule_reads e m x }

still : {a : Shape Class Event Name} {ts : List Token} → Moves a a ts
still = record { same = refl; same_skips = refl; moves = λ out r. r }

-- where references aren't taken, no cell is read
no_cell_starts : (ts : List Token) → starts quil tables (cell false) ts ≡ false
unfolding quil tables
no_cell_starts [] = refl
no_cell_starts (t ∷ ts) = rw never refl

pub no_region : (b : Bool) → (b && false) ≡ true → ⊥
no_region true e = absurd (cc)
no_region false e = absurd (cc)

cell_stuck : {ts : List Token} {out : Outcome Event Token} → Reads quil tables (cell false) ts out → out ≡ Stuck ts
unfolding quil tables
cell_stuck (Reads.seq (Reads.one h l) q) = absurd (no_region _ h)
cell_stuck (Reads.seq_stuck (Reads.barred h)) = refl
cell_stuck (Reads.seq_large (Reads.one_large h l)) = absurd (no_region _ h)
cell_stuck (Reads.barred h) = refl

or_cell : (b : Shape Class Event Name) (ts : List Token) → starts quil tables (Or (cell false) b) ts ≡ starts quil tables b ts
or_cell b ts = starts_or (cell false) b ts ∙ ap (λ x. x || starts quil tables b ts) (no_cell_starts ts)

cell_reads : {b : Shape Class Event Name} {ts : List Token} {out : Outcome Event Token} → Reads quil tables (Or (cell false) b) ts out → Reads quil tables b ts out
cell_reads {b = b} {ts = ts} (Reads.left h r) = subst (λ x. Reads quil tables b ts x) (sym (cell_stuck r)) (Reads.barred (subst (λ x. (x || is_barred quil tables b ts) ≡ true) (no_cell_starts ts) h))
cell_reads (Reads.right h r) = r
cell_reads {b = b} {ts = ts} (Reads.barred h) = Reads.barred (same_barred (Or (cell false) b) b ts (sym (or_cell b ts)) refl h)

cell_moves : {b c : Shape Class Event Name} {ts : List Token} → Moves b c ts → Moves (Or (cell false) b) c ts
cell_moves {b = b} {ts = ts} m = record { same = m.same ∙ sym (or_cell b ts); same_skips = m.same_skips; moves = λ out r. m.moves out (cell_reads r) }

-- the first token
number_reads : {ts : List Token} {out : Outcome Event Token} → is_wide_whole_next ts ≡ false → Reads quil tables (One class.Number) ts out → Reads quil tables (One class.OperandNumber) ts out
unfolding quil tables
number_reads e (Reads.one h l) = Reads.one h e
number_reads e (Reads.one_large h l) = absurd (cc)
number_reads e (Reads.barred h) = Reads.barred h

number_moves : {ts : List Token} → is_wide_whole_next ts ≡ false → Moves (One class.Number) (One class.OperandNumber) ts
unfolding quil tables
number_moves e = record { same = refl; same_skips = refl; moves = λ out r. number_reads e r }

-- no such number comes next behind a sign
abbrev is_signed_wide : List Token → Bool
is_signed_wide [] = false
is_signed_wide (t ∷ ts) = accepts class.Sign t.sort && is_wide_whole_next ts

pub second_false : (a b : Bool) → a ≡ true → (a && b) ≡ false → b ≡ false
second_false true b e f = f
second_false false b e f = absurd (cc)

sign_reads : {ts : List Token} {out : Outcome Event Token} → is_signed_wide ts ≡ false → Reads quil tables (One class.Sign) ts out → Reads quil tables (One class.OperandSign) ts out
unfolding quil tables
sign_reads e (Reads.one h l) = Reads.one h (second_false _ _ h e)
sign_reads e (Reads.one_large h l) = absurd (cc)
sign_reads e (Reads.barred h) = Reads.barred h

sign_moves : {ts : List Token} → is_signed_wide ts ≡ false → Moves (One class.Sign) (One class.OperandSign) ts
unfolding quil tables
sign_moves e = record { same = refl; same_skips = refl; moves = λ out r. sign_reads e r }

primary_moves : {ts : List Token} → is_wide_whole_next ts ≡ false → Moves (Rule (Primary false)) (Rule OperandPrimary) ts
unfolding quil tables
primary_moves e = rule_moves refl (or_moves (number_moves e) (or_moves still (or_moves still (or_moves still (or_moves still (cell_moves still))))))

sum_moves : {ts : List Token} → is_wide_whole_next ts ≡ false → is_signed_wide ts ≡ false → Moves (Rule (Sum false)) (Rule OperandSum) ts
unfolding quil tables
sum_moves e f = rule_moves refl (seq_moves refl (rule_moves refl (seq_moves refl (rule_moves refl (or_moves (seq_moves refl (sign_moves f)) (rule_moves refl (seq_moves refl (primary_moves e))))))))

-- where no whole number is all of the operand, none is too large
not_wide : (d w o : Bool) → (d && not o) ≡ false → (d && (w && not o)) ≡ false
not_wide true true o e = e
not_wide true false o e = refl
not_wide false w o e = refl

plain_not_wide : (ts : List Token) → is_plain_next ts ≡ false → is_wide_whole_next ts ≡ false
plain_not_wide [] e = refl
plain_not_wide (t ∷ ts) e = not_wide (is_whole_number t) (is_wide t) (is_operator_next ts) e

behind_sign : (a : Bool) (ts : List Token) → (a && is_plain_next ts) ≡ false → (a && is_wide_whole_next ts) ≡ false
behind_sign true ts e = plain_not_wide ts e
behind_sign false ts e = refl

signed_not_wide : (ts : List Token) → is_signed_next ts ≡ false → is_signed_wide ts ≡ false
signed_not_wide [] e = refl
signed_not_wide (t ∷ ts) e = behind_sign (accepts class.Sign t.sort) ts e

pub operand_reads : (ts : List Token) (out : Outcome Event Token) → is_plain_next ts ≡ false → is_signed_next ts ≡ false → Reads quil tables (Rule (Sum false)) ts out → Reads quil tables (Rule OperandSum) ts out
operand_reads ts out e f r = (sum_moves (plain_not_wide ts e) (signed_not_wide ts f)).moves out r
