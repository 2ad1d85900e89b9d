-- The condition under which one token decides each choice, computed from tables.
use Rattle.std.specs.Prelude.{◌≡◌, ℕ, Bool, true, false, not, ◌&&◌, ◌||◌, List, Some, nat_lt, slice_get}
use Rattle.std.specs.List.{list_all}
use Rattle.quil_shape.specs.Shape.{Shape, Grammar}
use Rattle.quil_shape.specs.Shape.Shape.{One, Emit, Empty, Seq, Or, Many, Rule}

-- all values of a type in a list, with each one's place in it
pub record Listing (A : Type 0) : Type 0 where
  pub items : List A
  pub place : A → ℕ
  pub is_listed : (a : A) → slice_get items (place a) ≡ Some a

-- The tables: all kinds, all rules; the kinds that may open a rule; whether it may be empty; the kinds that
-- may follow it; and a rank above that of each rule that it may begin with.
pub record Tables (R K : Type 0) : Type 0 where
  pub kinds : Listing K
  pub rules : Listing R
  pub opens : R → K → Bool
  pub skippable : R → Bool
  pub follow : R → K → Bool
  pub rank : R → ℕ

-- the shape may be empty
abbrev pub skips : {C O R K : Type 0} → Tables R K → Shape C O R → Bool
skips tables (One c) = false
skips tables (Emit o) = true
skips tables Empty = true
skips tables (Seq a b) = skips tables a && skips tables b
skips tables (Or a b) = skips tables a || skips tables b
skips tables (Many a) = true
skips tables (Rule r) = tables.skippable r

-- a token of the kind may open the shape
abbrev pub opens : {C O R K T : Type 0} → Grammar C O R K T → Tables R K → Shape C O R → K → Bool
opens g tables (One c) k = g.accepts c k
opens g tables (Emit o) k = false
opens g tables Empty k = false
opens g tables (Seq a b) k = opens g tables a k || (skips tables a && opens g tables b k)
opens g tables (Or a b) k = opens g tables a k || opens g tables b k
opens g tables (Many a) k = opens g tables a k
opens g tables (Rule r) k = tables.opens r k

-- a token of the kind may open what begins with the shape and goes on with one of `follow`
abbrev pub ahead : {C O R K T : Type 0} → Grammar C O R K T → Tables R K → Shape C O R → (K → Bool) → K → Bool
ahead g tables s follow k = opens g tables s k || (skips tables s && follow k)

-- what the first gives, the second gives
abbrev pub implies : Bool → Bool → Bool
implies a b = not a || b

-- no kind passes both tests
abbrev pub is_apart : {R K : Type 0} → Tables R K → (K → Bool) → (K → Bool) → Bool
is_apart tables p q = list_all (λ k. not (p k && q k)) tables.kinds.items

-- each kind that passes the first test passes the second
abbrev pub is_within : {R K : Type 0} → Tables R K → (K → Bool) → (K → Bool) → Bool
is_within tables p q = list_all (λ k. implies (p k) (q k)) tables.kinds.items

-- One token decides each choice in the shape, where a token of `follow` comes behind it:
-- members of a choice open apart, at most one may be empty, and what follows doesn't open the other;
-- a part of a repetition isn't empty, and what follows doesn't open it.
abbrev pub is_clear : {C O R K T : Type 0} → Grammar C O R K T → Tables R K → (K → Bool) → Shape C O R → Bool
is_clear g tables follow (One c) = true
is_clear g tables follow (Emit o) = true
is_clear g tables follow Empty = true
is_clear g tables follow (Seq a b) = is_clear g tables (ahead g tables b follow) a && is_clear g tables follow b
is_clear g tables follow (Or a b) = (is_clear g tables follow a && is_clear g tables follow b) && (is_apart tables (opens g tables a) (opens g tables b) && (implies (skips tables a) (not (skips tables b) && is_apart tables follow (opens g tables b)) && implies (skips tables b) (is_apart tables follow (opens g tables a))))
is_clear g tables follow (Many a) = is_clear g tables (λ k. opens g tables a k || follow k) a && (not (skips tables a) && is_apart tables follow (opens g tables a))
is_clear g tables follow (Rule r) = is_within tables follow (tables.follow r)

-- each rule with which the shape may begin passes the test
abbrev pub leads : {C O R K : Type 0} → Tables R K → (R → Bool) → Shape C O R → Bool
leads tables test (One c) = true
leads tables test (Emit o) = true
leads tables test Empty = true
leads tables test (Seq a b) = leads tables test a && implies (skips tables a) (leads tables test b)
leads tables test (Or a b) = leads tables test a && leads tables test b
leads tables test (Many a) = leads tables test a
leads tables test (Rule r) = test r

-- the tables tell the truth about a rule, its body is clear, and it doesn't begin with itself
abbrev pub is_clear_rule : {C O R K T : Type 0} → Grammar C O R K T → Tables R K → R → Bool
is_clear_rule g tables r = (is_within tables (opens g tables (g.body r)) (tables.opens r) && implies (skips tables (g.body r)) (tables.skippable r)) && (is_clear g tables (tables.follow r) (g.body r) && leads tables (λ q. nat_lt (tables.rank q) (tables.rank r)) (g.body r))

-- the condition: each rule is clear, and so is the shape, with nothing behind it
abbrev pub is_decided_by_one_token : {C O R K T : Type 0} → Grammar C O R K T → Tables R K → Shape C O R → Bool
is_decided_by_one_token g tables s = is_clear g tables (λ k. false) s && list_all (is_clear_rule g tables) tables.rules.items
