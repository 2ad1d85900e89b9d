-- What each exit of the example's reader means, by the laws.
use Rattle.std.proofs.Common.{◌≡◌, ℕ, zero, suc, ◌+◌, ◌-◌, add-one, ◌<◌, Bool, true, false, not, ◌&&◌, ◌||◌, nat_lt, List, [], ◌∷◌, ◌++◌, length, drop, ◌≤◌, refl, sym, ◌∙◌, ap, subst, arith, lt-ltb, le-ltb, eqb-true}
use Rattle.std.proofs.lemmas.List.{nil_from_length}
use Rattle.std.specs.Prelude.{Some, None, slice_get, Result, Err, ◌==◌}
use Rattle.std.specs.Result.{IsErrAnd}
use Rattle.std.proofs.lemmas.Result.{err_from_is_err_and}
use Rattle.quil_shape.specs.Condition.{is_decided_by_one_token}
use Rattle.quil_shape.specs.Verdict.{Verdict, IsVerdict, IsOnlyVerdict}
use Rattle.quil_shape.specs.Verdict.Verdict.{Read, Refused}
use Rattle.quil_shape.specs.Outcome.Outcome.{Stuck}
use Rattle.quil_shape.proofs.Verdicts.{verdict_only}
use Rattle.quil_shape.proofs.Places.{end_verdict, halted_verdict, large_verdict, refused_place, large_place}
use Rattle.quil_shape.specs.NestedReader.{ending_of, IsTold, IsTrueFault, Tells, fault_at}
use Rattle.quil_shape.specs.declared.example.Stop.{Stop}
use Rattle.quil_shape.specs.declared.example.Stop.TheVariants.{OutOfMemory as NoMemory, Unexpected as Misplaced, TooLarge as Oversized}
use Rattle.quil_shape.specs.Shape.{Shape}
use Rattle.quil_shape.specs.Shape.Shape.{One, Emit, Empty, Rule}
use Rattle.quil_shape.specs.Reads.{Halts, GoesOn, Ending, ReadsOn, StopsAt, ExceedsAt, starts, is_barred}
use Rattle.quil_shape.specs.Nested.{nested, tables, Class, Name, LastNumber, Nest, Item, number, range_end, pending, list, number_next, is_range_next, opens_item}
use Rattle.quil_shape.specs.declared.example.Token.{Token}
use Rattle.quil_shape.specs.declared.example.Step.{Step}
use Rattle.quil_shape.specs.declared.example.Token.TheVariants.{Open, Close, Comma, Dots, Number}
use Rattle.quil_shape.specs.declared.example.Step.TheVariants.{Begin, Value, Range, End}
use Rattle.quil_shape.proofs.Reading.{reading, resuming, token_advances, token_halts, token_exceeds, end_halts, barred_halts, empty_advances, goes_next, goes_past, goes_seq, goes_first, goes_second, goes_then, stops_here, stops_behind, exceeds_here, exceeds_behind, goes_still, reads_behind}

-- the tokens from the next mark on
mark_first : (mark : Token) (us : List Token) → slice_get us 0 ≡ Some mark → us ≡ mark ∷ drop 1 us
mark_first mark [] e = absurd (cc)
mark_first mark (t ∷ us) e = cc

-- the tokens from the next number on
number_first : (n : ℕ) (us : List Token) → number_next us ≡ Some n → us ≡ Number n ∷ drop 1 us
number_first n [] e = absurd (cc)
number_first n (Open ∷ us) e = absurd (cc)
number_first n (Close ∷ us) e = absurd (cc)
number_first n (Comma ∷ us) e = absurd (cc)
number_first n (Dots ∷ us) e = absurd (cc)
number_first n (Number m ∷ us) e = cc

-- the same step from equal tokens to equal steps
goes_at : {todo left : List (Shape Class Step Name)} {us us' vs : List Token} {os ps ps' : List Step} → us ≡ us' → ps ≡ ps' → GoesOn nested tables todo us' os left vs ps' → GoesOn nested tables todo us os left vs ps
goes_at {todo = todo} {left = left} {us = us} {us' = us'} {vs = vs} {os = os} {ps = ps} {ps' = ps'} e f h = subst (λ xs. GoesOn nested tables todo xs os left vs ps) (sym e) (subst (λ xs. GoesOn nested tables todo us' os left vs xs) (sym f) h)

stops_at : {todo : List (Shape Class Step Name)} {us us' vs : List Token} {os : List Step} → us ≡ us' → StopsAt nested tables todo us' os vs → StopsAt nested tables todo us os vs
stops_at {todo = todo} {vs = vs} {os = os} e h = subst (λ xs. StopsAt nested tables todo xs os vs) (sym e) h

exceeds_at : {todo : List (Shape Class Step Name)} {us us' vs : List Token} {os : List Step} → us ≡ us' → ExceedsAt nested tables todo us' os vs → ExceedsAt nested tables todo us os vs
exceeds_at {todo = todo} {vs = vs} {os = os} e h = subst (λ xs. ExceedsAt nested tables todo xs os vs) (sym e) h

-- the tokens from a mark on, and from a number on
at_mark : {mark : Token} {us vs : List Token} → slice_get us 0 ≡ Some mark → vs ≡ drop 1 us → us ≡ mark ∷ vs
at_mark {mark = mark} {us = us} e d = mark_first mark us e ∙ ap (λ xs. mark ∷ xs) (sym d)

at_number : {n : ℕ} {us vs : List Token} → number_next us ≡ Some n → vs ≡ drop 1 us → us ≡ Number n ∷ vs
at_number {n = n} {us = us} e d = number_first n us e ∙ ap (λ xs. Number n ∷ xs) (sym d)

-- where no number stands, none is read
no_number_halts : (us : List Token) → number_next us ≡ None → Halts nested tables (One LastNumber) us us
unfolding nested
no_number_halts [] e = end_halts
no_number_halts (Open ∷ us) e = token_halts refl
no_number_halts (Close ∷ us) e = token_halts refl
no_number_halts (Comma ∷ us) e = token_halts refl
no_number_halts (Dots ∷ us) e = token_halts refl
no_number_halts (Number m ∷ us) e = absurd (cc)

-- behind the dots the other end is to be read
dots_go : (us : List Token) (os : List Step) (todo : List (Shape Class Step Name)) → GoesOn nested tables (range_end ∷ todo) (Dots ∷ us) os (One LastNumber ∷ Emit Range ∷ todo) us os
unfolding nested tables
dots_go us os todo = search (resuming, reading)

range_end_at : (us : List Token) (os : List Step) (n : ℕ) (todo : List (Shape Class Step Name)) → GoesOn nested tables (range_end ∷ todo) (Dots ∷ Number n ∷ us) os todo us ((os ++ Value n ∷ []) ++ Range ∷ [])
unfolding nested tables
range_end_at us os n todo = search (resuming, reading) depth 8

pub range_end_goes : (us vs ws : List Token) (os ps qs : List Step) (n : ℕ) (todo : List (Shape Class Step Name)) → slice_get us 0 ≡ Some Dots → vs ≡ drop 1 us → number_next vs ≡ Some n → ws ≡ drop 1 vs → ps ≡ os ++ Value n ∷ [] → qs ≡ ps ++ Range ∷ [] → GoesOn nested tables (range_end ∷ todo) us os todo ws qs
range_end_goes us vs ws os ps qs n todo dots d digits e f h =
    goes_at (at_mark dots d ∙ ap (λ xs. Dots ∷ xs) (at_number digits e)) (h ∙ ap (λ xs. xs ++ Range ∷ []) f) (range_end_at ws os n todo)

pub range_end_stops : (us vs : List Token) (os : List Step) (todo : List (Shape Class Step Name)) → slice_get us 0 ≡ Some Dots → vs ≡ drop 1 us → number_next vs ≡ None → StopsAt nested tables (range_end ∷ todo) us os vs
range_end_stops us vs os todo dots d no_digits = stops_at (at_mark dots d) (stops_behind (dots_go vs os todo) (stops_here (no_number_halts vs no_digits)))

-- the dots stand behind the next number, or they don't
dots_behind : (us vs : List Token) → slice_get us 1 ≡ Some Dots → vs ≡ drop 1 us → slice_get vs 0 ≡ Some Dots
dots_behind [] vs e d = absurd (cc)
dots_behind (t ∷ us) vs e d = subst (λ xs. slice_get xs 0 ≡ Some Dots) (sym d) e

dots_before : (us vs : List Token) → slice_get vs 0 ≡ Some Dots → vs ≡ drop 1 us → slice_get us 1 ≡ Some Dots
dots_before [] vs e d = absurd (cc)
dots_before (t ∷ us) vs e d = subst (λ xs. slice_get xs 0 ≡ Some Dots) d e

no_dots_behind : (us : List Token) → (slice_get us 0 ≡ Some Dots → ⊥) → is_range_next us ≡ false
no_dots_behind [] f = refl
no_dots_behind (Open ∷ us) f = refl
no_dots_behind (Close ∷ us) f = refl
no_dots_behind (Comma ∷ us) f = refl
no_dots_behind (Dots ∷ us) f = absurd (f refl)
no_dots_behind (Number m ∷ us) f = refl

alone_behind : (us vs : List Token) → (slice_get us 1 ≡ Some Dots → ⊥) → vs ≡ drop 1 us → is_range_next vs ≡ false
alone_behind us vs alone d = no_dots_behind vs (λ e. alone (dots_before us vs e d))

-- sizes
range_is_small : (small : Bool) → (not small && not true) ≡ false
range_is_small true = refl
range_is_small false = refl

small_is_not_large : (small range : Bool) → small ≡ true → (not small && not range) ≡ false
small_is_not_large true range e = refl
small_is_not_large false range e = absurd (cc)

large_is_large : (small range : Bool) → small ≡ false → range ≡ false → (not small && not range) ≡ true
large_is_large small range e f = rw (e, f)

no_range : (us : List Token) → is_range_next us ≡ false → (starts nested tables Empty us || is_barred nested tables range_end us) ≡ true
unfolding nested tables
no_range [] e = refl
no_range (Open ∷ us) e = refl
no_range (Close ∷ us) e = refl
no_range (Comma ∷ us) e = refl
no_range (Dots ∷ us) e = absurd (cc)
no_range (Number m ∷ us) e = refl

range_begins : (us : List Token) (os : List Step) (n : ℕ) (todo : List (Shape Class Step Name)) → slice_get us 0 ≡ Some Dots → GoesOn nested tables (number ∷ todo) (Number n ∷ us) os (range_end ∷ todo) us (os ++ Value n ∷ [])
unfolding nested
range_begins [] os n todo dots = absurd (cc)
range_begins (Dots ∷ us) os n todo dots = goes_then goes_seq (goes_then (goes_next (token_advances refl (range_is_small (nat_lt n 256)))) (goes_first refl))
range_begins (Open ∷ us) os n todo dots = absurd (cc)
range_begins (Close ∷ us) os n todo dots = absurd (cc)
range_begins (Comma ∷ us) os n todo dots = absurd (cc)
range_begins (Number m ∷ us) os n todo dots = absurd (cc)

number_alone : (us : List Token) (os : List Step) (n : ℕ) (todo : List (Shape Class Step Name)) → nat_lt n 256 ≡ true → is_range_next us ≡ false → GoesOn nested tables (number ∷ todo) (Number n ∷ us) os todo us (os ++ Value n ∷ [])
unfolding nested
number_alone us os n todo small alone = goes_then goes_seq (goes_then (goes_next (token_advances refl (small_is_not_large (nat_lt n 256) (is_range_next us) small))) (goes_then (goes_second (no_range us alone)) (goes_past empty_advances)))

number_too_large : (us : List Token) (os : List Step) (n : ℕ) (todo : List (Shape Class Step Name)) → nat_lt n 256 ≡ false → is_range_next us ≡ false → ExceedsAt nested tables (number ∷ todo) (Number n ∷ us) os (Number n ∷ us)
unfolding nested
number_too_large us os n todo large alone = exceeds_behind goes_seq (exceeds_here (token_exceeds refl (large_is_large (nat_lt n 256) (is_range_next us) large alone)))

-- a number with dots behind it goes on to the end of the range
pub number_then_range : (us vs ws : List Token) (os ps qs : List Step) (n : ℕ) (todo : List (Shape Class Step Name)) (r : Ending) → number_next us ≡ Some n → slice_get us 1 ≡ Some Dots → vs ≡ drop 1 us → ps ≡ os ++ Value n ∷ [] → ((any : List (Shape Class Step Name)) → ReadsOn nested tables (range_end ∷ any) vs ps any ws qs r) → ReadsOn nested tables (number ∷ todo) us os todo ws qs r
number_then_range us vs ws os ps qs n todo r digits dots d e h = reads_behind (number ∷ todo) (range_end ∷ todo) todo us vs ws os ps qs r (goes_at (at_number digits d) e (range_begins vs os n todo (dots_behind us vs dots d))) (h todo)

pub number_goes : (us vs : List Token) (os ps : List Step) (n : ℕ) (todo : List (Shape Class Step Name)) → number_next us ≡ Some n → n < 256 → (slice_get us 1 ≡ Some Dots → ⊥) → vs ≡ drop 1 us → ps ≡ os ++ Value n ∷ [] → GoesOn nested tables (number ∷ todo) us os todo vs ps
number_goes us vs os ps n todo digits small alone d e = goes_at (at_number digits d) e (number_alone vs os n todo (lt-ltb n 256 small) (alone_behind us vs alone d))

pub number_exceeds : (us : List Token) (os : List Step) (n : ℕ) (todo : List (Shape Class Step Name)) → number_next us ≡ Some n → 256 ≤ n → (slice_get us 1 ≡ Some Dots → ⊥) → ExceedsAt nested tables (number ∷ todo) us os us
number_exceeds us os n todo digits large alone =
    let e : us ≡ Number n ∷ drop 1 us = at_number digits refl in
    exceeds_at e (subst (λ xs. ExceedsAt nested tables (number ∷ todo) (Number n ∷ drop 1 us) os xs) (sym e) (number_too_large (drop 1 us) os n todo (le-ltb n 256 large) (alone_behind us (drop 1 us) alone refl)))

-- a list is opened inside the lists that are open
nest_at : (us : List Token) (os : List Step) (depth : ℕ) → GoesOn nested tables (Rule Nest ∷ pending true depth) (Open ∷ us) os (pending false (suc depth)) us (os ++ Begin ∷ [])
unfolding nested tables
nest_at us os depth = search (resuming, reading)

pub nest_opens : (us vs : List Token) (os ps : List Step) (depth more : ℕ) → slice_get us 0 ≡ Some Open → vs ≡ drop 1 us → ps ≡ os ++ Begin ∷ [] → more ≡ depth + 1 → GoesOn nested tables (Rule Nest ∷ pending true depth) us os (pending false more) vs ps
nest_opens us vs os ps depth more bracket d e f =
    subst (λ n. GoesOn nested tables (Rule Nest ∷ pending true depth) us os (pending false n) vs ps) (sym (f ∙ add-one depth)) (goes_at (at_mark bracket d) e (nest_at vs os depth))

-- the innermost list is closed, empty or behind an item
closed : (b : Bool) (us : List Token) (os : List Step) (depth : ℕ) → GoesOn nested tables (pending b (suc depth)) (Close ∷ us) os (pending true depth) us (os ++ End ∷ [])
unfolding nested tables
closed true us os depth = search (resuming, reading)
closed false us os depth = search (resuming, reading)

pub closes : (b : Bool) (us vs : List Token) (os ps : List Step) (depth less : ℕ) → slice_get us 0 ≡ Some Close → vs ≡ drop 1 us → ps ≡ os ++ End ∷ [] → 0 < depth → less ≡ depth - 1 → GoesOn nested tables (pending b depth) us os (pending true less) vs ps
closes b us vs os ps depth less bracket d e inside f =
    let g : depth ≡ less + 1 = omega arith in
    subst (λ n. GoesOn nested tables (pending b n) us os (pending true less) vs ps) (sym (g ∙ add-one less)) (goes_at (at_mark bracket d) e (closed b vs os less))

-- a number is an item
number_is_item : (us : List Token) (os : List Step) (n : ℕ) (todo : List (Shape Class Step Name)) → us ≡ Number n ∷ drop 1 us → GoesOn nested tables (Rule Item ∷ todo) us os (number ∷ todo) us os
unfolding nested tables
number_is_item [] os n todo e = absurd (cc)
number_is_item (Number m ∷ us) os n todo e = search (resuming, reading)
number_is_item (Open ∷ us) os n todo e = absurd (cc)
number_is_item (Close ∷ us) os n todo e = absurd (cc)
number_is_item (Comma ∷ us) os n todo e = absurd (cc)
number_is_item (Dots ∷ us) os n todo e = absurd (cc)

pub item_number : (us vs : List Token) (os ps : List Step) (n depth same : ℕ) (b : Bool) (r : Ending) → number_next us ≡ Some n → ((any : List (Shape Class Step Name)) → ReadsOn nested tables (number ∷ any) us os any vs ps r) → b ≡ true → same ≡ depth → ReadsOn nested tables (Rule Item ∷ pending true depth) us os (pending b same) vs ps r
item_number us vs os ps n depth same b r digits h e f =
    subst (λ x. ReadsOn nested tables (Rule Item ∷ pending true depth) us os (pending x same) vs ps r) (sym e)
    (subst (λ d. ReadsOn nested tables (Rule Item ∷ pending true depth) us os (pending true d) vs ps r) (sym f)
    (reads_behind (Rule Item ∷ pending true depth) (number ∷ pending true depth) (pending true depth) us us vs os os ps r (number_is_item us os n (pending true depth) (number_first n us digits)) (h (pending true depth))))

-- where an item is opened, and not by a number, it is by a bracket
pub open_stands : (us : List Token) → opens_item us ≡ true → number_next us ≡ None → slice_get us 0 ≡ Some Open
open_stands [] h e = absurd (cc)
open_stands (Open ∷ us) h e = refl
open_stands (Close ∷ us) h e = absurd (cc)
open_stands (Comma ∷ us) h e = absurd (cc)
open_stands (Dots ∷ us) h e = absurd (cc)
open_stands (Number m ∷ us) h e = absurd (cc)

-- a list is an item
list_is_item : (us : List Token) (os : List Step) (todo : List (Shape Class Step Name)) → slice_get us 0 ≡ Some Open → GoesOn nested tables (Rule Item ∷ todo) us os (Rule Nest ∷ todo) us os
unfolding nested tables
list_is_item [] os todo e = absurd (cc)
list_is_item (Open ∷ us) os todo e = search (resuming, reading)
list_is_item (Close ∷ us) os todo e = absurd (cc)
list_is_item (Comma ∷ us) os todo e = absurd (cc)
list_is_item (Dots ∷ us) os todo e = absurd (cc)
list_is_item (Number m ∷ us) os todo e = absurd (cc)

pub item_nest : (us vs : List Token) (os ps : List Step) (todo left : List (Shape Class Step Name)) (r : Ending) → opens_item us ≡ true → number_next us ≡ None → ReadsOn nested tables (Rule Nest ∷ todo) us os left vs ps r → ReadsOn nested tables (Rule Item ∷ todo) us os left vs ps r
item_nest us vs os ps todo left r h e q = reads_behind (Rule Item ∷ todo) (Rule Nest ∷ todo) left us us vs os os ps r (list_is_item us os todo (open_stands us h e)) q

-- the first item of a list
first_item_at : (us : List Token) (os : List Step) (depth : ℕ) → opens_item us ≡ true → GoesOn nested tables (pending false (suc depth)) us os (Rule Item ∷ pending true (suc depth)) us os
unfolding nested tables
first_item_at [] os depth h = absurd (cc)
first_item_at (Open ∷ us) os depth h = search (resuming, reading)
first_item_at (Number m ∷ us) os depth h = search (resuming, reading)
first_item_at (Close ∷ us) os depth h = absurd (cc)
first_item_at (Comma ∷ us) os depth h = absurd (cc)
first_item_at (Dots ∷ us) os depth h = absurd (cc)

no_first_item : (us : List Token) (os : List Step) (depth : ℕ) → opens_item us ≡ false → (slice_get us 0 ≡ Some Close → ⊥) → StopsAt nested tables (pending false (suc depth)) us os us
unfolding nested tables
no_first_item [] os depth h f = search (resuming, reading)
no_first_item (Open ∷ us) os depth h f = absurd (cc)
no_first_item (Number m ∷ us) os depth h f = absurd (cc)
no_first_item (Close ∷ us) os depth h f = absurd (f refl)
no_first_item (Comma ∷ us) os depth h f = search (resuming, reading)
no_first_item (Dots ∷ us) os depth h f = search (resuming, reading)

pub first_item_goes : (us vs : List Token) (os ps : List Step) (depth : ℕ) (b : Bool) (left : List (Shape Class Step Name)) (r : Ending) → b ≡ false → 0 < depth → opens_item us ≡ true → ReadsOn nested tables (Rule Item ∷ pending true depth) us os left vs ps r → ReadsOn nested tables (pending b depth) us os left vs ps r
first_item_goes us vs os ps zero b left r e inside h q = absurd (omega arith)
first_item_goes us vs os ps (suc depth) b left r e inside h q =
    subst (λ x. ReadsOn nested tables (pending x (suc depth)) us os left vs ps r) (sym e) (reads_behind (pending false (suc depth)) (Rule Item ∷ pending true (suc depth)) left us us vs os os ps r (first_item_at us os depth h) q)

pub first_item_stops : (us : List Token) (os : List Step) (depth : ℕ) (b : Bool) → b ≡ false → 0 < depth → opens_item us ≡ false → (slice_get us 0 ≡ Some Close → ⊥) → StopsAt nested tables (pending b depth) us os us
first_item_stops us os zero b e inside h f = absurd (omega arith)
first_item_stops us os (suc depth) b e inside h f = subst (λ x. StopsAt nested tables (pending x (suc depth)) us os us) (sym e) (no_first_item us os depth h f)

-- an item behind a comma
next_item_at : (us : List Token) (os : List Step) (depth : ℕ) → GoesOn nested tables (pending true (suc depth)) (Comma ∷ us) os (Rule Item ∷ pending true (suc depth)) us os
unfolding nested tables
next_item_at us os depth = search (resuming, reading)

no_comma : (us : List Token) (os : List Step) (depth : ℕ) → (slice_get us 0 ≡ Some Comma → ⊥) → (slice_get us 0 ≡ Some Close → ⊥) → StopsAt nested tables (pending true (suc depth)) us os us
unfolding nested tables
no_comma [] os depth f h = search (resuming, reading)
no_comma (Open ∷ us) os depth f h = search (resuming, reading)
no_comma (Number m ∷ us) os depth f h = search (resuming, reading)
no_comma (Close ∷ us) os depth f h = absurd (h refl)
no_comma (Comma ∷ us) os depth f h = absurd (f refl)
no_comma (Dots ∷ us) os depth f h = search (resuming, reading)

no_item_halts : (us : List Token) → opens_item us ≡ false → Halts nested tables (Rule Item) us us
unfolding nested tables
no_item_halts [] h = barred_halts refl
no_item_halts (Open ∷ us) h = absurd (cc)
no_item_halts (Number m ∷ us) h = absurd (cc)
no_item_halts (Close ∷ us) h = barred_halts refl
no_item_halts (Comma ∷ us) h = barred_halts refl
no_item_halts (Dots ∷ us) h = barred_halts refl

comma_goes : (us vs : List Token) (os ps : List Step) (depth : ℕ) → slice_get us 0 ≡ Some Comma → vs ≡ drop 1 us → ps ≡ os → GoesOn nested tables (pending true (suc depth)) us os (Rule Item ∷ pending true (suc depth)) vs ps
comma_goes us vs os ps depth comma d e = goes_at (at_mark comma d) e (next_item_at vs os depth)

pub next_item_goes : (us vs ws : List Token) (os ps qs : List Step) (depth same : ℕ) (b : Bool) (left : List (Shape Class Step Name)) (r : Ending) → b ≡ true → 0 < depth → slice_get us 0 ≡ Some Comma → vs ≡ drop 1 us → ps ≡ os → same ≡ depth → ReadsOn nested tables (Rule Item ∷ pending true same) vs ps left ws qs r → ReadsOn nested tables (pending b depth) us os left ws qs r
next_item_goes us vs ws os ps qs zero same b left r e inside comma d f s q = absurd (omega arith)
next_item_goes us vs ws os ps qs (suc depth) same b left r e inside comma d f s q =
    subst (λ x. ReadsOn nested tables (pending x (suc depth)) us os left ws qs r) (sym e)
    (reads_behind (pending true (suc depth)) (Rule Item ∷ pending true (suc depth)) left us vs ws os ps qs r (comma_goes us vs os ps depth comma d f) (subst (λ n. ReadsOn nested tables (Rule Item ∷ pending true n) vs ps left ws qs r) s q))

pub next_item_stops : (us vs : List Token) (os ps : List Step) (depth : ℕ) (b : Bool) → b ≡ true → 0 < depth → slice_get us 0 ≡ Some Comma → vs ≡ drop 1 us → ps ≡ os → opens_item vs ≡ false → StopsAt nested tables (pending b depth) us os vs
next_item_stops us vs os ps zero b e inside comma d f h = absurd (omega arith)
next_item_stops us vs os ps (suc depth) b e inside comma d f h = subst (λ x. StopsAt nested tables (pending x (suc depth)) us os vs) (sym e) (stops_behind (comma_goes us vs os ps depth comma d f) (stops_here (no_item_halts vs h)))

pub no_comma_stops : (us : List Token) (os : List Step) (depth : ℕ) (b : Bool) → b ≡ true → 0 < depth → (slice_get us 0 ≡ Some Comma → ⊥) → (slice_get us 0 ≡ Some Close → ⊥) → StopsAt nested tables (pending b depth) us os us
no_comma_stops us os zero b e inside f h = absurd (omega arith)
no_comma_stops us os (suc depth) b e inside f h = subst (λ x. StopsAt nested tables (pending x (suc depth)) us os us) (sym e) (no_comma us os depth f h)

-- the example meets the condition
decided : is_decided_by_one_token nested tables list ≡ true
unfolding nested tables
decided = refl

-- what is not opened by a bracket is refused at once
unopened : (us : List Token) → (slice_get us 0 ≡ Some Open → ⊥) → is_barred nested tables list us ≡ true
unfolding nested tables
unopened [] f = refl
unopened (Open ∷ us) f = absurd (f refl)
unopened (Close ∷ us) f = refl
unopened (Comma ∷ us) f = refl
unopened (Dots ∷ us) f = refl
unopened (Number n ∷ us) f = refl

pub unopened_told : (us : List Token) → (slice_get us 0 ≡ Some Open → ⊥) → IsOnlyVerdict nested list us (Refused us)
unopened_told us f = verdict_only nested tables list decided us (Stuck us) (barred_halts (unopened us f))

-- a stop behind some steps, told of all tokens
stop_told : (ts us vs : List Token) (os ps : List Step) (todo left : List (Shape Class Step Name)) (e : Stop) → GoesOn nested tables (list ∷ []) ts [] todo us os → ReadsOn nested tables todo us os left vs ps (ending_of (Err e)) → IsTold ts vs ps (Err e)
stop_told ts us vs os ps todo left NoMemory g h = tt
stop_told ts us vs os ps todo left Misplaced g h = halted_verdict nested tables list decided g h
stop_told ts us vs os ps todo left Oversized g h = large_verdict nested tables list decided g h

pub error_told : (ts us vs : List Token) (os ps : List Step) (todo left : List (Shape Class Step Name)) (e : Stop) (r s : Result (Unit {0}) Stop) → GoesOn nested tables (list ∷ []) ts [] todo us os → ReadsOn nested tables todo us os left vs ps (ending_of r) → r ≡ Err e → IsErrAnd s (λ x. x ≡ e) → IsTold ts vs ps s
error_told ts us vs os ps todo left e r s g h same is_error =
    let p = err_from_is_err_and s is_error in
    subst (λ x. IsTold ts vs ps x) (sym (p.1 ∙ ap (λ x. Err x) p.2)) (stop_told ts us vs os ps todo left e g (subst (λ x. ReadsOn nested tables todo us os left vs ps (ending_of x)) same h))

-- behind the last bracket the list was read, if nothing is left
pub end_told : (ts us : List Token) (os : List Step) (b : Bool) (depth : ℕ) → GoesOn nested tables (list ∷ []) ts [] (pending b depth) us os → depth ≤ 0 → true ≡ (length us == 0) → IsOnlyVerdict nested list ts (Read os)
end_told ts us os b zero g e f = end_verdict nested tables list decided (subst (λ xs. GoesOn nested tables (list ∷ []) ts [] [] xs os) (nil_from_length us (eqb-true (length us) 0 (sym f))) g)
end_told ts us os b (suc depth) g e f = absurd (omega arith)

pub left_told : (ts us : List Token) (os : List Step) (b : Bool) (depth : ℕ) → GoesOn nested tables (list ∷ []) ts [] (pending b depth) us os → depth ≤ 0 → false ≡ (length us == 0) → IsOnlyVerdict nested list ts (Refused us)
left_told ts [] os b depth g e f = absurd (cc)
left_told ts (t ∷ us) os b zero g e f = end_verdict nested tables list decided g
left_told ts (t ∷ us) os b (suc depth) g e f = absurd (omega arith)

-- where no list is open, the list is all that is to be read
pub begins_told : (us : List Token) (os : List Step) (depth : ℕ) → os ≡ [] → depth ≡ 0 → GoesOn nested tables (list ∷ []) us [] (Rule Nest ∷ pending true depth) us os
begins_told us os zero e f = subst (λ xs. GoesOn nested tables (list ∷ []) us [] (list ∷ []) us xs) (sym e) goes_still
begins_told us os (suc depth) e f = absurd (cc)

-- what the answer says of the tokens
pub fault_true : (ts rest : List Token) (os : List Step) (e : Stop) (place : ℕ) → IsTold ts rest os (Err e) → place ≡ length ts - length rest → IsTrueFault ts (fault_at place e)
fault_true ts rest os NoMemory place h p = tt
fault_true ts rest os Misplaced place h p =
    let at = refused_place nested list ts rest h.is_true in
    rw p (at.0, rw at.1 h.is_true)
fault_true ts rest os Oversized place h p =
    let at = large_place nested list ts rest h.is_true in
    rw p (at.0, rw at.1 h.is_true)

-- each true verdict is the answer
pub fault_only : (A : Type 0) (ts rest : List Token) (os : List Step) (e : Stop) (place : ℕ) (v : Verdict Step Token) → IsTold ts rest os (Err e) → place ≡ length ts - length rest → IsVerdict nested list ts v → Tells {A = A} ts v (Err (fault_at place e))
fault_only A ts rest os NoMemory place v h p q = tt
fault_only A ts rest os Misplaced place v h p q = rw (p, (refused_place nested list ts rest h.is_true).1) (h.is_only v q)
fault_only A ts rest os Oversized place v h p q = rw (p, (large_place nested list ts rest h.is_true).1) (h.is_only v q)
