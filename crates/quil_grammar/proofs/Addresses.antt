-- A memory reference, read from the tokens.
use Rattle.std.proofs.Common.{◌≡◌, ℕ, true, false, List, [], ◌∷◌, refl}
use Rattle.quil_shape.specs.Reads.{Advances, Halts}
use Rattle.quil_shape.proofs.Reading.{token_then_advances, token_then_halts, token_then_exceeds, seq_halts_first, token_halts, end_halts}
use Rattle.quil_tree.specs.declared.place.Place.{Place}
use Rattle.quil_tree.specs.declared.expr.Whole.{Whole}
use Rattle.quil_grammar.specs.declared.class.Class.TheVariants as class
use Rattle.quil_grammar.specs.declared.stop.Stop.{Stop}
use Rattle.quil_grammar.specs.declared.stop.Stop.TheVariants as stop
use Rattle.quil_grammar.specs.Token.{Token}
use Rattle.quil_grammar.specs.Grammar.{quil, accepts, index}
use Rattle.quil_grammar.specs.Tables.{tables}
use Rattle.quil_grammar.specs.Grammar.Event.{Region, Index}
use Rattle.quil_grammar.specs.Statements.{address}
use Rattle.quil_grammar.specs.Frames.{is_next, StopsFor}

address_at : (t : Token) (us vs : List Token) (w : Whole) → accepts (class.Region true) t.sort ≡ true → Advances quil tables index us vs (Index w ∷ []) → Advances quil tables address (t ∷ us) vs (Region t.place t.text ∷ Index w ∷ [])
unfolding quil tables
address_at t us vs w a h = token_then_advances a refl h

pub address_read : (us vs ws : List Token) (t : Token) (p : Place) (x : List ℕ) (w : Whole) → us ≡ t ∷ vs → accepts (class.Region true) t.sort ≡ true → p ≡ t.place → x ≡ t.text → Advances quil tables index vs ws (Index w ∷ []) → Advances quil tables address us ws (Region p x ∷ Index w ∷ [])
address_read us vs ws t p x w e a f g h = rw (e, f, g) (address_at t vs ws w a h)

pub address_stops : (us vs ws : List Token) (t : Token) (e : Stop) → us ≡ t ∷ vs → accepts (class.Region true) t.sort ≡ true → StopsFor e index vs ws → StopsFor e address us ws
unfolding quil tables
address_stops us vs ws t stop.OutOfMemory e a h = tt
address_stops us vs ws t stop.Unexpected e a h = rw e (token_then_halts a refl h)
address_stops us vs ws t stop.TooLarge e a h = rw e (token_then_exceeds a refl h)

pub no_address : (us : List Token) → is_next (class.Region true) us ≡ false → Halts quil tables address us us
unfolding quil tables
no_address [] e = seq_halts_first end_halts
no_address (t ∷ us) e = seq_halts_first (token_halts e)
