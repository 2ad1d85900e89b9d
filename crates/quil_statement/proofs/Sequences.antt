-- Sequences of parts: what is read one behind the other, and where reading stops.
use Rattle.std.proofs.Common.{◌≡◌, true, List, [], ◌∷◌, ◌++◌, refl, sym, ◌∙◌, ap, subst, append_assoc}
use Rattle.quil_shape.specs.Shape.{Shape}
use Rattle.quil_shape.specs.Shape.Shape.{Seq, Or}
use Rattle.quil_shape.specs.Reads.{Advances, starts, is_barred}
use Rattle.quil_shape.proofs.Reading.{seq_advances, seq_halts_first, seq_halts_second, seq_exceeds_first, seq_exceeds_second, choice_first, choice_second, choice_not_first, choice_not_second}
use Rattle.quil_grammar.specs.declared.class.Class.{Class}
use Rattle.quil_grammar.specs.declared.stop.Stop.{Stop}
use Rattle.quil_grammar.specs.declared.stop.Stop.TheVariants as stop
use Rattle.quil_grammar.specs.Token.{Token}
use Rattle.quil_grammar.specs.Grammar.{quil, Name, Event}
use Rattle.quil_grammar.specs.Tables.{tables}
use Rattle.quil_grammar.specs.Frames.{StopsFor}
use Rattle.quil_grammar.specs.Parts.{Part, part_events, parts_events}
use Rattle.quil_statement.specs.Says.{Reads}

pub parts_append : (ps qs : List Part) → parts_events (ps ++ qs) ≡ parts_events ps ++ parts_events qs
parts_append [] qs = refl
parts_append (p ∷ ps) qs = ap (λ os. part_events p ++ os) (parts_append ps qs) ∙ sym (append_assoc (part_events p) (parts_events ps) (parts_events qs))

-- one part behind the other
pub reads_both : (a b : Shape Class Event Name) (us vs ws : List Token) (ps qs : List Part) → Reads a us vs ps → Reads b vs ws qs → Reads (Seq a b) us ws (ps ++ qs)
reads_both a b us vs ws ps qs r q = subst (λ os. Advances quil tables (Seq a b) us ws os) (sym (parts_append ps qs)) (seq_advances r q)

-- reading stops in the first part, or in a later one
pub stops_first : (a b : Shape Class Event Name) (us vs : List Token) (e : Stop) → StopsFor e a us vs → StopsFor e (Seq a b) us vs
stops_first a b us vs stop.OutOfMemory r = tt
stops_first a b us vs stop.Unexpected r = seq_halts_first r
stops_first a b us vs stop.TooLarge r = seq_exceeds_first r

pub stops_second : (a b : Shape Class Event Name) (us vs ws : List Token) (ps : List Event) (e : Stop) → Advances quil tables a us vs ps → StopsFor e b vs ws → StopsFor e (Seq a b) us ws
stops_second a b us vs ws ps stop.OutOfMemory r q = tt
stops_second a b us vs ws ps stop.Unexpected r q = seq_halts_second r q
stops_second a b us vs ws ps stop.TooLarge r q = seq_exceeds_second r q

pub stops_third : (a b c : Shape Class Event Name) (us vs ws xs : List Token) (ps qs : List Event) (e : Stop) → Advances quil tables a us vs ps → Advances quil tables b vs ws qs → StopsFor e c ws xs → StopsFor e (Seq a (Seq b c)) us xs
stops_third a b c us vs ws xs ps qs e r q h = stops_second a (Seq b c) us vs xs ps e r (stops_second b c vs ws xs qs e q h)

pub stops_fourth : (a b c d : Shape Class Event Name) (us vs ws xs ys : List Token) (ps qs rs : List Event) (e : Stop) → Advances quil tables a us vs ps → Advances quil tables b vs ws qs → Advances quil tables c ws xs rs → StopsFor e d xs ys → StopsFor e (Seq a (Seq b (Seq c d))) us ys
stops_fourth a b c d us vs ws xs ys ps qs rs e r q s h = stops_second a (Seq b (Seq c d)) us vs ys ps e r (stops_third b c d vs ws xs ys qs rs e q s h)

-- a member of a choice that a token opens
pub reads_first : (a b : Shape Class Event Name) (us vs : List Token) (ps : List Part) → starts quil tables a us ≡ true → Reads a us vs ps → Reads (Or a b) us vs ps
reads_first a b us vs ps e r = choice_first e r

pub reads_second : (a b : Shape Class Event Name) (us vs : List Token) (ps : List Part) → starts quil tables b us ≡ true → Reads b us vs ps → Reads (Or a b) us vs ps
reads_second a b us vs ps e r = choice_second e r

pub stops_in_first : (a b : Shape Class Event Name) (us vs : List Token) (e : Stop) → starts quil tables a us ≡ true → StopsFor e a us vs → StopsFor e (Or a b) us vs
stops_in_first a b us vs stop.OutOfMemory e r = tt
stops_in_first a b us vs stop.Unexpected e r = choice_first e r
stops_in_first a b us vs stop.TooLarge e r = choice_first e r

pub stops_in_second : (a b : Shape Class Event Name) (us vs : List Token) (e : Stop) → starts quil tables b us ≡ true → StopsFor e b us vs → StopsFor e (Or a b) us vs
stops_in_second a b us vs stop.OutOfMemory e r = tt
stops_in_second a b us vs stop.Unexpected e r = choice_second e r
stops_in_second a b us vs stop.TooLarge e r = choice_second e r

pub not_first : (a b : Shape Class Event Name) (us vs : List Token) (e : Stop) → is_barred quil tables a us ≡ true → StopsFor e b us vs → StopsFor e (Or a b) us vs
not_first a b us vs stop.OutOfMemory h r = tt
not_first a b us vs stop.Unexpected h r = choice_not_first h r
not_first a b us vs stop.TooLarge h r = choice_not_first h r

pub not_second : (a b : Shape Class Event Name) (us vs : List Token) (e : Stop) → is_barred quil tables b us ≡ true → StopsFor e a us vs → StopsFor e (Or a b) us vs
not_second a b us vs stop.OutOfMemory h r = tt
not_second a b us vs stop.Unexpected h r = choice_not_second h r
not_second a b us vs stop.TooLarge h r = choice_not_second h r
