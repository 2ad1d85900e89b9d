-- Declarations, read from the tokens.
use Rattle.std.proofs.Common.{◌≡◌, ℕ, true, false, List, [], ◌∷◌, ◌++◌, refl, sym, ◌∙◌, ap, append_assoc, append-nil}
use Rattle.std.specs.Prelude.{Option, Some, None}
use Rattle.quil_shape.specs.Shape.Shape.{One, Seq, Many}
use Rattle.quil_shape.specs.Outcome.{Outcome}
use Rattle.quil_shape.specs.Reads.{Reads as Comes, starts}
use Rattle.quil_shape.proofs.Reading.{choice_first, choice_not_first, empty_advances, emit_advances}
use Rattle.quil_tree.specs.declared.place.Place.{Place}
use Rattle.quil_tree.specs.declared.expr.Whole.{Whole}
use Rattle.quil_tree.specs.declared.statement.Name.{Name as Called}
use Rattle.quil_tree.specs.declared.item.TypeName.{TypeName}
use Rattle.quil_tree.specs.declared.item.Offset.{Offset}
use Rattle.quil_tree.specs.declared.item.Sharing.{Sharing}
use Rattle.quil_tree.specs.declared.item.Item.TheVariants as item
use Rattle.quil_grammar.specs.declared.sort.Sort.{Sort}
use Rattle.quil_grammar.specs.declared.class.Class.TheVariants as class
use Rattle.quil_grammar.specs.declared.stop.Stop.{Stop}
use Rattle.quil_grammar.specs.Token.{Token}
use Rattle.quil_grammar.specs.Grammar.{quil, Event, whole_of}
use Rattle.quil_grammar.specs.Tables.{tables}
use Rattle.quil_grammar.specs.Grammar.Piece.{Says, Names, Counts}
use Rattle.quil_grammar.specs.Frames.{is_next, StopsFor}
use Rattle.quil_grammar.specs.Statements.{maybe, length, some_length, offset, offsets, sharing, declaration}
use Rattle.quil_grammar.specs.Parts.{Part, parts_events}
use Rattle.quil_grammar.specs.Parts.Part.{Made}
use Rattle.quil_statement.specs.Meaning.{type_name_of, offsets_of}
use Rattle.quil_statement.specs.Says.{Reads, SaysItem}
use Rattle.quil_statement.specs.Loops.{Leads, IsOffset, OffsetsSoFar, AreOffsets, IsSharing, MaybeShares}
use Rattle.quil_statement.proofs.Sequences.{reads_both, stops_second, stops_third, stops_fourth, stops_in_first}
use Rattle.quil_statement.proofs.Repeats.{leads_on, leads_to_end, leads_to_stop, first_leads, part_leads, part_stops}

-- lengths
pub length_read : (us vs ws xs : List Token) (n : Whole) → Reads (One class.IndexBegins) us vs [] → Reads (One class.Length) vs ws (Made (Counts n) ∷ []) → Reads (One class.IndexEnds) ws xs [] → Reads some_length us xs (Made (Counts n) ∷ [])
length_read us vs ws xs n r q s = reads_both (One class.IndexBegins) (Seq (One class.Length) (One class.IndexEnds)) us vs xs [] (Made (Counts n) ∷ []) r (reads_both (One class.Length) (One class.IndexEnds) vs ws xs (Made (Counts n) ∷ []) [] q s)

length_starts : (us : List Token) → is_next class.IndexBegins us ≡ true → starts quil tables some_length us ≡ true
unfolding quil tables
length_starts [] e = absurd (cc)
length_starts (t ∷ us) e = rw e refl

pub length_stands : (us vs : List Token) (n : Whole) → is_next class.IndexBegins us ≡ true → Reads some_length us vs (Made (Counts n) ∷ []) → Reads length us vs (Made (Counts n) ∷ [])
length_stands us vs n e r = choice_first (length_starts us e) r

none_at : (us : List Token) → is_next class.IndexBegins us ≡ false → Reads length us us (Made (Counts (whole_of (49 ∷ []))) ∷ [])
unfolding quil tables
none_at [] e = choice_not_first refl emit_advances
none_at (t ∷ us) e = choice_not_first (rw e refl) emit_advances

pub no_length : (us vs : List Token) (digits : List ℕ) → is_next class.IndexBegins us ≡ false → vs ≡ us → digits ≡ 49 ∷ [] → Reads length us vs (Made (Counts (record { digits = digits; value = 1 })) ∷ [])
no_length us vs digits e f g = rw (f, g) (none_at us e)

pub length_stops : (us vs : List Token) (e : Stop) → is_next class.IndexBegins us ≡ true → StopsFor e some_length us vs → StopsFor e length us vs
length_stops us vs e n r = stops_in_first some_length _ us vs e (length_starts us n) r

-- offsets
pub offset_read : (us vs ws : List Token) (n : Whole) (p : Place) (s : Sort) (k : TypeName) → Reads (One class.OffsetCount) us vs (Made (Counts n) ∷ []) → Reads (One class.CellType) vs ws (Made (Says p class.CellType s) ∷ []) → k ≡ type_name_of s → IsOffset us ws (record { count = n; kind = k })
offset_read us vs ws n p s k r q e =
    record {
      count = n;
      place = p;
      sort = s;
      reads = reads_both (One class.OffsetCount) (One class.CellType) us vs ws (Made (Counts n) ∷ []) (Made (Says p class.CellType s) ∷ []) r q;
      is_meant = rw e refl;
    }

pub offsets_begin : (us vs : List Token) (o : Offset) (os : List Offset) → IsOffset us vs o → os ≡ o ∷ [] → OffsetsSoFar us vs os
offsets_begin us vs o os h e =
    record {
      parts = Made (Counts h.count) ∷ Made (Says h.place class.CellType h.sort) ∷ [];
      leads = first_leads offset (Many offset) us vs (Made (Counts h.count) ∷ Made (Says h.place class.CellType h.sort) ∷ []) h.reads;
      means = λ qs. rw (e, h.is_meant) refl;
    }

offset_starts : (us : List Token) → is_next class.OffsetCount us ≡ true → starts quil tables offset us ≡ true
unfolding quil tables
offset_starts [] e = absurd (cc)
offset_starts (t ∷ us) e = rw e refl

offset_not : (us : List Token) → is_next class.OffsetCount us ≡ false → starts quil tables offset us ≡ false
unfolding quil tables
offset_not [] e = refl
offset_not (t ∷ us) e = rw e refl

pub offsets_go_on : (ts us vs : List Token) (o : Offset) (os ps : List Offset) → OffsetsSoFar ts us os → is_next class.OffsetCount us ≡ true → IsOffset us vs o → ps ≡ os ++ o ∷ [] → OffsetsSoFar ts vs ps
offsets_go_on ts us vs o os ps h n k e =
    let two = Made (Counts k.count) ∷ Made (Says k.place class.CellType k.sort) ∷ [] in
    record {
      parts = h.parts ++ two;
      leads = leads_on (Seq offset (Many offset)) (Many offset) (Many offset) ts us vs h.parts two h.leads (part_leads offset us vs two (offset_starts us n) k.reads);
      means = λ qs. ap (λ xs. offsets_of xs) (append_assoc h.parts two qs) ∙ h.means (two ++ qs) ∙ ap (λ x. os ++ x ∷ offsets_of qs) (sym k.is_meant) ∙ sym (append_assoc os (o ∷ []) (offsets_of qs)) ∙ ap (λ xs. xs ++ offsets_of qs) (sym e);
    }

pub offsets_end : (ts us : List Token) (os : List Offset) → OffsetsSoFar ts us os → is_next class.OffsetCount us ≡ false → AreOffsets (Seq offset (Many offset)) ts us os
offsets_end ts us os h n =
    record {
      parts = h.parts ++ [];
      reads = leads_to_end (Seq offset (Many offset)) (Many offset) ts us us h.parts [] h.leads (Comes.none (offset_not us n));
      means = h.means [] ∙ append-nil os;
    }

pub offsets_stop : (ts us vs : List Token) (ps : List Part) (e : Stop) → Leads (Seq offset (Many offset)) ts (Many offset) us ps → is_next class.OffsetCount us ≡ true → StopsFor e offset us vs → StopsFor e (Seq offset (Many offset)) ts vs
offsets_stop ts us vs ps e h n r = leads_to_stop (Seq offset (Many offset)) (Many offset) ts us vs ps e h (part_stops offset us vs e (offset_starts us n) r)

pub offsets_read : (us vs ws : List Token) (os : List Offset) → Reads (One class.Offset) us vs [] → AreOffsets (Seq offset (Many offset)) vs ws os → AreOffsets offsets us ws os
offsets_read us vs ws os r h = record { parts = h.parts; reads = reads_both (One class.Offset) (Seq offset (Many offset)) us vs ws [] h.parts r h.reads; means = h.means }

pub offsets_start : (us : List Token) → is_next class.Offset us ≡ true → starts quil tables offsets us ≡ true
unfolding quil tables
offsets_start [] e = absurd (cc)
offsets_start (t ∷ us) e = rw e refl

pub offsets_stand : (us vs : List Token) (os : List Offset) → is_next class.Offset us ≡ true → AreOffsets offsets us vs os → AreOffsets (maybe offsets) us vs os
offsets_stand us vs os e h = record { parts = h.parts; reads = choice_first (offsets_start us e) h.reads; means = h.means }

pub no_offsets : (us vs : List Token) (os : List Offset) → is_next class.Offset us ≡ false → vs ≡ us → os ≡ [] → AreOffsets (maybe offsets) us vs os
unfolding quil tables
no_offsets [] vs os e f g = rw (f, g) (record { parts = []; reads = choice_not_first refl empty_advances; means = refl })
no_offsets (t ∷ us) vs os e f g = rw (f, g) (record { parts = []; reads = choice_not_first (rw e refl) empty_advances; means = refl })

-- sharing
pub sharing_read : (us vs ws xs : List Token) (n : Called) (os : List Offset) → Reads (One class.Sharing) us vs [] → Reads (One class.Named) vs ws (Made (Names n) ∷ []) → AreOffsets (maybe offsets) ws xs os → IsSharing us xs (record { base = n; offsets = os })
sharing_read us vs ws xs n os r q h =
    record {
      parts = Made (Names n) ∷ h.parts;
      reads = reads_both (One class.Sharing) (Seq (One class.Named) (maybe offsets)) us vs xs [] (Made (Names n) ∷ h.parts) r (reads_both (One class.Named) (maybe offsets) vs ws xs (Made (Names n) ∷ []) h.parts q h.reads);
      means = rw h.means refl;
    }

pub sharing_stops : (us vs ws xs : List Token) (n : Called) (e : Stop) → Reads (One class.Sharing) us vs [] → Reads (One class.Named) vs ws (Made (Names n) ∷ []) → StopsFor e (maybe offsets) ws xs → StopsFor e sharing us xs
sharing_stops us vs ws xs n e r q h = stops_third (One class.Sharing) (One class.Named) (maybe offsets) us vs ws xs [] (parts_events (Made (Names n) ∷ [])) e r q h

pub sharing_starts : (us : List Token) → is_next class.Sharing us ≡ true → starts quil tables sharing us ≡ true
unfolding quil tables
sharing_starts [] e = absurd (cc)
sharing_starts (t ∷ us) e = rw e refl

pub sharing_stands : (us vs : List Token) (s : Sharing) → is_next class.Sharing us ≡ true → IsSharing us vs s → MaybeShares us vs (Some s)
sharing_stands us vs s e h = record { parts = h.parts; reads = choice_first (sharing_starts us e) h.reads; means = h.means }

pub no_sharing : (us vs : List Token) → is_next class.Sharing us ≡ false → vs ≡ us → MaybeShares us vs None
unfolding quil tables
no_sharing [] vs e f = rw f (record { parts = []; reads = choice_not_first refl empty_advances; means = refl })
no_sharing (t ∷ us) vs e f = rw f (record { parts = []; reads = choice_not_first (rw e refl) empty_advances; means = refl })

pub declaration_said : (us vs ws xs ys zs : List Token) (p q : Place) (s t : Sort) (n : Called) (k : TypeName) (l : Whole) (o : Option Sharing)
    → Reads (One class.Declare) us vs (Made (Says p class.Declare s) ∷ []) → Reads (One class.Named) vs ws (Made (Names n) ∷ []) → Reads (One class.CellType) ws xs (Made (Says q class.CellType t) ∷ []) → k ≡ type_name_of t → Reads length xs ys (Made (Counts l) ∷ []) → MaybeShares ys zs o
    → SaysItem declaration us zs (item.Declare (record { place = p; name = n; kind = k; length = l; sharing = o }))
declaration_said us vs ws xs ys zs p q s t n k l o a b c e d h =
    let last = Made (Counts l) ∷ h.parts in
    let later = Made (Says q class.CellType t) ∷ last in
    record {
      parts = Made (Says p class.Declare s) ∷ Made (Names n) ∷ later;
      reads = reads_both (One class.Declare) (Seq (One class.Named) (Seq (One class.CellType) (Seq length (maybe sharing)))) us vs zs (Made (Says p class.Declare s) ∷ []) (Made (Names n) ∷ later) a
          (reads_both (One class.Named) (Seq (One class.CellType) (Seq length (maybe sharing))) vs ws zs (Made (Names n) ∷ []) later b
          (reads_both (One class.CellType) (Seq length (maybe sharing)) ws xs zs (Made (Says q class.CellType t) ∷ []) last c
          (reads_both length (maybe sharing) xs ys zs (Made (Counts l) ∷ []) h.parts d h.reads)));
      means = rw (h.means, e) refl;
    }

pub declaration_stops : (us vs ws xs ys zs : List Token) (ps qs rs : List Event) (l : Whole) (e : Stop) → Comes quil tables (One class.Declare) us (Outcome.Made ps vs) → Comes quil tables (One class.Named) vs (Outcome.Made qs ws) → Comes quil tables (One class.CellType) ws (Outcome.Made rs xs) → Reads length xs ys (Made (Counts l) ∷ []) → StopsFor e (maybe sharing) ys zs → StopsFor e declaration us zs
declaration_stops us vs ws xs ys zs ps qs rs l e a b c d r =
    stops_fourth (One class.Declare) (One class.Named) (One class.CellType) (Seq length (maybe sharing)) us vs ws xs zs ps qs rs e a b c (stops_second length (maybe sharing) xs ys zs (parts_events (Made (Counts l) ∷ [])) e d r)
