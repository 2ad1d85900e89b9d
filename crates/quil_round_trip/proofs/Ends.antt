-- A line that is read has no byte at which no token begins; and where nothing may stand nothing is read.
use Rattle.std.proofs.Common.{◌≡◌, ℕ, true, false, List, [], ◌∷◌, ◌++◌, refl, sym, ◌∙◌, ap, append-nil}
use Rattle.quil_lex.specs.declared.segment.End.{End}
use Rattle.quil_lex.specs.declared.segment.End.TheVariants as end
use Rattle.quil_lex.specs.Reading.{Span}
use Rattle.quil_shape.specs.Shape.{Shape}
use Rattle.quil_shape.specs.Condition.{is_decided_by_one_token}
use Rattle.quil_shape.specs.Outcome.{Outcome, after}
use Rattle.quil_shape.specs.Outcome.Outcome.{Made, Stuck, Large}
use Rattle.quil_shape.specs.Reads.{Reads}
use Rattle.quil_shape.specs.Verdict.{IsReading as IsWhole}
use Rattle.quil_grammar.specs.declared.class.Class.{Class}
use Rattle.quil_grammar.specs.declared.class.Class.TheVariants as class
use Rattle.quil_grammar.specs.declared.sort.Sort.TheVariants as sort
use Rattle.quil_grammar.specs.Token.{Token, Context, bad_token, line_tokens, span_tokens}
use Rattle.quil_grammar.specs.Grammar.{quil, accepts, Name, Event}
use Rattle.quil_grammar.specs.Tables.{tables}
use Rattle.quil_grammar.specs.Statements.{top_level, statement, matrix_row, permutation_row, nowhere, nothing}
use Rattle.quil_grammar.proofs.Decided.{decided_nowhere, decided_nothing}
use Rattle.quil_round_trip.proofs.Inversion.{one}
use Rattle.quil_round_trip.proofs.Places.{whole_reads}

-- no class takes such a byte
bad_refused : (k : Class) → accepts k sort.Bad ≡ false
bad_refused class.Number = refl
bad_refused class.Imaginary = refl
bad_refused class.Pi = refl
bad_refused class.I = refl
bad_refused class.Parameter = refl
bad_refused (class.Region b) = refl
bad_refused class.Index = refl
bad_refused class.Function = refl
bad_refused class.Additive = refl
bad_refused class.Sign = refl
bad_refused class.Multiplicative = refl
bad_refused class.Caret = refl
bad_refused class.Parenthesis = refl
bad_refused class.ArgumentBegins = refl
bad_refused class.ParenthesisEnds = refl
bad_refused class.IndexBegins = refl
bad_refused class.IndexEnds = refl
bad_refused class.Declare = refl
bad_refused class.CellType = refl
bad_refused class.Length = refl
bad_refused class.Sharing = refl
bad_refused class.Offset = refl
bad_refused class.OffsetCount = refl
bad_refused class.Named = refl
bad_refused class.DefGate = refl
bad_refused class.As = refl
bad_refused class.Matrix = refl
bad_refused class.Permutation = refl
bad_refused class.LeftOutForm = refl
bad_refused class.DefCircuit = refl
bad_refused class.Colon = refl
bad_refused class.Comma = refl
bad_refused class.ListBegins = refl
bad_refused class.ListEnds = refl
bad_refused class.TakenParameter = refl
bad_refused class.Entry = refl
bad_refused class.Modifier = refl
bad_refused class.Forked = refl
bad_refused class.FifthForked = refl
bad_refused class.Gate = refl
bad_refused class.Qubit = refl
bad_refused class.Measure = refl
bad_refused class.Reset = refl
bad_refused class.Bare = refl
bad_refused class.Pragma = refl
bad_refused class.Any = refl
bad_refused class.LabelWord = refl
bad_refused class.JumpIf = refl
bad_refused class.Label = refl
bad_refused class.UnaryWord = refl
bad_refused class.PairWord = refl
bad_refused class.BinaryWord = refl
bad_refused class.Load = refl
bad_refused class.Store = refl
bad_refused class.CompareWord = refl
bad_refused class.LeftOut = refl
bad_refused class.Nothing = refl
bad_refused class.OperandNumber = refl
bad_refused class.OperandSign = refl

no_bad : (k : Class) (t : Token) → accepts k t.sort ≡ true → t.sort ≡ sort.Bad → ⊥
no_bad k t a e = let both : true ≡ false = sym a ∙ ap (λ s. accepts k s) e ∙ bad_refused k in absurd (cc)

abbrev NoneBad : List Token → Type 0
NoneBad [] = Unit {0}
NoneBad (t ∷ ts) = (t.sort ≡ sort.Bad → ⊥) × NoneBad ts

abbrev Keeps : List Token → Outcome Event Token → Type 0
Keeps ts (Made os us) = NoneBad us → NoneBad ts
Keeps ts (Stuck us) = Unit {0}
Keeps ts (Large us) = Unit {0}

keeps_after : (ts us : List Token) (os : List Event) (out : Outcome Event Token) → (NoneBad us → NoneBad ts) → Keeps us out → Keeps ts (after os out)
keeps_after ts us os (Made ps vs) f k = λ h. f (k h)
keeps_after ts us os (Stuck vs) f k = tt
keeps_after ts us os (Large vs) f k = tt

keeps : {s : Shape Class Event Name} {ts : List Token} {out : Outcome Event Token} → Reads quil tables s ts out → Keeps ts out
unfolding quil tables
keeps (Reads.one {c = k} {t = t} h l) = λ n. (no_bad k t h, n)
keeps (Reads.one_large h l) = tt
keeps Reads.emit = λ n. n
keeps Reads.empty = λ n. n
keeps (Reads.seq {ts = ts} {us = us} {os = os} {out = out} r q) = keeps_after ts us os out (keeps r) (keeps q)
keeps (Reads.seq_stuck r) = tt
keeps (Reads.seq_large r) = tt
keeps (Reads.left h r) = keeps r
keeps (Reads.right h r) = keeps r
keeps (Reads.none h) = λ n. n
keeps (Reads.more {ts = ts} {us = us} {os = os} {out = out} h r q) = keeps_after ts us os out (keeps r) (keeps q)
keeps (Reads.more_stuck h r) = tt
keeps (Reads.more_large h r) = tt
keeps (Reads.rule r) = keeps r
keeps (Reads.barred h) = tt

last_bad : (ts : List Token) (n column : ℕ) → NoneBad (ts ++ bad_token n (end.BadToken column)) → ⊥
last_bad [] n column h = h.0 refl
last_bad (t ∷ ts) n column h = last_bad ts n column h.1

ends_whole : (s : Shape Class Event Name) (ts : List Token) (n : ℕ) (e : End) (os : List Event) → Reads quil tables s (ts ++ bad_token n e) (Made os []) → bad_token n e ≡ []
ends_whole s ts n end.Line os r = refl
ends_whole s ts n (end.Semicolon column) os r = refl
ends_whole s ts n (end.BadToken column) os r = absurd (last_bad ts n column (keeps r tt))

-- a span that is read ends well
pub read_end : (s : Shape Class Event Name) → is_decided_by_one_token quil tables s ≡ true → (c : Context) (span : Span) (os : List Event) → IsWhole quil s (span_tokens c span) os → bad_token span.line span.end ≡ []
read_end s d c span os w = ends_whole s (line_tokens c span.lexemes) span.line span.end os (whole_reads s d (span_tokens c span) os w)

-- the tokens of a span that is read
pub read_tokens : (s : Shape Class Event Name) → is_decided_by_one_token quil tables s ≡ true → (c : Context) (span : Span) (os : List Event) → IsWhole quil s (span_tokens c span) os → span_tokens c span ≡ line_tokens c span.lexemes
read_tokens s d c span os w =
    let r = whole_reads s d (span_tokens c span) os w in
    ap (λ xs. line_tokens c span.lexemes ++ xs) (ends_whole s (line_tokens c span.lexemes) span.line span.end os r) ∙ append-nil (line_tokens c span.lexemes)

-- where nothing may stand
pub not_nowhere : (ts : List Token) (os : List Event) → IsWhole quil nowhere ts os → ⊥
unfolding quil tables
not_nowhere ts os w = let i = one quil tables (whole_reads nowhere decided_nowhere ts os w) in large i.small
  where
    large : true ≡ false → ⊥
    large e = absurd (cc)

pub not_nothing : (ts : List Token) (os : List Event) → IsWhole quil nothing ts os → ⊥
unfolding quil tables
not_nothing ts os w = let i = one quil tables (whole_reads nothing decided_nothing ts os w) in refused i.accepted
  where
    refused : false ≡ true → ⊥
    refused e = absurd (cc)
