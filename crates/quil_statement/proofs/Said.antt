-- What the statements that are read say.
use Rattle.std.proofs.Common.{◌≡◌, ℕ, List, [], ◌∷◌, refl, ap}
use Rattle.std.specs.Prelude.{Option, Some, None, filter_map}
use Rattle.quil_shape.specs.Shape.Shape.{One, Seq, Many}
use Rattle.quil_tree.specs.declared.place.Place.{Place}
use Rattle.quil_tree.specs.declared.statement.Name.{Name}
use Rattle.quil_tree.specs.declared.statement.Reference.{Reference}
use Rattle.quil_tree.specs.declared.statement.Qubit.{Qubit}
use Rattle.quil_tree.specs.declared.statement.Operand.{Operand}
use Rattle.quil_tree.specs.declared.statement.Statement.TheVariants as statement
use Rattle.quil_grammar.specs.declared.sort.Sort.{Sort}
use Rattle.quil_grammar.specs.declared.class.Class.TheVariants as class
use Rattle.quil_grammar.specs.Token.{Token}
use Rattle.quil_grammar.specs.Grammar.Piece.{Says, Names, Acts}
use Rattle.quil_grammar.specs.Parts.Part.{Made, Value}
use Rattle.quil_grammar.specs.Statements.{address, maybe, measure, reset, pragma, label, jump_if, unary, pair, binary, load, store, compare}
use Rattle.quil_statement.specs.Meaning.{cell, kept_of, bare_of, label_of, jump_of, unary_of, pair_of, binary_of, compare_of}
use Rattle.quil_statement.specs.Says.{Reads, IsOperand, maybe_cell, maybe_qubit, SaysLine}
use Rattle.quil_statement.specs.Loops.{keeping}
use Rattle.quil_statement.proofs.Sequences.{reads_both}

module _ (us vs ws xs ys : List Token) (p : Place) (s : Sort) where
  pub measure_said : (q : Qubit) (a : Option Reference) → Reads (One class.Measure) us vs (Made (Says p class.Measure s) ∷ []) → Reads (One class.Qubit) vs ws (Made (Acts q) ∷ []) → Reads (maybe address) ws xs (maybe_cell a)
      → SaysLine measure us xs (record { place = p; statement = statement.Measure q a })
  measure_said q None r t u = record { parts = Made (Says p class.Measure s) ∷ Made (Acts q) ∷ []; reads = reads_both _ _ us vs xs (Made (Says p class.Measure s) ∷ []) (Made (Acts q) ∷ []) r (reads_both _ _ vs ws xs (Made (Acts q) ∷ []) [] t u); means = refl }
  measure_said q (Some a) r t u = record { parts = Made (Says p class.Measure s) ∷ Made (Acts q) ∷ cell a ∷ []; reads = reads_both _ _ us vs xs (Made (Says p class.Measure s) ∷ []) (Made (Acts q) ∷ cell a ∷ []) r (reads_both _ _ vs ws xs (Made (Acts q) ∷ []) (cell a ∷ []) t u); means = refl }

  pub reset_said : (q : Option Qubit) → Reads (One class.Reset) us vs (Made (Says p class.Reset s) ∷ []) → Reads (maybe (One class.Qubit)) vs ws (maybe_qubit q) → SaysLine reset us ws (record { place = p; statement = statement.Reset q })
  reset_said None r t = record { parts = Made (Says p class.Reset s) ∷ []; reads = reads_both _ _ us vs ws (Made (Says p class.Reset s) ∷ []) [] r t; means = refl }
  reset_said (Some q) r t = record { parts = Made (Says p class.Reset s) ∷ Made (Acts q) ∷ []; reads = reads_both _ _ us vs ws (Made (Says p class.Reset s) ∷ []) (Made (Acts q) ∷ []) r t; means = refl }

  pub bare_said : Reads (One class.Bare) us vs (Made (Says p class.Bare s) ∷ []) → SaysLine (One class.Bare) us vs (record { place = p; statement = bare_of s })
  bare_said r = record { parts = Made (Says p class.Bare s) ∷ []; reads = r; means = refl }

  pub label_said : (n : Name) → Reads (One class.LabelWord) us vs (Made (Says p class.LabelWord s) ∷ []) → Reads (One class.Label) vs ws (Made (Names n) ∷ []) → SaysLine label us ws (record { place = p; statement = label_of s n })
  label_said n r t = record { parts = Made (Says p class.LabelWord s) ∷ Made (Names n) ∷ []; reads = reads_both _ _ us vs ws (Made (Says p class.LabelWord s) ∷ []) (Made (Names n) ∷ []) r t; means = refl }

  pub jump_said : (n : Name) (a : Reference) → Reads (One class.JumpIf) us vs (Made (Says p class.JumpIf s) ∷ []) → Reads (One class.Label) vs ws (Made (Names n) ∷ []) → Reads address ws xs (cell a ∷ [])
      → SaysLine jump_if us xs (record { place = p; statement = jump_of s n a })
  jump_said n a r t u = record { parts = Made (Says p class.JumpIf s) ∷ Made (Names n) ∷ cell a ∷ []; reads = reads_both _ _ us vs xs (Made (Says p class.JumpIf s) ∷ []) (Made (Names n) ∷ cell a ∷ []) r (reads_both _ _ vs ws xs (Made (Names n) ∷ []) (cell a ∷ []) t u); means = refl }

  pub unary_said : (a : Reference) → Reads (One class.UnaryWord) us vs (Made (Says p class.UnaryWord s) ∷ []) → Reads address vs ws (cell a ∷ []) → SaysLine unary us ws (record { place = p; statement = unary_of s a })
  unary_said a r t = record { parts = Made (Says p class.UnaryWord s) ∷ cell a ∷ []; reads = reads_both _ _ us vs ws (Made (Says p class.UnaryWord s) ∷ []) (cell a ∷ []) r t; means = refl }

  pub pair_said : (a b : Reference) → Reads (One class.PairWord) us vs (Made (Says p class.PairWord s) ∷ []) → Reads address vs ws (cell a ∷ []) → Reads address ws xs (cell b ∷ []) → SaysLine pair us xs (record { place = p; statement = pair_of s a b })
  pair_said a b r t u = record { parts = Made (Says p class.PairWord s) ∷ cell a ∷ cell b ∷ []; reads = reads_both _ _ us vs xs (Made (Says p class.PairWord s) ∷ []) (cell a ∷ cell b ∷ []) r (reads_both _ _ vs ws xs (cell a ∷ []) (cell b ∷ []) t u); means = refl }

  pub binary_said : (a : Reference) (x : Operand) → Reads (One class.BinaryWord) us vs (Made (Says p class.BinaryWord s) ∷ []) → Reads address vs ws (cell a ∷ []) → IsOperand ws xs x → SaysLine binary us xs (record { place = p; statement = binary_of s a x })
  binary_said a x r t h = record { parts = Made (Says p class.BinaryWord s) ∷ cell a ∷ Value h.written ∷ []; reads = reads_both _ _ us vs xs (Made (Says p class.BinaryWord s) ∷ []) (cell a ∷ Value h.written ∷ []) r (reads_both _ _ vs ws xs (cell a ∷ []) (Value h.written ∷ []) t h.reads); means = rw h.is_meaning refl }

  pub load_said : (a b : Reference) (n : Name) → Reads (One class.Load) us vs (Made (Says p class.Load s) ∷ []) → Reads address vs ws (cell a ∷ []) → Reads (One class.Named) ws xs (Made (Names n) ∷ []) → Reads address xs ys (cell b ∷ [])
      → SaysLine load us ys (record { place = p; statement = statement.Load a n b })
  load_said a b n r t u v = record { parts = Made (Says p class.Load s) ∷ cell a ∷ Made (Names n) ∷ cell b ∷ []; reads = reads_both _ _ us vs ys (Made (Says p class.Load s) ∷ []) (cell a ∷ Made (Names n) ∷ cell b ∷ []) r (reads_both _ _ vs ws ys (cell a ∷ []) (Made (Names n) ∷ cell b ∷ []) t (reads_both _ _ ws xs ys (Made (Names n) ∷ []) (cell b ∷ []) u v)); means = refl }

  pub store_said : (a : Reference) (n : Name) (x : Operand) → Reads (One class.Store) us vs (Made (Says p class.Store s) ∷ []) → Reads (One class.Named) vs ws (Made (Names n) ∷ []) → Reads address ws xs (cell a ∷ []) → IsOperand xs ys x
      → SaysLine store us ys (record { place = p; statement = statement.Store n a x })
  store_said a n x r t u h = record { parts = Made (Says p class.Store s) ∷ Made (Names n) ∷ cell a ∷ Value h.written ∷ []; reads = reads_both _ _ us vs ys (Made (Says p class.Store s) ∷ []) (Made (Names n) ∷ cell a ∷ Value h.written ∷ []) r (reads_both _ _ vs ws ys (Made (Names n) ∷ []) (cell a ∷ Value h.written ∷ []) t (reads_both _ _ ws xs ys (cell a ∷ []) (Value h.written ∷ []) u h.reads)); means = rw h.is_meaning refl }

  pub compare_said : (a b : Reference) (x : Operand) → Reads (One class.CompareWord) us vs (Made (Says p class.CompareWord s) ∷ []) → Reads address vs ws (cell a ∷ []) → Reads address ws xs (cell b ∷ []) → IsOperand xs ys x
      → SaysLine compare us ys (record { place = p; statement = compare_of s a b x })
  compare_said a b x r t u h = record { parts = Made (Says p class.CompareWord s) ∷ cell a ∷ cell b ∷ Value h.written ∷ []; reads = reads_both _ _ us vs ys (Made (Says p class.CompareWord s) ∷ []) (cell a ∷ cell b ∷ Value h.written ∷ []) r (reads_both _ _ vs ws ys (cell a ∷ []) (cell b ∷ Value h.written ∷ []) t (reads_both _ _ ws xs ys (cell b ∷ []) (Value h.written ∷ []) u h.reads)); means = rw h.is_meaning refl }

pub kept : (xs : List (List ℕ)) → filter_map kept_of (keeping xs) ≡ xs
kept [] = refl
kept (x ∷ xs) = ap (λ ys. x ∷ ys) (kept xs)

pub pragma_said : (us vs ws xs : List Token) (p : Place) (s : Sort) (n : Name) (ys : List (List ℕ)) → Reads (One class.Pragma) us vs (Made (Says p class.Pragma s) ∷ []) → Reads (One class.Named) vs ws (Made (Names n) ∷ []) → Reads (Many (One class.Any)) ws xs (keeping ys)
    → SaysLine pragma us xs (record { place = p; statement = statement.Pragma n ys })
pragma_said us vs ws xs p s n ys a b c =
    record {
      parts = Made (Says p class.Pragma s) ∷ Made (Names n) ∷ keeping ys;
      reads = reads_both (One class.Pragma) (Seq (One class.Named) (Many (One class.Any))) us vs xs (Made (Says p class.Pragma s) ∷ []) (Made (Names n) ∷ keeping ys) a (reads_both (One class.Named) (Many (One class.Any)) vs ws xs (Made (Names n) ∷ []) (keeping ys) b c);
      means = rw (kept ys) refl;
    }
