use Rattle.std.proofs.Common.{◌≡◌, sym, ◌∙◌, ap, subst, ℕ, ◌+◌, ◌-◌, ◌^◌, ◌<◌, ◌≤◌, inl, inr, List, [], ◌∷◌, length, take, drop, All, arith}
use Rattle.std.proofs.lemmas.List.Elements.{All-take, All-drop}
use Rattle.quil_code.specs.declared.act.Piece.{Piece}
use Rattle.quil_code.specs.declared.gate_code.Control.{Control}
use Rattle.quil_code.specs.declared.gate_code.Control.TheVariants.{Controlled, Forked}
use Rattle.quil_code.specs.Acts.{matrix_at}
use Rattle.quil_code.specs.GateCodes.{forks}
use Rattle.quil_gate.specs.Pieces.{leaf_gate, number_limit, AreNumbers, AddsPieces}
use Rattle.quil_gate.proofs.Added.{adds_one, adds_controlled, adds_forked, twice_patterns, same_forks, twice_forks, with_control}
use Rattle.quil_gate.proofs.acts.+add_pieces.Goals as goal

pub returns-in_default : goal.returns-in_default
returns-in_default t c =
    let none = c.outermost.ensures.none c.in_default.is in
    let f = leaf_gate c.args.gate.now in
    let xs = c.args.numbers.now in
    let old = c.args.pieces.now.items in
    subst (λ (cs : List Control). AddsPieces f cs c.args.pattern xs old c.push.new.self.items) (sym none)
    (subst (λ (new : List Piece). AddsPieces f [] c.args.pattern xs old new) (sym c.push.ensures.items)
    (adds_one f c.args.pattern xs old c.leaf-matrix.result c.arity-arity.ensures.form c.leaf-matrix.ensures
    (λ p l h. c.requires.free p l (subst (λ (cs : List Control). p < c.args.pattern + 2 ^ length cs) (sym none) h))))

pub raised-requires : goal.raised-requires
raised-requires t c = let d = twice_patterns c.args.controls.now c.in-Some.rest.now c.in-Some.control c.in-Some.ensures.some in omega (arith, d, c.requires.patterns)

pub add_pieces-requires : goal.add_pieces-requires
add_pieces-requires t c =
    let e = c.in-Some.ensures.some in
    let d = twice_patterns c.args.controls.now c.in-Some.rest.now c.in-Some.control e in
    let f = same_forks c.args.controls.now c.in-Some.rest.now c.in-Some.control e c.in-Controlled.is in (
      omega (arith, c.decreases, ap length e),
      (
        omega (arith, f, c.requires.room),
        (
          omega (arith, d, c.requires.patterns, c.raised.ensures),
          (
            c.requires.some,
            (
              c.requires.numbers,
              λ p l h. c.requires.free p (omega (arith, l, c.raised.ensures)) (omega (arith, h, c.raised.ensures, d)),
            ),
          ),
        ),
      ),
    )

pub add_pieces-requires-in-Forked : goal.add_pieces-requires-in-Forked
add_pieces-requires-in-Forked t c =
    let e = c.in-Some.ensures.some in
    let d = twice_patterns c.args.controls.now c.in-Some.rest.now c.in-Some.control e in
    let f = twice_forks c.args.controls.now c.in-Some.rest.now c.in-Some.control e c.in-Forked.is in (
      omega (arith, c.decreases, ap length e),
      (
        omega (arith, f, c.requires.room),
        (
          omega (arith, d, c.requires.patterns),
          (
            c.requires.some,
            (
              subst (AreNumbers c.args.gate.now.base) (sym c.split_at.ensures.front) (All-take (λ x. x < number_limit c.args.gate.now.base) _ c.args.numbers.now c.requires.numbers),
              λ p l h. c.requires.free p l (omega (arith, h, d)),
            ),
          ),
        ),
      ),
    )

pub raised-requires-in-Forked : goal.raised-requires-in-Forked
raised-requires-in-Forked t c = let d = twice_patterns c.args.controls.now c.in-Some.rest.now c.in-Some.control c.in-Some.ensures.some in omega (arith, d, c.requires.patterns)

pub add_pieces-requires-in-Forked-2 : goal.add_pieces-requires-in-Forked-2
add_pieces-requires-in-Forked-2 t c =
    let e = c.in-Some.ensures.some in
    let d = twice_patterns c.args.controls.now c.in-Some.rest.now c.in-Some.control e in
    let f = twice_forks c.args.controls.now c.in-Some.rest.now c.in-Some.control e c.in-Forked.is in (
      omega (arith, c.decreases, ap length e),
      (
        omega (arith, f, c.requires.room, c.add_pieces-in-Forked.ensures.count),
        (
          omega (arith, d, c.requires.patterns, c.raised-in-Forked.ensures),
          (
            c.requires.some,
            (
              subst (AreNumbers c.args.gate.now.base) (sym c.split_at.ensures.back) (All-drop (λ x. x < number_limit c.args.gate.now.base) _ c.args.numbers.now c.requires.numbers),
              λ p l h. c.add_pieces-in-Forked.ensures.elsewhere p (inr (omega (arith, l, c.raised-in-Forked.ensures))) ∙ c.requires.free p (omega (arith, l, c.raised-in-Forked.ensures)) (omega (arith, h, c.raised-in-Forked.ensures, d)),
            ),
          ),
        ),
      ),
    )

pub returns-in-Controlled : goal.returns-in-Controlled
returns-in-Controlled t c =
    let e = c.in-Some.ensures.some in
    let d = twice_patterns c.args.controls.now c.in-Some.rest.now c.in-Some.control e in
    let f = leaf_gate c.args.gate.now in
    let old = c.args.pieces.now.items in
    let new = c.add_pieces.new.pieces.items in
    subst (λ (cs : List Control). AddsPieces f cs c.args.pattern c.args.numbers.now old new) (with_control c.args.controls.now c.in-Some.rest.now c.in-Some.control Controlled e c.in-Controlled.is)
    (adds_controlled f c.in-Some.rest.now c.args.pattern c.args.numbers.now old new (λ p l h. c.requires.free p l (subst (λ (cs : List Control). p < c.args.pattern + 2 ^ length cs) (sym e) h))
    (subst (λ (k : ℕ). AddsPieces f c.in-Some.rest.now k c.args.numbers.now old new) c.raised.ensures c.add_pieces.ensures))

pub returns-in-Forked : goal.returns-in-Forked
returns-in-Forked t c =
    let e = c.in-Some.ensures.some in
    let f = leaf_gate c.args.gate.now in
    let old = c.args.pieces.now.items in
    let between = c.add_pieces-in-Forked.new.pieces.items in
    let new = c.add_pieces-in-Forked-2.new.pieces.items in
    let rest = c.in-Some.rest.now in
    subst (λ (cs : List Control). AddsPieces f cs c.args.pattern c.args.numbers.now old new) (with_control c.args.controls.now rest c.in-Some.control Forked e c.in-Forked.is)
    (adds_forked f rest c.args.pattern c.args.numbers.now old between new
    (subst (λ (xs : List ℕ). AddsPieces f rest c.args.pattern xs old between) c.split_at.ensures.front c.add_pieces-in-Forked.ensures)
    (subst (λ (xs : List ℕ). AddsPieces f rest (c.args.pattern + 2 ^ length rest) xs between new) c.split_at.ensures.back
    (subst (λ (k : ℕ). AddsPieces f rest k c.split_at.result.1.now between new) c.raised-in-Forked.ensures c.add_pieces-in-Forked-2.ensures)))
