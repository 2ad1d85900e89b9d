use Rattle.std.proofs.Common.{◌≡◌, refl, ap, ◌∙◌, sym, subst, is_some, false, List, length, map, [], ◌∷◌, ◌++◌, ◌<◌, ◌^◌, arith}
use Rattle.std.proofs.lemmas.List.{length-append}
use Rattle.quil_memory.specs.Layout.{Regions, IsLayout, region_named}
use Rattle.quil_memory.specs.declared.region.Region.{Region}
use Rattle.quil_memory.proofs.Names.{names_more}
use Rattle.quil_memory.proofs.Layouts.{layout_more}
use Rattle.quil_memory.proofs.regions.Layout.with_region.Goals as goal

pub invariant_of-self : goal.invariant_of-self
invariant_of-self c =
    let name = c.args.claim.now.name in
    let rs = c.self.inside.regions.items in
    let r : Region = record { name = c.in_ok-copied.field-0; kind = c.args.claim.now.kind; length = c.args.claim.now.length; first = c.args.first; offset = c.args.offset } in
    let missed : is_some (region_named name rs) ≡ false = ap (λ (l : Regions). is_some (region_named name l.regions)) c.self.view_is ∙ c.requires.new in
    let names = names_more (λ v. v.items) name c.in_ok-key.key c.self.inside.names.keys c.insert.new.self.keys rs r c.self.invariant.0 missed (c.in_ok-key.ensures.items ∙ c.as_bytes.ensures) c.in_ok-insert.ensures.keys c.in_ok-copied.ensures in
    let more = layout_more (record { regions = rs; bits = c.self.inside.bits }) rs r c.args.bits c.self.invariant.2 refl c.requires.few (omega (arith, ap (λ (l : Regions). l.bits) c.self.view_is, c.requires.more)) c.requires.within c.requires.below in
    let items : c.push.new.self.items ≡ rs ++ r ∷ [] = c.in_ok-push.ensures.items in
    let count : length c.push.new.self.items < 2 ^ 32 = omega (arith, ap (length {A = Region}) items, length-append rs (r ∷ []), c.if-len.false, c.len.ensures) in
    (names ∙ ap (map (λ (r : Region). r.name)) (sym items), count, subst (λ (xs : List Region). IsLayout (record { regions = xs; bits = c.args.bits })) (sym items) more)
