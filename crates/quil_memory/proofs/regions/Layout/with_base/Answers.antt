use Rattle.std.proofs.Common.{◌≡◌, ap, ◌∙◌, sym, subst, Some, Err, Ok, inl, ◌+◌, ◌%◌, ◌==◌}
use Rattle.std.proofs.lemmas.Bool.{eq-eqb, ne_eqb}
use Rattle.quil_memory.specs.Layout.{Gives, region_named, with_region}
use Rattle.quil_memory.specs.declared.fault.LayoutFault.TheVariants as fault
use Rattle.quil_memory.proofs.Layouts.{no_base, begins_outside, ends_outside, misaligned, placed}
use Rattle.quil_memory.proofs.regions.Layout.with_base.Goals as goal

pub returns-in_default : goal.returns-in_default
returns-in_default c =
    inl (ap (λ n. Err (fault.UnknownRegion n)) c.in_ok-word.ensures
    ∙ sym (no_base c.args.self c.args.claim.now c.args.share.now c.in_default.ensures.none))

pub returns-in_default-skipped_within : goal.returns-in_default-skipped_within
returns-in_default-skipped_within c =
    let named : region_named c.args.share.now.base c.args.self.regions ≡ Some c.region-base.result.now = c.in-Some.ensures.region ∙ c.region-base.ensures.region in
    inl (ap (λ n. Err (fault.ShareOutside n)) c.in_ok-word-2.ensures
    ∙ sym (begins_outside c.args.self c.args.claim.now c.args.share.now c.region-base.result.now named c.width-width.result c.width-width.ensures c.in_default-skipped_within.ensures))

pub returns-in_default-bits_within : goal.returns-in_default-bits_within
returns-in_default-bits_within c =
    let named : region_named c.args.share.now.base c.args.self.regions ≡ Some c.region-base.result.now = c.in-Some.ensures.region ∙ c.region-base.ensures.region in
    inl (ap (λ n. Err (fault.ShareOutside n)) c.in_ok-word-3.ensures
    ∙ sym (ends_outside c.args.self c.args.claim.now c.args.share.now c.region-base.result.now named c.width-width.result c.width-width.ensures c.in-Some-skipped_within.skipped c.in-Some-skipped_within.ensures c.in_default-bits_within.ensures))

pub returns-then-offset-skipped-ne0 : goal.returns-then-offset-skipped-ne0
returns-then-offset-skipped-ne0 c =
    let named : region_named c.args.share.now.base c.args.self.regions ≡ Some c.region-base.result.now = c.in-Some.ensures.region ∙ c.region-base.ensures.region in
    inl (ap (λ n. Err (fault.Misaligned n)) c.in_ok-word-4.ensures
    ∙ sym (misaligned c.args.self c.args.claim.now c.args.share.now c.region-base.result.now named c.width-width.result c.width-width.ensures c.in-Some-skipped_within.skipped c.in-Some-skipped_within.ensures c.in-Some-bits_within.field-0 c.in-Some-bits_within.ensures (ap (λ n. (c.region-base.result.now.offset + c.in-Some-skipped_within.skipped) % n == 0) (sym c.size.ensures.bits) ∙ ne_eqb ((c.region-base.result.now.offset + c.in-Some-skipped_within.skipped) % c.size.result) 0 c.if-offset-skipped-ne0.true)))

pub returns : goal.returns
returns c =
    let named : region_named c.args.share.now.base c.args.self.regions ≡ Some c.region-base.result.now = c.in-Some.ensures.region ∙ c.region-base.ensures.region in
    subst (Gives c.with_region.result) (ap (λ n. Ok (record { regions = with_region c.args.self c.args.claim.now (c.region-base.result.now.first + c.in-Some-skipped_within.skipped) (c.region-base.result.now.offset + c.in-Some-skipped_within.skipped); bits = n })) c.bits-bits.ensures.value
    ∙ sym (placed c.args.self c.args.claim.now c.args.share.now c.region-base.result.now named c.width-width.result c.width-width.ensures c.in-Some-skipped_within.skipped c.in-Some-skipped_within.ensures c.in-Some-bits_within.field-0 c.in-Some-bits_within.ensures (ap (λ n. (c.region-base.result.now.offset + c.in-Some-skipped_within.skipped) % n == 0) (sym c.size.ensures.bits) ∙ eq-eqb ((c.region-base.result.now.offset + c.in-Some-skipped_within.skipped) % c.size.result) 0 c.if-offset-skipped-ne0.false))) c.with_region.ensures
