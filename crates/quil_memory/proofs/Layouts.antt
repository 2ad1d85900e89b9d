-- A layout with one more region, and the faults of one with SHARING.
use Rattle.std.proofs.Common.{◌≡◌, refl, sym, ◌∙◌, ap, subst, ℕ, ◌+◌, ◌-◌, ◌%◌, ◌<◌, ◌≤◌, inl, inr, ◌==◌, nat_lt, Bool, true, false, not, List, [], ◌∷◌, ◌++◌, length, get_or, slice_get, Option, Some, None, is_some, fold, Result, Ok, Err, IsErrAnd, arith, if◌then◌else◌}
use Rattle.std.proofs.lemmas.Bool.{ltb-true, ltb-false, lt-ltb, le-ltb, cond-true, cond-false}
use Rattle.std.proofs.Math.ListN.{get_or-append}
use Rattle.std.proofs.Math.Nat.{mul-le-mul_right}
use Rattle.std.proofs.Math.Seq.{get_or-append_seam}
use Rattle.std.proofs.lemmas.List.{length-append}
use Rattle.std.proofs.lemmas.Option.{slice_get_within, slice_get_read, get_or_from_slice_get}
use Rattle.quil_memory.specs.declared.claim.Claim.{Claim}
use Rattle.quil_memory.specs.declared.claim.Share.{Share}
use Rattle.quil_memory.specs.declared.region.Region.{Region}
use Rattle.quil_memory.specs.declared.fault.LayoutFault.{LayoutFault}
use Rattle.quil_memory.specs.declared.fault.LayoutFault.TheVariants as fault
use Rattle.quil_memory.specs.CellTypes.{size}
use Rattle.quil_memory.specs.Layout.{Regions, IsLayout, Gives, first_bit, width, most_bits, skipped_bits, with_region, with_base, with_new, with_claim, with_next, region_named}

-- what holds of each region holds of each with one more
each_more : (P : Region → Type 0) (rs : List Region) (r : Region) → ((i : ℕ) (q : Region) → slice_get rs i ≡ Some q → P q) → P r → (i : ℕ) (q : Region) → slice_get (rs ++ r ∷ []) i ≡ Some q → P q
each_more P rs r each here i q e = by (nat_lt i (length rs)) refl
  where
    all : length (rs ++ r ∷ []) ≡ length rs + 1
    all = length-append rs (r ∷ []) ∙ omega arith

    bound : i < length rs + 1
    bound = omega (arith, slice_get_within (rs ++ r ∷ []) i q e, all)

    is : get_or (rs ++ r ∷ []) i q ≡ q
    is = get_or_from_slice_get (rs ++ r ∷ []) i q q e

    by : (b : Bool) → nat_lt i (length rs) ≡ b → P q
    by true t = each i q (slice_get_read rs (length rs) i q refl (ltb-true i (length rs) t) (sym is ∙ get_or-append rs (r ∷ []) q i (ltb-true i (length rs) t)))
    by false t =
        let last : i ≡ length rs = omega (arith, ltb-false i (length rs) t, bound) in
        let same : r ≡ q = sym (get_or-append_seam rs r [] q) ∙ ap (λ j. get_or (rs ++ r ∷ []) j q) (sym last) ∙ is in
        subst P same here

pub layout_more : (l : Regions) (rs : List Region) (r : Region) (bits : ℕ) → IsLayout l → l.regions ≡ rs → bits ≤ most_bits → l.bits ≤ bits → r.first + width r.kind r.length ≤ bits → r.offset ≤ r.first → IsLayout (record { regions = rs ++ r ∷ []; bits = bits })
layout_more l rs r bits h is few more within below = record {
  few = few;
  within = each_more (λ q. q.first + width q.kind q.length ≤ bits) rs r (λ i q e. omega (arith, h.within i q (ap (λ (xs : List Region). slice_get xs i) is ∙ e), more)) within;
  below = each_more (λ q. q.offset ≤ q.first) rs r (λ i q e. h.below i q (ap (λ (xs : List Region). slice_get xs i) is ∙ e)) below;
}

-- the bits of an offset, and then of the cells, where they are few
none_over : (a b : ℕ) → None ≡ (if nat_lt a b then None else Some b) → a < b
none_over a b e = by (nat_lt a b) refl e
  where
    by : (t : Bool) → nat_lt a b ≡ t → None ≡ (if t then None else Some b) → a < b
    by true is e = ltb-true a b is
    by false is e = cc

some_within : (a b c : ℕ) → Some c ≡ (if nat_lt a b then None else Some b) → (c ≡ b) × (b ≤ a)
some_within a b c e = by (nat_lt a b) refl e
  where
    by : (t : Bool) → nat_lt a b ≡ t → Some c ≡ (if t then None else Some b) → (c ≡ b) × (b ≤ a)
    by true is e = cc
    by false is e = (cc, omega (arith, ltb-false a b is))

module _ (l : Regions) (c : Claim) (s : Share) where
  pub no_base : region_named s.base l.regions ≡ None → with_base l c s (region_named s.base l.regions) ≡ Err (fault.UnknownRegion s.base)
  no_base e = ap (with_base l c s) e

  module _ (base : Region) (named : region_named s.base l.regions ≡ Some base) (w : ℕ) (wide : w ≡ width base.kind base.length) where
    outside : width base.kind base.length < skipped_bits s.offsets + width c.kind c.length → with_base l c s (region_named s.base l.regions) ≡ Err (fault.ShareOutside c.name)
    outside h = ap (with_base l c s) named ∙ cond-true (nat_lt (width base.kind base.length) (skipped_bits s.offsets + width c.kind c.length)) _ _ (lt-ltb (width base.kind base.length) (skipped_bits s.offsets + width c.kind c.length) h)

    pub begins_outside : None ≡ (if nat_lt w (skipped_bits s.offsets) then None else Some (skipped_bits s.offsets)) → with_base l c s (region_named s.base l.regions) ≡ Err (fault.ShareOutside c.name)
    begins_outside e = outside (omega (arith, none_over w (skipped_bits s.offsets) e, wide))

    module _ (k : ℕ) (skipped : Some k ≡ (if nat_lt w (skipped_bits s.offsets) then None else Some (skipped_bits s.offsets))) where
      pub skipped_is : k ≡ skipped_bits s.offsets
      skipped_is = (some_within w (skipped_bits s.offsets) k skipped).0

      pub ends_outside : None ≡ (if nat_lt (w - k) (width c.kind c.length) then None else Some (width c.kind c.length)) → with_base l c s (region_named s.base l.regions) ≡ Err (fault.ShareOutside c.name)
      ends_outside e = outside (omega (arith, none_over (w - k) (width c.kind c.length) e, skipped_is, wide))

      module _ (m : ℕ) (fits : Some m ≡ (if nat_lt (w - k) (width c.kind c.length) then None else Some (width c.kind c.length))) where
        inside : skipped_bits s.offsets + width c.kind c.length ≤ width base.kind base.length
        inside = omega (arith, (some_within (w - k) (width c.kind c.length) m fits).1, (some_within w (skipped_bits s.offsets) k skipped).0, (some_within w (skipped_bits s.offsets) k skipped).1, wide)

        pub misaligned : ((base.offset + k) % size c.kind == 0) ≡ false → with_base l c s (region_named s.base l.regions) ≡ Err (fault.Misaligned c.name)
        misaligned e =
            ap (with_base l c s) named
            ∙ cond-false (nat_lt (width base.kind base.length) (skipped_bits s.offsets + width c.kind c.length)) _ _ (le-ltb (width base.kind base.length) (skipped_bits s.offsets + width c.kind c.length) inside)
            ∙ cond-true (not ((base.offset + skipped_bits s.offsets) % size c.kind == 0)) _ _ (ap (λ j. not ((base.offset + j) % size c.kind == 0)) (sym skipped_is) ∙ ap not e)

        pub placed : ((base.offset + k) % size c.kind == 0) ≡ true → with_base l c s (region_named s.base l.regions) ≡ Ok (record { regions = with_region l c (base.first + k) (base.offset + k); bits = l.bits })
        placed e =
            ap (with_base l c s) named
            ∙ cond-false (nat_lt (width base.kind base.length) (skipped_bits s.offsets + width c.kind c.length)) _ _ (le-ltb (width base.kind base.length) (skipped_bits s.offsets + width c.kind c.length) inside)
            ∙ cond-false (not ((base.offset + skipped_bits s.offsets) % size c.kind == 0)) _ _ (ap (λ j. not ((base.offset + j) % size c.kind == 0)) (sym skipped_is) ∙ ap not e)
            ∙ ap (λ j. Ok (record { regions = with_region l c (base.first + j) (base.offset + j); bits = l.bits })) (sym skipped_is)

-- a claim by its name
pub name_known : (l : Regions) (c : Claim) → is_some (region_named c.name l.regions) ≡ true → with_claim l c ≡ Err (fault.Redeclared c.name)
name_known l c e = cond-true (is_some (region_named c.name l.regions)) _ _ e

pub name_new : (l : Regions) (c : Claim) (s : Option Share) → is_some (region_named c.name l.regions) ≡ false → c.share ≡ s → with_claim l c ≡ with_new l c s
name_new l c s e is = cond-false (is_some (region_named c.name l.regions)) _ _ e ∙ ap (with_new l c) is

-- nothing is declared behind a fault
pub fault_stays : (f : LayoutFault) (cs : List Claim) → fold with_next (Err f) cs ≡ Err f
fault_stays f [] = refl
fault_stays f (c ∷ cs) = fault_stays f cs

rest_of : (claims : List Claim) (c : Claim) → 1 ≤ length claims → c ≡ get_or claims 0 c → (cs : List Claim) × (claims ≡ c ∷ cs)
rest_of [] c some e = absurd (omega arith)
rest_of (d ∷ cs) c some e = (cs, ap (λ x. x ∷ cs) (sym e))

pub first_fault : (l : Regions) (c : Claim) (claims : List Claim) (f : LayoutFault) (result all : Result Regions LayoutFault) → 1 ≤ length claims → c ≡ get_or claims 0 c
    → Gives (Err f) (with_claim l c) → IsErrAnd result (λ g. g ≡ f) → fold with_next (Ok l) claims ≡ all → Gives result all
first_fault l c claims f (Ok m) all some is h e same = absurd e
first_fault l c claims f (Err g) all some is h e same =
    let rest = rest_of claims c some is in
    let whole : fold with_next (with_claim l c) rest.0 ≡ all = ap (fold with_next (Ok l)) (sym rest.1) ∙ same in
    by h whole
  where
    by : Gives (Err f) (with_claim l c) → fold with_next (with_claim l c) (rest_of claims c some is).0 ≡ all → Gives (Err g) all
    by (inl i) whole = inl (ap Err e ∙ sym (ap (λ r. fold with_next r (rest_of claims c some is).0) (sym i) ∙ fault_stays f (rest_of claims c some is).0) ∙ whole)
    by (inr i) whole = inr (ap Err e ∙ i)

-- a cell of a region ends within the bits
pub cell_ends : (l : Regions) (n index : ℕ) (r : Region) → IsLayout l → slice_get l.regions n ≡ Some r → index < r.length → first_bit r index + size r.kind ≤ l.bits
cell_ends l n index r h e k = omega (arith, h.within n r e, mul-le-mul_right {m = index + 1} {n = r.length} (size r.kind) (omega arith))

pub region_ends : (l : Regions) (n : ℕ) (r : Region) → IsLayout l → slice_get l.regions n ≡ Some r → r.first + width r.kind r.length ≤ most_bits
region_ends l n r h e = omega (arith, h.within n r e, h.few)
