-- The layout of declared regions: DECLARE with SHARING and OFFSET, as in the Quil specification.
use Rattle.std.specs.Prelude.{◌≡◌, ℕ, ◌+◌, ◌-◌, ◌*◌, ◌%◌, ◌^◌, ◌≤◌, ◌==◌, nat_lt, min, not, List, [], ◌∷◌, ◌++◌, Option, Some, None, is_some, Result, Ok, Err, bytes_eq, slice_get, fold, if◌then◌else◌, ◌⊎◌}
use Rattle.std.specs.List.{find, sum_by}
use Rattle.quil_memory.specs.declared.cell_type.CellType.{CellType}
use Rattle.quil_memory.specs.declared.claim.Offset.{Offset}
use Rattle.quil_memory.specs.declared.claim.Share.{Share}
use Rattle.quil_memory.specs.declared.claim.Claim.{Claim}
use Rattle.quil_memory.specs.declared.region.Region.{Region}
use Rattle.quil_memory.specs.declared.fault.LayoutFault.{LayoutFault}
use Rattle.quil_memory.specs.declared.fault.LayoutFault.TheVariants as fault
use Rattle.quil_memory.specs.CellTypes.{size}

-- the regions in order of declaration, and how many bits those without SHARING have
pub record Regions : Type 0 where
  pub regions : List Region
  pub bits : ℕ

abbrev pub no_regions : Regions
no_regions = record { regions = []; bits = 0 }

-- at most so many bits
abbrev pub most_bits : ℕ
most_bits = 65536

-- the bits of so many cells
abbrev pub width : CellType → ℕ → ℕ
width kind length = length * size kind

-- the bits of an OFFSET
abbrev pub skipped_bits : List Offset → ℕ
skipped_bits offsets = sum_by (λ o. width o.kind o.count) offsets

-- the first bit of a cell among all bits
abbrev pub first_bit : Region → ℕ → ℕ
first_bit r index = r.first + index * size r.kind

abbrev pub region_named : List ℕ → List Region → Option Region
region_named name regions = find (λ r. bytes_eq name r.name) regions

-- the regions, and one more for a claim: it begins at a bit among all, and at one among those of the unshared region below
abbrev pub with_region : Regions → Claim → ℕ → ℕ → List Region
with_region l c first offset = l.regions ++ record { name = c.name; kind = c.kind; length = c.length; first = first; offset = offset } ∷ []

-- a region without SHARING has bits of its own, behind all others
abbrev pub with_own_bits : Regions → Claim → Result Regions LayoutFault
with_own_bits l c =
    if nat_lt most_bits (l.bits + width c.kind c.length) then Err (fault.MemoryTooLarge (min (l.bits + width c.kind c.length) (2 ^ 64 - 1)))
    else Ok (record { regions = with_region l c l.bits 0; bits = l.bits + width c.kind c.length })

-- a region with SHARING lies on the bits of its base, behind so many of them; its type is aligned in the unshared region below
abbrev pub with_bits_of : Regions → Claim → ℕ → Region → Result Regions LayoutFault
with_bits_of l c skipped base =
    if nat_lt (width base.kind base.length) (skipped + width c.kind c.length) then Err (fault.ShareOutside c.name)
    else if not ((base.offset + skipped) % size c.kind == 0) then Err (fault.Misaligned c.name)
    else Ok (record { regions = with_region l c (base.first + skipped) (base.offset + skipped); bits = l.bits })

-- the base is declared before
abbrev pub with_base : Regions → Claim → Share → Option Region → Result Regions LayoutFault
with_base l c s None = Err (fault.UnknownRegion s.base)
with_base l c s (Some base) = with_bits_of l c (skipped_bits s.offsets) base

abbrev pub with_new : Regions → Claim → Option Share → Result Regions LayoutFault
with_new l c None = with_own_bits l c
with_new l c (Some s) = with_base l c s (region_named s.base l.regions)

-- the layout with one more region, or the claim's first fault
abbrev pub with_claim : Regions → Claim → Result Regions LayoutFault
with_claim l c = if is_some (region_named c.name l.regions) then Err (fault.Redeclared c.name) else with_new l c c.share

abbrev pub with_next : Result Regions LayoutFault → Claim → Result Regions LayoutFault
with_next (Ok l) c = with_claim l c
with_next (Err f) c = Err f

-- the layout with all these regions, or the first fault of the first claim that has one
abbrev pub with_claims : Regions → List Claim → Result Regions LayoutFault
with_claims l claims = fold with_next (Ok l) claims

-- all regions lie within the bits, and those are few
pub record IsLayout (l : Regions) : Type 0 where
  pub few : l.bits ≤ most_bits
  pub within : (i : ℕ) (r : Region) → slice_get l.regions i ≡ Some r → r.first + width r.kind r.length ≤ l.bits
  pub below : (i : ℕ) (r : Region) → slice_get l.regions i ≡ Some r → r.offset ≤ r.first

-- a call gives what it is for, or has no memory for it
abbrev pub Gives : {A : Type 0} → Result A LayoutFault → Result A LayoutFault → Type 0
Gives result expected = (result ≡ expected) ⊎ (result ≡ Err fault.OutOfMemory)
