-- What the sizes require, from what a store knows of its lines and its allocator: the region ends within 64 bits.
use Rattle.std.proofs.Common.{◌≡◌, ℕ, ◌+◌, ◌-◌, ◌*◌, ◌^◌, ◌<◌, ◌≤◌, Bool, true, false, Some, None, Option, sym, refl, ap, ◌∙◌, subst, inl, arith}
use Rattle.allocation.specs.declared.block.Block.{Block}
use Rattle.allocation.specs.Meaning.{Meaning, Allocates, end_of}
use Rattle.allocation.specs.Alignments.{round_up}
use Rattle.allocation.proofs.Rounding.{round_up_low, round_up_high}
use Rattle.model.specs.declared.line.Line.{Line}
use Rattle.model.specs.Checks.{request_for}
use Rattle.model.specs.Effects.{Obtains, start_in}
use Rattle.model.specs.Invariant.{Sits}
use Rattle.sizes.specs.Numbers.{Spaced}

-- a block that was got for n bytes leaves room to round up to an alignment a of at most n
pub spaced_block : (m m' : Meaning) (n a : ℕ) (b : Block) → m.base + m.extent < 2 ^ 64 → 1 ≤ a → a ≤ n → Allocates m (request_for n) b m' → Spaced m.base a (Some b)
spaced_block m m' n a b low one le g =
    let within : end_of b ≤ m'.extent = g.lawful.within b ((g.live b).1 (inl refl)) in
    (one, omega (arith, g.size), omega (arith, g.size, g.fixed.extent, within))

pub spaced_got : (wanted : Bool) (m m' : Meaning) (n a : ℕ) (got : Option Block) → m.base + m.extent < 2 ^ 64 → 1 ≤ a → a ≤ n → Obtains wanted m (request_for n) got m' → Spaced m.base a got
spaced_got true m m' n a got low one le g = subst (Spaced m.base a) (sym g.1) (spaced_block m m' n a g.0 low one le g.2)
spaced_got false m m' n a got low one le g = subst (Spaced m.base a) (sym g.0) tt

-- elements end within 64 bits where their block does
pub len_below : (base : ℕ) (l : Line) (o : Option Block) → l.start < 2 ^ 64 → ((b : Block) → o ≡ Some b → base + end_of b < 2 ^ 64) → Sits base l o → l.start + l.len * l.kind.width < 2 ^ 64
len_below base l None low ends s = rw s.0 (omega arith)
len_below base l (Some b) low ends s = omega (arith, s.1, ends b refl)

pub capacity_below : (base : ℕ) (l : Line) (o : Option Block) → l.start < 2 ^ 64 → ((b : Block) → o ≡ Some b → base + end_of b < 2 ^ 64) → Sits base l o → l.start + l.capacity * l.kind.width < 2 ^ 64
capacity_below base l None low ends s = rw s.1 (omega arith)
capacity_below base l (Some b) low ends s = omega (arith, s.2, ends b refl)

-- in a block that was got, elements start at or above the block's start, and below its end
module _ (base m : ℕ) (b : Block) (got : Option Block) (start : ℕ) (is : got ≡ Some b) (e : start ≡ start_in base m got) where
  starts_at : start ≡ round_up (base + b.place) m
  starts_at = e ∙ ap (start_in base m) is

  pub start_low : base + b.place ≤ start
  start_low = omega (arith, starts_at, round_up_low (base + b.place) m)

  pub start_high : Spaced base m got → start - (base + b.place) ≤ b.size
  start_high s = let t : Spaced base m (Some b) = subst (Spaced base m) is s in omega (arith, starts_at, t.1, round_up_high (base + b.place) m t.0)
