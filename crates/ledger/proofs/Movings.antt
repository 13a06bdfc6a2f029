-- Moving a line's elements into a block: what the steps need, and what they come to.
use Rattle.std.proofs.Common.{◌≡◌, ℕ, ◌+◌, ◌-◌, ◌*◌, ◌^◌, ◌<◌, ◌≤◌, Bool, true, false, cond, ◌||◌, List, Some, None, Option, Result, sym, refl, ap, ◌∙◌, subst, inl, inr, true≢false, arith, MatchResult}
use Rattle.std.proofs.lemmas.Result.{MatchResult-weaker}
use Rattle.std.proofs.lemmas.Bool.{eq-eqb, ne_eqb, le-leb}
use Rattle.region.specs.Bytes.{overwrite, part}
use Rattle.allocation.specs.Alignments.{round_up}
use Rattle.allocation.specs.Faults.{allocate_fault, grow_fault}
use Rattle.allocation.specs.Meaning.{Meaning, Allocates, Grows}
use Rattle.allocation.specs.declared.block.Block.{Block}
use Rattle.allocation.specs.declared.block.Request.{Request}
use Rattle.allocation.specs.declared.fault.Fault.{Fault}
use Rattle.allocation.proofs.Rounding.{round_up_low, round_up_high}
use Rattle.sizes.specs.Numbers.{Spaced}
use Rattle.model.specs.Book.{block_of, shown}
use Rattle.model.specs.Checks.{not_granted, smaller}
use Rattle.model.specs.Effects.{GivesBack, TakesNew, Grown}
use Rattle.model.specs.declared.line.Line.{Line}
use Rattle.ledger.specs.Giving.{give_fault}
use Rattle.ledger.specs.Moving.{Copyable, Movable, Moved, place_at, by_taking, moving_granted}
use Rattle.ledger.proofs.Releases.{among_live, taken_back}

pub taken_within : (m : Meaning) (r : Request) (b : Block) (m' : Meaning) → Allocates m r b m' → b.place + b.size ≤ m.extent
taken_within m r b m' x = omega (arith, x.lawful.within b ((x.live b).1 (inl refl)), x.fixed.extent)

pub grown_within : (m : Meaning) (d : Block) (r : Request) (b : Block) (m' : Meaning) (xs ys : List ℕ) → Grows m d r b m' xs ys → b.place + b.size ≤ m.extent
grown_within m d r b m' xs ys x = omega (arith, x.lawful.within b ((x.live b).1 (inl refl)), x.fixed.extent)

cond_none : {X : Type 0} (b : Bool) (x : X) → cond b None (Some x) ≡ None → b ≡ true
cond_none true x e = refl
cond_none false x e = let z : ◌≡◌ {A = ℕ} 0 1 = cc in absurd (omega arith)

cond_some : {X : Type 0} (b : Bool) (x y : X) → cond b None (Some x) ≡ Some y → (b ≡ false) × (y ≡ x)
cond_some true x y e = let z : ◌≡◌ {A = ℕ} 0 1 = cc in absurd (omega arith)
cond_some false x y e = (refl, let z : y ≡ x = cc in z)

module _ (m : Meaning) (n : ℕ) (l : Line) (r : Request) (v : Movable m n l r) where
  -- a block of the request that lies in the region has room to round up
  pub spaced_in : (b : Block) (base : ℕ) → b.size ≡ r.size → b.place + b.size ≤ m.extent → base ≡ m.base → Spaced base l.claim (Some b)
  spaced_in b base e w eb = (v.claim_low, omega (arith, v.room), omega (arith, v.room, v.ends))

  pub place_fits : (b : Block) (base place : ℕ) → b.size ≡ r.size → b.place + b.size ≤ m.extent → base ≡ m.base → place ≡ round_up (base + b.place) l.claim - base → place + l.len * l.kind.width ≤ n
  place_fits b base place e w eb ep = omega (arith, v.room, v.long, round_up_high (base + b.place) l.claim v.claim_low, round_up_low (base + b.place) l.claim)

  pub place_is : (b : Block) (base place : ℕ) → base ≡ m.base → place ≡ round_up (base + b.place) l.claim - base → place ≡ place_at m l b
  place_is b base place eb ep = ep ∙ ap (λ z. round_up (z + b.place) l.claim - z) eb

  pub copyable : (b : Block) (base place : ℕ) → b.size ≡ r.size → b.place + b.size ≤ m.extent → base ≡ m.base → place ≡ round_up (base + b.place) l.claim - base → Copyable base l n place (block_of l.backing)
  copyable b base place e w eb ep = go (block_of l.backing) refl
    where
      go : (o : Option Block) → block_of l.backing ≡ o → Copyable base l n place o
      go None q = tt
      go (Some d) q =
          let f = place_fits b base place e w eb ep in
          let inside = v.lawful.within d (v.held d q) in
          (omega (arith, v.low d q, eb), omega (arith, v.low d q, v.high d q, inside, v.long, eb), f)

  -- the old block is taken back after the new one is got
  pub old_goes : (n' : ℕ) (b : Block) (m' : Meaning) (o : Option Block) (f : Fault) → n' ≡ n → Allocates m r b m' → o ≡ block_of l.backing → give_fault m' n' o ≡ Some f → ⊥
  old_goes n' b m' o f en x eo e = taken_back m' n' o f (en ∙ v.long ∙ sym x.fixed.extent) (λ d q. (x.live d).1 (inr (v.held d (sym eo ∙ q)))) e

  alloc_fault_is : allocate_fault m n r ≡ cond (m.grants r) None (Some (not_granted r))
  alloc_fault_is = rw (eq-eqb n m.extent v.long, ne_eqb r.size 0 (λ e. omega (arith, v.room, v.claim_low)))

  pub alloc_granted : allocate_fault m n r ≡ None → m.grants r ≡ true
  alloc_granted e = cond_none (m.grants r) (not_granted r) (sym alloc_fault_is ∙ e)

  pub alloc_refused : (f : Fault) → allocate_fault m n r ≡ Some f → (m.grants r ≡ false) × (f ≡ not_granted r)
  alloc_refused f e = cond_some (m.grants r) (not_granted r) f (sym alloc_fault_is ∙ e)

  pub taken_by : (b : Block) (base place : ℕ) (between m' : Meaning) (o : Option Block) (xs ys : List ℕ) → base ≡ m.base → place ≡ round_up (base + b.place) l.claim - base → o ≡ block_of l.backing → Allocates m r b between → GivesBack between o m'
      → ys ≡ overwrite place (shown base l xs) xs → TakesNew m xs l r (place_at m l b) b m' ys
  taken_by b base place between m' o xs ys eb ep eo x g e = record {
    between = between;
    gets = x;
    gives = subst (λ z. GivesBack between z m') eo g;
    writes = e ∙ ap (λ z. overwrite z (shown base l xs) xs) (place_is b base place eb ep) ∙ ap (λ z. overwrite (place_at m l b) (shown z l xs) xs) eb;
  }

  module _ (d : Block) (q : block_of l.backing ≡ Some d) (larger : d.size ≤ r.size) where
    grow_fault_is : grow_fault m n d r ≡ cond (m.grows d r) None (Some (not_granted r))
    grow_fault_is = rw (eq-eqb n m.extent v.long, among_live d m.live (v.held d q), le-leb d.size r.size larger)

    pub grow_granted : grow_fault m n d r ≡ None → m.grows d r ≡ true
    grow_granted e = cond_none (m.grows d r) (not_granted r) (sym grow_fault_is ∙ e)

    pub grow_refused : (f : Fault) → grow_fault m n d r ≡ Some f → (m.grows d r ≡ false) × (f ≡ not_granted r)
    grow_refused f e = cond_some (m.grows d r) (not_granted r) f (sym grow_fault_is ∙ e)

    -- where the elements stand after the growth
    pub offset_fits : (b : Block) (base : ℕ) → b.size ≡ r.size → b.place + b.size ≤ m.extent → base ≡ m.base
        → (base + d.place ≤ l.start) × (b.place + (l.start - (base + d.place)) < 2 ^ 64) × ((b.place + (l.start - (base + d.place))) + l.len * l.kind.width ≤ n)
    offset_fits b base e w eb = (omega (arith, v.low d q), omega (arith, v.low d q, v.high d q, larger, v.ends), omega (arith, v.low d q, v.high d q, larger, v.long))

    pub grown_by : (b : Block) (base place from : ℕ) (m' : Meaning) (xs zs ys : List ℕ) → base ≡ m.base → place ≡ round_up (base + b.place) l.claim - base → from ≡ b.place + (l.start - (base + d.place)) → Grows m d r b m' xs zs
        → ys ≡ overwrite place (part from (l.len * l.kind.width) zs) zs → Grown m xs l r (place_at m l b) b m' ys
    grown_by b base place from m' xs zs ys eb ep ef x e = record {
      from = d;
      was = q;
      between = zs;
      grows = x;
      moves = e ∙ ap (λ z. overwrite z (part from (l.len * l.kind.width) zs) zs) (place_is b base place eb ep)
          ∙ ap (λ z. overwrite (place_at m l b) (part z (l.len * l.kind.width) zs) zs) (ef ∙ ap (λ z. b.place + (l.start - (z + d.place))) eb);
    }

-- both ways of moving
module _ (m : Meaning) (xs : List ℕ) (l : Line) (r : Request) (m' : Meaning) (ys : List ℕ) (t : Result Block Fault) where
  abbrev RefusedAs : Fault → Type 0
  RefusedAs f = (moving_granted m r (block_of l.backing) ≡ false) × (f ≡ not_granted r) × (m' ≡ m) × (ys ≡ xs)

  pub by_growing : (d : Block) → block_of l.backing ≡ Some d → by_taking m r (block_of l.backing) ≡ false
      → MatchResult t (λ b. (m.grows d r ≡ true) × Grown m xs l r (place_at m l b) b m' ys) (λ f. (m.grows d r ≡ false) × (f ≡ not_granted r) × (m' ≡ m) × (ys ≡ xs))
      → MatchResult t (λ b. Moved m xs l r b m' ys) (λ f. (moving_granted m r (block_of l.backing) ≡ false) × (f ≡ not_granted r) × (m' ≡ m) × (ys ≡ xs))
  by_growing d q na h = MatchResult-weaker t h
      (λ b x. record {
        granted = rule ∙ x.0;
        by_new = λ z. absurd (true≢false (sym z ∙ na));
        by_growth = λ z. x.1;
        size = x.1.grows.size;
        within = grown_within m x.1.from r b m' xs x.1.between x.1.grows;
      })
      (λ f x. (rule ∙ x.0, x.1, x.2, x.3))
    where
      rule : moving_granted m r (block_of l.backing) ≡ m.grows d r
      rule = rw (na, q)

  pub by_new_block : by_taking m r (block_of l.backing) ≡ true
      → MatchResult t (λ b. (m.grants r ≡ true) × TakesNew m xs l r (place_at m l b) b m' ys) (λ f. (m.grants r ≡ false) × (f ≡ not_granted r) × (m' ≡ m) × (ys ≡ xs))
      → MatchResult t (λ b. Moved m xs l r b m' ys) (λ f. (moving_granted m r (block_of l.backing) ≡ false) × (f ≡ not_granted r) × (m' ≡ m) × (ys ≡ xs))
  by_new_block ye h = MatchResult-weaker t h
      (λ b x. record {
        granted = rule ∙ x.0;
        by_new = λ z. x.1;
        by_growth = λ z. absurd (true≢false (sym ye ∙ z));
        size = x.1.gets.size;
        within = taken_within m r b x.1.between x.1.gets;
      })
      (λ f x. (rule ∙ x.0, x.1, x.2, x.3))
    where
      rule : moving_granted m r (block_of l.backing) ≡ m.grants r
      rule = rw ye

-- the way that the code takes is the way of the definitions
pub way_is : (m : Meaning) (l : Line) (r : Request) (size : ℕ) (copies : Bool) (o : Option Block) (b : Bool) → copies ≡ m.copies → size ≡ r.size → o ≡ block_of l.backing → (copies || smaller size o) ≡ b → by_taking m r (block_of l.backing) ≡ b
way_is m l r size copies o b ec es eo e = sym (λ i. ec i || smaller (es i) (eo i)) ∙ e
