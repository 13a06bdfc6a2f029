-- A line and its row, made and changed.
use Rattle.std.proofs.Common.{◌≡◌, ℕ, ◌+◌, ◌-◌, ◌*◌, ◌/◌, ◌<◌, ◌≤◌, true, List, [], ◌++◌, length, take, drop, set, Some, None, Option, sym, refl, ap, ◌∙◌, subst, inl, ⊎_elim, mul-le-mul_right, zero-mul, mul-div_cancel, arith, length-append, length-drop, length-set, length-take}
use native.Mathlib.Nat.{zero-div}
use lib.Seq.{take-nil, drop-nil}
use Rattle.std.proofs.lemmas.List.{nil_from_length}
use Rattle.std.proofs.lemmas.Bool.{cases_lt}
use Rattle.region.specs.Bytes.{overwrite, part}
use Rattle.region.proofs.Parts.{outside_written, part_none, part_outside, part_overwrite_inside, part_part, part_split, part_written}
use Rattle.allocation.specs.declared.block.Block.{Block}
use Rattle.model.specs.declared.line.Kind.{Kind}
use Rattle.model.specs.declared.line.Line.{Line}
use Rattle.model.specs.Book.{block_of, shown, shown_on}
use Rattle.model.specs.Effects.{regrouped, relocated, with_len}
use Rattle.model.specs.Invariant.{Sits}
use Rattle.model.specs.Patterns.{Even, joined}
use Rattle.model.specs.Pedigree.{Row, as_kind, spelling, upon}
use Rattle.model.proofs.Invariant.{Fits}
use Rattle.model.proofs.Patterns.{even_append, even_chunks, even_drop, even_none, even_set, even_take, joined_append, joined_chunks, joined_part, joined_set, length_chunks, length_joined}

pub shown_is : (base : ℕ) (l : Line) (xs : List ℕ) (B : Block) → block_of l.backing ≡ Some B → shown base l xs ≡ part (l.start - base) (l.len * l.kind.width) xs
unfolding shown shown_on
shown_is base l xs B e = ap (λ b. shown_on b base l xs) e

pub shown_none : (base : ℕ) (l : Line) (xs : List ℕ) → block_of l.backing ≡ None → shown base l xs ≡ []
unfolding shown shown_on
shown_none base l xs e = ap (λ b. shown_on b base l xs) e

pub sits_on : (base : ℕ) (l : Line) (B : Block) → block_of l.backing ≡ Some B → Sits base l (block_of l.backing) → Sits base l (Some B)
sits_on base l B e s = subst (Sits base l) e s

pub sits_off : (base : ℕ) (l : Line) → block_of l.backing ≡ None → Sits base l (block_of l.backing) → Sits base l None
sits_off base l e s = subst (Sits base l) e s

pub joined_none : joined [] ≡ []
unfolding joined
joined_none = refl

pub div_mul : (n w : ℕ) → (n / w) * w ≤ n
div_mul n w = omega arith

pub mul_div : (n w k : ℕ) → 1 ≤ w → k * w ≤ n → k ≤ n / w
mul_div n w k h l = ⊎_elim (λ (c : n / w < k). absurd (omega (arith, mul-le-mul_right w c))) (λ c. c) (cases_lt (n / w) k)

-- an element range of a line and its list: slices, shares, and the line itself under another claim or state
module _ (base : ℕ) (xs : List ℕ) (l l' : Line) (r r' : Row) (b n : ℕ) (f : Fits base xs l r)
    (fits : (B : Block) → block_of l.backing ≡ Some B → B.place + B.size ≤ length xs)
    (h : b + n ≤ l.len) (k : l'.kind ≡ l.kind) (rk : r'.kind ≡ l.kind) (bl : block_of l'.backing ≡ block_of l.backing) (rb : r'.block ≡ block_of l.backing)
    (st : l'.start ≡ l.start + b * l.kind.width) (c : l'.len ≡ n) (claims : 1 ≤ l'.claim)
    (list : r'.list ≡ take n (drop b r.list))
    (room : (B : Block) → block_of l.backing ≡ Some B → l'.start + l'.capacity * l.kind.width ≤ base + (B.place + B.size))
    (bare : block_of l.backing ≡ None → l'.capacity ≡ 0) (ample : l'.mutable ≡ true → l'.len ≤ l'.capacity) where
  bound : b * l.kind.width + n * l.kind.width ≤ l.len * l.kind.width
  bound = omega (arith, mul-le-mul_right l.kind.width h)

  spells : (o : Option Block) → block_of l.backing ≡ o → joined r'.list ≡ shown base l' xs
  spells None e =
      let z = sits_off base l e f.sits in
      ap joined (list ∙ ap (λ q. take n (drop b q)) (nil_from_length r.list (f.len ∙ z.0)) ∙ ap (take n) (drop-nil b) ∙ take-nil n) ∙ joined_none ∙ sym (shown_none base l' xs (bl ∙ e))
  spells (Some B) e =
      let w = l.kind.width in
      let s = sits_on base l B e f.sits in
      let p = part_part (l.start - base) (l.len * w) (b * w) (n * w) xs bound (omega (arith, s.0, s.1, fits B e)) in
      let q : l'.start - base ≡ l.start - base + b * w = omega (arith, s.0) in
      ap joined list ∙ joined_part w b n r.list f.even ∙ ap (part (b * w) (n * w)) (f.spells ∙ shown_is base l xs B e) ∙ p
      ∙ sym (shown_is base l' xs B (bl ∙ e) ∙ (λ i. part (q i) (c i * (k i).width) xs))

  seats : (o : Option Block) → block_of l.backing ≡ o → Sits base l' o
  seats None e = let z = sits_off base l e f.sits in (omega (arith, z.0), bare e)
  seats (Some B) e =
      let s = sits_on base l B e f.sits in
      let w : l'.len * l'.kind.width ≡ n * l.kind.width = λ i. c i * (k i).width in
      let v : l'.capacity * l'.kind.width ≡ l'.capacity * l.kind.width = λ i. l'.capacity * (k i).width in
      (omega (arith, s.0), omega (arith, s.1, bound), omega (arith, room B e))

  pub fits_range : Fits base xs l' r'
  fits_range = record {
    kind = rk ∙ sym k;
    block = rb ∙ sym bl;
    wide = subst (λ z. 1 ≤ z.width) (sym k) f.wide;
    claims = claims;
    even = subst (λ z. Even z.width r'.list) (sym k) (subst (Even l.kind.width) (sym list) (even_take l.kind.width n (drop b r.list) (even_drop l.kind.width b r.list f.even)));
    len = ap length list ∙ simp (length-take, length-drop) (omega (arith, f.len));
    within = ample;
    sits = subst (Sits base l') (sym bl) (seats (block_of l.backing) refl);
    spells = spells (block_of l.backing) refl;
  }

-- the same elements under another state, claim, capacity, serial or name of an empty backing
pub fits_like : (base : ℕ) (xs : List ℕ) (l l' : Line) (r r' : Row) → Fits base xs l r → l'.kind ≡ l.kind → block_of l'.backing ≡ block_of l.backing → l'.start ≡ l.start → l'.len ≡ l.len → 1 ≤ l'.claim
    → r'.kind ≡ r.kind → r'.block ≡ r.block → r'.list ≡ r.list
    → ((B : Block) → block_of l.backing ≡ Some B → l'.start + l'.capacity * l.kind.width ≤ base + (B.place + B.size)) → (block_of l.backing ≡ None → l'.capacity ≡ 0) → (l'.mutable ≡ true → l'.len ≤ l'.capacity) → Fits base xs l' r'
unfolding shown shown_on
fits_like base xs l l' r r' f k b s c claims rk rb list room bare ample = record {
  kind = rk ∙ f.kind ∙ sym k;
  block = rb ∙ f.block ∙ sym b;
  wide = subst (λ z. 1 ≤ z.width) (sym k) f.wide;
  claims = claims;
  even = subst (λ z. Even z.width r'.list) (sym k) (subst (Even l.kind.width) (sym list) f.even);
  len = ap length list ∙ f.len ∙ sym c;
  within = ample;
  sits = subst (Sits base l') (sym b) (seats (block_of l.backing) refl);
  spells = ap joined list ∙ f.spells ∙ shows (block_of l.backing) ∙ ap (λ o. shown_on o base l' xs) (sym b);
}
  where
    shows : (o : Option Block) → shown_on o base l xs ≡ shown_on o base l' xs
    shows None = refl
    shows (Some B) = λ i. part (sym s i - base) (sym c i * (sym k i).width) xs

    seats : (o : Option Block) → block_of l.backing ≡ o → Sits base l' o
    seats None e = let z = sits_off base l e f.sits in (c ∙ z.0, bare e)
    seats (Some B) e =
        let z = sits_on base l B e f.sits in
        let w : l'.len * l'.kind.width ≡ l.len * l.kind.width = λ i. c i * (k i).width in
        let v : l'.capacity * l'.kind.width ≡ l'.capacity * l.kind.width = λ i. l'.capacity * (k i).width in
        (omega (arith, z.0), omega (arith, z.1), omega (arith, room B e))

-- one element replaced
pub fits_set : (base : ℕ) (xs : List ℕ) (l : Line) (r : Row) (i : ℕ) (v : List ℕ) (B : Block) → Fits base xs l r → block_of l.backing ≡ Some B → B.place + B.size ≤ length xs
    → i < l.len → length v ≡ l.kind.width → Fits base (overwrite (l.start - base + i * l.kind.width) v xs) l (spelling r (set r.list i v))
unfolding spelling
fits_set base xs l r i v B f e long h k =
    let w = l.kind.width in
    let s = sits_on base l B e f.sits in
    let m : i * w + w ≤ l.len * w = omega (arith, mul-le-mul_right w h) in
    let p = part_overwrite_inside (l.start - base) (l.len * w) (i * w) v xs (omega arith) (omega (arith, s.0, s.1)) in
    record {
      kind = f.kind;
      block = f.block;
      wide = f.wide;
      claims = f.claims;
      even = even_set w r.list i v k f.even;
      len = length-set r.list i v ∙ f.len;
      within = f.within;
      sits = f.sits;
      spells = joined_set w r.list i v k (omega (arith, f.len)) f.even ∙ ap (overwrite (i * w) v) (f.spells ∙ shown_is base l xs B e) ∙ sym p ∙ sym (shown_is base l (overwrite (l.start - base + i * w) v xs) B e);
    }

-- elements written behind the last
pub fits_append : (base : ℕ) (xs : List ℕ) (l : Line) (r : Row) (vs : List (List ℕ)) (B : Block) → Fits base xs l r → block_of l.backing ≡ Some B → B.place + B.size ≤ length xs
    → l.len + length vs ≤ l.capacity → Even l.kind.width vs
    → Fits base (overwrite (l.start - base + l.len * l.kind.width) (joined vs) xs) (with_len l (l.len + length vs)) (spelling r (r.list ++ vs))
unfolding spelling
fits_append base xs l r vs B f e long h k =
    let w = l.kind.width in
    let n = length vs in
    let target = l.start - base in
    let ys = overwrite (target + l.len * w) (joined vs) xs in
    let s = sits_on base l B e f.sits in
    let g : length (joined vs) ≡ n * w = length_joined w vs k in
    let m : l.len * w + n * w ≤ l.capacity * w = omega (arith, mul-le-mul_right w h) in
    let m' : (l.len + n) * w ≡ l.len * w + n * w = omega arith in
    let a = part_split target (l.len * w) (n * w) ys in
    let o = outside_written (target + l.len * w) (n * w) (target + l.len * w) (joined vs) xs (omega arith) (omega arith) (omega (arith, s.0, s.2)) in
    let b = part_outside (target + l.len * w) (n * w) target (l.len * w) xs ys o (inl (omega arith)) (omega (arith, s.0, s.2)) in
    let c = part_written (target + l.len * w) (n * w) (joined vs) xs g (omega (arith, s.0, s.2)) in
    record {
      kind = f.kind;
      block = f.block;
      wide = f.wide;
      claims = f.claims;
      even = even_append w r.list vs f.even k;
      len = length-append r.list vs ∙ ap (λ z. z + n) f.len;
      within = λ q. h;
      sits = subst (Sits base (with_len l (l.len + n))) (sym e) (s.0, omega (arith, s.2), s.2);
      spells =
          joined_append r.list vs ∙ (λ i. (f.spells ∙ shown_is base l xs B e ∙ sym b) i ++ sym c i) ∙ sym a ∙ ap (λ z. part target z ys) (sym m')
          ∙ sym (shown_is base (with_len l (l.len + n)) ys B e);
    }

-- the same bytes as elements of another kind
module _ (base : ℕ) (xs : List ℕ) (l : Line) (r : Row) (k : Kind) (n c a : ℕ) (f : Fits base xs l r) (wide : 1 ≤ k.width) (claims : 1 ≤ a)
    (even_out : n * k.width ≡ l.len * l.kind.width) (room : c * k.width ≤ l.capacity * l.kind.width) (bare : l.capacity ≡ 0 → c ≡ 0) (within : l.mutable ≡ true → n ≤ c) where
  pub fits_regrouped : Fits base xs (regrouped l k n c a) (as_kind r k)
  unfolding as_kind shown shown_on
  fits_regrouped = record {
    kind = refl;
    block = f.block;
    wide = wide;
    claims = claims;
    even = even_chunks k.width (length (joined r.list) / k.width) (joined r.list) pieces;
    len = length_chunks k.width (length (joined r.list) / k.width) (joined r.list) ∙ sym times;
    within = within;
    sits = seats (block_of l.backing) f.sits;
    spells = joined_chunks k.width (length (joined r.list) / k.width) (joined r.list) pieces ∙ f.spells ∙ shows (block_of l.backing);
  }
    where
      long : length (joined r.list) ≡ n * k.width
      long = length_joined l.kind.width r.list f.even ∙ ap (λ z. z * l.kind.width) f.len ∙ sym even_out

      times : n ≡ length (joined r.list) / k.width
      times = sym (mul-div_cancel n wide) ∙ ap (λ z. z / k.width) (sym long)

      pieces : length (joined r.list) ≡ (length (joined r.list) / k.width) * k.width
      pieces = long ∙ ap (λ z. z * k.width) times

      shows : (o : Option Block) → shown_on o base l xs ≡ shown_on o base (regrouped l k n c a) xs
      shows None = refl
      shows (Some B) = ap (λ z. part (l.start - base) z xs) (sym even_out)

      seats : (o : Option Block) → Sits base l o → Sits base (regrouped l k n c a) o
      seats None (p, q) = (times ∙ ap (λ z. z / k.width) (long ∙ even_out ∙ ap (λ z. z * l.kind.width) p ∙ zero-mul l.kind.width) ∙ zero-div k.width, bare q)
      seats (Some B) (p, q, d) = (p, omega (arith, even_out), omega (arith, room))

-- the elements moved to another block
pub fits_moved : (base : ℕ) (xs ys : List ℕ) (l : Line) (r : Row) (B : Block) (start capacity : ℕ) → Fits base xs l r
    → base + B.place ≤ start → start + l.len * l.kind.width ≤ base + (B.place + B.size) → start + capacity * l.kind.width ≤ base + (B.place + B.size)
    → l.len ≤ capacity → part (start - base) (l.len * l.kind.width) ys ≡ shown base l xs → Fits base ys (relocated l B start capacity) (upon r (Some B))
unfolding upon block_of shown shown_on
fits_moved base xs ys l r B start capacity f a b c ample d = record {
  kind = f.kind;
  block = refl;
  wide = f.wide;
  claims = f.claims;
  even = f.even;
  len = f.len;
  within = λ q. ample;
  sits = (a, b, c);
  spells = f.spells ∙ sym d;
}

-- a new line has nothing to show
pub fits_new : (base : ℕ) (xs : List ℕ) (l : Line) (r : Row) → l.len ≡ 0 → r.list ≡ [] → r.kind ≡ l.kind → r.block ≡ block_of l.backing → 1 ≤ l.kind.width → 1 ≤ l.claim → Sits base l (block_of l.backing)
    → Fits base xs l r
unfolding joined shown shown_on
fits_new base xs l r c e k b w a s = record {
  kind = k;
  block = b;
  wide = w;
  claims = a;
  even = rw e nothing;
  len = ap length e ∙ sym c;
  within = λ q. omega (arith, c);
  sits = s;
  spells = ap joined e ∙ shows (block_of l.backing);
}
  where
    nothing : Even l.kind.width []
    nothing = even_none l.kind.width

    shows : (o : Option Block) → [] ≡ shown_on o base l xs
    shows None = refl
    shows (Some B) = let z : l.len * l.kind.width ≡ 0 = ap (λ n. n * l.kind.width) c ∙ zero-mul l.kind.width in rw z (sym (part_none (l.start - base) xs))
