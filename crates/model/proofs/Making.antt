-- New lines with their contents, and lines copied into new blocks.
use Rattle.std.proofs.Common.{◌≡◌, ℕ, ◌+◌, ◌-◌, ◌*◌, ◌/◌, ◌≤◌, max, Bool, true, false, cond, List, [], ◌∷◌, ◌++◌, length, replicate, Some, None, Option, sym, refl, ap, ◌∙◌, subst, inl, inr, ⊎_elim, mul-le-mul_right, zero-mul, arith}
use lib.ListN.{length-replicate}
use Rattle.std.proofs.lemmas.List.{nil_from_length}
use Rattle.region.specs.Bytes.{Outside, overwrite, part}
use Rattle.region.proofs.Parts.{outside_none, outside_written, part_none, part_part, part_written, part_zeros}
use Rattle.region.proofs.Writes.{length_overwrite}
use Rattle.allocation.specs.declared.block.Block.{Block}
use Rattle.allocation.specs.Alignments.{round_up}
use Rattle.allocation.specs.Meaning.{Among, Lawful, Meaning}
use Rattle.allocation.proofs.Rounding.{round_up_high, round_up_low}
use Rattle.model.specs.declared.line.Kind.{Kind}
use Rattle.model.specs.declared.line.Line.{Line}
use Rattle.model.specs.Book.{State, block_of, look_up, serial_of, shared_by, shown, shown_on}
use Rattle.model.specs.Calls.{Grant}
use Rattle.model.specs.Effects.{Copies, Made, add_line, backing_in, block_left, capacity_in, copied_into, list_of, made, made_as, put_line, start_in, with_bytes, with_meaning, written_in, zeros_in}
use Rattle.model.specs.Invariant.{Sits}
use Rattle.model.specs.Keyed.{update}
use Rattle.model.specs.Patterns.{Even, joined}
use Rattle.model.specs.Pedigree.{Row, Table, begins, copied_to, key_of, last_or, upon}
use Rattle.model.proofs.Fitting.{div_mul, joined_none, mul_div}
use Rattle.model.proofs.Getting.{Obtained, Returned, obtained, returned}
use Rattle.model.proofs.Invariant.{Fits, HasRow, Inv, Other, Undisturbed}
use Rattle.model.proofs.Keeps.{leaves_it, spares_it, unused}
use Rattle.model.proofs.Moves.{Only, Rows, create, only_add, only_put, rows_add, rows_update, to}
use Rattle.model.proofs.Patterns.{joined_zeros, length_joined}
use Rattle.model.proofs.Shapes.{block_at, never, pin, swapped, undisturbed_outside}

pub block_got : (got : Option Block) → block_of (backing_in got) ≡ got
unfolding block_of
block_got None = refl
block_got (Some B) = refl

pub last_got : (got : Option Block) → last_or None (list_of got) ≡ got
last_got None = refl
last_got (Some B) = refl

-- the contents stand at the first multiple of m in what was got
abbrev pub Placed : ℕ → ℕ → ℕ → List (List ℕ) → List ℕ → List ℕ → Option Block → Type 0
Placed base m w vs xs ys None = (vs ≡ []) × (ys ≡ xs)
Placed base m w vs xs ys (Some B) = Outside B.place B.size xs ys × (part (round_up (base + B.place) m - base) (length vs * w) ys ≡ joined vs)

module _ (base m w c : ℕ) (one : 1 ≤ m) (xs : List ℕ) where
  place_low : (B : Block) → B.place ≤ round_up (base + B.place) m - base
  place_low B = omega (arith, round_up_low (base + B.place) m)

  place_high : (B : Block) (n : ℕ) → B.size ≡ c * w + m → n ≤ c → round_up (base + B.place) m - base + n * w ≤ B.place + B.size
  place_high B n s h = omega (arith, round_up_high (base + B.place) m one, round_up_low (base + B.place) m, mul-le-mul_right w h)

  pub placed_nothing : (got : Option Block) → Placed base m w [] xs xs got
  placed_nothing None = (refl, refl)
  placed_nothing (Some B) = (outside_none B.place B.size xs, ap (λ n. part (round_up (base + B.place) m - base) n xs) (zero-mul w) ∙ part_none (round_up (base + B.place) m - base) xs ∙ sym joined_none)

  pub placed_written : (vs : List (List ℕ)) (got : Option Block) → Even w vs → length vs ≤ c → ((B : Block) → got ≡ Some B → B.size ≡ c * w + m) → ((B : Block) → got ≡ Some B → B.place + B.size ≤ length xs) → (got ≡ None → c ≡ 0)
      → Placed base m w vs xs (written_in base m got (joined vs) xs) got
  placed_written vs None e h sized inside bare = (nil_from_length vs (omega (arith, bare refl)), refl)
  placed_written vs (Some B) e h sized inside bare =
      let f = length_joined w vs e in
      let k = place_high B (length vs) (sized B refl) h in (
        outside_written B.place B.size (round_up (base + B.place) m - base) (joined vs) xs (place_low B) (omega arith) (inside B refl),
        part_written (round_up (base + B.place) m - base) (length vs * w) (joined vs) xs f (omega (arith, inside B refl)),
      )

  pub placed_zeros : (got : Option Block) → ((B : Block) → got ≡ Some B → B.size ≡ c * w + m) → ((B : Block) → got ≡ Some B → B.place + B.size ≤ length xs) → (got ≡ None → c ≡ 0)
      → Placed base m w (replicate c (replicate w 0)) xs (zeros_in got xs) got
  placed_zeros None sized inside bare = (ap (λ n. replicate n (replicate w 0)) (bare refl), refl)
  placed_zeros (Some B) sized inside bare =
      let z : length (replicate {A = ℕ} B.size 0) ≡ B.size = length-replicate B.size 0 in
      let target = round_up (base + B.place) m - base in
      let k = place_high B c (sized B refl) (omega arith) in
      let n : length (replicate {A = List ℕ} c (replicate w 0)) ≡ c = length-replicate c (replicate w 0) in
      let ys = overwrite B.place (replicate B.size 0) xs in
      let long = length_overwrite B.place (replicate B.size 0) xs (omega (arith, inside B refl)) in (
        outside_written B.place B.size B.place (replicate B.size 0) xs (omega arith) (omega arith) (inside B refl),
        ap (λ i. part target (i * w) ys) n ∙ ap (λ i. part i (c * w) ys) (let q : target ≡ B.place + (target - B.place) = omega (arith, place_low B) in q)
            ∙ sym (part_part B.place B.size (target - B.place) (c * w) ys (omega (arith, place_low B)) (omega (arith, inside B refl)))
            ∙ ap (part (target - B.place) (c * w)) (part_written B.place B.size (replicate B.size 0) xs z (inside B refl))
            ∙ part_zeros (target - B.place) (c * w) B.size (omega (arith, place_low B)) ∙ sym (joined_zeros c w),
      )

-- a line over what was got, with its contents
module _ (base m c : ℕ) (one : 1 ≤ m) (xs ys : List ℕ) (l : Line) (r : Row) (got : Option Block) (vs : List (List ℕ))
    (backing : l.backing ≡ backing_in got) (start : l.start ≡ start_in base m got) (len : l.len ≡ length vs) (list : r.list ≡ vs) (kind : r.kind ≡ l.kind) (block : r.block ≡ got)
    (even : Even l.kind.width vs) (wide : 1 ≤ l.kind.width) (claims : 1 ≤ l.claim) (fits : l.len ≤ c)
    (sized : (B : Block) → got ≡ Some B → B.size ≡ c * l.kind.width + m)
    (cap : (B : Block) → got ≡ Some B → l.capacity * l.kind.width ≤ B.size - (round_up (base + B.place) m - (base + B.place))) (bare : got ≡ None → l.capacity ≡ 0)
    (within : l.mutable ≡ true → l.len ≤ l.capacity) where
  lies : (o : Option Block) → got ≡ o → l.start ≡ start_in base m o → Placed base m l.kind.width vs xs ys o → Sits base l o × (joined vs ≡ shown_on o base l ys)
  unfolding shown_on
  lies None e s p = ((len ∙ ap length p.0, bare e), ap joined p.0 ∙ joined_none)
  lies (Some B) e s p =
      let low = round_up_low (base + B.place) m in
      let high = round_up_high (base + B.place) m one in
      let z = sized B e in
      let k = mul-le-mul_right l.kind.width fits in
      ((omega arith, omega arith, omega (arith, cap B e)), sym p.1 ∙ (λ i. part (sym s i - base) (sym len i * l.kind.width) ys))

  pub fits_placed : Placed base m l.kind.width vs xs ys got → Fits base ys l r
  unfolding shown
  fits_placed p =
      let b : block_of l.backing ≡ got = ap block_of backing ∙ block_got got in
      let q = lies got refl start p in
      record {
        kind = kind;
        block = block ∙ sym b;
        wide = wide;
        claims = claims;
        even = subst (Even l.kind.width) (sym list) even;
        len = ap length list ∙ sym len;
        within = within;
        sits = subst (Sits base l) (sym b) q.0;
        spells = ap joined list ∙ q.1 ∙ ap (λ o. shown_on o base l ys) (sym b);
      }

-- the room behind the start
pub room_in : (base m w c n : ℕ) (got : Option Block) → 1 ≤ m → 1 ≤ w → n ≤ c → ((B : Block) → got ≡ Some B → B.size ≡ c * w + m) → (got ≡ None → c ≡ 0) → n ≤ capacity_in base m w got
room_in base m w c n None one wide h sized bare = omega (arith, bare refl)
room_in base m w c n (Some B) one wide h sized bare =
    mul_div (B.size - (round_up (base + B.place) m - (base + B.place))) w n wide (omega (arith, round_up_low (base + B.place) m, round_up_high (base + B.place) m one, sized B refl, mul-le-mul_right w h))

pub room_fits : (base m w : ℕ) (got : Option Block) (B : Block) → got ≡ Some B → capacity_in base m w got * w ≤ B.size - (round_up (base + B.place) m - (base + B.place))
room_fits base m w None B e = absurd (never refl e)
room_fits base m w (Some D) B e = subst (λ C. ((D.size - (round_up (base + D.place) m - (base + D.place))) / w) * w ≤ C.size - (round_up (base + C.place) m - (base + C.place))) (let z : D ≡ B = cc in z) (div_mul (D.size - (round_up (base + D.place) m - (base + D.place))) w)

pub room_none : (base m w : ℕ) (got : Option Block) → got ≡ None → capacity_in base m w got ≡ 0
room_none base m w got e = ap (capacity_in base m w) e

-- the capacity as made, or none where the line is frozen at once
as_fits : (mutable : Bool) (n w room : ℕ) → n * w ≤ room → cond mutable n 0 * w ≤ room
as_fits true n w room h = h
as_fits false n w room h = omega (arith, zero-mul w)

as_none : (mutable : Bool) (n : ℕ) → n ≡ 0 → cond mutable n 0 ≡ 0
as_none true n h = h
as_none false n h = refl

module _ (st : State) (tb : Table) (inv : Inv st tb) where
  -- other lines show what they did, whatever is written in what was got
  undisturbed_got : (s c size m w : ℕ) (vs : List (List ℕ)) (a al : Meaning) (got : Option Block) (ys : List ℕ) → Obtained st.meaning a c size got → Lawful al → al.extent ≡ st.meaning.extent
      → ((C : Block) → Other st s C → Among C al.live) → ((C : Block) → got ≡ Some C → Among C al.live) → Placed st.meaning.base m w vs st.bytes ys got → Undisturbed st s ys
  undisturbed_got s c size m w vs a al None ys o law sz kept here p = λ C x. ap (part C.place C.size) p.1
  undisturbed_got s c size m w vs a al (Some B) ys o law sz kept here p =
      undisturbed_outside st tb s al B ys inv law sz (here B refl) p.0 (λ C x. (kept C x, λ q. o.new B refl (subst (λ D. Among D st.meaning.live) q (inv.held x.0 x.1 C x.3 x.4))))

  long_got : (m w : ℕ) (vs : List (List ℕ)) (got : Option Block) (ys : List ℕ) → Placed st.meaning.base m w vs st.bytes ys got → length ys ≡ length st.bytes
  long_got m w vs None ys p = ap length p.1
  long_got m w vs (Some B) ys p = p.0.long

  -- blocks got lie in the region
  pub got_inside : (c size : ℕ) (a : Meaning) (got : Option Block) → Obtained st.meaning a c size got → (B : Block) → got ≡ Some B → B.place + B.size ≤ length st.bytes
  got_inside c size a got o B e = omega (arith, o.lawful.within B ((o.blocks B).1 (inl e)), inv.long, o.fixed.extent)

  pub make : (k : Kind) (mutable : Bool) (c claim m : ℕ) (vs : List (List ℕ)) (writes : Option Block → List ℕ) (g : Grant) (st' : State) → 1 ≤ k.width → 1 ≤ claim → 1 ≤ m → Even k.width vs → length vs ≤ c
      → ((got : Option Block) → ((B : Block) → got ≡ Some B → B.size ≡ c * k.width + m) → ((B : Block) → got ≡ Some B → B.place + B.size ≤ length st.bytes) → (got ≡ None → c ≡ 0) → Placed st.meaning.base m k.width vs st.bytes (writes got) got)
      → Made st k mutable c claim m (length vs) writes g st' → Inv st' (begins g k vs ∷ tb)
  unfolding add_line with_meaning with_bytes
  make k mutable c claim m vs writes g st' wide claims one even le placed d =
      let got = d.got in
      let o = obtained st.meaning d.meaning c (c * k.width + m) got inv.law d.gets in
      let p = placed got o.sized (got_inside c (c * k.width + m) d.meaning got o) o.bare in
      let ys = writes got in
      let l = made_as mutable (made st k claim m (length vs) got) in
      let r : Row = record { serial = st.next; kind = k; list = vs; block = last_or None (list_of got) } in
      subst (λ z. Inv z (begins g k vs ∷ tb)) (sym d.is) (subst (λ z. Inv (add_line (with_bytes (with_meaning st d.meaning) ys) l) (begins z k vs ∷ tb)) (sym d.grant)
      (create st tb inv (st.next + 1) l r (st.lines ++ (l ∷ [])) d.meaning ys (r ∷ tb) st.next (unused st tb inv) (only_add st.next st.lines l inv.order refl) (rows_add tb r st.next refl)
      o.lawful o.fixed.base (long_got m k.width vs got ys p ∙ inv.long ∙ sym o.fixed.extent)
      (undisturbed_got st.next c (c * k.width + m) m k.width vs d.meaning d.meaning got ys o o.lawful o.fixed.extent (λ C x. (o.blocks C).1 (inr (inv.held x.0 x.1 C x.3 x.4))) (λ C q. (o.blocks C).1 (inl q)) p)
      (fits_placed st.meaning.base m c one st.bytes ys l r got vs refl refl refl refl refl (last_got got) even wide claims le o.sized (λ B e. as_fits mutable (capacity_in st.meaning.base m k.width got) k.width _ (room_fits st.meaning.base m k.width got B e)) (λ e. as_none mutable _ (room_none st.meaning.base m k.width got e))
      (λ q. subst (λ b. length vs ≤ cond b (capacity_in st.meaning.base m k.width got) 0) (sym q) (room_in st.meaning.base m k.width c (length vs) got one wide le o.sized o.bare)) p)
      (λ C. (λ x. ⊎_elim (λ q. inl (block_got got ∙ q)) inr ((o.blocks C).0 x), λ x. (o.blocks C).1 (⊎_elim (λ q. inl (sym (block_got got) ∙ q)) inr x)))
      (λ t n C x y z. absurd (o.new C (sym (block_got got) ∙ z) (inv.held t n C x y)))))

  -- a line copied into what it got
  pub copy_in : (s : ℕ) (l : Line) (c claim : ℕ) (mutable : Bool) (capacity : Option Block → ℕ) (g : Grant) (st' : State) → look_up s st ≡ Some l → l.serial ≡ s → 1 ≤ claim → l.len ≤ c
      → ((got : Option Block) (B : Block) → ((D : Block) → got ≡ Some D → D.size ≡ c * l.kind.width + max claim 256) → got ≡ Some B
      → capacity got * l.kind.width ≤ B.size - (round_up (st.meaning.base + B.place) (max claim 256) - (st.meaning.base + B.place)))
      → ((got : Option Block) → got ≡ None → c ≡ 0 → capacity got ≡ 0)
      → ((got : Option Block) → ((B : Block) → got ≡ Some B → B.size ≡ c * l.kind.width + max claim 256) → (got ≡ None → c ≡ 0) → mutable ≡ true → l.len ≤ capacity got)
      → Copies st l c claim mutable capacity g st' → Inv st' (update key_of s (copied_to g) tb)
  unfolding put_line with_meaning with_bytes copied_into upon
  copy_in s l c claim mutable capacity g st' e q claims le cap bare within d =
      subst (λ z. Inv z (update key_of s (copied_to g) tb)) (sym d.is)
      (swapped st (to st st.next (update serial_of l.serial (λ _. l') st.lines) d.meaning ys) tb (update key_of s (copied_to g) tb) s (Some l') gone inv (record {
        based = back.fixed.base ∙ o.fixed.base;
        law = back.lawful;
        long = long_got m w r.list got ys p ∙ inv.long ∙ sym (back.fixed.extent ∙ o.fixed.extent);
        order = only.order;
        same_look_up = only.same;
        same_row = rows.same;
        at = only.at;
        undisturbed = undisturbed_got s c (c * w + m) m w r.list d.between d.meaning got ys o back.lawful (back.fixed.extent ∙ o.fixed.extent)
            (λ C x. (back.blocks C).1 ((o.blocks C).1 (inr (inv.held x.0 x.1 C x.3 x.4)), spares_it st tb inv s l (shared_by st l) q refl C x)) (λ C x. (back.blocks C).1 ((o.blocks C).1 (inl x), keeps_new C x)) p;
        spelled = λ k x. pin refl (λ k. HasRow st.meaning.base ys k s (update key_of s (copied_to g) tb)) (r', rows.at, fits) k x;
        live = λ k x. (l', refl);
        blocks = λ C. (
          λ x. let y = (back.blocks C).0 x in ⊎_elim (λ z. inl (block_got got ∙ z)) (λ z. inr (z, y.1)) ((o.blocks C).0 y.0),
          ⊎_elim (λ x. let y = sym (block_got got) ∙ x in (back.blocks C).1 ((o.blocks C).1 (inl y), keeps_new C y)) (λ x. (back.blocks C).1 ((o.blocks C).1 (inr x.0), x.1)),
        );
        leaves = λ C x. inr (leaves_it st tb inv s l (shared_by st l) q refl C (sym (ap block_at e) ∙ x));
        spared = spares_it st tb inv s l (shared_by st l) q refl;
        sharing = λ t k n B x y z u v. let i : k ≡ l' = cc in absurd (o.new B (sym (block_got got) ∙ ap (λ j. block_of j.backing) (sym i) ∙ u) (inv.held t n B z v));
      }))
    where
      t : HasRow st.meaning.base st.bytes l s tb
      t = inv.spelled s l e

      r : Row
      r = t.0

      f : Fits st.meaning.base st.bytes l r
      f = t.2

      w : ℕ
      w = l.kind.width

      m : ℕ
      m = max claim 256

      got : Option Block
      got = d.got

      gone : Option Block
      gone = block_left (shared_by st l) l

      o : Obtained st.meaning d.between c (c * l.kind.width + max claim 256) got
      o = obtained st.meaning d.between c (c * l.kind.width + max claim 256) got inv.law d.gets

      back : Returned d.between d.meaning gone
      back = returned d.between d.meaning gone o.lawful d.gives

      ys : List ℕ
      ys = written_in st.meaning.base m got (shown st.meaning.base l st.bytes) st.bytes

      p : Placed st.meaning.base m w r.list st.bytes ys got
      p = subst (λ z. Placed st.meaning.base m w r.list st.bytes (written_in st.meaning.base m got z st.bytes) got) f.spells
          (placed_written st.meaning.base m w c (omega arith) st.bytes r.list got f.even (omega (arith, f.len)) o.sized (got_inside c (c * w + m) d.between got o) o.bare)

      l' : Line
      l' = copied_into st.meaning.base l mutable claim m (capacity got) got

      r' : Row
      r' = copied_to g r

      only : Only st.next st.lines (update serial_of l.serial (λ _. l') st.lines) s (Some l')
      only = only_put st.next st.lines s l l' inv.order e q

      rows : Rows tb (update key_of s (copied_to g) tb) s (Some r')
      rows = rows_update tb s (copied_to g) r (λ x. refl) t.1

      fits : Fits st.meaning.base ys l' r'
      fits = fits_placed st.meaning.base m c (omega arith) st.bytes ys l' r' got r.list refl refl (sym f.len) refl f.kind (ap (λ z. cond z.copied (last_or None z.blocks) r.block) d.grant ∙ last_got got) f.even f.wide claims le o.sized
          (λ B z. cap got B o.sized z) (λ z. bare got z (o.bare z)) (within got o.sized o.bare) p

      keeps_new : (C : Block) → got ≡ Some C → gone ≡ Some C → ⊥
      keeps_new C x y = o.new C x (held_if (shared_by st l) C y)
        where
          held_if : (b : Bool) (C : Block) → block_left b l ≡ Some C → Among C st.meaning.live
          held_if true C z = absurd (never refl z)
          held_if false C z = inv.held s l C e z
