-- Where a granted call writes.
use Rattle.std.proofs.Common.{◌≡◌, ℕ, ◌+◌, ◌-◌, ◌*◌, ◌<◌, ◌≤◌, max, Bool, true, false, not, ◌⊎◌, List, [], ◌∷◌, length, get_or, replicate, Some, None, Option, sym, refl, ap, ◌∙◌, subst, inl, inr, ⊎_elim, mul-le-mul_right, arith}
use Rattle.std.proofs.lemmas.List.{nil_from_length}
use Rattle.std.proofs.lemmas.Bool.{not-false, leb-false}
use Rattle.region.specs.Bytes.{overwrite}
use Rattle.region.proofs.Parts.{outside_written}
use Rattle.allocation.specs.declared.block.Block.{Block}
use Rattle.allocation.specs.Meaning.{Among, Meaning}
use Rattle.model.specs.declared.line.Handle.{Handle}
use Rattle.model.specs.declared.line.Kind.{Kind}
use Rattle.model.specs.declared.line.Line.{Line}
use Rattle.model.specs.Book.{State, block_of, line, look_up, shared_by}
use Rattle.model.specs.Calls.{Aligned, AlignedMut, Append, Call, Clear, CopyFrom, EmptyShared, EnsureAligned, Freeze, FromBytes, Grant, IntoBytes, IntoMut, Read, Release, Reserve, Set, Share, Slice, Take, Truncate, TryIntoMut, WithCapacity, Zeroed}
use Rattle.model.specs.Checks.{brings, checks, enough, is_aligned}
use Rattle.model.specs.Effects.{Copies, Does, Made, Reserves, StaysOr, add_line, appended, end_line, list_of, put_line, with_bytes, with_meaning, written_in, zeros_in}
use Rattle.model.specs.Keyed.{All}
use Rattle.model.specs.Laws.{Off}
use Rattle.model.specs.Patterns.{Even, joined}
use Rattle.model.specs.Pedigree.{Row, Table, last_or, upon}
use Rattle.model.specs.Runs.{Sound}
use Rattle.model.proofs.Alignments.{alignment_one, max_one}
use Rattle.model.proofs.Checks.{Held, Passed, held, line_is}
use Rattle.model.proofs.Fitting.{sits_off, sits_on}
use Rattle.model.proofs.Getting.{obtained}
use Rattle.model.proofs.Invariant.{Fits, Inv}
use Rattle.model.proofs.Keeps.{fit, inside}
use Rattle.model.proofs.Making.{Placed, got_inside, placed_nothing, placed_written, placed_zeros}
use Rattle.model.proofs.Patterns.{length_joined, overwrite_nothing}
use Rattle.model.proofs.Reserving.{relocation_of, reserved}
use Rattle.model.proofs.Shapes.{never}

in_list : (got : Option Block) (b : Block) → got ≡ Some b → Among b (list_of got)
unfolding Among
in_list None b e = absurd (never refl e)
in_list (Some c) b e = inl (let z : c ≡ b = cc in z)

-- the last block of a list, or the one before
last_in : (o : Option Block) (bs : List Block) (b : Block) → last_or o bs ≡ Some b → (o ≡ Some b) ⊎ Among b bs
unfolding Among
last_in o [] b e = inl e
last_in o (c ∷ cs) b e = inr (⊎_elim (λ q. inl (let z : c ≡ b = cc in z)) (λ z. inr z) (last_in (Some c) cs b e))

module _ (i : ℕ) where
  placed_off : (base m w : ℕ) (vs : List (List ℕ)) (xs ys : List ℕ) (got : Option Block) → Placed base m w vs xs ys got → ((b : Block) → got ≡ Some b → Off i b) → get_or ys i 0 ≡ get_or xs i 0
  placed_off base m w vs xs ys None p off = ap (λ z. get_or z i 0) p.1
  placed_off base m w vs xs ys (Some b) p off = p.0.same i (off b refl)

  module _ (st : State) (tb : Table) (inv : Inv st tb) where
    put_stays : (l : Line) → get_or (put_line st l).bytes i 0 ≡ get_or st.bytes i 0
    unfolding put_line
    put_stays l = refl

    add_stays : (st₁ : State) (l : Line) → get_or (add_line st₁ l).bytes i 0 ≡ get_or st₁.bytes i 0
    unfolding add_line
    add_stays st₁ l = refl

    end_stays : (m : Meaning) (s : ℕ) → get_or (end_line (with_meaning st m) s).bytes i 0 ≡ get_or st.bytes i 0
    unfolding end_line with_meaning
    end_stays m s = refl

    made_stays : (k : Kind) (mutable : Bool) (c claim m n : ℕ) (vs : List (List ℕ)) (writes : Option Block → List ℕ) (g : Grant) (st' : State)
        → ((got : Option Block) → ((B : Block) → got ≡ Some B → B.size ≡ c * k.width + m) → ((B : Block) → got ≡ Some B → B.place + B.size ≤ length st.bytes) → (got ≡ None → c ≡ 0) → Placed st.meaning.base m k.width vs st.bytes (writes got) got)
        → ((b : Block) → Among b g.blocks → Off i b) → Made st k mutable c claim m n writes g st' → get_or st'.bytes i 0 ≡ get_or st.bytes i 0
    unfolding add_line with_bytes with_meaning
    made_stays k mutable c claim m n vs writes g st' placed off d =
        let o = obtained st.meaning d.meaning c (c * k.width + m) d.got inv.law d.gets in
        ap (λ z. get_or z.bytes i 0) d.is
        ∙ placed_off st.meaning.base m k.width vs st.bytes (writes d.got) d.got (placed d.got o.sized (got_inside st tb inv c (c * k.width + m) d.meaning d.got o) o.bare)
        (λ b e. off b (subst (λ z. Among b z.blocks) (sym d.grant) (in_list d.got b e)))

    copies_stays : (s : ℕ) (l : Line) (c claim : ℕ) (mutable : Bool) (capacity : Option Block → ℕ) (g : Grant) (st' : State) → look_up s st ≡ Some l → l.len ≤ c
        → ((b : Block) → Among b g.blocks → Off i b) → Copies st l c claim mutable capacity g st' → get_or st'.bytes i 0 ≡ get_or st.bytes i 0
    unfolding put_line with_bytes with_meaning
    copies_stays s l c claim mutable capacity g st' e le off d =
        let w = l.kind.width in
        let m = max claim 256 in
        let r = (inv.spelled s l e).0 in
        let f = (inv.spelled s l e).2 in
        let o = obtained st.meaning d.between c (c * l.kind.width + max claim 256) d.got inv.law d.gets in
        let p = placed_written st.meaning.base m w c (omega arith) st.bytes r.list d.got f.even (omega (arith, f.len)) o.sized (got_inside st tb inv c (c * w + m) d.between d.got o) o.bare in
        ap (λ z. get_or z.bytes i 0) d.is
        ∙ ap (λ z. get_or (written_in st.meaning.base m d.got z st.bytes) i 0) (sym f.spells)
        ∙ placed_off st.meaning.base m w r.list st.bytes (written_in st.meaning.base m d.got (joined r.list) st.bytes) d.got p (λ b q. off b (subst (λ z. Among b z.blocks) (sym d.grant) (in_list d.got b q)))

    stays_stays : (b : Bool) (l : Line) (g : Grant) (st' : State) (Else : Type 0) → (Else → get_or st'.bytes i 0 ≡ get_or st.bytes i 0) → StaysOr b st l g st' Else → get_or st'.bytes i 0 ≡ get_or st.bytes i 0
    stays_stays true l g st' Else f (p, q) = ap (λ z. get_or z.bytes i 0) q ∙ put_stays l
    stays_stays false l g st' Else f d = f d

    reserves_stays : (s : ℕ) (l : Line) (more : ℕ) (b : Bool) (bs : List Block) (st' : State) → look_up s st ≡ Some l → ((b : Block) → Among b bs → Off i b) → Reserves b st l more bs st' → get_or st'.bytes i 0 ≡ get_or st.bytes i 0
    unfolding put_line with_bytes with_meaning Among
    reserves_stays s l more true bs st' e off (p, q) = ap (λ z. get_or z.bytes i 0) q
    reserves_stays s l more false bs st' e off h =
        ap (λ z. get_or z.bytes i 0) h.is ∙ (relocation_of st tb inv s l e more bs st' h).outside.same i (off h.block (subst (Among h.block) (sym h.got) (inl refl)))

    -- elements written behind the last, or over one, in the line's own block
    appended_stays : (s : ℕ) (l : Line) (vs : List (List ℕ)) → look_up s st ≡ Some l → l.len + length vs ≤ l.capacity → Even l.kind.width vs → ((b : Block) → block_of l.backing ≡ Some b → Off i b) → get_or (appended st l vs).bytes i 0 ≡ get_or st.bytes i 0
    unfolding appended put_line with_bytes
    appended_stays s l vs e room even off = go (block_of l.backing) refl
      where
        f : Fits st.meaning.base st.bytes l (inv.spelled s l e).0
        f = (inv.spelled s l e).2

        go : (o : Option Block) → block_of l.backing ≡ o → get_or (overwrite (l.start - st.meaning.base + l.len * l.kind.width) (joined vs) st.bytes) i 0 ≡ get_or st.bytes i 0
        go None b =
            let z = sits_off st.meaning.base l b f.sits in
            ap (λ v. get_or (overwrite (l.start - st.meaning.base + l.len * l.kind.width) (joined v) st.bytes) i 0) (nil_from_length vs (omega (arith, room, z.1))) ∙ ap (λ z. get_or z i 0) (overwrite_nothing (l.start - st.meaning.base + l.len * l.kind.width) st.bytes)
        go (Some B) b =
            let z = sits_on st.meaning.base l B b f.sits in
            let m = mul-le-mul_right l.kind.width room in
            let g = length_joined l.kind.width vs even in
            (outside_written B.place B.size (l.start - st.meaning.base + l.len * l.kind.width) (joined vs) st.bytes (omega (arith, z.0)) (omega (arith, z.0, z.2)) (inside st tb inv s l e B b)).same i (off B b)

    set_stays : (s : ℕ) (l : Line) (j : ℕ) (v : List ℕ) → look_up s st ≡ Some l → j < l.len → length v ≡ l.kind.width → ((b : Block) → block_of l.backing ≡ Some b → Off i b)
        → get_or (with_bytes st (overwrite (l.start - st.meaning.base + j * l.kind.width) v st.bytes)).bytes i 0 ≡ get_or st.bytes i 0
    unfolding with_bytes
    set_stays s l j v e h k off = go (block_of l.backing) refl
      where
        f : Fits st.meaning.base st.bytes l (inv.spelled s l e).0
        f = (inv.spelled s l e).2

        go : (o : Option Block) → block_of l.backing ≡ o → get_or (overwrite (l.start - st.meaning.base + j * l.kind.width) v st.bytes) i 0 ≡ get_or st.bytes i 0
        go None b = absurd (omega (arith, h, (sits_off st.meaning.base l b f.sits).0))
        go (Some B) b =
            let z = sits_on st.meaning.base l B b f.sits in
            let m = mul-le-mul_right l.kind.width h in
            (outside_written B.place B.size (l.start - st.meaning.base + j * l.kind.width) v st.bytes (omega (arith, z.0)) (omega (arith, z.0, z.1)) (inside st tb inv s l e B b)).same i (off B b)

  module _ (st : State) (tb : Table) (inv : Inv st tb) where
    upon_block : (r : Row) (o : Option Block) → (upon r o).block ≡ o
    unfolding upon
    upon_block r o = refl

    append_stays : (h : Handle) (vs : List (List ℕ)) (bs : List Block) (between : State) → Held st h → h.mutable ≡ true → Even h.kind.width vs → ((b : Block) → Among b bs → Off i b) → ((b : Block) → block_of (line st h).backing ≡ Some b → Off i b)
        → Reserves (enough (line st h) (length vs)) st (line st h) (length vs) bs between → get_or (appended between (line between h) vs).bytes i 0 ≡ get_or st.bytes i 0
    append_stays h vs bs between k mut even off own res =
        let d = reserved st tb inv h.serial (line st h) k.at (length vs) (enough (line st h) (length vs)) bs between (k.state ∙ mut) k.serial refl res in
        let t = inv.spelled h.serial (line st h) k.at in
        let f = fit between d.table d.keeps h.serial d.line (upon t.0 (last_or t.0.block bs)) d.at d.rows.at in
        let same : block_of d.line.backing ≡ last_or (block_of (line st h).backing) bs = sym f.block ∙ upon_block t.0 (last_or t.0.block bs) ∙ ap (λ o. last_or o bs) t.2.block in
        subst (λ z. get_or (appended between z vs).bytes i 0 ≡ get_or st.bytes i 0) (line_is between h d.line d.at)
        (appended_stays between d.table d.keeps h.serial d.line vs d.at d.room (subst (λ z. Even z.width vs) (sym (d.kind ∙ k.kind)) even)
        (λ b e. ⊎_elim (own b) (off b) (last_in (block_of (line st h).backing) bs b (sym same ∙ e)))
        ∙ reserves_stays st tb inv h.serial (line st h) (length vs) (enough (line st h) (length vs)) bs between k.at off res)

    same_bytes : {st' st₁ : State} → st' ≡ st₁ → get_or st₁.bytes i 0 ≡ get_or st.bytes i 0 → get_or st'.bytes i 0 ≡ get_or st.bytes i 0
    same_bytes q e = ap (λ z. get_or z.bytes i 0) q ∙ e

    pub does_stays : (n : ℕ) (c : Call) (g : Grant) (st' : State) → Sound c → Passed (checks st n c) → Does st c g st' → ((b : Block) → Among b g.blocks → Off i b) → All (λ h. (b : Block) → block_of (line st h).backing ≡ Some b → Off i b) (brings c).handles
        → get_or st'.bytes i 0 ≡ get_or st.bytes i 0
    does_stays n (WithCapacity k c a p) g st' s ps d off own =
        made_stays st tb inv k true c a (max a p) 0 [] (λ got. st.bytes) g st' (λ got x y z. placed_nothing st.meaning.base (max a p) k.width c (max_one a p (alignment_one s.1)) st.bytes got) off d
    does_stays n (Zeroed k mutable c a p) g st' s ps d off own =
        made_stays st tb inv k mutable c a (max a p) c (replicate c (replicate k.width 0)) (λ got. zeros_in got st.bytes) g st' (λ got x y z. placed_zeros st.meaning.base (max a p) k.width c (max_one a p (alignment_one s.1)) st.bytes got x y z) off d
    does_stays n (CopyFrom k mutable vs a p) g st' s ps d off own =
        made_stays st tb inv k mutable (length vs) a (max a p) (length vs) vs (λ got. written_in st.meaning.base (max a p) got (joined vs) st.bytes) g st'
        (λ got x y z. placed_written st.meaning.base (max a p) k.width (length vs) (max_one a p (alignment_one s.1)) st.bytes vs got s.3 (omega arith) x y z) off d
    does_stays n (EmptyShared k a) g st' s ps (p, q) off own = same_bytes q (add_stays st tb inv st _)
    does_stays n (Reserve h more) g st' s ps (bs, res, p) off own =
        reserves_stays st tb inv h.serial (line st h) more (enough (line st h) more) bs st' (held st h ps.1.1.0).at (λ b x. off b (subst (λ z. Among b z.blocks) (sym p) x)) res
    does_stays n (Append h vs) g st' s ps (between, bs, res, p, q) off own =
        same_bytes q (append_stays h vs bs between (held st h ps.1.1.0) (not-false h.mutable ps.1.0) s (λ b x. off b (subst (λ z. Among b z.blocks) (sym p) x)) own.0 res)
    does_stays n (Truncate h len) g st' s ps (p, q) off own = same_bytes q (put_stays st tb inv _)
    does_stays n (Clear h) g st' s ps (p, q) off own = same_bytes q (put_stays st tb inv _)
    does_stays n (Set h j v) g st' s ps (p, q) off own =
        let k = held st h ps.1.1.0 in
        same_bytes q (set_stays st tb inv h.serial (line st h) j v k.at (leb-false (line st h).len j ps.1.1.1.1.0) (s ∙ ap (λ z. z.width) (sym k.kind)) own.0)
    does_stays n (Take h) g st' s ps (p, q) off own = same_bytes q (add_stays st tb inv (put_line st _) _ ∙ put_stays st tb inv _)
    does_stays n (AlignedMut h a) g st' s ps d off own =
        let k = held st h ps.1.1.0 in
        stays_stays st tb inv (is_aligned (line st h) a) _ g st' _
        (copies_stays st tb inv h.serial (line st h) (line st h).capacity a true _ g st' k.at ((inv.spelled h.serial (line st h) k.at).2.within (k.state ∙ not-false h.mutable ps.1.0)) off) d
    does_stays n (Freeze h) g st' s ps (p, q) off own = same_bytes q (put_stays st tb inv _)
    does_stays n (IntoBytes h) g st' s ps (p, q) off own = same_bytes q (put_stays st tb inv _)
    does_stays n (FromBytes h k a) g st' s ps (p, q) off own = same_bytes q (put_stays st tb inv _)
    does_stays n (Share h) g st' s ps (p, q) off own = same_bytes q (add_stays st tb inv (put_line st _) _ ∙ put_stays st tb inv _)
    does_stays n (Slice h first last a) g st' s ps (p, q) off own = same_bytes q (add_stays st tb inv st _)
    does_stays n (TryIntoMut h) g st' s ps (p, q) off own = same_bytes q (put_stays st tb inv _)
    does_stays n (IntoMut h) g st' s ps d off own =
        stays_stays st tb inv (not (shared_by st (line st h))) _ g st' _ (copies_stays st tb inv h.serial (line st h) (line st h).len (line st h).claim true _ g st' (held st h ps.1.1.0).at (omega arith) off) d
    does_stays n (Aligned h a) g st' s ps d off own =
        stays_stays st tb inv (is_aligned (line st h) a) _ g st' _ (copies_stays st tb inv h.serial (line st h) (line st h).len a false _ g st' (held st h ps.1.1.0).at (omega arith) off) d
    does_stays n (EnsureAligned h a) g st' s ps (p, q) off own = same_bytes q (put_stays st tb inv _)
    does_stays n (Read h) g st' s ps (p, q) off own = same_bytes q refl
    does_stays n (Release h) g st' s ps (m, w, p, q) off own = same_bytes q (end_stays st tb inv m h.serial)
