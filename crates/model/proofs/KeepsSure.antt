-- Every call keeps the invariant of a state alone: its table is spelled from the region's own bytes.
use Rattle.std.proofs.Common.{◌≡◌, ℕ, ◌+◌, ◌-◌, ◌*◌, ◌≤◌, eqb, List, [], map, length, Some, None, Option, sym, refl, ap, ◌∙◌, subst, zero-mul, arith}
use Rattle.std.proofs.lemmas.Bool.{eqb-true, not-false}
use Rattle.region.specs.Bytes.{part}
use Rattle.region.proofs.Writes.{length_part}
use Rattle.allocation.specs.declared.block.Block.{Block}
use Rattle.allocation.specs.Meaning.{Among, Lawful}
use Rattle.model.specs.declared.line.Handle.{Handle}
use Rattle.model.specs.declared.line.Line.{Line}
use Rattle.model.specs.Answers.{Answers}
use Rattle.model.specs.Book.{State, block_of, line, look_up, serial_of, shown}
use Rattle.model.specs.Calls.{Answer, Call, granted, read, refused}
use Rattle.model.specs.Checks.{checks, refusal}
use Rattle.model.specs.Invariant.{Plain, Sure, SureOf}
use Rattle.model.specs.Keyed.{Rising, find}
use Rattle.model.specs.Laws.{InvariantLaw}
use Rattle.model.specs.Patterns.{chunks}
use Rattle.model.specs.Pedigree.{Row, Table, feed, key_of, row}
use Rattle.model.specs.Reads.{len_of, slice_bytes, slice_place}
use Rattle.model.specs.Runs.{In, Reached, Sound, Store, World}
use Rattle.model.proofs.Checks.{held, passed}
use Rattle.model.proofs.Fitting.{shown_is, shown_none, sits_off, sits_on}
use Rattle.model.proofs.Invariant.{Fits, Inv}
use Rattle.model.proofs.Keyed.{find_map, find_nil, mapped}
use Rattle.model.proofs.Law.{placed}
use Rattle.model.proofs.Lines.{LinesKeep}
use Rattle.model.proofs.Patterns.{even_chunks, joined_chunks, length_chunks}
use Rattle.model.proofs.Runs.{answered, holds_in, lines_answered, reached_holds}
use Rattle.model.proofs.Shapes.{never}
use Rattle.model.proofs.Strip.{strip}

-- the row that a line's own bytes spell
abbrev pub row_of : ℕ → List ℕ → Line → Row
row_of base xs l = record { serial = l.serial; kind = l.kind; list = chunks l.kind.width l.len (shown base l xs); block = block_of l.backing }

abbrev pub rows_of : ℕ → List ℕ → List Line → Table
rows_of base xs ls = map (row_of base xs) ls

row_at : (base : ℕ) (xs : List ℕ) (s : ℕ) (ls : List Line) → row s (rows_of base xs ls) ≡ mapped (row_of base xs) (find serial_of s ls)
unfolding row key_of
row_at base xs s ls = find_map serial_of key_of (row_of base xs) (λ l. refl) s ls

line_at : (base : ℕ) (xs : List ℕ) (o : Option Line) (r : Row) → mapped (row_of base xs) o ≡ Some r → (l : Line) × (o ≡ Some l)
line_at base xs None r e = absurd (never refl e)
line_at base xs (Some l) r e = (l, refl)

module _ (st : State) (law : Lawful st.meaning) (long : length st.bytes ≡ st.meaning.extent) (k : SureOf st) where
  wide_shown : (s : ℕ) (l : Line) → look_up s st ≡ Some l → length (shown st.meaning.base l st.bytes) ≡ l.len * l.kind.width
  wide_shown s l e = go (block_of l.backing) refl
    where
      go : (o : Option Block) → block_of l.backing ≡ o → length (shown st.meaning.base l st.bytes) ≡ l.len * l.kind.width
      go None b =
          let z = sits_off st.meaning.base l b (k.stands s l e).sits in
          ap length (shown_none st.meaning.base l st.bytes b) ∙ sym (ap (λ n. n * l.kind.width) z.0 ∙ zero-mul l.kind.width)
      go (Some B) b =
          let z = sits_on st.meaning.base l B b (k.stands s l e).sits in
          let w = law.within B (k.held s l B e b) in
          ap length (shown_is st.meaning.base l st.bytes B b) ∙ length_part (l.start - st.meaning.base) (l.len * l.kind.width) st.bytes (omega (arith, z.0, z.1, w, long))

  fits : (s : ℕ) (l : Line) → look_up s st ≡ Some l → Fits st.meaning.base st.bytes l (row_of st.meaning.base st.bytes l)
  fits s l e =
      let t = k.stands s l e in
      let n = wide_shown s l e in
      record {
        kind = refl;
        block = refl;
        wide = t.wide;
        claims = t.claims;
        even = even_chunks l.kind.width l.len (shown st.meaning.base l st.bytes) n;
        len = length_chunks l.kind.width l.len (shown st.meaning.base l st.bytes);
        within = t.within;
        sits = t.sits;
        spells = joined_chunks l.kind.width l.len (shown st.meaning.base l st.bytes) n;
      }

  pub sure_inv : Inv st (rows_of st.meaning.base st.bytes st.lines)
  sure_inv = record {
    law = law;
    long = long;
    order = k.order;
    spelled = λ s l e. (row_of st.meaning.base st.bytes l, row_at st.meaning.base st.bytes s st.lines ∙ ap (mapped (row_of st.meaning.base st.bytes)) e, fits s l e);
    live = λ s r e. line_at st.meaning.base st.bytes (look_up s st) r (sym (row_at st.meaning.base st.bytes s st.lines) ∙ e);
    held = k.held;
    used = k.used;
    alone = k.alone;
  }

pub inv_sure : (st : State) (tb : Table) → Inv st tb → LinesKeep st → SureOf st
inv_sure st tb inv each = record {
  order = inv.order;
  counted = each.1;
  each = each.0;
  stands = λ s l e. let f = (inv.spelled s l e).2 in record { wide = f.wide; claims = f.claims; within = f.within; sits = f.sits };
  held = inv.held;
  used = inv.used;
  alone = inv.alone;
}

-- every call keeps it
pub keeps_sure : (st : State) (extent : ℕ) (c : Call) (a : Answer) (st' : State) → Lawful st.meaning → length st.bytes ≡ extent → Sound c → Answers st extent c a st' → SureOf st → SureOf st'
keeps_sure st extent c (refused n) st' law e s (p, q) k = subst SureOf (sym q) k
keeps_sure st extent c (granted g) st' law e s (p, d) k =
    let long : length st.bytes ≡ st.meaning.extent = e ∙ eqb-true extent st.meaning.extent (not-false (eqb extent st.meaning.extent) (passed (checks st extent c) p).0) in
    inv_sure st' _ (answered st _ (sure_inv st law long k) (k.each, k.counted) extent c (granted g) st' s (p, d)) (lines_answered st (k.each, k.counted) extent c (granted g) st' s (p, d))

-- with some table, the invariant of runs
abbrev pub Well : State → Type 0
Well st = (tb : Table) × Inv st tb × LinesKeep st

pub well_inv : (st : State) (k : Well st) → Inv st k.0
well_inv st k = k.1

pub well_lines : (st : State) → Well st → LinesKeep st
well_lines st k = k.2

pub well_on : (st : State) (extent : ℕ) (c : Call) (a : Answer) (st' : State) → Well st → Sound c → Answers st extent c a st' → Well st'
well_on st extent c a st' (tb, inv, each) s q = (feed tb c a, answered st tb inv each extent c a st' s q, lines_answered st each extent c a st' s q)

pub sure_well : (st : State) → Lawful st.meaning → length st.bytes ≡ st.meaning.extent → SureOf st → Well st
sure_well st law long k = (rows_of st.meaning.base st.bytes st.lines, sure_inv st law long k, (k.each, k.counted))

-- the part of a live handle lies in the region
pub sure_place : (st : State) → Lawful st.meaning → SureOf st → (h : Handle) → refusal (checks st (length st.bytes) (read h)) ≡ None
    → (slice_place st h + len_of st h * h.kind.width ≤ length st.bytes) × (slice_bytes st h ≡ part (slice_place st h) (len_of st h * h.kind.width) st.bytes)
sure_place st law k h ok =
    let ps = passed (checks st (length st.bytes) (read h)) ok in
    let long = eqb-true (length st.bytes) st.meaning.extent (not-false (eqb (length st.bytes) st.meaning.extent) ps.0) in
    let inv = sure_inv st law long k in
    let at = held st h ps.1.1.0 in
    placed st _ inv h (line st h) at.kind at.at (inv.spelled h.serial (line st h) at.at).2 (block_of (line st h).backing) refl

-- a new store
pub sure_new : (p : Plain) → p.live ≡ [] → Sure 1 [] p
unfolding Rising Among
sure_new p e = record {
  order = tt;
  counted = record { begun = omega arith; unspent = omega arith; few = omega arith };
  each = tt;
  stands = λ s l x. absurd (never (find_nil serial_of s) x);
  held = λ s l B x b. absurd (never (find_nil serial_of s) x);
  used = λ B x. absurd (subst (Among B) e x);
  alone = λ s t l m B d x y b c. absurd (never (find_nil serial_of s) x);
}

pub sure_reached : (w : World) → Reached w → (s : Store) → In s w → SureOf s.state
sure_reached w r s i = let f = holds_in w (reached_holds w r) s i in inv_sure s.state s.table f.0 f.1

pub invariant_law : InvariantLaw
invariant_law = (sure_new, sure_reached, keeps_sure, strip)
