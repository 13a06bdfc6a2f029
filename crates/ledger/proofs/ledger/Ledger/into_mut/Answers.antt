use Rattle.std.proofs.Common.{◌≤◌, max, true, not, [], refl, ap, ◌∙◌, sym, subst, arith}
use Rattle.std.proofs.lemmas.Result.{err_from_is_err_and}
use Rattle.book.specs.Held.{lines_of}
use Rattle.sizes.specs.Numbers.{state_with}
use Rattle.model.specs.Book.{State, block_of, shared_by}
use Rattle.model.specs.Calls.{IntoMut, preferred_alignment}
use Rattle.model.specs.Checks.{uses}
use Rattle.model.specs.Effects.{capacity_in, unfrozen}
use Rattle.model.specs.Invariant.{Sits}
use Rattle.model.specs.declared.line.Kind.{Kind}
use Rattle.model.specs.declared.line.Line.{Line}
use Rattle.ledger.specs.Results.{Grants}
use Rattle.ledger.specs.View.{state}
use Rattle.ledger.proofs.Copies as link
use Rattle.ledger.proofs.Edits.{over}
use Rattle.ledger.proofs.LineEdits as edits
use Rattle.ledger.proofs.Ties.{after}
use Rattle.ledger.proofs.ledger.Ledger.into_mut.Given as given
use Rattle.ledger.proofs.ledger.Ledger.into_mut.Goals as goal
use Rattle.ledger.proofs.ledger.Ledger.into_mut.Goals.{After-put, After-put-2}

pub returns-in_err-plan : goal.returns-in_err-plan
unfolding shared_by
returns-in_err-plan g c =
    let st : State = state g.B.Allocator.meaning c.args.self.now c.args.region.now in
    let l : Line = c.in_ok-spot.spot.line in
    let p = err_from_is_err_and c.from_residual-in_err-plan.result c.from_residual-in_err-plan.ensures.1 in
    let b = link.copy_unsized st.meaning l l.len l.claim _ refl _ c.in_err-plan.ensures in
    rw (p.1, p.2) (link.stop_copy st c.args.h.handle c.in_ok-spot.spot c.in_ok-spot.ensures (IntoMut c.args.h.handle) (λ l. []) (λ l. shared_by st l) (λ l. l.len) (λ l. l.claim) (ap (λ b. uses c.args.h.handle (not b)) c.args.h.shared) refl _ refl (sym c.shares-shared.ensures ∙ c.if-not-shared.false) b, refl)

pub copy_out-requires : goal.copy_out-requires
copy_out-requires g c =
    let st : State = state g.B.Allocator.meaning c.args.self.now c.args.region.now in
    record { copying = link.copying st c.args.h.handle c.in_ok-spot.spot c.in_ok-spot.ensures c.in_ok-spot.spot.line.len c.in_ok-spot.spot.line.claim c.in_ok-plan.plan c.in_ok-plan.ensures (omega arith) }

pub returns-in_err-line : goal.returns-in_err-line
unfolding shared_by
returns-in_err-line g c =
    let st : State = state g.B.Allocator.meaning c.args.self.now c.args.region.now in
    let l : Line = c.in_ok-spot.spot.line in
    let p = err_from_is_err_and c.from_residual-in_err-line.result c.from_residual-in_err-line.ensures.1 in
    let b = c.in_err-line.ensures in
    rw (p.1, p.2) (
      link.stop_copy st c.args.h.handle c.in_ok-spot.spot c.in_ok-spot.ensures (IntoMut c.args.h.handle) (λ l. []) (λ l. shared_by st l) (λ l. l.len) (λ l. l.claim) (ap (λ b. uses c.args.h.handle (not b)) c.args.h.shared) refl _ refl (sym c.shares-shared.ensures ∙ c.if-not-shared.false) (link.planned_checks st l l.len l.claim c.in_ok-plan.plan c.in_ok-plan.ensures ∙ b.0),
      λ i. record { number = st.number; next = st.next; lines = st.lines; meaning = b.1 i; bytes = b.2 i },
    )

pub invariant_of-placed-2 : goal.invariant_of-placed-2
invariant_of-placed-2 g c =
    let st : State = state g.B.Allocator.meaning c.args.self.now c.args.region.now in
    let l : Line = c.in_ok-spot.spot.line in
    let copying = link.copying st c.args.h.handle c.in_ok-spot.spot c.in_ok-spot.ensures l.len l.claim c.in_ok-plan.plan c.in_ok-plan.ensures (omega arith) in
    let bare = link.bare st c.args.h.handle c.in_ok-spot.spot c.in_ok-spot.ensures c.args.h.shared in
    record {
      sits = subst (λ b. Sits b c.in_ok-line.line (block_of c.in_ok-line.line.backing)) (sym c.base-base.ensures) (link.copy_sits st.meaning _ st.bytes l l.len l.claim c.in_ok-plan.plan _ c.in_ok-line.line _ _ copying c.in_ok-line.ensures.1 c.in_ok-line.ensures.2 bare);
    }

pub unfrozen-requires-2 : goal.unfrozen-requires-2
unfrozen-requires-2 g c =
    let st : State = state g.B.Allocator.meaning c.args.self.now c.args.region.now in
    let l : Line = c.in_ok-spot.spot.line in
    let s = edits.stands st c.args.h.handle c.in_ok-spot.spot c.in_ok-spot.ensures in
    subst (λ (k : Kind). 1 ≤ k.width) (sym (link.copy_kind c.in_ok-plan.plan.base l c.in_ok-line.line l.claim c.in_ok-plan.plan.m _ c.in_ok-line.ensures.2)) s.wide

-- alone on its backing, it stays where it is
stays : (g : given.Over) (c : After-put g) → let st : State = state g.B.Allocator.meaning c.args.self.now c.args.region.now in Grants st (IntoMut c.args.h.handle) 0 (over st (lines_of c.put.new.self) st.meaning st.bytes)
unfolding shared_by
stays g c =
    let st : State = state g.B.Allocator.meaning c.args.self.now c.args.region.now in
    let l : Line = c.in_ok-spot.spot.line in
    link.stayed st c.args.h.handle c.in_ok-spot.spot c.in_ok-spot.ensures (IntoMut c.args.h.handle) (λ l. []) (λ l. shared_by st l) (λ l. l.len) (λ l. l.claim) (ap (λ b. uses c.args.h.handle (not b)) c.args.h.shared) refl (λ l. not (shared_by st l)) (λ l. unfrozen st l l.backing) true (λ l got. capacity_in st.meaning.base (max l.claim preferred_alignment) l.kind.width got) (λ g st' d. d)
    c.unfrozen.result (lines_of c.put.new.self) refl (sym c.shares-shared.ensures ∙ c.if-not-shared.true) (ap not (sym c.shares-shared.ensures ∙ c.if-not-shared.true)) (c.unfrozen.ensures ∙ edits.unfrozen_base st c.base-base.result l l.backing c.base-base.ensures)
    (ap (λ (z : Line). z.serial) c.unfrozen.ensures ∙ edits.unfrozen_serial (state_with 0 c.base-base.result) l l.backing) c.put.ensures

-- else it is copied
copies : (g : given.Over) (c : After-put-2 g) → let st : State = state g.B.Allocator.meaning c.args.self.now c.args.region.now in Grants st (IntoMut c.args.h.handle) 0 (over st (lines_of c.put-2.new.self) (g.B.Allocator.meaning c.copy_out.new.allocator) c.copy_out.new.region)
unfolding shared_by
copies g c =
    let st : State = state g.B.Allocator.meaning c.args.self.now c.args.region.now in
    let l : Line = c.in_ok-spot.spot.line in
    link.copied st c.args.h.handle c.in_ok-spot.spot c.in_ok-spot.ensures (IntoMut c.args.h.handle) (λ l. []) (λ l. shared_by st l) (λ l. l.len) (λ l. l.claim) (ap (λ b. uses c.args.h.handle (not b)) c.args.h.shared) refl (λ l. not (shared_by st l)) (λ l. unfrozen st l l.backing) true (λ l got. capacity_in st.meaning.base (max l.claim preferred_alignment) l.kind.width got) (λ g st' d. d)
    c.in_ok-plan.plan (block_of c.in_ok-line.line.backing) c.in_ok-line.line c.unfrozen-2.result (lines_of c.put-2.new.self) _ c.copy_out.new.region c.in_ok-plan.ensures refl (sym c.shares-shared.ensures ∙ c.if-not-shared.false) (ap not (sym c.shares-shared.ensures ∙ c.if-not-shared.false))
    c.in_ok-line.ensures.0 c.in_ok-line.ensures.1 c.in_ok-line.ensures.2 (λ e. link.thawed st.meaning.base c.base-base.result l c.in_ok-line.line c.unfrozen-2.result l.claim (max l.claim preferred_alignment) (block_of c.in_ok-line.line.backing) c.base-base.ensures e c.unfrozen-2.ensures) c.put-2.ensures

pub returns-then-not-shared : goal.returns-then-not-shared
returns-then-not-shared g c = stays g (goal.at.returns-then-not-shared g c).After-put

pub returns : goal.returns
returns g c = copies g (goal.at.returns g c).After-put-2

pub invariant_of-self : goal.invariant_of-self
invariant_of-self g c =
    let st : State = state g.B.Allocator.meaning c.args.self.now c.args.region.now in
    after st c.in_ok-spot.ensures.ready (IntoMut c.args.h.handle) 0 _ tt (stays g (goal.at.invariant_of-self g c).After-put)

pub invariant_of-self-2 : goal.invariant_of-self-2
invariant_of-self-2 g c =
    let st : State = state g.B.Allocator.meaning c.args.self.now c.args.region.now in
    after st c.in_ok-spot.ensures.ready (IntoMut c.args.h.handle) 0 _ tt (copies g (goal.at.invariant_of-self-2 g c).After-put-2)
