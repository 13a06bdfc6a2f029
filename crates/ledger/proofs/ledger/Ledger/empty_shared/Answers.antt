use Rattle.std.proofs.Common.{subst}
use Rattle.allocation.specs.Asked.{bytes_of}
use Rattle.book.specs.Held.{lines_of}
use Rattle.model.specs.Book.{State}
use Rattle.model.specs.Calls.{EmptyShared}
use Rattle.ledger.specs.Results.{Grants}
use Rattle.ledger.specs.View.{state}
use Rattle.ledger.proofs.Edits.{over_next}
use Rattle.ledger.proofs.Makes.{empty_made}
use Rattle.ledger.proofs.Slices.{fair}
use Rattle.ledger.proofs.Ties.{after}
use Rattle.ledger.proofs.ledger.Ledger.empty_shared.Given as given
use Rattle.ledger.proofs.ledger.Ledger.empty_shared.Goals as goal
use Rattle.ledger.proofs.ledger.Ledger.empty_shared.Goals.{After-add}

-- what the call did
granted : (g : given.Over) (c : After-add g) → let st : State = state g.B.Allocator.meaning c.args.self.now c.args.region.now in Grants st (EmptyShared c.args.kind (bytes_of c.args.claim)) c.in_ok-serial.serial (over_next st c.add.new.self.next (lines_of c.add.new.self.book) st.meaning st.bytes)
granted g c =
    let st : State = state g.B.Allocator.meaning c.args.self.now c.args.region.now in
    let o = c.in_ok-serial.ensures in
    subst (λ z. Grants st (EmptyShared c.args.kind z) c.in_ok-serial.serial (over_next st c.add.new.self.next (lines_of c.add.new.self.book) st.meaning st.bytes)) c.as_usize-claim.ensures
    (empty_made st c.args.kind c.as_usize-claim.result c.in_ok-serial.serial o c.add.new.self.next (lines_of c.add.new.self.book) c.unbacked.result c.in_ok-fits_kind.ensures c.unbacked.ensures c.add.ensures)

pub returns : goal.returns
returns g c = granted g (goal.at.returns g c).After-add

pub invariant_of-self : goal.invariant_of-self
invariant_of-self g c =
    let st : State = state g.B.Allocator.meaning c.args.self.now c.args.region.now in
    let o = c.in_ok-serial.ensures in
    after st o.ready (EmptyShared c.args.kind (bytes_of c.args.claim)) c.in_ok-serial.serial _ (c.requires.sound, fair c.args.claim) (granted g (goal.at.invariant_of-self g c).After-add)
