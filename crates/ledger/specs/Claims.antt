-- The claims of slices as the definitions have them.
use Rattle.model.specs.Calls.{Claim as ModelClaim, Given as model-given, Inherited as model-inherited, OfKind as model-of_kind}
use Rattle.allocation.specs.Asked.{bytes_of}
use Rattle.ledger.specs.declared.claim.Claim.{Claim}
use Rattle.ledger.specs.declared.claim.Claim.TheVariants.{Given, Inherited, OfKind}

abbrev pub claim_of : Claim → ModelClaim
claim_of (Given a) = model-given (bytes_of a)
claim_of Inherited = model-inherited
claim_of OfKind = model-of_kind
