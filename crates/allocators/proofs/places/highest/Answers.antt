use Rattle.std.proofs.Common.{◌≡◌, fold, max, rules, arith}
use Rattle.allocation.specs.Meaning.{end_of}
use Rattle.allocators.specs.Grants.{fold_highest}
use Rattle.allocators.proofs.places.highest.Goals as goal

pub returns : goal.returns
returns c =
    let all : c.fold.result ≡ fold (λ e b. max e (end_of b)) 0 c.args.live.now = search rules in
    omega (arith, fold_highest 0 c.args.live.now)
