-- A making by the state is the one call that the store makes for both, with the state as its flag.
use Rattle.std.proofs.Common.{◌≡◌, ℕ, Bool, true, false, List, replicate, refl}
use Rattle.model.specs.Calls.{CopyFrom, Zeroed, preferred_alignment}
use Rattle.model.specs.declared.line.Kind.{Kind}
use Rattle.buffer.specs.Makings.{copy_from_of, full_of, zeroed_of}

pub zeroed_is : (mutable : Bool) (k : Kind) (n : ℕ) → zeroed_of mutable k n ≡ Zeroed k mutable n k.align preferred_alignment
zeroed_is true k n = refl
zeroed_is false k n = refl

pub full_is : (mutable : Bool) (k : Kind) (v : List ℕ) (n : ℕ) → full_of mutable k v n ≡ CopyFrom k mutable (replicate n v) k.align preferred_alignment
full_is true k v n = refl
full_is false k v n = refl

pub copy_from_is : (mutable : Bool) (k : Kind) (vs : List (List ℕ)) → copy_from_of mutable k vs ≡ CopyFrom k mutable vs k.align preferred_alignment
copy_from_is true k vs = refl
copy_from_is false k vs = refl
