-- The makings that both states have: by the state, the call of `BufferMut` or that of `Buffer`.
use Rattle.std.specs.Prelude.{ℕ, Bool, true, false, List}
use Rattle.model.specs.Calls.{Call, copy_from_in, full_in, shared_copy_from_in, shared_full_in, shared_zeroed_in, zeroed_in}
use Rattle.model.specs.declared.line.Kind.{Kind}

-- n zero elements
abbrev pub zeroed_of : (mutable : Bool) → Kind → ℕ → Call
zeroed_of true k n = zeroed_in k n
zeroed_of false k n = shared_zeroed_in k n

-- one element n times
abbrev pub full_of : (mutable : Bool) → Kind → List ℕ → ℕ → Call
full_of true k v n = full_in k v n
full_of false k v n = shared_full_in k v n

-- the elements given
abbrev pub copy_from_of : (mutable : Bool) → Kind → List (List ℕ) → Call
copy_from_of true k vs = copy_from_in k vs
copy_from_of false k vs = shared_copy_from_in k vs
