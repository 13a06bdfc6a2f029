-- Laws of `part`, `overwrite`, `Outside` and `equal`.
use Rattle.std.proofs.Common.{◌≡◌, ℕ, ◌+◌, ◌≤◌, List, [], ◌++◌, length, take, drop, Decides, sym, ap, ◌∙◌, arith, rules}
use lib.Seq.{paste}
use borrow.Rule.Slice.PartMut.{put_mid}
use Rattle.std.proofs.lemmas.Slice.Eq.{compares_Decides}
use Rattle.std.proofs.lemmas.List.{take_at, drop_at, drop-drop, take-append-drop, append_assoc, length-append, length-take-le, length-drop}
use Rattle.region.specs.Bytes.{part, overwrite, equal}

-- nothing written
pub overwrite_none : (place : ℕ) (xs : List ℕ) → overwrite place [] xs ≡ xs
unfolding overwrite
overwrite_none place xs = ap (λ (n : ℕ). take place xs ++ drop n xs) (omega arith) ∙ take-append-drop place xs

-- one write behind another is one write
pub overwrite_behind : (place : ℕ) (bs cs : List ℕ) (n : ℕ) (xs : List ℕ) → place ≤ length xs → n ≡ place + length bs → overwrite n cs (overwrite place bs xs) ≡ overwrite place (bs ++ cs) xs
unfolding overwrite
overwrite_behind place bs cs n xs h e =
    let rest : List ℕ = drop (place + length bs) xs in
    let before : List ℕ = overwrite place bs xs in
    let whole : before ≡ (take place xs ++ bs) ++ rest = sym (append_assoc (take place xs) bs rest) in
    let len : length (take place xs ++ bs) ≡ n = length-append (take place xs) bs ∙ omega (arith, length-take-le place xs h) in
    let front : take n before ≡ take place xs ++ bs = ap (take n) whole ∙ take_at (take place xs ++ bs) rest n len in
    let back : drop (n + length cs) before ≡ drop (place + length (bs ++ cs)) xs =
    sym (drop-drop (length cs) n before) ∙ ap (drop (length cs)) (ap (drop n) whole ∙ drop_at (take place xs ++ bs) rest n len) ∙ drop-drop (length cs) (place + length bs) xs ∙ ap (λ (k : ℕ). drop k xs) (omega (arith, length-append bs cs)) in
    ap (λ (f : List ℕ). f ++ (cs ++ drop (n + length cs) before)) front ∙ ap (λ (t : List ℕ). (take place xs ++ bs) ++ (cs ++ t)) back ∙ append_assoc (take place xs) bs (cs ++ drop (place + length (bs ++ cs)) xs) ∙ ap (λ (t : List ℕ). take place xs ++ t) (sym (append_assoc bs cs (drop (place + length (bs ++ cs)) xs)))

-- what a callee left in the part that was lent to it
pub overwrite_lent : (place n : ℕ) (bs xs : List ℕ) → length bs ≡ n → put_mid place n xs bs ≡ overwrite place bs xs
unfolding overwrite
overwrite_lent place n bs xs e = ap (λ (t : List ℕ). take place xs ++ (bs ++ t)) (drop-drop n place xs ∙ ap (λ (k : ℕ). drop (place + k) xs) (sym e))

-- what a copy within the bytes left
pub overwrite_paste : (place n : ℕ) (bs xs : List ℕ) → n ≤ length bs → paste xs place bs n ≡ overwrite place (take n bs) xs
unfolding overwrite
overwrite_paste place n bs xs h =
    append_assoc (take place xs) (take n bs) (drop (place + n) xs) ∙ ap (λ (k : ℕ). take place xs ++ (take n bs ++ drop (place + k) xs)) (sym (length-take-le n bs h))

pub length_overwrite : (place : ℕ) (bs xs : List ℕ) → place + length bs ≤ length xs → length (overwrite place bs xs) ≡ length xs
unfolding overwrite
length_overwrite place bs xs h = length-append (take place xs) (bs ++ drop (place + length bs) xs) ∙ omega (arith, length-append bs (drop (place + length bs) xs), length-take-le place xs (omega arith), length-drop (place + length bs) xs)

pub length_part : (place n : ℕ) (xs : List ℕ) → place + n ≤ length xs → length (part place n xs) ≡ n
unfolding part
length_part place n xs h = length-take-le n (drop place xs) (simp length-drop (omega arith))

-- `equal` says exactly whether the lists are equal
pub equal_decides : (xs ys : List ℕ) → Decides (equal xs ys) (xs ≡ ys)
unfolding equal
equal_decides xs ys = compares_Decides equal (search rules) xs ys
