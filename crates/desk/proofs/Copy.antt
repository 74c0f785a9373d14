-- Laws of copying byte by byte, and of writing into a store's rest. Assumes nothing.
use Prim.Native.Nat.{ℕ, ◌+◌, ◌-◌, ◌≤◌, ◌<◌}
use mathlib.Core.Path.{◌≡◌, ◌∙◌}
use mathlib.Core.List.{List, [], ◌∷◌, ◌++◌}
use native.Mathlib.Numerals.{add-one}
use native.Mathlib.Omega.{arith}
use lib.ListN.{length, take, drop, set, get_or, length-take, length-drop, take-append-drop}
use lib.Seq.{take-suc, get_or-drop}
use Rattle.records.specs.Put.{front, put}
use Rattle.records.proofs.Putting.{length-put, set-put, put-more}

-- nothing put
pub put-none : (at : ℕ) (l : List ℕ) → put at [] l ≡ l
unfolding put front
put-none at l = take-append-drop at l

-- one byte more
pub copy_more : (s l : List ℕ) (from at i : ℕ) → from + i < length s → at + i < length l →
    set (put at (take i (drop from s)) l) (at + i) (get_or s (from + i) 0) ≡ put at (take (i + 1) (drop from s)) l
copy_more s l from at i h k =
    let vs = take i (drop from s) in
    let n : length vs ≡ i = omega (arith, length-take i (drop from s), length-drop from s) in
    let d : i < length (drop from s) = omega (arith, length-drop from s) in
    let m : set (put at vs l) (at + length vs) (get_or s (from + i) 0) ≡ put at (vs ++ get_or s (from + i) 0 ∷ []) l =
    set-put (at + length vs) (get_or s (from + i) 0) (put at vs l) (omega (arith, length-put at vs l (omega arith))) ∙ put-more at vs (get_or s (from + i) 0 ∷ []) l (omega arith) in
    (rw n at m) ∙ rw (add-one, take-suc (drop from s) i 0 d, get_or-drop)

-- the rest of a store has the room that the store has behind it
pub rest-room : (at n : ℕ) (l : List ℕ) → at + n ≤ length l → n ≤ length (take (length l - at) (drop at l))
rest-room at n l h = omega (arith, length-take (length l - at) (drop at l), length-drop at l)

-- a part that is given by its ends
pub part-taken : (s : List ℕ) (o n : ℕ) → take (o + n - o) (drop o s) ≡ take n (drop o s)
part-taken s o n =
    let e : o + n - o ≡ n = omega arith in
    rw e
