-- Laws of putting bytes over those of a list. Assumes nothing.
use Prim.Native.Nat.{ℕ, zero, suc, ◌+◌, ◌-◌, ◌≤◌, ◌<◌}
use mathlib.Core.Path.{◌≡◌, refl, sym, ap, ◌∙◌}
use mathlib.Core.List.{List, [], ◌∷◌, ◌++◌, append_assoc, append-nil}
use native.Mathlib.Omega.{arith}
use native.Mathlib.Nat.{zero-add, suc-add}
use lib.ListN.{length, take, drop, set, length-append, length-drop, length-take, drop_of_length-le}
use lib.Seq.{take-append_seam, drop-append_seam, take_all, drop-drop}
use borrow.Rule.Slice.PartMut.{put_mid}
use Rattle.records.specs.Put.{front, put}

pub length_front : (vs l : List ℕ) → length vs ≤ length l → length (front vs l) ≡ length l
unfolding front
length_front vs l h = omega (arith, length-append vs (drop (length vs) l), length-drop (length vs) l)

pub length-put : (at : ℕ) (vs l : List ℕ) → at + length vs ≤ length l → length (put at vs l) ≡ length l
unfolding put
length-put at vs l h =
    omega (
      arith,
      length-append (take at l) (front vs (drop at l)),
      length_front vs (drop at l) (omega (arith, length-drop at l)),
      length-drop at l,
      length-take at l,
    )

pub put-zero : (vs l : List ℕ) → put 0 vs l ≡ front vs l
unfolding put
put-zero vs l = refl

pub front-none : (l : List ℕ) → front [] l ≡ l
unfolding front
front-none l = refl

-- one after the other
pub front-more : (vs ws l : List ℕ) → put (length vs) ws (front vs l) ≡ front (vs ++ ws) l
unfolding front put
front-more vs ws l = rw (take-append_seam, drop-append_seam, length-append, append_assoc, drop-drop)

pub front-next : (n : ℕ) (vs ws l : List ℕ) → length vs ≡ n → put n ws (front vs l) ≡ front (vs ++ ws) l
front-next n vs ws l e = rw (← e) (front-more vs ws l)

pub put-more : (at : ℕ) (vs ws l : List ℕ) → at ≤ length l → put (at + length vs) ws (put at vs l) ≡ put at (vs ++ ws) l
unfolding put
put-more zero vs ws l h = rw zero-add (front-more vs ws l)
put-more (suc at) vs ws [] h = absurd (omega arith)
put-more (suc at) vs ws (x ∷ l) h = rw suc-add (ap (λ (z : List ℕ). x ∷ z) (put-more at vs ws l (omega arith)))

-- what stands at the front is what was put there, and the rest is as it was
pub take-front : (vs l : List ℕ) → take (length vs) (front vs l) ≡ vs
unfolding front
take-front vs l = take-append_seam vs (drop (length vs) l)

pub drop-front : (vs l : List ℕ) → drop (length vs) (front vs l) ≡ drop (length vs) l
unfolding front
drop-front vs l = drop-append_seam vs (drop (length vs) l)

-- of several put at the front, those behind the first stand at the front of what follows it
pub drop-front-append : (vs ws l : List ℕ) → drop (length vs) (front (vs ++ ws) l) ≡ front ws (drop (length vs) l)
unfolding front
drop-front-append vs ws l = rw (append_assoc, drop-append_seam, length-append, drop-drop)

pub front-append : (vs ws l : List ℕ) → front (vs ++ ws) l ≡ vs ++ front ws (drop (length vs) l)
unfolding front
front-append vs ws l = rw (append_assoc, length-append, drop-drop)

-- within a part
pub front-take : (n : ℕ) (vs l : List ℕ) → length vs ≤ n → front vs (take n l) ≡ take n (front vs l)
unfolding front
front-take n [] l h = refl
front-take zero (v ∷ vs) l h = absurd (omega arith)
front-take (suc n) (v ∷ vs) [] h =
    ap (λ (z : List ℕ). v ∷ z) (append-nil vs ∙ sym (ap (take n) (append-nil vs) ∙ take_all n vs (omega arith)))
front-take (suc n) (v ∷ vs) (x ∷ l) h = ap (λ (z : List ℕ). v ∷ z) (front-take n vs l (omega arith))

-- from where bytes were put on, they stand at the front
pub drop-put : (at : ℕ) (vs l : List ℕ) → at ≤ length l → drop at (put at vs l) ≡ front vs (drop at l)
unfolding put
drop-put zero vs l h = refl
drop-put (suc at) vs [] h = absurd (omega arith)
drop-put (suc at) vs (x ∷ l) h = drop-put at vs l (omega arith)

-- before it nothing changed
pub take_put : (at : ℕ) (vs l : List ℕ) → at ≤ length l → take at (put at vs l) ≡ take at l
unfolding put
take_put zero vs l h = refl
take_put (suc at) vs [] h = absurd (omega arith)
take_put (suc at) vs (x ∷ l) h = ap (λ (z : List ℕ). x ∷ z) (take_put at vs l (omega arith))

-- one byte
pub set-put : (at v : ℕ) (l : List ℕ) → at < length l → set l at v ≡ put at (v ∷ []) l
unfolding put front
set-put zero v [] h = absurd (omega arith)
set-put zero v (x ∷ l) h = refl
set-put (suc at) v [] h = absurd (omega arith)
set-put (suc at) v (x ∷ l) h = ap (λ (z : List ℕ). x ∷ z) (set-put at v l (omega arith))

set_more : (at v : ℕ) (vs l : List ℕ) → at + length vs < length l → set (put at vs l) (at + length vs) v ≡ put at (vs ++ v ∷ []) l
set_more at v vs l h =
    set-put (at + length vs) v (put at vs l) (omega (arith, length-put at vs l (omega arith)))
    ∙ put-more at vs (v ∷ []) l (omega arith)

-- what a function put at the front of a lent part stands in the whole
pub part-put : (at : ℕ) (vs l ys : List ℕ) → ys ≡ front vs (take (length l - at) (drop at l)) → take at l ++ (ys ++ drop (length l - at) (drop at l)) ≡ put at vs l
unfolding put
part-put at vs l ys e =
    let n : length (drop at l) ≤ length l - at = omega (arith, length-drop at l) in
    rw (e, drop_of_length-le (drop at l) n, take_all (length l - at) (drop at l) n, append-nil)

-- a part of a store, with other bytes in its place
pub put-part : (at e : ℕ) (vs l : List ℕ) → e ≡ at + length vs → put_mid at (e - at) l vs ≡ put at vs l
unfolding put front
put-part at e vs l n =
    let m : e - at ≡ length vs = omega arith in
    rw (m, drop-drop)
