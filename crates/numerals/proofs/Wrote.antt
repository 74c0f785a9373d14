-- Laws of writing one thing behind the other. Assumes nothing.
use Prim.Native.Nat.{ℕ, zero, suc, ◌+◌, ◌≤◌, ◌<◌}
use mathlib.Core.Path.{◌≡◌, refl, sym, ap, ◌∙◌}
use mathlib.Core.List.{List, [], ◌∷◌, ◌++◌}
use native.Mathlib.Numerals.{add-one}
use native.Mathlib.Omega.{arith}
use lib.ListN.{length, take, drop, set, get_or, length-append, length-take, length-drop, take-append-drop}
use lib.Seq.{take-suc, get_or-drop}
use Rattle.records.specs.Put.{front, put}
use Rattle.records.proofs.Putting.{length-put, set-put, put-more}
use Rattle.numerals.specs.Written.{Wrote}

pub put-none : (at : ℕ) (l : List ℕ) → put at [] l ≡ l
unfolding put front
put-none at l = take-append-drop at l

pub wrote_none : (at : ℕ) (l : List ℕ) → Wrote at [] l l at
wrote_none at l = record { bytes = sym (put-none at l); next = omega arith }

-- what was written keeps the length
pub wrote-length : {at r : ℕ} {vs l m : List ℕ} → at + length vs ≤ length l → Wrote at vs l m r → length m ≡ length l
wrote-length {at} {r} {vs} {l} {m} h w = ap length w.bytes ∙ length-put at vs l h

-- room goes by the bytes
pub room_as : (at n : ℕ) {vs ws : List ℕ} → vs ≡ ws → at + length vs ≤ n → at + length ws ≤ n
room_as at n e h = rw (← e) h

pub room-first : (at n : ℕ) (vs ws : List ℕ) → at + length (vs ++ ws) ≤ n → at + length vs ≤ n
room-first at n vs ws h = omega (arith, length-append vs ws)

-- there is room for the second behind the first
pub wrote-room : {at r : ℕ} {vs l m : List ℕ} (ws : List ℕ) → at + length (vs ++ ws) ≤ length l → Wrote at vs l m r → r + length ws ≤ length m
wrote-room {at} {r} {vs} {l} {m} ws h w =
    let e = length-append vs ws in
    omega (arith, w.next, wrote-length {at = at} {vs = vs} {l = l} (omega arith) w)

-- one behind the other is both
pub wrote_then : {at r q : ℕ} {vs ws l m n : List ℕ} → at ≤ length l → Wrote at vs l m r → Wrote r ws m n q → Wrote at (vs ++ ws) l n q
wrote_then {at} {r} {q} {vs} {ws} {l} {m} {n} h v w =
    record {
      bytes = w.bytes ∙ rw (v.next, v.bytes) (put-more at vs ws l h);
      next = omega (arith, v.next, w.next, length-append vs ws);
    }

pub wrote_as : {at r : ℕ} {vs ws l m : List ℕ} → vs ≡ ws → Wrote at vs l m r → Wrote at ws l m r
wrote_as {at} {r} {vs} {ws} {l} {m} e w = rw (← e) w

-- one byte more of a part
pub part-more : (s l : List ℕ) (from at i : ℕ) → from + i < length s → at + i < length l →
    set (put at (take i (drop from s)) l) (at + i) (get_or s (from + i) 0) ≡ put at (take (i + 1) (drop from s)) l
part-more s l from at i h k =
    let vs = take i (drop from s) in
    let n : length vs ≡ i = omega (arith, length-take i (drop from s), length-drop from s) in
    let d : i < length (drop from s) = omega (arith, length-drop from s) in
    let m : set (put at vs l) (at + length vs) (get_or s (from + i) 0) ≡ put at (vs ++ get_or s (from + i) 0 ∷ []) l =
    set-put (at + length vs) (get_or s (from + i) 0) (put at vs l) (omega (arith, length-put at vs l (omega arith))) ∙ put-more at vs (get_or s (from + i) 0 ∷ []) l (omega arith) in
    (rw n at m) ∙ rw (add-one, take-suc (drop from s) i 0 d, get_or-drop)

-- a byte before what was put
pub set_before : (at v : ℕ) (vs l : List ℕ) → at < length l → set (put (suc at) vs l) at v ≡ put at (v ∷ vs) l
unfolding put front
set_before zero v vs [] h = absurd (omega arith)
set_before zero v vs (x ∷ l) h = refl
set_before (suc at) v vs [] h = absurd (omega arith)
set_before (suc at) v vs (x ∷ l) h = ap (λ (z : List ℕ). x ∷ z) (set_before at v vs l (omega arith))
