-- WHERE COMPARE IS DONE, both stores may be compared, and the list is written whole: the bytes that the answer counts are its entries. Assumes nothing.
use Prim.Native.Nat.{ℕ}
use mathlib.Core.Path.{◌≡◌, refl}
use mathlib.Core.Bool.{Bool, true, false, cond}
use mathlib.Core.List.{List}
use native.Mathlib.Omega.{arith}
use lib.Dec.{leb}
use lib.ListN.{length, take}
use Rattle.rules.specs.declared.Reading.{Reading}
use Rattle.places.specs.Reports.{success, refused_bare, of_records, no_room}
use Rattle.records.proofs.Putting.{take-front}
use Rattle.naming.specs.declared.NameError.{NameError}
use Rattle.naming.specs.declared.NameError.TheVariants.{NotSound, Repeated}
use Rattle.std.specs.Prelude.{Result, Ok, Err}
use Rattle.comparing.specs.declared.CompareError.{CompareError}
use Rattle.comparing.specs.declared.CompareError.TheVariants.{NoRoom}
use Rattle.comparing.specs.Comparing.{bytes_of, judged, refusal_of, fitted, answered, comparing, list_after, comparing_report}

pub record Done (r : Reading) (st ar st' ar' : List ℕ) (room : ℕ) : Type 0 where
  pub old : judged r st ar ≡ Ok tt
  pub new : judged r st' ar' ≡ Ok tt
  pub answer : comparing r st ar st' ar' room ≡ Ok (length (bytes_of st ar st' ar'))

pub done : (r : Reading) (st ar st' ar' : List ℕ) (room : ℕ) → (comparing_report (comparing r st ar st' ar' room)).number ≡ 0 → Done r st ar st' ar' room
unfolding comparing answered refusal_of fitted comparing_report success refused_bare of_records no_room
done r st ar st' ar' room h = both (judged r st ar) (judged r st' ar') refl refl h
  where
    needed : ℕ
    needed = length (bytes_of st ar st' ar')

    fits : (t : Bool) → (comparing_report (cond t (Ok needed) (Err (NoRoom needed)))).number ≡ 0 → ◌≡◌ {A = Result ℕ CompareError} (cond t (Ok needed) (Err (NoRoom needed))) (Ok needed)
    fits true q = refl
    fits false q = absurd (omega (arith, q))

    both :
        (a b : Result Unit NameError) → judged r st ar ≡ a → judged r st' ar' ≡ b → (comparing_report (answered (refusal_of a b) (fitted needed room))).number ≡ 0 → Done r st ar st' ar' room
    both (Ok u) (Ok v) p q e = record { old = p; new = q; answer = rw (p, q) (fits (leb needed room) e) }
    both (Ok u) (Err NotSound) p q e = absurd (omega (arith, e))
    both (Ok u) (Err (Repeated i j)) p q e = absurd (omega (arith, e))
    both (Err NotSound) b p q e = absurd (omega (arith, e))
    both (Err (Repeated i j)) (Ok u) p q e = absurd (omega (arith, e))
    both (Err (Repeated i j)) (Err NotSound) p q e = absurd (omega (arith, e))
    both (Err (Repeated i j)) (Err (Repeated k l)) p q e = absurd (omega (arith, e))

-- the bytes that are counted
pub done-list :
    (r : Reading) (st ar st' ar' l : List ℕ) → Done r st ar st' ar' (length l) →
    take (comparing_report (comparing r st ar st' ar' (length l))).first (list_after (comparing r st ar st' ar' (length l)) (bytes_of st ar st' ar') l) ≡ bytes_of st ar st' ar'
unfolding comparing_report success list_after
done-list r st ar st' ar' l d = rw d.answer (take-front (bytes_of st ar st' ar') l)
