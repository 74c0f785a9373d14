-- Render's answer and the lent text afterwards, by the code's tests. Assumes nothing.
use Prim.Native.Nat.{ℕ, ◌+◌, ◌≤◌, ◌<◌}
use mathlib.Core.Path.{◌≡◌, refl, ◌∙◌}
use mathlib.Core.Bool.{Bool, true, false, cond}
use mathlib.Core.List.{List}
use native.Mathlib.Omega.{arith}
use borrow.Author.Tests.{ltb-true, lt-ltb, le-ltb}
use lib.Dec.{ltb}
use lib.ListN.{length}
use Rattle.rules.specs.declared.Reading.{Reading}
use Rattle.places.specs.Reports.{success, refused_bare, no_room}
use Rattle.records.specs.Put.{front}
use Rattle.stores.specs.Soundness.{sound}
use Rattle.std.specs.Prelude.{Result, Ok, Err}
use Rattle.rendering.specs.declared.RenderError.{RenderError}
use Rattle.rendering.specs.declared.RenderError.TheVariants.{NotSound, TooLong, NoRoom}
use Rattle.rendering.specs.Rendering.{rendering, limit, render_room, render_answer, render_out, rendered_report}
use Rattle.rendering.specs.Rendering.{capped}

-- the answer and the bytes that are right
pub record Right (r : Reading) (st ar l m : List ℕ) (x : Result ℕ RenderError) : Type 0 where
  pub answer : rendered_report x ≡ render_answer r st ar (length l)
  pub bytes : m ≡ render_out r st ar l

-- a capped length that keeps the limit is the length
capped_is : (n : ℕ) → capped n ≤ 16777216 → capped n ≡ n
unfolding capped limit
capped_is n h = by (ltb 16777216 n) refl h
  where
    by : (t : Bool) → ltb 16777216 n ≡ t → cond t (16777216 + 1) n ≤ 16777216 → cond t (16777216 + 1) n ≡ n
    by true e h = absurd (omega arith)
    by false e h = refl

-- one that does not is that of a length that does not either
over-is : (n : ℕ) → 16777216 < capped n → 16777216 < n
unfolding capped limit
over-is n h = by (ltb 16777216 n) refl h
  where
    by : (t : Bool) → ltb 16777216 n ≡ t → 16777216 < cond t (16777216 + 1) n → 16777216 < n
    by true e h = ltb-true 16777216 n e
    by false e h = h

module _ (r : Reading) (st ar l : List ℕ) where
  pub right-unsound : sound r st ar ≡ false → Right r st ar l l (Err NotSound)
  unfolding rendered_report render_answer render_out refused_bare
  right-unsound s = record { answer = rw s; bytes = rw s }

  module _ (s : sound r st ar ≡ true) (n : ℕ) (e : n ≡ capped (length (rendering r st ar))) where
    pub right-long : 16777216 < n → Right r st ar l l (Err TooLong)
    unfolding rendered_report render_answer render_room render_out refused_bare limit
    right-long h =
        let over = lt-ltb 16777216 (length (rendering r st ar)) (over-is (length (rendering r st ar)) (omega arith)) in
        record { answer = rw (s, over); bytes = rw (s, over) }

    module _ (k : n ≤ 16777216) where
      pub needed : n ≡ length (rendering r st ar)
      needed = e ∙ capped_is (length (rendering r st ar)) (omega arith)

      kept : ltb 16777216 (length (rendering r st ar)) ≡ false
      kept = le-ltb 16777216 (length (rendering r st ar)) (omega (arith, needed))

      pub right-room : length l < n → Right r st ar l l (Err (NoRoom n))
      unfolding rendered_report render_answer render_room render_out no_room limit
      right-room h =
          let full = lt-ltb (length l) (length (rendering r st ar)) (omega (arith, needed)) in
          record { answer = rw (s, kept, full, needed); bytes = rw (s, kept, full) }

      pub right-done : (m : List ℕ) → n ≤ length l → m ≡ front (rendering r st ar) l → Right r st ar l m (Ok n)
      unfolding rendered_report render_answer render_room render_out success limit
      right-done m h w =
          let room = le-ltb (length l) (length (rendering r st ar)) (omega (arith, needed)) in
          record { answer = rw (s, kept, room, needed); bytes = w ∙ rw (s, kept, room) }
