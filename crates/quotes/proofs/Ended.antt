-- A quote or a text field that is closed is the same whatever follows; a quote that is not closed stays open behind an LF. Assumes nothing.
use Prim.Native.Nat.{ℕ}
use mathlib.Core.Bool.{Bool, true, false, cond, ◌&&◌}
use mathlib.Core.Path.{◌≡◌, refl}
use mathlib.Core.List.{List, [], ◌∷◌, ◌++◌}
use mathlib.Core.Option.{Option, none, some}
use Rattle.text.specs.Bytes.{is, is_eol}
use Rattle.quotes.specs.Quotes.{more, quoted, field_in, field}

-- an LF and what follows it leave a quote as it is, closed or open
pub quoted-ended : (m : ℕ) → is m 10 ≡ false → (w t : List ℕ) → quoted m (w ++ 10 ∷ t) ≡ quoted m w
unfolding quoted is_eol
quoted-ended m e [] t = rw e
quoted-ended m e (b ∷ w) t = rw (quoted-ended m e w t)

closed-go : (c : Bool) (r r' : Option ℕ) (n : ℕ) → ((k : ℕ) → r ≡ some k → r' ≡ some k) → cond c (some 1) (more r) ≡ some n → cond c (some 1) (more r') ≡ some n
unfolding more
closed-go true r r' n h q = q
closed-go false none r' n h q = cc
closed-go false (some k) r' n h q = rw (h k refl) q

closed_in : (e : Bool) (w t : List ℕ) (n : ℕ) → field_in e w ≡ some n → field_in e (w ++ t) ≡ some n
unfolding field_in
closed_in e [] t n q = cc
closed_in e (b ∷ w) t n q =
    closed-go (e && is 59 b) (field_in (is_eol b) w) (field_in (is_eol b) (w ++ t)) n (λ k. closed_in (is_eol b) w t k) q

-- what closes a text field closes it whatever follows
pub field-closed : (w t : List ℕ) (n : ℕ) → field w ≡ some n → field (w ++ t) ≡ some n
unfolding field
field-closed w t n q = closed_in false w t n q
