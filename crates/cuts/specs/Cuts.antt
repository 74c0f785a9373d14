-- Where the parts of a word lie that may be a number: sign, integer, point, fraction, exponent, bracket, each taken as
-- far as it goes. Past the word's end a byte reads as 0, which is in no class. Assumes nothing.
use Rattle.std.specs.Prelude.{ℕ, ◌+◌, Bool, true, false, cond, ◌&&◌, ◌||◌, List, ltb, length, get_or}
use Prim.Native.Char.{code}
use Rattle.text.specs.Bytes.{is, open_bracket, close_bracket, plus_sign, minus_sign, full_stop}
use Rattle.cuts.specs.declared.Cuts.{Cuts}
use Rattle.cuts.specs.declared.Extent.{Extent}
use Rattle.cuts.specs.Digits.{after, digits_end, Run}

-- a part that is absent at i
unfoldable pub nowhere : ℕ → Extent
nowhere i = record { here = false; sign = i; digits = i; end = i; next = i }

-- `e` or `E`, not at the word's end
unfoldable pub starts_exponent : List ℕ → ℕ → Bool
starts_exponent w i = (is (code "e") (get_or w i 0) || is (code "E") (get_or w i 0)) && ltb (i + 1) (length w)

-- the exponent at i
unfoldable pub exponent_at : List ℕ → ℕ → Extent
exponent_at w i =
    let d = after plus_sign minus_sign w (i + 1) in
    let e = digits_end w d in
    cond (starts_exponent w i) (record { here = true; sign = i + 1; digits = d; end = e; next = e }) (nowhere i)

-- the bracket at i: one that isn't closed is absent
unfoldable pub bracket_at : List ℕ → ℕ → Extent
bracket_at w i =
    let e = digits_end w (i + 1) in
    let closed : Extent = record { here = true; sign = i + 1; digits = i + 1; end = e; next = e + 1 } in
    cond (is open_bracket (get_or w i 0)) (cond (is close_bracket (get_or w e 0)) closed (nowhere i)) (nowhere i)

-- where a word's parts lie
unfoldable pub cuts_of : List ℕ → Cuts
cuts_of w =
    let s = after plus_sign minus_sign w 0 in
    let i = digits_end w s in
    let p = after full_stop full_stop w i in
    let f = digits_end w p in
    let e = exponent_at w f in
    record { sign = s; integer = i; point = p; fraction = f; exponent = e; bracket = bracket_at w e.next }

-- cuts that bound digits of the word
pub record Sound (w : List ℕ) (k : Cuts) : Type 0 where
  pub integer : Run w k.sign k.integer
  pub fraction : Run w k.point k.fraction
  pub exponent : Run w k.exponent.digits k.exponent.end
  pub uncertainty : Run w k.bracket.digits k.bracket.end
