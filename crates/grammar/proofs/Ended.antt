-- Proved: a token is read alike whether the text ends behind it or an LF and more text follow, unless it is a text field that is left open (lex_in-ended).
-- Assumes nothing.
use Prim.Native.Nat.{ℕ}
use mathlib.Core.Bool.{◌||◌}
use mathlib.Core.Path.{◌≡◌, refl}
use mathlib.Core.List.{List, ◌∷◌, ◌++◌}
use Rattle.rules.specs.declared.Reading.TheVariants.{First}
use Rattle.words.proofs.Ended.{word-ended}
use Rattle.keywords.specs.Keywords.{starts, key_data, key_global, key_stop}
use Rattle.keywords.proofs.Ended.{data-ended, global-ended, loop_ended, save-ended, stop-ended}
use Rattle.values.proofs.Ended.{Shut, value-ended}
use Rattle.grammar.specs.Tokens.{Mode, before, in_block, in_frame, save_size, lex_in}

save_size-ended : (m : Mode) (w t : List ℕ) → save_size m (w ++ 10 ∷ t) ≡ save_size m w
unfolding save_size
save_size-ended before w t = refl
save_size-ended in_block w t = word-ended w t
save_size-ended in_frame w t = refl

keys-ended : (w t : List ℕ) → (starts key_data (w ++ 10 ∷ t) || starts key_global (w ++ 10 ∷ t) || starts key_stop (w ++ 10 ∷ t)) ≡ (starts key_data w || starts key_global w || starts key_stop w)
keys-ended w t = rw (data-ended w t, global-ended w t, stop-ended w t)

-- THE SAME TOKEN, whether the text ends behind it or an LF and more text follow
pub lex_in-ended : (p : ℕ) (m : Mode) (b : ℕ) (s t : List ℕ) → Shut b s → lex_in First p m (b ∷ s ++ 10 ∷ t) ≡ lex_in First p m (b ∷ s)
unfolding lex_in
lex_in-ended p m b s t h =
    rw (
      keys-ended (b ∷ s) t,
      loop_ended (b ∷ s) t,
      save-ended (b ∷ s) t,
      save_size-ended m (b ∷ s) t,
      word-ended (b ∷ s) t,
      value-ended p b s t h,
    )
