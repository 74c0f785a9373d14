-- A keyword stands at the start of a text whether the text ends there or an LF and more text follow: no keyword has an LF. Assumes nothing.
use Prim.Native.Nat.{ℕ}
use mathlib.Core.Bool.{Bool, true, not, ◌&&◌}
use mathlib.Core.Path.{◌≡◌, refl, ap}
use mathlib.Core.List.{List, [], ◌∷◌, ◌++◌}
use borrow.Author.Tests.{not-true}
use Rattle.text.specs.Bytes.{is}
use Rattle.text.proofs.Bools.{and_l, and_r}
use Rattle.folding.specs.Folding.{lower}
use Rattle.keywords.specs.Keywords.{starts, key_data, key_global, key_loop, key_save, key_stop}

-- a keyword has no LF
unfoldable pub no_lf : List ℕ → Bool
no_lf [] = true
no_lf (c ∷ k) = not (is c (lower 10)) && no_lf k

-- an LF and what follows it do not change whether a keyword without LF stands at the start
pub starts-ended : (k w t : List ℕ) → no_lf k ≡ true → starts k (w ++ 10 ∷ t) ≡ starts k w
unfolding starts no_lf
starts-ended [] w t e = refl
starts-ended (c ∷ k) [] t e = rw (not-true (is c (lower 10)) (and_l _ (no_lf k) e))
starts-ended (c ∷ k) (b ∷ w) t e =
    ap (λ r. is c (lower b) && r) (starts-ended k w t (and_r (not (is c (lower 10))) (no_lf k) e))

-- the same of each of the five
module _ (w t : List ℕ) where
  pub data-ended : starts key_data (w ++ 10 ∷ t) ≡ starts key_data w
  unfolding key_data no_lf is lower
  data-ended = starts-ended key_data w t refl

  pub global-ended : starts key_global (w ++ 10 ∷ t) ≡ starts key_global w
  unfolding key_global no_lf is lower
  global-ended = starts-ended key_global w t refl

  pub loop_ended : starts key_loop (w ++ 10 ∷ t) ≡ starts key_loop w
  unfolding key_loop no_lf is lower
  loop_ended = starts-ended key_loop w t refl

  pub save-ended : starts key_save (w ++ 10 ∷ t) ≡ starts key_save w
  unfolding key_save no_lf is lower
  save-ended = starts-ended key_save w t refl

  pub stop-ended : starts key_stop (w ++ 10 ∷ t) ≡ starts key_stop w
  unfolding key_stop no_lf is lower
  stop-ended = starts-ended key_stop w t refl
