-- Proved: whatever place lies inside a recorded quoted value or text field lies inside such a token (run-kept): the machine makes records of tokens only.
-- Assumes nothing.
use Prim.Native.Nat.{ℕ, zero, suc, ◌+◌, ◌%◌}
use mathlib.Core.Bool.{false≢true, Bool, true, false, cond, ◌&&◌, ◌||◌, or-true, or-false}
use mathlib.Core.Path.{◌≡◌, refl, ◌∙◌, subst}
use mathlib.Core.List.{List, [], ◌∷◌, ◌++◌}
use mathlib.Core.Option.{Option, none, some}
use native.Mathlib.Omega.{arith}
use lib.Dec.{leb, ltb, eqb}
use Rattle.rules.specs.declared.Reading.TheVariants.{First}
use Rattle.values.specs.Values.{Class, block, loop, save, tag, value, over_limit, nothing, at_end, reserved_word, no_start, open_quote, open_field, joined}
use Rattle.grammar.specs.Tokens.{Tok}
use Rattle.grammar.specs.Machine.{Rec, refused, done, State, start, items, names, values, wants, Config, config, Outcome, go, stop, rec, loop_end, closes, fails, at_item, loop_ends, at_value, no_more_names, at_name, at_want, at_start, move, follow, run, reason, in_block_only}
use Rattle.hidden.specs.Differences.{is_quoted, inside_rec, inside_recs}
use Rattle.hidden.proofs.Veil.{veiled}
use Rattle.hidden.proofs.VeilRead.{inside_tok, inside_any, Either, left, right, either, or_split}

module _ (i : ℕ) (t : Tok) where
  -- from `a`, what was there before, or from the token
  From : Bool → Bool → Type 0
  From a b = b ≡ true → Either (a ≡ true) (inside_tok t i ≡ true)

  in_config : Config → Bool
  in_config c = inside_recs c.out i || inside_recs c.held i

  Kept : Bool → Outcome → Type 0
  Kept a (go c) = From a (in_config c)
  Kept a (stop (done r)) = From a (inside_recs r i)
  Kept a (stop (refused n o d)) = Unit {0}

  append : (x y : List Rec) → inside_recs (x ++ y) i ≡ inside_recs x i || inside_recs y i
  unfolding inside_recs
  append [] y = refl
  append (r ∷ x) y = rw (append x y) (assoc (inside_rec r i) (inside_recs x i) (inside_recs y i))
    where
      assoc : (a b c : Bool) → a || (b || c) ≡ a || b || c
      assoc true b c = refl
      assoc false b c = refl

  plain : (x : List Rec) (k : ℕ) → is_quoted k ≡ false → inside_recs (x ++ (rec k t ∷ [])) i ≡ inside_recs x i
  unfolding inside_recs inside_rec rec
  plain x k e = append x (rec k t ∷ []) ∙ rw e (or-false (inside_recs x i))

  ended : (x : List Rec) → inside_recs (x ++ (loop_end ∷ [])) i ≡ inside_recs x i
  unfolding inside_recs inside_rec loop_end is_quoted
  ended x = append x (loop_end ∷ []) ∙ or-false (inside_recs x i)

  -- the record of a value is inside just where its token is
  same_place : (k : ℕ) → t.class ≡ value k → inside_rec (rec k t) i ≡ inside_tok t i
  unfolding inside_rec inside_tok rec is_quoted veiled
  same_place k e = rw e

  valued : (x : List Rec) (k : ℕ) → t.class ≡ value k → inside_recs (x ++ (rec k t ∷ [])) i ≡ inside_recs x i || inside_tok t i
  unfolding inside_recs
  valued x k e = append x (rec k t ∷ []) ∙ rw (same_place k e, or-false (inside_tok t i))

  closes_kept : (f : ℕ) (out : List Rec) (c : Class) → Kept (inside_recs out i) (closes f out c t)
  unfolding Kept closes From in_config config is_quoted inside_recs
  closes_kept f out save = rw (plain out 3 refl, or-false (inside_recs out i)) (λ e. left e)
  closes_kept f out block = tt
  closes_kept f out loop = tt
  closes_kept f out tag = tt
  closes_kept f out (value k) = tt
  closes_kept f out over_limit = tt
  closes_kept f out (nothing w) = tt

  fails-kept : (n o d : ℕ) (f : Option ℕ) (out : List Rec) → Kept (inside_recs out i) (fails First (refused n o d) f out t)
  unfolding Kept fails
  fails-kept n o d none out = tt
  fails-kept n o d (some f) out = closes_kept f out t.class

  first : (k : ℕ) → is_quoted k ≡ false → (a : Bool) → a || inside_recs (rec k t ∷ []) i ≡ a
  unfolding inside_recs inside_rec rec
  first k e a = rw e (or-false a)

  item-kept : (d : ℕ) (f : Option ℕ) (out : List Rec) (c : Class) → Kept (inside_recs out i) (at_item First d f out c t)
  unfolding Kept at_item From in_config config is_quoted inside_recs
  item-kept d f out loop = rw (first 5 refl (inside_recs out i)) (λ e. left e)
  item-kept d f out tag = rw (first 4 refl (inside_recs out i)) (λ e. left e)
  item-kept d none out save = rw (plain out 2 refl, or-false (inside_recs out i)) (λ e. left e)
  item-kept d (some f) out save = rw (plain out 3 refl, or-false (inside_recs out i)) (λ e. left e)
  item-kept d none out (nothing at_end) = λ e. left e
  item-kept d (some f) out (nothing at_end) = tt
  item-kept d f out (nothing reserved_word) = fails-kept 7 t.at d f out
  item-kept d f out (nothing no_start) = fails-kept 7 t.at d f out
  item-kept d f out (nothing open_quote) = fails-kept 7 t.at d f out
  item-kept d f out (nothing open_field) = fails-kept 7 t.at d f out
  item-kept d f out (nothing joined) = fails-kept 7 t.at d f out
  item-kept d f out block = fails-kept 7 t.at d f out
  item-kept d f out (value k) = fails-kept 7 t.at d f out
  item-kept d f out over_limit = fails-kept 7 t.at d f out

  wider : (a b : Bool) → (a ≡ true → b ≡ true) → (o : Outcome) → Kept a o → Kept b o
  unfolding Kept From
  wider a b f (go c) k = λ e. either (λ h. left (f h)) (λ h. right h) (k e)
  wider a b f (stop (done r)) k = λ e. either (λ h. left (f h)) (λ h. right h) (k e)
  wider a b f (stop (refused n o d)) k = tt

  both : List Rec → List Rec → Bool
  both out held = inside_recs out i || inside_recs held i

  out-in : (out held : List Rec) → inside_recs out i ≡ true → both out held ≡ true
  unfolding both
  out-in out held e = rw e

  ends-kept : (at n k : ℕ) (f : Option ℕ) (out held : List Rec) → Kept (both out held) (loop_ends First at n k f out held t)
  unfolding loop_ends both inside_recs
  ends-kept at n k f out held = pick (eqb (k % n) 0)
    where
      e : inside_recs (out ++ held ++ (loop_end ∷ [])) i ≡ both out held
      e = ended (out ++ held) ∙ append out held

      pick : (b : Bool) → Kept (both out held) (cond b (at_item First (in_block_only f (reason t.class)) f (out ++ held ++ (loop_end ∷ [])) t.class t) (fails First (refused 5 at (k % n)) f out t))
      pick true = subst (λ a. Kept a (at_item First (in_block_only f (reason t.class)) f (out ++ held ++ (loop_end ∷ [])) t.class t)) e (item-kept _ f (out ++ held ++ (loop_end ∷ [])) t.class)
      pick false = wider (inside_recs out i) (both out held) (out-in out held) _ (fails-kept 5 at (k % n) f out)

  assoc-or : (a b c : Bool) → a || (b || c) ≡ true → Either (a || b ≡ true) (c ≡ true)
  assoc-or true b c e = left refl
  assoc-or false b c e = or_split b c e

  value-kept : (at n k : ℕ) (f : Option ℕ) (out held : List Rec) (c : Class) → t.class ≡ c → Kept (both out held) (at_value First at n k f out held c t)
  unfolding Kept at_value From in_config config both
  value-kept at n k f out held (value kind) q = rw (valued held kind q) (assoc-or (inside_recs out i) (inside_recs held i) (inside_tok t i))
  value-kept at n k f out held over_limit q = tt
  value-kept at n k f out held block q = ends-kept at n k f out held
  value-kept at n k f out held loop q = ends-kept at n k f out held
  value-kept at n k f out held save q = ends-kept at n k f out held
  value-kept at n k f out held tag q = ends-kept at n k f out held
  value-kept at n k f out held (nothing w) q = ends-kept at n k f out held

  more-kept : (at n : ℕ) (f : Option ℕ) (out held : List Rec) → Kept (both out held) (no_more_names First at n f out held t)
  unfolding no_more_names Kept
  more-kept at zero f out held = tt
  more-kept at (suc n) f out held = value-kept at (suc n) 0 f out held t.class refl

  name-kept : (at n : ℕ) (f : Option ℕ) (out held : List Rec) (c : Class) → Kept (both out held) (at_name First at n f out held c t)
  unfolding Kept at_name From in_config config is_quoted both
  name-kept at n f out held tag = rw (plain held 6 refl) (λ e. left e)
  name-kept at n f out held block = more-kept at n f out held
  name-kept at n f out held loop = more-kept at n f out held
  name-kept at n f out held save = more-kept at n f out held
  name-kept at n f out held (value k) = more-kept at n f out held
  name-kept at n f out held over_limit = more-kept at n f out held
  name-kept at n f out held (nothing w) = more-kept at n f out held

  failed : (n o d : ℕ) (f : Option ℕ) (out held : List Rec) → Kept (both out held) (fails First (refused n o d) f out t)
  failed n o d f out held = wider (inside_recs out i) (both out held) (out-in out held) _ (fails-kept n o d f out)

  want_kept : (at : ℕ) (f : Option ℕ) (out held : List Rec) (c : Class) → t.class ≡ c → Kept (both out held) (at_want First at f out held c t)
  unfolding Kept at_want From in_config config both inside_recs
  want_kept at f out held (value kind) q = rw (or-false (inside_recs (out ++ held ++ (rec kind t ∷ [])) i), valued (out ++ held) kind q, append out held) (or_split _ _)
  want_kept at f out held over_limit q = tt
  want_kept at f out held block q = failed 6 at (reason block) f out held
  want_kept at f out held loop q = failed 6 at (reason loop) f out held
  want_kept at f out held save q = failed 6 at (reason save) f out held
  want_kept at f out held tag q = failed 6 at (reason tag) f out held
  want_kept at f out held (nothing w) q = failed 6 at (reason (nothing w)) f out held

  start-kept : (a : Bool) (c : Class) → Kept a (at_start First c t)
  unfolding Kept at_start From in_config config is_quoted inside_recs inside_rec rec
  start-kept a block = λ e. absurd (false≢true e)
  start-kept a loop = tt
  start-kept a save = tt
  start-kept a tag = tt
  start-kept a (value k) = tt
  start-kept a over_limit = tt
  start-kept a (nothing w) = tt

  move-kept : (s : State) (f : Option ℕ) (out held : List Rec) → Kept (both out held) (move First s f out held t)
  unfolding move
  move-kept start f out held = start-kept (both out held) t.class
  move-kept (items d) f out held = wider (inside_recs out i) (both out held) (out-in out held) _ (item-kept d f out t.class)
  move-kept (names at n) f out held = name-kept at n f out held t.class
  move-kept (values at n k) f out held = value-kept at n k f out held t.class refl
  move-kept (wants at) f out held = want_kept at f out held t.class refl

-- what is inside a record of a reading was there before or is inside a token
pub run-kept : (i : ℕ) (ts : List Tok) (c : Config) (r : List Rec) → run First ts c ≡ done r → inside_recs r i ≡ true → Either (inside_recs c.out i || inside_recs c.held i ≡ true) (inside_any ts i ≡ true)
unfolding run inside_any follow Kept From in_config both
run-kept i [] c r e h = (let z : ◌≡◌ {A = ℕ} 0 1 = cc in absurd (omega arith))
run-kept i (t ∷ ts) c r e h = pick (move First c.state c.frame c.out c.held t) (move-kept i t c.state c.frame c.out c.held) (λ c'. run-kept i ts c' r) e
  where
    pick : (o : Outcome) → Kept i t (both i t c.out c.held) o → ((c' : Config) → run First ts c' ≡ done r → inside_recs r i ≡ true → Either (inside_recs c'.out i || inside_recs c'.held i ≡ true) (inside_any ts i ≡ true))
        → follow o (λ c'. run First ts c') ≡ done r → Either (inside_recs c.out i || inside_recs c.held i ≡ true) (inside_tok t i || inside_any ts i ≡ true)
    pick (go c') k f q = either (λ g. either (λ x. left x) (λ x. right (rw x)) (k g)) (λ g. right (rw g (or-true (inside_tok t i)))) (f c' q h)
    pick (stop (done r')) k f q = let z : r ≡ r' = cc in either (λ x. left x) (λ x. right (rw x)) (k (rw z at h))
    pick (stop (refused n o d)) k f q = (let z : ◌≡◌ {A = ℕ} 0 1 = cc in absurd (omega arith))
