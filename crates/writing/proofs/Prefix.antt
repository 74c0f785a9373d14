-- The machine only adds to the records that it keeps: with others before them it answers the same, with those others before (run-prefix). Assumes nothing.
use Prim.Native.Nat.{ℕ, zero, suc, ◌%◌}
use mathlib.Core.Path.{◌≡◌, refl}
use mathlib.Core.Bool.{Bool, true, false, cond, false≢true}
use mathlib.Core.List.{List, [], ◌∷◌, ◌++◌, append_assoc}
use mathlib.Core.Option.{Option, none, some}
use lib.Dec.{eqb}
use Rattle.rules.specs.declared.Reading.{Reading}
use Rattle.rules.specs.declared.Reading.TheVariants.{First, Strict}
use Rattle.words.specs.Names.{fits_tag, heading_fits}
use Rattle.values.specs.Values.{Class, block, loop, save, tag, value, over_limit, nothing, at_end, reserved_word, no_start, open_quote, open_field, joined}
use Rattle.grammar.specs.Tokens.{Tok}
use Rattle.grammar.specs.Machine.{Rec, Answer, refused, done, State, start, items, names, values, wants, config, Outcome, go, stop, loop_end, closes, fails, at_item, loop_ends, at_value, no_more_names, at_name, at_want, move, follow, run, reason, in_block_only, is_joined, shuts, heads, lacks_values, last_at}

unfoldable pub prefixed : List Rec → Answer → Answer
prefixed p (done rs) = done (p ++ rs)
prefixed p (refused n o d) = refused n o d

prefixed_out : List Rec → Outcome → Outcome
prefixed_out p (go c) = go (config c.state c.frame (p ++ c.out) c.held)
prefixed_out p (stop a) = stop (prefixed p a)

-- behind the block's heading
unfoldable pub started : State → Bool
started start = false
started (items d) = true
started (names a n) = true
started (values a n k) = true
started (wants a) = true

Begun : Outcome → Type 0
Begun (go c) = started c.state ≡ true
Begun (stop a) = Unit

-- x is y with p before the records that it keeps
record After (p : List Rec) (x y : Outcome) : Type 0 where
  same : x ≡ prefixed_out p y
  begun : Begun y

-- a step that keeps these records more
step : (p : List Rec) (s : State) (f : Option ℕ) (o q h : List Rec) → started s ≡ true → o ≡ p ++ q → After p (go (config s f o h)) (go (config s f q h))
unfolding prefixed_out Begun config
step p s f o q h b e = record { same = rw e; begun = b }

-- a refusal
halt : (p : List Rec) (n o d : ℕ) → After p (stop (refused n o d)) (stop (refused n o d))
unfolding prefixed_out prefixed Begun
halt p n o d = record { same = refl; begun = tt }

module _ (p : List Rec) where
  closes-after : (f : ℕ) (out : List Rec) (c : Class) (t : Tok) → After p (closes f (p ++ out) c t) (closes f out c t)
  unfolding closes started
  closes-after f out save t = step p (items 0) none _ _ [] refl (append_assoc p out _)
  closes-after f out block t = halt p 4 f 0
  closes-after f out loop t = halt p 4 f 0
  closes-after f out tag t = halt p 4 f 0
  closes-after f out (value k) t = halt p 4 f 0
  closes-after f out over_limit t = halt p 4 f 0
  closes-after f out (nothing w) t = halt p 4 f 0

  fails-after : (r : Reading) (n o d : ℕ) (f : Option ℕ) (out : List Rec) (t : Tok) → After p (fails r (refused n o d) f (p ++ out) t) (fails r (refused n o d) f out t)
  unfolding fails
  fails-after First n o d none out t = halt p n o d
  fails-after First n o d (some f) out t = closes-after f out t.class t
  fails-after Strict n o d f out t = by (is_joined t.class)
    where
      by : (b : Bool) → After p (stop (cond b (refused 15 t.at 0) (refused n o d))) (stop (cond b (refused 15 t.at 0) (refused n o d)))
      by true = halt p 15 t.at 0
      by false = halt p n o d

  -- a step that a test allows
  cond-after : (b : Bool) (x y : Outcome) (n o d : ℕ) → After p x y → After p (cond b x (stop (refused n o d))) (cond b y (stop (refused n o d)))
  cond-after true x y n o d h = h
  cond-after false x y n o d h = halt p n o d

  -- a frame's end, a further heading
  shuts_after : (r : Reading) (f : ℕ) (out : List Rec) (t : Tok) → After p (shuts r f (p ++ out) t) (shuts r f out t)
  unfolding started
  shuts_after First f out t = step p (items 0) none _ _ [] refl (append_assoc p out _)
  shuts_after Strict f out t = cond-after (eqb t.size 5) _ _ 4 f 0 (step p (items 0) none _ _ [] refl (append_assoc p out _))

  heads-after : (r : Reading) (d : ℕ) (f : Option ℕ) (out : List Rec) (t : Tok) → After p (heads r d f (p ++ out) t) (heads r d f out t)
  unfolding started
  heads-after First d f out t = fails-after First 7 t.at d f out t
  heads-after Strict d none out t = cond-after (heading_fits Strict t.size) _ _ 17 t.at 0 (step p (items 0) none _ _ [] refl (append_assoc p out _))
  heads-after Strict d (some f) out t = halt p 4 f 0

  item-after : (r : Reading) (d : ℕ) (f : Option ℕ) (out : List Rec) (c : Class) (t : Tok) → After p (at_item r d f (p ++ out) c t) (at_item r d f out c t)
  unfolding at_item started
  item-after r d f out loop t = step p _ f _ _ _ refl refl
  item-after r d f out tag t = cond-after (fits_tag r t.size) _ _ 17 t.at 0 (step p _ f _ _ _ refl refl)
  item-after r d none out save t = cond-after (heading_fits r t.size) _ _ 17 t.at 0 (step p (items 0) _ _ _ [] refl (append_assoc p out _))
  item-after r d (some f) out save t = shuts_after r f out t
  item-after r d none out (nothing at_end) t = unfold prefixed_out prefixed Begun in record { same = refl; begun = tt }
  item-after r d (some f) out (nothing at_end) t = halt p 4 f 0
  item-after r d f out (nothing reserved_word) t = fails-after r 7 t.at d f out t
  item-after r d f out (nothing no_start) t = fails-after r 7 t.at d f out t
  item-after r d f out (nothing open_quote) t = fails-after r 7 t.at d f out t
  item-after r d f out (nothing open_field) t = fails-after r 7 t.at d f out t
  item-after r d f out (nothing joined) t = fails-after r 7 t.at d f out t
  item-after r d f out block t = heads-after r d f out t
  item-after r d f out (value k) t = fails-after r 7 t.at d f out t
  item-after r d f out over_limit t = fails-after r 7 t.at d f out t

  ends-after : (r : Reading) (at n k : ℕ) (f : Option ℕ) (out held : List Rec) (t : Tok) → After p (loop_ends r at n k f (p ++ out) held t) (loop_ends r at n k f out held t)
  unfolding loop_ends
  ends-after r at n k f out held t = by' (lacks_values r k)
    where
      kept : (p ++ out) ++ held ++ (loop_end ∷ []) ≡ p ++ (out ++ held ++ (loop_end ∷ []))
      kept = simp append_assoc

      by : (b : Bool) → After p (cond b (at_item r (in_block_only f (reason t.class)) f ((p ++ out) ++ held ++ (loop_end ∷ [])) t.class t) (fails r (refused 5 at (k % n)) f (p ++ out) t)) (cond b (at_item r (in_block_only f (reason t.class)) f (out ++ held ++ (loop_end ∷ [])) t.class t) (fails r (refused 5 at (k % n)) f out t))
      by true = rw kept (item-after r _ f (out ++ held ++ (loop_end ∷ [])) t.class t)
      by false = fails-after r 5 at (k % n) f out t

      by' : (b : Bool) → After p (cond b (stop (refused 6 (last_at held) (reason t.class))) (cond (eqb (k % n) 0) (at_item r (in_block_only f (reason t.class)) f ((p ++ out) ++ held ++ (loop_end ∷ [])) t.class t) (fails r (refused 5 at (k % n)) f (p ++ out) t))) (cond b (stop (refused 6 (last_at held) (reason t.class))) (cond (eqb (k % n) 0) (at_item r (in_block_only f (reason t.class)) f (out ++ held ++ (loop_end ∷ [])) t.class t) (fails r (refused 5 at (k % n)) f out t)))
      by' true = halt p 6 (last_at held) (reason t.class)
      by' false = by (eqb (k % n) 0)

  value_after : (r : Reading) (at n k : ℕ) (f : Option ℕ) (out held : List Rec) (c : Class) (t : Tok) → After p (at_value r at n k f (p ++ out) held c t) (at_value r at n k f out held c t)
  unfolding at_value started
  value_after r at n k f out held (value kind) t = step p _ f _ _ _ refl refl
  value_after r at n k f out held over_limit t = halt p 9 t.at 0
  value_after r at n k f out held block t = ends-after r at n k f out held t
  value_after r at n k f out held loop t = ends-after r at n k f out held t
  value_after r at n k f out held save t = ends-after r at n k f out held t
  value_after r at n k f out held tag t = ends-after r at n k f out held t
  value_after r at n k f out held (nothing w) t = ends-after r at n k f out held t

  no-more-after : (r : Reading) (at n : ℕ) (f : Option ℕ) (out held : List Rec) (t : Tok) → After p (no_more_names r at n f (p ++ out) held t) (no_more_names r at n f out held t)
  unfolding no_more_names
  no-more-after r at zero f out held t = halt p 8 at 0
  no-more-after r at (suc n) f out held t = value_after r at (suc n) 0 f out held t.class t

  name-after : (r : Reading) (at n : ℕ) (f : Option ℕ) (out held : List Rec) (c : Class) (t : Tok) → After p (at_name r at n f (p ++ out) held c t) (at_name r at n f out held c t)
  unfolding at_name started
  name-after r at n f out held tag t = cond-after (fits_tag r t.size) _ _ 17 t.at 0 (step p _ f _ _ _ refl refl)
  name-after r at n f out held block t = no-more-after r at n f out held t
  name-after r at n f out held loop t = no-more-after r at n f out held t
  name-after r at n f out held save t = no-more-after r at n f out held t
  name-after r at n f out held (value k) t = no-more-after r at n f out held t
  name-after r at n f out held over_limit t = no-more-after r at n f out held t
  name-after r at n f out held (nothing w) t = no-more-after r at n f out held t

  want-after : (r : Reading) (at : ℕ) (f : Option ℕ) (out held : List Rec) (c : Class) (t : Tok) → After p (at_want r at f (p ++ out) held c t) (at_want r at f out held c t)
  unfolding at_want started
  want-after r at f out held (value kind) t = step p (items 0) f _ _ [] refl (simp append_assoc)
  want-after r at f out held over_limit t = halt p 9 t.at 0
  want-after r at f out held block t = fails-after r 6 at (reason block) f out t
  want-after r at f out held loop t = fails-after r 6 at (reason loop) f out t
  want-after r at f out held save t = fails-after r 6 at (reason save) f out t
  want-after r at f out held tag t = fails-after r 6 at (reason tag) f out t
  want-after r at f out held (nothing w) t = fails-after r 6 at (reason (nothing w)) f out t

  move-after : (r : Reading) (s : State) (f : Option ℕ) (out held : List Rec) (t : Tok) → started s ≡ true → After p (move r s f (p ++ out) held t) (move r s f out held t)
  unfolding move started
  move-after r start f out held t e = absurd (false≢true e)
  move-after r (items d) f out held t e = item-after r d f out t.class t
  move-after r (names a n) f out held t e = name-after r a n f out held t.class t
  move-after r (values a n k) f out held t e = value_after r a n k f out held t.class t
  move-after r (wants a) f out held t e = want-after r a f out held t.class t

  pub run-after : (r : Reading) (ts : List Tok) (s : State) (f : Option ℕ) (out held : List Rec) → started s ≡ true → run r ts (config s f (p ++ out) held) ≡ prefixed p (run r ts (config s f out held))
  unfolding run config
  run-after r [] s f out held e = unfold prefixed in refl
  run-after r (t ∷ ts) s f out held e = by (move r s f out held t) (move-after r s f out held t e) (λ s f o h b. run-after r ts s f o h b)
    where
      by : (y : Outcome) → After p (move r s f (p ++ out) held t) y → ((s : State) (f : Option ℕ) (o h : List Rec) → started s ≡ true → run r ts (config s f (p ++ o) h) ≡ prefixed p (run r ts (config s f o h)))
          → follow (move r s f (p ++ out) held t) (λ c. run r ts c) ≡ prefixed p (follow y (λ c. run r ts c))
      by (go c) h ih = unfold follow prefixed_out Begun in rw h.same (ih c.state c.frame c.out c.held h.begun)
      by (stop a) h ih = unfold follow prefixed_out in rw h.same
