-- What one move of the machine does in the strict reading, beside the same move in the first. Proved (moved): a move that
-- goes on keeps one record more, of the token, and changes the mode as the lexer does; and unless it begins a further block,
-- the first reading moves in the same way. Assumes nothing.
use Prim.Native.Nat.{ℕ, zero, suc, ◌%◌}
use mathlib.Core.Path.{◌≡◌, refl, sym, ap, ◌∙◌, subst}
use mathlib.Core.Bool.{Bool, true, false, cond}
use mathlib.Core.List.{List, [], ◌∷◌, ◌++◌, append_assoc, append-nil}
use mathlib.Core.Option.{Option, none, some}
use lib.Dec.{eqb}
use borrow.Author.Tests.{eqb-true}
use Rattle.rules.specs.declared.Reading.{Reading}
use Rattle.rules.specs.declared.Reading.TheVariants.{First, Strict}
use Rattle.words.specs.Names.{fits_tag, heading_fits}
use Rattle.values.specs.Values.{Class, block, loop, save, tag, value, over_limit, nothing, at_end, reserved_word, no_start, open_quote, open_field, joined}
use Rattle.grammar.specs.Tokens.{Mode, before, in_block, in_frame, Tok, after}
use Rattle.grammar.specs.Machine.{is_joined, Rec, refused, done, State, start, items, names, values, wants, Config, config, Outcome, go, stop, rec, loop_end, reason, in_block_only, fails, at_item, last_at, loop_ends, at_value, no_more_names, at_name, at_want, at_start, move}

-- the lexer's mode in a state
unfoldable pub frame_mode : Option ℕ → Mode
frame_mode none = in_block
frame_mode (some a) = in_frame

unfoldable pub mode_of : State → Option ℕ → Mode
mode_of start f = before
mode_of (items d) f = frame_mode f
mode_of (names at n) f = frame_mode f
mode_of (values at n k) f = frame_mode f
mode_of (wants at) f = frame_mode f

-- the records of a state that the strict reading never drops
unfoldable pub kept_of : State → List Rec → List Rec → List Rec
kept_of start out held = []
kept_of (items d) out held = out
kept_of (names at n) out held = out ++ held
kept_of (values at n k) out held = out ++ held
kept_of (wants at) out held = out ++ held

unfoldable pub kept : Config → List Rec
kept c = kept_of c.state c.out c.held

-- in the block or in a frame
abbrev pub Inside : Mode → Type 0
Inside before = ⊥
Inside in_block = Unit {0}
Inside in_frame = Unit {0}

inside : (f : Option ℕ) → Inside (frame_mode f)
unfolding frame_mode
inside none = tt
inside (some a) = tt

-- a token that both readings take in a mode: a closing `save_` has no name
unfoldable pub Fits : Class → ℕ → Mode → Type 0
Fits block n before = Unit {0}
Fits block n in_block = ⊥
Fits block n in_frame = ⊥
Fits loop n m = Inside m
Fits save n before = ⊥
Fits save n in_block = Unit {0}
Fits save n in_frame = n ≡ 5
Fits tag n m = Inside m
Fits (value k) n m = Inside m
Fits over_limit n m = ⊥
Fits (nothing w) n m = ⊥

-- the first reading moves alike, or a further block begins
pub data How (c : Class) (t : Tok) (m : Mode) (y : Outcome) (x : Config) : Type 0 where
  alike : Fits c t.size m → y ≡ go x → How c t m y x
  another : c ≡ block → m ≡ in_block → How c t m y x

-- the record of a value or a heading
unfoldable pub Made : Class → Tok → Rec → Type 0
Made block t r = r ≡ rec 1 t
Made (value k) t r = r ≡ rec k t
Made loop t r = Unit {0}
Made save t r = Unit {0}
Made tag t r = Unit {0}
Made over_limit t r = Unit {0}
Made (nothing w) t r = Unit {0}

pub record Went (h : List Rec) (m : Mode) (c : Class) (t : Tok) (y : Outcome) (x : Config) : Type 0 where
  pub extra : List Rec
  pub last : Rec
  pub grows : kept x ≡ (h ++ extra) ++ (last ∷ [])
  pub made : Made c t last
  pub mode : mode_of x.state x.frame ≡ after c m
  pub how : How c t m y x

pub record Ended (h : List Rec) (c : Class) (y : Outcome) (rs : List Rec) : Type 0 where
  pub extra : List Rec
  pub grows : rs ≡ h ++ extra
  pub is : c ≡ nothing at_end
  pub same : y ≡ stop (done rs)

-- what the strict outcome, last, and the first reading's have to do with each other
pub data Moved (h : List Rec) (m : Mode) (c : Class) (t : Tok) (y : Outcome) : Outcome → Type 0 where
  went : {x : Config} → Went h m c t y x → Moved h m c t y (go x)
  refuses : {n o d : ℕ} → Moved h m c t y (stop (refused n o d))
  ends : {rs : List Rec} → Ended h c y rs → Moved h m c t y (stop (done rs))

module _ {h : List Rec} {m : Mode} {c : Class} {t : Tok} {y : Outcome} where
  -- the machine goes on with one record more
  next : (r : Rec) (x : Config) → kept x ≡ h ++ (r ∷ []) → Made c t r → mode_of x.state x.frame ≡ after c m → How c t m y x
      → Moved h m c t y (go x)
  next r x g d e w = went (record { extra = []; last = r; grows = g ∙ rw append-nil; made = d; mode = e; how = w })

  -- unless a test fails, or holds
  guard : (b : Bool) (x : Outcome) (n o d : ℕ) → Moved h m c t y x → Moved h m c t y (cond b x (stop (refused n o d)))
  guard true x n o d v = v
  guard false x n o d v = refuses

  guard-not : (b : Bool) (x : Outcome) (n o d : ℕ) → Moved h m c t y x → Moved h m c t y (cond b (stop (refused n o d)) x)
  guard-not true x n o d v = refuses
  guard-not false x n o d v = v

  -- an item fails
  failing : (a : Tok) (n o d : ℕ) → Moved h m c t y (stop (cond (is_joined a.class) (refused 15 a.at 0) (refused n o d)))
  failing a n o d = by (is_joined a.class)
    where
      by : (j : Bool) → Moved h m c t y (stop (cond j (refused 15 a.at 0) (refused n o d)))
      by true = refuses
      by false = refuses

-- what was kept of a longer list was kept of its start
shorter : {m : Mode} {c : Class} {t : Tok} {y x : Outcome} (h g : List Rec) → Moved (h ++ g) m c t y x → Moved h m c t y x
shorter h g (went v) =
    let grows = v.grows ∙ ap (λ l. l ++ (v.last ∷ [])) (append_assoc h g v.extra) in
    went (record { extra = g ++ v.extra; last = v.last; grows = grows; made = v.made; mode = v.mode; how = v.how })
shorter h g refuses = refuses
shorter h g (ends v) = ends (record { extra = g ++ v.extra; grows = v.grows ∙ append_assoc h g v.extra; is = v.is; same = v.same })

-- where an item may start

item-moved : (d : ℕ) (f : Option ℕ) (out : List Rec) (c : Class) (t : Tok)
    → Moved out (frame_mode f) c t (at_item First d f out c t) (at_item Strict d f out c t)
unfolding at_item fails kept kept_of config mode_of after Made Fits frame_mode rec
item-moved d f out loop t = next (rec 5 t) _ refl tt refl (alike (inside f) refl)
item-moved d f out tag t = guard (fits_tag Strict t.size) _ 17 t.at 0 (next (rec 4 t) _ refl tt refl (alike (inside f) refl))
item-moved d none out save t = guard (heading_fits Strict t.size) _ 17 t.at 0 (next (rec 2 t) _ refl tt refl (alike tt refl))
item-moved d (some f) out save t = by (eqb t.size 5) refl
  where
    x : Config
    x = config (items 0) none (out ++ (rec 3 t ∷ [])) []

    by : (b : Bool) → eqb t.size 5 ≡ b → Moved out in_frame save t (go x) (cond b (go x) (stop (refused 4 f 0)))
    by true e = next (rec 3 t) x refl tt refl (alike (eqb-true t.size 5 e) refl)
    by false e = refuses
item-moved d none out block t = guard (heading_fits Strict t.size) _ 17 t.at 0 (next (rec 1 t) _ refl refl refl (another refl refl))
item-moved d (some f) out block t = refuses
item-moved d none out (nothing at_end) t = ends (record { extra = []; grows = sym (append-nil out); is = refl; same = refl })
item-moved d (some f) out (nothing at_end) t = refuses
item-moved d f out (nothing reserved_word) t = failing t 7 t.at d
item-moved d f out (nothing no_start) t = failing t 7 t.at d
item-moved d f out (nothing open_quote) t = failing t 7 t.at d
item-moved d f out (nothing open_field) t = failing t 7 t.at d
item-moved d f out (nothing joined) t = failing t 7 t.at d
item-moved d f out (value k) t = failing t 7 t.at d
item-moved d f out over_limit t = failing t 7 t.at d

-- the token's class, by another name
as-class : {h : List Rec} {m : Mode} {t : Tok} {y x : Outcome} {c d : Class} → c ≡ d → Moved h m c t y x → Moved h m d t y x
as-class {h} {m} {t} {y} {x} e v = subst (λ k. Moved h m k t y x) e v

-- behind a loop's names and values

ends-moved : (at n k : ℕ) (f : Option ℕ) (out held : List Rec) (t : Tok)
    → Moved (out ++ held) (frame_mode f) t.class t (loop_ends First at n k f out held t) (loop_ends Strict at n k f out held t)
unfolding loop_ends fails
ends-moved at n k f out held t = guard-not (eqb k 0) _ 6 (last_at held) (reason t.class) (by (eqb (k % n) 0))
  where
    whole : Reading → Outcome
    whole r = at_item r (in_block_only f (reason t.class)) f (out ++ held ++ (loop_end ∷ [])) t.class t

    ragged : Reading → Outcome
    ragged r = fails r (refused 5 at (k % n)) f out t

    by : (b : Bool) → Moved (out ++ held) (frame_mode f) t.class t (cond b (whole First) (ragged First)) (cond b (whole Strict) (ragged Strict))
    by true = shorter (out ++ held) (loop_end ∷ []) (item-moved _ f (out ++ held ++ (loop_end ∷ [])) t.class t)
    by false = failing t 5 at (k % n)

value-moved : (at n k : ℕ) (f : Option ℕ) (out held : List Rec) (c : Class) (t : Tok) → t.class ≡ c
    → Moved (out ++ held) (frame_mode f) c t (at_value First at n k f out held c t) (at_value Strict at n k f out held c t)
unfolding at_value kept kept_of config mode_of after Made Fits frame_mode
value-moved at n k f out held (value kind) t e = next (rec kind t) _ (sym (append_assoc out held _)) refl refl (alike (inside f) refl)
value-moved at n k f out held over_limit t e = refuses
value-moved at n k f out held block t e = as-class e (ends-moved at n k f out held t)
value-moved at n k f out held loop t e = as-class e (ends-moved at n k f out held t)
value-moved at n k f out held save t e = as-class e (ends-moved at n k f out held t)
value-moved at n k f out held tag t e = as-class e (ends-moved at n k f out held t)
value-moved at n k f out held (nothing w) t e = as-class e (ends-moved at n k f out held t)

more-moved : (at n : ℕ) (f : Option ℕ) (out held : List Rec) (t : Tok)
    → Moved (out ++ held) (frame_mode f) t.class t (no_more_names First at n f out held t) (no_more_names Strict at n f out held t)
unfolding no_more_names
more-moved at zero f out held t = refuses
more-moved at (suc n) f out held t = value-moved at (suc n) 0 f out held t.class t refl

name-moved : (at n : ℕ) (f : Option ℕ) (out held : List Rec) (c : Class) (t : Tok) → t.class ≡ c
    → Moved (out ++ held) (frame_mode f) c t (at_name First at n f out held c t) (at_name Strict at n f out held c t)
unfolding at_name kept kept_of config mode_of after Made Fits frame_mode
name-moved at n f out held tag t e =
    guard (fits_tag Strict t.size) _ 17 t.at 0 (next (rec 6 t) _ (sym (append_assoc out held _)) tt refl (alike (inside f) refl))
name-moved at n f out held block t e = as-class e (more-moved at n f out held t)
name-moved at n f out held loop t e = as-class e (more-moved at n f out held t)
name-moved at n f out held save t e = as-class e (more-moved at n f out held t)
name-moved at n f out held (value k) t e = as-class e (more-moved at n f out held t)
name-moved at n f out held over_limit t e = as-class e (more-moved at n f out held t)
name-moved at n f out held (nothing w) t e = as-class e (more-moved at n f out held t)

-- behind a tag, and at the start

want-moved : (at : ℕ) (f : Option ℕ) (out held : List Rec) (c : Class) (t : Tok)
    → Moved (out ++ held) (frame_mode f) c t (at_want First at f out held c t) (at_want Strict at f out held c t)
unfolding at_want fails kept kept_of config mode_of after Made Fits frame_mode
want-moved at f out held (value kind) t = next (rec kind t) _ refl refl refl (alike (inside f) refl)
want-moved at f out held over_limit t = refuses
want-moved at f out held block t = failing t 6 at (reason block)
want-moved at f out held loop t = failing t 6 at (reason loop)
want-moved at f out held save t = failing t 6 at (reason save)
want-moved at f out held tag t = failing t 6 at (reason tag)
want-moved at f out held (nothing w) t = failing t 6 at (reason (nothing w))

start-moved : (c : Class) (t : Tok) → Moved [] before c t (at_start First c t) (at_start Strict c t)
unfolding at_start kept kept_of config mode_of after Made Fits frame_mode
start-moved block t = guard (heading_fits Strict t.size) _ 17 t.at 0 (next (rec 1 t) _ refl refl refl (alike tt refl))
start-moved loop t = refuses
start-moved save t = refuses
start-moved tag t = refuses
start-moved (value k) t = refuses
start-moved over_limit t = refuses
start-moved (nothing w) t = refuses

-- in every state
pub moved : (st : State) (f : Option ℕ) (out held : List Rec) (t : Tok)
    → Moved (kept_of st out held) (mode_of st f) t.class t (move First st f out held t) (move Strict st f out held t)
unfolding move kept_of mode_of
moved start f out held t = start-moved t.class t
moved (items d) f out held t = item-moved d f out t.class t
moved (names at n) f out held t = name-moved at n f out held t.class t refl
moved (values at n k) f out held t = value-moved at n k f out held t.class t refl
moved (wants at) f out held t = want-moved at f out held t.class t
