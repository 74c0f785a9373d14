-- Proved: no refusal of a text has the number 0 (outline-refuses), so Read answers 0 just where the text has records and they have room (read_done). Assumes nothing.
use Prim.Native.Nat.{ℕ, zero, suc, ◌%◌, ◌≤◌}
use mathlib.Core.Bool.{Bool, true, false, cond}
use mathlib.Core.Path.{◌≡◌, refl}
use mathlib.Core.List.{List, [], ◌∷◌, ◌++◌}
use mathlib.Core.Option.{Option, none, some}
use native.Mathlib.Omega.{arith}
use borrow.Author.Tests.{ltb-false}
use lib.Dec.{ltb, eqb}
use lib.ListN.{length}
use Rattle.rules.specs.declared.Reading.{Reading}
use Rattle.rules.specs.declared.Reading.TheVariants.{First, Strict}
use Rattle.std.specs.Prelude.{Result, Ok as Fine, Err as Flawed}
use Rattle.lines.specs.declared.Flaw.{Flaw}
use Rattle.lines.specs.declared.Flaw.TheVariants.{LongLine, Control}
use Rattle.lines.specs.Lines.{screened}
use Rattle.words.specs.Names.{fits_tag, heading_fits}
use Rattle.text.specs.Bytes.{is_ascii}
use Rattle.text.specs.Runs.{span}
use Rattle.places.specs.Places.{place_at}
use Rattle.places.specs.Reports.{success, refused_at, refused_bare, no_room}
use Rattle.values.specs.Values.{Class, block, loop, save, tag, value, over_limit, nothing, at_end, reserved_word, no_start, open_quote, open_field, joined}
use Rattle.grammar.specs.Tokens.{Tok, tokens}
use Rattle.grammar.specs.Machine.{Rec, Answer, refused, done, State, start, items, names, values, wants, Config, config, Outcome, go, stop, rec, loop_end, closes, is_joined, fails, shuts, heads, at_item, last_at, lacks_values, loop_ends, at_value, no_more_names, at_name, at_want, at_start, move, follow, run, reason, in_block_only}
use Rattle.grammar.specs.Reading.{decided, screens, checked, outline}
use Rattle.text.specs.Limits.{limit}
use Rattle.sizes.specs.Sizes.{store_size, area_size}
use Rattle.reading.specs.Services.{read_room, read_by, read_answer}
use Rattle.refusals.specs.Answers.{refusal}

Numbered : Answer → Type 0
Numbered (refused n o d) = 1 ≤ n
Numbered (done rs) = Unit {0}

Ok : Outcome → Type 0
Ok (go c) = Unit {0}
Ok (stop a) = Numbered a

module _ (g : Reading) (t : Tok) where
  closes-ok : (f : ℕ) (out : List Rec) (c : Class) → Ok (closes f out c t)
  unfolding Ok Numbered closes
  closes-ok f out save = tt
  closes-ok f out block = omega arith
  closes-ok f out loop = omega arith
  closes-ok f out tag = omega arith
  closes-ok f out (value k) = omega arith
  closes-ok f out over_limit = omega arith
  closes-ok f out (nothing w) = omega arith

  named_ok : (b : Bool) (x : Outcome) → Ok x → Ok (cond b x (stop (refused 17 t.at 0)))
  unfolding Ok Numbered
  named_ok true x h = h
  named_ok false x h = omega arith

  either-ok : (n o d : ℕ) (b : Bool) → 1 ≤ n → Ok (stop (cond b (refused 15 t.at 0) (refused n o d)))
  unfolding Ok Numbered
  either-ok n o d true h = omega arith
  either-ok n o d false h = h

  fails_by : (r : Reading) (n o d : ℕ) (f : Option ℕ) (out : List Rec) → 1 ≤ n → Ok (fails r (refused n o d) f out t)
  unfolding Ok Numbered fails
  fails_by First n o d none out h = h
  fails_by First n o d (some f) out h = closes-ok f out t.class
  fails_by Strict n o d f out h = either-ok n o d (is_joined t.class) h

  fails-ok : (n o d : ℕ) (f : Option ℕ) (out : List Rec) → 1 ≤ n → Ok (fails g (refused n o d) f out t)
  fails-ok n o d f out h = fails_by g n o d f out h

  shuts-ok : (r : Reading) (f : ℕ) (out : List Rec) → Ok (shuts r f out t)
  unfolding Ok Numbered
  shuts-ok First f out = tt
  shuts-ok Strict f out = by (eqb t.size 5)
    where
      by : (b : Bool) → Ok (cond b (go (config (items 0) none (out ++ (rec 3 t ∷ [])) [])) (stop (refused 4 f 0)))
      by true = tt
      by false = omega arith

  heads-ok : (r : Reading) (d : ℕ) (f : Option ℕ) (out : List Rec) → Ok (heads r d f out t)
  unfolding Ok Numbered
  heads-ok First d f out = fails_by First 7 t.at d f out (omega arith)
  heads-ok Strict d none out = named_ok (heading_fits Strict t.size) _ tt
  heads-ok Strict d (some f) out = omega arith

  item_ok : (d : ℕ) (f : Option ℕ) (out : List Rec) (c : Class) → Ok (at_item g d f out c t)
  unfolding Ok Numbered at_item
  item_ok d f out loop = tt
  item_ok d f out tag = named_ok (fits_tag g t.size) _ tt
  item_ok d none out save = named_ok (heading_fits g t.size) _ tt
  item_ok d (some f) out save = shuts-ok g f out
  item_ok d none out (nothing at_end) = tt
  item_ok d (some f) out (nothing at_end) = omega arith
  item_ok d f out (nothing reserved_word) = fails-ok 7 t.at d f out (omega arith)
  item_ok d f out (nothing no_start) = fails-ok 7 t.at d f out (omega arith)
  item_ok d f out (nothing open_quote) = fails-ok 7 t.at d f out (omega arith)
  item_ok d f out (nothing open_field) = fails-ok 7 t.at d f out (omega arith)
  item_ok d f out (nothing joined) = fails-ok 7 t.at d f out (omega arith)
  item_ok d f out block = heads-ok g d f out
  item_ok d f out (value k) = fails-ok 7 t.at d f out (omega arith)
  item_ok d f out over_limit = fails-ok 7 t.at d f out (omega arith)

  ends-ok : (a n k : ℕ) (f : Option ℕ) (out held : List Rec) → Ok (loop_ends g a n k f out held t)
  unfolding Ok Numbered loop_ends
  ends-ok a n k f out held = some (lacks_values g k) _ (by (eqb (k % n) 0))
    where
      some : (b : Bool) (x : Outcome) → Ok x → Ok (cond b (stop (refused 6 (last_at held) (reason t.class))) x)
      some true x h = omega arith
      some false x h = h

      by : (b : Bool) → Ok (cond b (at_item g (in_block_only f (reason t.class)) f (out ++ held ++ (loop_end ∷ [])) t.class t) (fails g (refused 5 a (k % n)) f out t))
      by true = item_ok _ f (out ++ held ++ (loop_end ∷ [])) t.class
      by false = fails-ok 5 a (k % n) f out (omega arith)

  value-ok : (a n k : ℕ) (f : Option ℕ) (out held : List Rec) (c : Class) → Ok (at_value g a n k f out held c t)
  unfolding Ok Numbered at_value
  value-ok a n k f out held (value kind) = tt
  value-ok a n k f out held over_limit = omega arith
  value-ok a n k f out held block = ends-ok a n k f out held
  value-ok a n k f out held loop = ends-ok a n k f out held
  value-ok a n k f out held save = ends-ok a n k f out held
  value-ok a n k f out held tag = ends-ok a n k f out held
  value-ok a n k f out held (nothing w) = ends-ok a n k f out held

  more-ok : (a n : ℕ) (f : Option ℕ) (out held : List Rec) → Ok (no_more_names g a n f out held t)
  unfolding Ok Numbered no_more_names
  more-ok a zero f out held = omega arith
  more-ok a (suc n) f out held = value-ok a (suc n) 0 f out held t.class

  name-ok : (a n : ℕ) (f : Option ℕ) (out held : List Rec) (c : Class) → Ok (at_name g a n f out held c t)
  unfolding Ok at_name
  name-ok a n f out held tag = named_ok (fits_tag g t.size) _ tt
  name-ok a n f out held block = more-ok a n f out held
  name-ok a n f out held loop = more-ok a n f out held
  name-ok a n f out held save = more-ok a n f out held
  name-ok a n f out held (value k) = more-ok a n f out held
  name-ok a n f out held over_limit = more-ok a n f out held
  name-ok a n f out held (nothing w) = more-ok a n f out held

  want-ok : (a : ℕ) (f : Option ℕ) (out held : List Rec) (c : Class) → Ok (at_want g a f out held c t)
  unfolding Ok Numbered at_want
  want-ok a f out held (value kind) = tt
  want-ok a f out held over_limit = omega arith
  want-ok a f out held block = fails-ok 6 a (reason block) f out (omega arith)
  want-ok a f out held loop = fails-ok 6 a (reason loop) f out (omega arith)
  want-ok a f out held save = fails-ok 6 a (reason save) f out (omega arith)
  want-ok a f out held tag = fails-ok 6 a (reason tag) f out (omega arith)
  want-ok a f out held (nothing w) = fails-ok 6 a (reason (nothing w)) f out (omega arith)

  start-ok : (c : Class) → Ok (at_start g c t)
  unfolding Ok Numbered at_start
  start-ok block = named_ok (heading_fits g t.size) _ tt
  start-ok loop = omega arith
  start-ok save = omega arith
  start-ok tag = omega arith
  start-ok (value k) = omega arith
  start-ok over_limit = omega arith
  start-ok (nothing w) = omega arith

  move-ok : (s : State) (f : Option ℕ) (out held : List Rec) → Ok (move g s f out held t)
  unfolding move
  move-ok start f out held = start-ok t.class
  move-ok (items d) f out held = item_ok d f out t.class
  move-ok (names a n) f out held = name-ok a n f out held t.class
  move-ok (values a n k) f out held = value-ok a n k f out held t.class
  move-ok (wants a) f out held = want-ok a f out held t.class

run_ok : (g : Reading) (ts : List Tok) (c : Config) → Numbered (run g ts c)
unfolding run Numbered
run_ok g [] c = omega arith
run_ok g (t ∷ ts) c = by (move g c.state c.frame c.out c.held t) (move-ok g t c.state c.frame c.out c.held) (run_ok g ts)
  where
    by : (x : Outcome) → Ok x → ((c : Config) → Numbered (run g ts c)) → Numbered (follow x (λ c. run g ts c))
    by (go c) h f = unfold follow in f c
    by (stop a) h f = unfold follow Ok in h

-- A REFUSAL HAS A NUMBER
checked-ok : (g : Reading) (s : List ℕ) (a : Answer) → Numbered a → Numbered (checked g s a)
unfolding screens Numbered
checked-ok First s a h = h
checked-ok Strict s a h = by (screened s)
  where
    by : (x : Result (Unit {0}) Flaw) → Numbered (screens x a)
    by (Fine u) = h
    by (Flawed (LongLine o)) = omega arith
    by (Flawed (Control o)) = omega arith

outline-refuses : (g : Reading) (s : List ℕ) → Numbered (outline g s)
unfolding outline decided Numbered
outline-refuses g s = by (ltb limit (length s)) (ltb (span is_ascii s) (length s))
  where
    by : (t u : Bool) → Numbered (cond t (refused 1 0 0) (cond u (refused 2 (span is_ascii s) 0) (checked g s (decided g s))))
    by true u = omega arith
    by false true = omega arith
    by false false = checked-ok g s (decided g s) (run_ok g (tokens g s) (config start none [] []))

-- Read is done: the text's records, and room for them
pub record Done (g : Reading) (s : List ℕ) (m k : ℕ) : Type 0 where
  pub records : List Rec
  pub read : outline g s ≡ done records
  pub store : store_size records ≤ m
  pub area : area_size records ≤ k

pub read_done : (g : Reading) (s : List ℕ) (m k : ℕ) → (read_answer g s m k).number ≡ 0 → Done g s m k
unfolding read_answer
read_done g s m k e = by (outline g s) refl (outline-refuses g s) e
  where
    room : (rs : List Rec) → outline g s ≡ done rs → (x : Bool) → ltb m (store_size rs) ≡ x → (y : Bool) → ltb k (area_size rs) ≡ y
        → (cond x (no_room 10 (store_size rs) (area_size rs)) (cond y (no_room 11 (store_size rs) (area_size rs)) (success (store_size rs) (area_size rs)))).number ≡ 0 → Done g s m k
    room rs q true p y r e = absurd (unfold no_room in omega arith)
    room rs q false p true r e = absurd (unfold no_room in omega arith)
    room rs q false p false r e = record { records = rs; read = q; store = ltb-false m (store_size rs) p; area = ltb-false k (area_size rs) r }

    number : (n o d : ℕ) (x : Bool) → 1 ≤ n → (cond x (refused_bare 1) (refused_at n (place_at s o) d)).number ≡ 0 → ⊥
    number n o d true h e = unfold refused_bare in omega arith
    number n o d false h e = unfold refused_at in omega arith

    by : (x : Answer) → outline g s ≡ x → Numbered x → (read_by s m k x).number ≡ 0 → Done g s m k
    by (refused n o d) q h e = absurd (number n o d (eqb n 1) (unfold Numbered in h) (unfold read_by refusal in e))
    by (done rs) q h e = room rs q (ltb m (store_size rs)) refl (ltb k (area_size rs)) refl (unfold read_by read_room in e)
