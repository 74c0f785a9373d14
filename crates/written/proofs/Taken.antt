-- Proved: the records of a text that is read were taken from its tokens, item by item, nested as items, frames and loops are, and no byte was taken twice
-- (outline-taken). Assumes nothing.
use Prim.Native.Nat.{ℕ, zero, suc, ◌+◌, ◌%◌, ◌≤◌}
use mathlib.Core.Bool.{true≢false, Bool, true, false, cond}
use mathlib.Core.Path.{◌≡◌, refl, sym, ap, ◌∙◌, subst}
use mathlib.Core.List.{List, [], ◌∷◌, ◌++◌}
use mathlib.Core.Option.{Option, none, some}
use native.Mathlib.Omega.{arith}
use native.Mathlib.Nat.{zero-mod}
use native.Mathlib.Numerals.{add-one}
use borrow.Author.Tests.{eqb-true, ltb-false}
use lib.Dec.{ltb, eqb}
use lib.ListN.{length, drop, length-drop}
use lib.Seq.{drop-drop, get_or-drop}
use Rattle.rules.specs.declared.Reading.{Reading}
use Rattle.rules.specs.declared.Reading.TheVariants.{First, Strict}
use Rattle.text.specs.Bytes.{is_ascii}
use Rattle.text.specs.Runs.{span}
use Rattle.columns.specs.Before.{byte_before}
use Rattle.words.specs.Names.{fits_tag, heading_fits}
use Rattle.std.specs.Prelude.{Result, Ok as Fine, Err as Flawed}
use Rattle.lines.specs.declared.Flaw.{Flaw}
use Rattle.lines.specs.declared.Flaw.TheVariants.{LongLine, Control}
use Rattle.lines.specs.Lines.{screened, is_fine}
use Rattle.gaps.specs.Gaps.{gap}
use Rattle.gaps.proofs.Gaps.{gap-fits}
use Rattle.values.specs.Values.{Class, block, loop, save, tag, value, over_limit, nothing, at_end, reserved_word, no_start, open_quote, open_field, joined, Lexed, lexed}
use Rattle.grammar.specs.Tokens.{Mode, before, in_block, in_frame, lex, after, Tok, tok, emit, step, tokens_from, tokens}
use Rattle.grammar.specs.Machine.{Rec, Answer, refused, done, State, start, items, names, values, wants, Config, config, Outcome, go, stop, rec, loop_end, closes, is_joined, fails, shuts, heads, at_item, last_at, lacks_values, loop_ends, at_value, no_more_names, at_name, at_want, at_start, move, follow, run, reason, in_block_only}
use Rattle.grammar.specs.Reading.{decided, screens, checked, outline}
use Rattle.readable.specs.Readable.{keeps_lines}
use Rattle.text.specs.Limits.{limit}
use Rattle.grammar.proofs.Fits.{lex-fits}
use Rattle.written.proofs.Lexing.{mode_of, never}

-- the bytes of the tokens of records
unfoldable pub bytes_of : List Rec → ℕ
bytes_of [] = 0
bytes_of (r ∷ rs) = r.size + bytes_of rs

pub bytes-append : (a b : List Rec) → bytes_of (a ++ b) ≡ bytes_of a + bytes_of b
unfolding bytes_of
bytes-append [] b = omega arith
bytes-append (r ∷ a) b = omega (arith, bytes-append a b)

-- the record r, of kind k, was made of a token of class c that stands where r says, read in mode m
pub record Took (g : Reading) (s : List ℕ) (m : Mode) (c : Class) (k : ℕ) (r : Rec) : Type 0 where
  pub kind : r.kind ≡ k
  pub reads : lex g (byte_before s r.at) m (drop r.at s) ≡ lexed c r.size
  pub within : r.at ≤ length s

-- in a frame or not: the mode of its tokens and the machine's frame
pub data In : Bool → Mode → Option ℕ → Type 0 where
  block-mode : In false in_block none
  frame-mode : (a : ℕ) → In true in_frame (some a)

-- a loop and n tags
pub data Tags (g : Reading) (s : List ℕ) (f : Bool) : ℕ → List Rec → Type 0 where
  opens : {r : Rec} → Took g s (mode_of f) loop 5 r → Tags g s f 0 (r ∷ [])
  named : {n : ℕ} {h : List Rec} {r : Rec} → Tags g s f n h → Took g s (mode_of f) tag 6 r → fits_tag g r.size ≡ true → Tags g s f (suc n) (h ++ (r ∷ []))

-- a loop, n tags and j values
pub data Rows (g : Reading) (s : List ℕ) (f : Bool) (n : ℕ) : ℕ → List Rec → Type 0 where
  first : {h : List Rec} {r : Rec} (k : ℕ) → Tags g s f n h → Took g s (mode_of f) (value k) k r → Rows g s f n 1 (h ++ (r ∷ []))
  next : {j : ℕ} {h : List Rec} {r : Rec} (k : ℕ) → Rows g s f n j h → Took g s (mode_of f) (value k) k r → Rows g s f n (suc j) (h ++ (r ∷ []))

-- a heading and whole items, in the strict reading further headings; in a frame or not; the flag: a loop without rows stands last, which is the first reading's
pub data Taken (g : Reading) (s : List ℕ) : Bool → Bool → List Rec → Type 0 where
  heading : {m : Mode} {r : Rec} → Took g s m block 1 r → heading_fits g r.size ≡ true → Taken g s false false (r ∷ [])
  single : {f : Bool} {out : List Rec} {t v : Rec} (k : ℕ) → Taken g s f false out → Took g s (mode_of f) tag 4 t → fits_tag g t.size ≡ true → Took g s (mode_of f) (value k) k v → Taken g s f false (out ++ (t ∷ []) ++ (v ∷ []))
  rows : {f e : Bool} {n j : ℕ} {out h : List Rec} → Taken g s f e out → Rows g s f (suc n) (suc j) h → suc j % suc n ≡ 0 → Taken g s f false (out ++ h ++ (loop_end ∷ []))
  no_rows : {f e : Bool} {n : ℕ} {out h : List Rec} → g ≡ First → Taken g s f e out → Tags g s f (suc n) h → Taken g s f true (out ++ h ++ (loop_end ∷ []))
  opened : {e : Bool} {out : List Rec} {r : Rec} → Taken g s false e out → Took g s in_block save 2 r → heading_fits g r.size ≡ true → Taken g s true false (out ++ (r ∷ []))
  further : {m : Mode} {e : Bool} {out : List Rec} {r : Rec} → g ≡ Strict → Taken g s false e out → Took g s m block 1 r → heading_fits g r.size ≡ true → Taken g s false false (out ++ (r ∷ []))
  shut : {e : Bool} {out : List Rec} {r : Rec} → Taken g s true e out → Took g s in_frame save 3 r → Taken g s false false (out ++ (r ∷ []))

-- what the machine has, by its state
data Has (g : Reading) (s : List ℕ) : Mode → State → Option ℕ → List Rec → List Rec → Type 0 where
  at-start : Has g s before start none [] []
  at-items : {f : Bool} {m : Mode} {fr : Option ℕ} {d : ℕ} {out : List Rec} → In f m fr → Taken g s f false out → Has g s m (items d) fr out []
  at_names : {f e : Bool} {m : Mode} {fr : Option ℕ} {a n : ℕ} {out h : List Rec} → In f m fr → Taken g s f e out → Tags g s f n h → Has g s m (names a n) fr out h
  at-values : {f e : Bool} {m : Mode} {fr : Option ℕ} {a n j : ℕ} {out h : List Rec} → In f m fr → Taken g s f e out → Rows g s f (suc n) (suc j) h → Has g s m (values a (suc n) (suc j)) fr out h
  at-wants : {f : Bool} {m : Mode} {fr : Option ℕ} {a : ℕ} {out : List Rec} {r : Rec} → In f m fr → Taken g s f false out → Took g s (mode_of f) tag 4 r → fits_tag g r.size ≡ true → Has g s m (wants a) fr out (r ∷ [])

-- in mode m, before offset o, the machine c has what it should, of so many bytes
record Good (g : Reading) (s : List ℕ) (m : Mode) (o : ℕ) (c : Config) : Type 0 where
  has : Has g s m c.state c.frame c.out c.held
  spent : bytes_of c.out + bytes_of c.held ≤ o

-- all that is read
pub record Read (g : Reading) (s : List ℕ) (o : ℕ) (rs : List Rec) : Type 0 where
  pub rowless : Bool
  pub taken : Taken g s false rowless rs
  pub spent : bytes_of rs ≤ o

in-mode : {f : Bool} {m : Mode} {fr : Option ℕ} → In f m fr → m ≡ mode_of f
unfolding mode_of
in-mode block-mode = refl
in-mode (frame-mode a) = refl

record Inside (f : Bool) (m : Mode) : Type 0 where
  frame : f ≡ true
  mode : m ≡ in_frame

in-frame : {f : Bool} {m : Mode} {a : ℕ} → In f m (some a) → Inside f m
in-frame (frame-mode a) = record { frame = refl; mode = refl }

record Outside (f : Bool) (m : Mode) : Type 0 where
  frame : f ≡ false
  mode : m ≡ in_block

in-block : {f : Bool} {m : Mode} → In f m none → Outside f m
in-block block-mode = record { frame = refl; mode = refl }

-- no loop without rows stands last
rows_last : {g : Reading} {s : List ℕ} {f : Bool} {out : List Rec} (e : Bool) → (e ≡ true → ⊥) → Taken g s f e out → Taken g s f false out
rows_last true n h = absurd (n refl)
rows_last false n h = h

module _ (g : Reading) (s : List ℕ) (m : Mode) (t : Tok) (reads : lex g (byte_before s t.at) m (drop t.at s) ≡ lexed t.class t.size) (within : t.at ≤ length s) where
  Ok : ℕ → Outcome → Type 0
  Ok o (go c) = Good g s (after t.class m) (o + t.size) c
  Ok o (stop (done rs)) = Read g s o rs
  Ok o (stop (refused n a d)) = Unit {0}

  took : (c : Class) (k : ℕ) → t.class ≡ c → Took g s m c k (rec k t)
  unfolding rec
  took c k e = record { kind = refl; reads = reads ∙ ap (λ x. lexed x t.size) e; within = within }

  closes-ok : (o a : ℕ) (e : Bool) (out : List Rec) (c : Class) → m ≡ in_frame → t.class ≡ c → Taken g s true e out → bytes_of out ≤ o → Ok o (closes a out c t)
  unfolding Ok closes config after bytes_of rec
  closes-ok o a e out save q p h b =
      record {
        has = rw (p, q) (at-items block-mode (shut h (rw q at (took save 3 p))));
        spent = omega (arith, bytes-append out (rec 3 t ∷ []));
      }
  closes-ok o a e out block q p h b = tt
  closes-ok o a e out loop q p h b = tt
  closes-ok o a e out tag q p h b = tt
  closes-ok o a e out (value k) q p h b = tt
  closes-ok o a e out over_limit q p h b = tt
  closes-ok o a e out (nothing w) q p h b = tt

  -- a name that may stand
  named_ok : (o : ℕ) (x : Bool) (y : Outcome) → (x ≡ true → Ok o y) → Ok o (cond x y (stop (refused 17 t.at 0)))
  unfolding Ok
  named_ok o true y f = f refl
  named_ok o false y f = tt

  either-ok : (o n a d : ℕ) (x : Bool) → Ok o (stop (cond x (refused 15 t.at 0) (refused n a d)))
  unfolding Ok
  either-ok o n a d true = tt
  either-ok o n a d false = tt

  fails_by : (r : Reading) (o n a d : ℕ) {f e : Bool} (fr : Option ℕ) (out : List Rec) → In f m fr → Taken g s f e out → bytes_of out ≤ o → Ok o (fails r (refused n a d) fr out t)
  unfolding Ok fails
  fails_by First o n a d none out i h b = tt
  fails_by First o n a d {f} {e} (some x) out i h b =
      let j = in-frame i in
      closes-ok o x e out t.class j.mode refl (rw j.frame at h) b
  fails_by Strict o n a d fr out i h b = either-ok o n a d (is_joined t.class)

  fails-ok : (o n a d : ℕ) {f e : Bool} (fr : Option ℕ) (out : List Rec) → In f m fr → Taken g s f e out → bytes_of out ≤ o → Ok o (fails g (refused n a d) fr out t)
  fails-ok o n a d fr out i h b = fails_by g o n a d fr out i h b

  -- a `save_` in a frame
  shuts-ok : (r : Reading) (o x : ℕ) (e : Bool) (out : List Rec) → m ≡ in_frame → t.class ≡ save → Taken g s true e out → bytes_of out ≤ o → Ok o (shuts r x out t)
  unfolding Ok closes
  shuts-ok First o x e out q p h b = closes-ok o x e out save q p h b
  shuts-ok Strict o x e out q p h b = by (eqb t.size 5)
    where
      by : (y : Bool) → Ok o (cond y (go (config (items 0) none (out ++ (rec 3 t ∷ [])) [])) (stop (refused 4 x 0)))
      by true = closes-ok o x e out save q p h b
      by false = tt

  -- a `data_` between items
  heads-ok : (r : Reading) → g ≡ r → (o d : ℕ) {f e : Bool} (fr : Option ℕ) (out : List Rec) → In f m fr → Taken g s f e out → bytes_of out ≤ o → t.class ≡ block → Ok o (heads r d fr out t)
  unfolding Ok config after bytes_of rec
  heads-ok First q o d fr out i h b p = fails_by First o 7 t.at d fr out i h b
  heads-ok Strict q o d none out i h b p =
      let j = in-block i in
      named_ok o (heading_fits Strict t.size) _
      (λ w. record {
        has = rw p (at-items block-mode (further q (rw j.frame at h) (took block 1 p) (rw q w)));
        spent = omega (arith, bytes-append out (rec 1 t ∷ []));
      })
  heads-ok Strict q o d (some x) out i h b p = tt

  item_ok : (o d : ℕ) {f e : Bool} (fr : Option ℕ) (out : List Rec) (c : Class) → In f m fr → Taken g s f e out → bytes_of out ≤ o → t.class ≡ c → (e ≡ true → c ≡ tag → ⊥) → Ok o (at_item g d fr out c t)
  unfolding Ok at_item config after bytes_of rec
  item_ok o d fr out loop i h b p n =
      record { has = rw p (at_names i h (opens (rw (in-mode i) at (took loop 5 p)))); spent = omega arith }
  item_ok o d {e = e} fr out tag i h b p n =
      named_ok o (fits_tag g t.size) _ (λ w. record { has = rw p (at-wants i (rows_last e (λ q. n q refl) h) (rw (in-mode i) at (took tag 4 p)) w); spent = omega arith })
  item_ok o d none out save i h b p n =
      let j = in-block i in
      named_ok o (heading_fits g t.size) _
      (λ w. record {
        has = rw (p, j.mode) (at-items (frame-mode t.at) (opened (rw j.frame at h) (rw j.mode at (took save 2 p)) w));
        spent = omega (arith, bytes-append out (rec 2 t ∷ []));
      })
  item_ok o d {e = e} (some x) out save i h b p n =
      let j = in-frame i in
      shuts-ok g o x e out j.mode p (rw j.frame at h) b
  item_ok o d {e = e} none out (nothing at_end) i h b p n = record { rowless = e; taken = rw (in-block i).frame at h; spent = b }
  item_ok o d (some x) out (nothing at_end) i h b p n = tt
  item_ok o d fr out (nothing reserved_word) i h b p n = fails-ok o 7 t.at d fr out i h b
  item_ok o d fr out (nothing no_start) i h b p n = fails-ok o 7 t.at d fr out i h b
  item_ok o d fr out (nothing open_quote) i h b p n = fails-ok o 7 t.at d fr out i h b
  item_ok o d fr out (nothing open_field) i h b p n = fails-ok o 7 t.at d fr out i h b
  item_ok o d fr out (nothing joined) i h b p n = fails-ok o 7 t.at d fr out i h b
  item_ok o d fr out block i h b p n = heads-ok g refl o d fr out i h b p
  item_ok o d fr out (value k) i h b p n = fails-ok o 7 t.at d fr out i h b
  item_ok o d fr out over_limit i h b p n = fails-ok o 7 t.at d fr out i h b

  -- a loop without values, where the reading asks for some
  some-ok : (o : ℕ) (x : Bool) (y : Outcome) (a d : ℕ) → Ok o y → Ok o (cond x (stop (refused 6 a d)) y)
  unfolding Ok
  some-ok o true y a d h = tt
  some-ok o false y a d h = h

  -- a loop ends before t: with rows, or without and no tag follows
  ended-spent : (o : ℕ) (out held : List Rec) → bytes_of out + bytes_of held ≤ o → bytes_of (out ++ held ++ (loop_end ∷ [])) ≤ o
  unfolding bytes_of loop_end
  ended-spent o out held b = omega (arith, bytes-append (out ++ held) (loop_end ∷ []), bytes-append out held)

  rows_ok : (o a n j : ℕ) {f e : Bool} (fr : Option ℕ) (out held : List Rec) → In f m fr → Taken g s f e out → Rows g s f (suc n) (suc j) held → bytes_of out + bytes_of held ≤ o → Ok o (loop_ends g a (suc n) (suc j) fr out held t)
  unfolding loop_ends
  rows_ok o a n j {f} {e} fr out held i h w b = some-ok o (lacks_values g (suc j)) _ (last_at held) (reason t.class) (pick (eqb (suc j % suc n) 0) refl)
    where
      pick : (x : Bool) → eqb (suc j % suc n) 0 ≡ x → Ok o (cond x (at_item g (in_block_only fr (reason t.class)) fr (out ++ held ++ (loop_end ∷ [])) t.class t) (fails g (refused 5 a (suc j % suc n)) fr out t))
      pick true q = item_ok o _ fr (out ++ held ++ (loop_end ∷ [])) t.class i (rows h w (eqb-true (suc j % suc n) 0 q)) (ended-spent o out held b) refl (λ z y. true≢false (sym z))
      pick false q = fails-ok o 5 a (suc j % suc n) fr out i h (omega arith)

  value-ok : (o a n j : ℕ) {f e : Bool} (fr : Option ℕ) (out held : List Rec) (c : Class) → In f m fr → Taken g s f e out → Rows g s f (suc n) (suc j) held → bytes_of out + bytes_of held ≤ o → t.class ≡ c → Ok o (at_value g a (suc n) (suc j) fr out held c t)
  unfolding Ok at_value config after bytes_of rec
  value-ok o a n j fr out held (value k) i h g b p =
      record { has = rw p (at-values i h (next k g (rw (in-mode i) at (took (value k) k p)))); spent = omega (arith, bytes-append held (rec k t ∷ [])) }
  value-ok o a n j fr out held over_limit i h g b p = tt
  value-ok o a n j fr out held block i h g b p = rows_ok o a n j fr out held i h g b
  value-ok o a n j fr out held loop i h g b p = rows_ok o a n j fr out held i h g b
  value-ok o a n j fr out held save i h g b p = rows_ok o a n j fr out held i h g b
  value-ok o a n j fr out held tag i h g b p = rows_ok o a n j fr out held i h g b
  value-ok o a n j fr out held (nothing w) i h g b p = rows_ok o a n j fr out held i h g b

  bare-by : (r : Reading) → g ≡ r → (o a n : ℕ) {f e : Bool} (fr : Option ℕ) (out held : List Rec) → In f m fr → Taken g s f e out → Tags g s f (suc n) held → bytes_of out + bytes_of held ≤ o → (t.class ≡ tag → ⊥) → Ok o (loop_ends r a (suc n) 0 fr out held t)
  unfolding Ok loop_ends
  bare-by First q o a n fr out held i h w b z =
      let y : 0 % suc n ≡ 0 = zero-mod (suc n) in
      rw y (subst (λ (r : Reading). Ok o (at_item r (in_block_only fr (reason t.class)) fr (out ++ held ++ (loop_end ∷ [])) t.class t)) q (item_ok o _ fr (out ++ held ++ (loop_end ∷ [])) t.class i (no_rows q h w) (ended-spent o out held b) refl (λ x. z)))
  bare-by Strict q o a n fr out held i h w b z = tt

  bare-ok : (o a n : ℕ) {f e : Bool} (fr : Option ℕ) (out held : List Rec) → In f m fr → Taken g s f e out → Tags g s f (suc n) held → bytes_of out + bytes_of held ≤ o → (t.class ≡ tag → ⊥) → Ok o (loop_ends g a (suc n) 0 fr out held t)
  bare-ok o a n fr out held i h w b z = bare-by g refl o a n fr out held i h w b z

  -- the first value, or none
  first-ok : (o a n : ℕ) {f e : Bool} (fr : Option ℕ) (out held : List Rec) (c : Class) → In f m fr → Taken g s f e out → Tags g s f (suc n) held → bytes_of out + bytes_of held ≤ o → t.class ≡ c → (c ≡ tag → ⊥) → Ok o (at_value g a (suc n) 0 fr out held c t)
  unfolding Ok at_value config after bytes_of rec
  first-ok o a n fr out held (value k) i h g b p z =
      record { has = rw p (at-values i h (first k g (rw (in-mode i) at (took (value k) k p)))); spent = omega (arith, bytes-append held (rec k t ∷ [])) }
  first-ok o a n fr out held over_limit i h g b p z = tt
  first-ok o a n fr out held block i h g b p z = bare-ok o a n fr out held i h g b (λ w. z (sym p ∙ w))
  first-ok o a n fr out held loop i h g b p z = bare-ok o a n fr out held i h g b (λ w. z (sym p ∙ w))
  first-ok o a n fr out held save i h g b p z = bare-ok o a n fr out held i h g b (λ w. z (sym p ∙ w))
  first-ok o a n fr out held tag i h g b p z = absurd (z refl)
  first-ok o a n fr out held (nothing w) i h g b p z = bare-ok o a n fr out held i h g b (λ w. z (sym p ∙ w))

  more-ok : (o a n : ℕ) {f e : Bool} (fr : Option ℕ) (out held : List Rec) (c : Class) → In f m fr → Taken g s f e out → Tags g s f n held → bytes_of out + bytes_of held ≤ o → t.class ≡ c → (c ≡ tag → ⊥) → Ok o (no_more_names g a n fr out held t)
  unfolding Ok no_more_names
  more-ok o a zero fr out held c i h g b p z = tt
  more-ok o a (suc n) fr out held c i h g b p z = first-ok o a n fr out held t.class i h g b refl (λ w. z (sym p ∙ w))

  name-ok : (o a n : ℕ) {f e : Bool} (fr : Option ℕ) (out held : List Rec) (c : Class) → In f m fr → Taken g s f e out → Tags g s f n held → bytes_of out + bytes_of held ≤ o → t.class ≡ c → Ok o (at_name g a n fr out held c t)
  unfolding Ok at_name config after bytes_of rec
  name-ok o a n fr out held tag i h y b p =
      named_ok o (fits_tag g t.size) _ (λ w. record { has = rw p (at_names i h (named y (rw (in-mode i) at (took tag 6 p)) w)); spent = omega (arith, bytes-append held (rec 6 t ∷ [])) })
  name-ok o a n fr out held block i h g b p = more-ok o a n fr out held block i h g b p (λ z. never (cc))
  name-ok o a n fr out held loop i h g b p = more-ok o a n fr out held loop i h g b p (λ z. never (cc))
  name-ok o a n fr out held save i h g b p = more-ok o a n fr out held save i h g b p (λ z. never (cc))
  name-ok o a n fr out held (value k) i h g b p = more-ok o a n fr out held (value k) i h g b p (λ z. never (cc))
  name-ok o a n fr out held over_limit i h g b p = more-ok o a n fr out held over_limit i h g b p (λ z. never (cc))
  name-ok o a n fr out held (nothing w) i h g b p = more-ok o a n fr out held (nothing w) i h g b p (λ z. never (cc))

  want-ok : (o a : ℕ) {f : Bool} (fr : Option ℕ) (out : List Rec) (r : Rec) (c : Class) → In f m fr → Taken g s f false out → Took g s (mode_of f) tag 4 r → fits_tag g r.size ≡ true → bytes_of out + bytes_of (r ∷ []) ≤ o → t.class ≡ c → Ok o (at_want g a fr out (r ∷ []) c t)
  unfolding Ok at_want config after bytes_of rec
  want-ok o a fr out r (value k) i h g w b p =
      record {
        has = rw p (at-items i (single k h g w (rw (in-mode i) at (took (value k) k p))));
        spent = omega (arith, bytes-append (out ++ (r ∷ [])) (rec k t ∷ []), bytes-append out (r ∷ []));
      }
  want-ok o a fr out r over_limit i h g w b p = tt
  want-ok o a fr out r block i h g w b p = fails-ok o 6 a (reason block) fr out i h (omega arith)
  want-ok o a fr out r loop i h g w b p = fails-ok o 6 a (reason loop) fr out i h (omega arith)
  want-ok o a fr out r save i h g w b p = fails-ok o 6 a (reason save) fr out i h (omega arith)
  want-ok o a fr out r tag i h g w b p = fails-ok o 6 a (reason tag) fr out i h (omega arith)
  want-ok o a fr out r (nothing v) i h g w b p = fails-ok o 6 a (reason (nothing v)) fr out i h (omega arith)

  start-ok : (o : ℕ) (c : Class) → m ≡ before → t.class ≡ c → Ok o (at_start g c t)
  unfolding Ok at_start config after bytes_of rec
  start-ok o block q p = named_ok o (heading_fits g t.size) _ (λ w. record { has = rw p (at-items block-mode (heading (took block 1 p) w)); spent = omega arith })
  start-ok o loop q p = tt
  start-ok o save q p = tt
  start-ok o tag q p = tt
  start-ok o (value k) q p = tt
  start-ok o over_limit q p = tt
  start-ok o (nothing w) q p = tt

-- one token
move-ok : (g : Reading) (s : List ℕ) (m : Mode) (t : Tok) (reads : lex g (byte_before s t.at) m (drop t.at s) ≡ lexed t.class t.size) (within : t.at ≤ length s)
    → (o : ℕ) {st : State} {fr : Option ℕ} {out held : List Rec} → Has g s m st fr out held → bytes_of out + bytes_of held ≤ o → Ok g s m t reads within o (move g st fr out held t)
unfolding move bytes_of
move-ok g s _ t reads within o at-start b = start-ok g s before t reads within o t.class refl refl
move-ok g s m t reads within o (at-items {fr = fr} {d = d} {out = out} i h) b = item_ok g s m t reads within o d fr out t.class i h (omega arith) refl (λ z w. true≢false (sym z))
move-ok g s m t reads within o (at_names {fr = fr} {a = a} {n = n} {out = out} {h = held} i h w) b = name-ok g s m t reads within o a n fr out held t.class i h w b refl
move-ok g s m t reads within o (at-values {fr = fr} {a = a} {n = n} {j = j} {out = out} {h = held} i h w) b = value-ok g s m t reads within o a n j fr out held t.class i h w b refl
move-ok g s m t reads within o (at-wants {fr = fr} {a = a} {out = out} {r = r} i h w v) b = want-ok g s m t reads within o a fr out r t.class i h w v b refl

-- what a token leads to: the end, or what is read on
onward : (g : Reading) (s : List ℕ) (m : Mode) (t : Tok) (ts : List Tok) (o : ℕ) (c : Config) (rs : List Rec) → lex g (byte_before s t.at) m (drop t.at s) ≡ lexed t.class t.size → t.at ≤ length s → o ≤ length s → Good g s m o c
    → ((c' : Config) → Good g s (after t.class m) (o + t.size) c' → run g ts c' ≡ done rs → Read g s (length s) rs) → run g (t ∷ ts) c ≡ done rs → Read g s (length s) rs
unfolding run follow Ok
onward g s m t ts o c rs reads within l k more e = by (move g c.state c.frame c.out c.held t) (move-ok g s m t reads within o k.has k.spent) e
  where
    by : (x : Outcome) → Ok g s m t reads within o x → follow x (λ c'. run g ts c') ≡ done rs → Read g s (length s) rs
    by (go c') k q = more c' k q
    by (stop (done r)) k q = let z : rs ≡ r = cc in rw z (record { rowless = k.rowless; taken = k.taken; spent = omega (arith, k.spent) })
    by (stop (refused n a d)) k q = never (cc)

rest_of : (s u : List ℕ) (b o : ℕ) → drop o s ≡ b ∷ u → drop (suc o) s ≡ u
rest_of s u b o q = rw (← add-one o, ← drop-drop 1 o s) (ap (drop 1) q)

-- the byte before the next one
byte-before : (s u : List ℕ) (b o : ℕ) → drop o s ≡ b ∷ u → byte_before s (suc o) ≡ b
unfolding byte_before
byte-before s u b o q =
    let z : o + 0 ≡ o = omega arith in
    rw (← z, ← get_or-drop o s 0 10, q)

-- the tokens of the text from o on, of which k bytes belong to what was read; p is the byte before
walk : (g : Reading) (s u : List ℕ) (p k : ℕ) (m : Mode) (o : ℕ) (c : Config) (rs : List Rec) → byte_before s o ≡ p → drop o s ≡ u → o ≤ length s → k ≤ length u → Good g s m (o + k) c → run g (tokens_from g u p k m o) c ≡ done rs → Read g s (length s) rs
unfolding tokens_from step emit tok lexed
walk g s [] p k m o c rs y q l h v e =
    let z : o + k ≡ o = omega arith in
    onward g s m (tok (lex g p m []) o) [] o c rs (rw (y, q)) l l (rw z at v) (λ c' _ w. never (unfold run in cc)) e
walk g s (b ∷ u) p (suc k) m o c rs y q l h v e =
    let z : o + suc k ≡ suc o + k = omega arith in
    walk g s u b k m (suc o) c rs (byte-before s u b o q) (rest_of s u b o q) (omega (arith, length-drop o s, ap length q)) (omega arith) (rw z at v) e
walk g s (b ∷ u) p zero m o c rs y q l h v e = by (gap (b ∷ u)) (gap-fits (b ∷ u)) (λ k m'. walk g s u b k m' (suc o)) e
  where
    x : Lexed
    x = lex g p m (b ∷ u)

    behind : suc o ≤ length s
    behind = omega (arith, length-drop o s, ap length q)

    here : Good g s m o c
    here = record { has = v.has; spent = omega (arith, v.spent) }

    token : (n : ℕ) (f : ℕ → List Tok) → (lex g p m (b ∷ u)).size ≡ n → n ≤ suc (length u)
        → ((k : ℕ) (c : Config) → k ≤ length u → Good g s (after (lex g p m (b ∷ u)).class m) (suc o + k) c → run g (f k) c ≡ done rs → Read g s (length s) rs) → run g (emit n (tok (lex g p m (b ∷ u)) o) f) c ≡ done rs → Read g s (length s) rs
    token zero f z w r e = onward g s m (tok (lex g p m (b ∷ u)) o) [] o c rs (rw (y, q)) l l here (λ c' _ w. never (unfold run in cc)) e
    token (suc n) f z w r e =
        let y' : o + (lex g p m (b ∷ u)).size ≡ suc o + n = omega arith in
        onward g s m (tok (lex g p m (b ∷ u)) o) (f n) o c rs (rw (y, q)) l l here (λ c' x. r n c' (omega arith) (rw y' at x)) e

    by : (x : ℕ) → x ≤ suc (length u) → ((k : ℕ) (m' : Mode) (c : Config) (rs : List Rec) → byte_before s (suc o) ≡ b → drop (suc o) s ≡ u → suc o ≤ length s → k ≤ length u → Good g s m' (suc o + k) c → run g (tokens_from g u b k m' (suc o)) c ≡ done rs → Read g s (length s) rs)
        → run g (step x (lex g p m (b ∷ u)) m o (λ k m'. tokens_from g u b k m' (suc o))) c ≡ done rs → Read g s (length s) rs
    by zero w r e = token (lex g p m (b ∷ u)).size _ refl (lex-fits g p m (b ∷ u)) (λ k c x z. r k (after (lex g p m (b ∷ u)).class m) c rs (byte-before s u b o q) (rest_of s u b o q) behind x z) e
    by (suc x) w r e = r x m c rs (byte-before s u b o q) (rest_of s u b o q) behind (omega arith) (record { has = v.has; spent = omega (arith, v.spent) }) e

-- a text that is read is within the limit and ASCII, its lines are fine where the reading asks for that, and its tokens give its records
pub record Outline (g : Reading) (s : List ℕ) (rs : List Rec) : Type 0 where
  pub fits : length s ≤ 16777216
  pub ascii : length s ≤ span is_ascii s
  pub lines : keeps_lines g s ≡ true
  pub read : Read g s (length s) rs

decided-taken : (g : Reading) (s : List ℕ) (rs : List Rec) → decided g s ≡ done rs → Read g s (length s) rs
unfolding decided tokens config bytes_of
decided-taken g s rs e = walk g s s 10 0 before 0 _ rs (unfold byte_before in refl) refl (omega arith) (omega arith) (record { has = at-start; spent = omega arith }) e

checked-lines : (g : Reading) (s : List ℕ) (a : Answer) (rs : List Rec) → checked g s a ≡ done rs → (keeps_lines g s ≡ true) × (a ≡ done rs)
unfolding screens is_fine
checked-lines First s a rs e = (refl, e)
checked-lines Strict s a rs e = by (screened s) e
  where
    by : (x : Result (Unit {0}) Flaw) → screens x a ≡ done rs → (is_fine x ≡ true) × (a ≡ done rs)
    by (Fine u) e = (refl, e)
    by (Flawed (LongLine o)) e = never (cc)
    by (Flawed (Control o)) e = never (cc)

-- THE RECORDS OF A TEXT THAT IS READ
pub outline-taken : (g : Reading) (s : List ℕ) (rs : List Rec) → outline g s ≡ done rs → Outline g s rs
unfolding outline limit
outline-taken g s rs e = by (ltb limit (length s)) refl (ltb (span is_ascii s) (length s)) refl e
  where
    by : (x : Bool) → ltb limit (length s) ≡ x → (y : Bool) → ltb (span is_ascii s) (length s) ≡ y → cond x (refused 1 0 0) (cond y (refused 2 (span is_ascii s) 0) (checked g s (decided g s))) ≡ done rs → Outline g s rs
    by true p y r q = never (cc)
    by false p true r q = never (cc)
    by false p false r q =
        let c = checked-lines g s (decided g s) rs q in
        record { fits = ltb-false limit (length s) p; ascii = ltb-false (span is_ascii s) (length s) r; lines = c.0; read = decided-taken g s rs c.1 }
