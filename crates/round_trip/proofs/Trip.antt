-- Lines that are nested are rendered and read back, by either reading. Proved: from each state in which the machine may stand before them, it reads the rendering of
-- nested lines to their records (trip). Assumes nothing.
use Prim.Native.Nat.{ℕ, suc, ◌+◌, ◌%◌}
use mathlib.Core.Bool.{Bool, true, false}
use mathlib.Core.Path.{◌≡◌, refl, ap, ◌∙◌}
use mathlib.Core.List.{List, [], ◌∷◌, ◌++◌, append_assoc, append-nil}
use mathlib.Core.Option.{Option, none, some}
use borrow.Author.Tests.{eq-eqb}
use native.Mathlib.Nat.{zero-mod}
use lib.ListN.{length}
use Rattle.rules.specs.declared.Reading.{Reading}
use Rattle.rules.specs.declared.Reading.TheVariants.{First, Strict}
use Rattle.words.specs.Names.{fits_tag, heading_fits}
use Rattle.values.specs.Values.{Class, block, loop, save, tag, value, nothing, at_end, lexed}
use Rattle.grammar.specs.Tokens.{in_block, in_frame, lex_in, lex, after, Tok, tok, tokens_from}
use Rattle.grammar.specs.Machine.{Rec, done, State, items, names, values, wants, config, go, rec, loop_end, lacks_values, in_block_only, reason, shuts, at_item, loop_ends, at_value, no_more_names, at_name, at_want, move, follow, run}
use Rattle.grammar.proofs.Descent.{any-detail}
use Rattle.written.proofs.Lexing.{mode_of}
use Rattle.round_trip.proofs.Lines.{Line, line, ending, render, recs_at, Where, on_items, on_names, on_values, on_value}
use Rattle.round_trip.proofs.Passes.{Reads}

-- lines nested, in a form to go through: a further heading is the strict reading's, a loop without rows the first one's
pub data Nested : Reading → Bool → Where → List Line → Type 0 where
  over : {r : Reading} (e : Bool) → Nested r false (on_items e) []
  headed : {es : List Line} (e : Bool) (l w : List ℕ) → Reads Strict in_block l w block → heading_fits Strict (length w) ≡ true → Nested Strict false (on_items false) es → Nested Strict false (on_items e) (line 1 l w ∷ es)
  tagged : {r : Reading} {f : Bool} {es : List Line} (l w : List ℕ) → Reads r (mode_of f) l w tag → fits_tag r (length w) ≡ true → Nested r f on_value es → Nested r f (on_items false) (line 4 l w ∷ es)
  valued : {r : Reading} {f : Bool} {es : List Line} (k : ℕ) (l w : List ℕ) → Reads r (mode_of f) l w (value k) → Nested r f (on_items false) es → Nested r f on_value (line k l w ∷ es)
  looped : {r : Reading} {f : Bool} {es : List Line} (e : Bool) (l w : List ℕ) → Reads r (mode_of f) l w loop → Nested r f (on_names 0) es → Nested r f (on_items e) (line 5 l w ∷ es)
  named : {r : Reading} {f : Bool} {es : List Line} (n : ℕ) (l w : List ℕ) → Reads r (mode_of f) l w tag → fits_tag r (length w) ≡ true → Nested r f (on_names (suc n)) es → Nested r f (on_names n) (line 6 l w ∷ es)
  first-value : {r : Reading} {f : Bool} {es : List Line} (n k : ℕ) (l w : List ℕ) → Reads r (mode_of f) l w (value k) → Nested r f (on_values (suc n) 1) es → Nested r f (on_names (suc n)) (line k l w ∷ es)
  no_rows : {f : Bool} {es : List Line} (n : ℕ) → Nested First f (on_items true) es → Nested First f (on_names (suc n)) (ending ∷ es)
  next-value : {r : Reading} {f : Bool} {es : List Line} (n j k : ℕ) (l w : List ℕ) → Reads r (mode_of f) l w (value k) → Nested r f (on_values n (suc j)) es → Nested r f (on_values n j) (line k l w ∷ es)
  rows : {r : Reading} {f : Bool} {es : List Line} (n j : ℕ) → lacks_values r j ≡ false → j % n ≡ 0 → Nested r f (on_items false) es → Nested r f (on_values n j) (ending ∷ es)
  opened : {r : Reading} {es : List Line} (e : Bool) (l w : List ℕ) → Reads r in_block l w save → heading_fits r (length w) ≡ true → Nested r true (on_items false) es → Nested r false (on_items e) (line 2 l w ∷ es)
  shut : {r : Reading} {es : List Line} (e : Bool) (l w : List ℕ) → Reads r in_frame l w save → length w ≡ 5 → Nested r false (on_items false) es → Nested r true (on_items e) (line 3 l w ∷ es)

unfoldable pub state_of : Where → ℕ → State
state_of (on_items e) a = items 0
state_of (on_names n) a = names a n
state_of (on_values n k) a = values a n k
state_of on_value a = wants a

unfoldable pub frame_of : Bool → ℕ → Option ℕ
frame_of true a = some a
frame_of false a = none

-- between items nothing is held
unfoldable pub Held : Where → List Rec → Type 0
Held (on_items e) h = h ≡ []
Held (on_names n) h = Unit {0}
Held (on_values n k) h = Unit {0}
Held on_value h = Unit {0}

-- the text's end
end-lex : (r : Reading) → lex r 10 in_block [] ≡ lexed (nothing at_end) 0
unfolding lex lex_in
end-lex First = refl
end-lex Strict = refl

-- a `save_` without a name closes a frame
shuts-five : (r : Reading) (f : ℕ) (out : List Rec) (t : Tok) → t.size ≡ 5 → shuts r f out t ≡ go (config (items 0) none (out ++ (rec 3 t ∷ [])) [])
shuts-five First f out t e = refl
shuts-five Strict f out t e = rw e

-- the token that starts what may stand between items
data Begins : Bool → Class → Type 0 where
  by-block : (e : Bool) → Begins e block
  by-tag : Begins false tag
  by_loop : (e : Bool) → Begins e loop
  by-save : (e : Bool) → Begins e save
  by_end : (e : Bool) → Begins e (nothing at_end)

record Begun (r : Reading) (f e : Bool) (es : List Line) (o : ℕ) : Type 0 where
  t : Tok
  ts : List Tok
  reads : tokens_from r (render es) 10 0 (mode_of f) o ≡ t ∷ ts
  begins : Begins e t.class

first-token : {r : Reading} {f e : Bool} {es : List Line} → Nested r f (on_items e) es → (o : ℕ) → Begun r f e es o
unfolding render tokens_from mode_of lexed tok Reads
first-token (over {r} e) o = record { t = tok (lexed (nothing at_end) 0) o; ts = []; reads = rw (end-lex r); begins = by_end e }
first-token (headed {es} e l w r g n) o = record { t = _; ts = _; reads = r (render es) o; begins = by-block e }
first-token (tagged {es = es} l w r g n) o = record { t = _; ts = _; reads = r (render es) o; begins = by-tag }
first-token (looped {es = es} e l w r n) o = record { t = _; ts = _; reads = r (render es) o; begins = by_loop e }
first-token (opened {es = es} e l w r g n) o = record { t = _; ts = _; reads = r (render es) o; begins = by-save e }
first-token (shut {es = es} e l w r g n) o = record { t = _; ts = _; reads = r (render es) o; begins = by-save e }

-- a loop's end has no token: the next one ends it
ends-loop : (r : Reading) (a n j : ℕ) (fr : Option ℕ) (out held : List Rec) (t : Tok) → lacks_values r j ≡ false → j % n ≡ 0
    → loop_ends r a n j fr out held t ≡ at_item r (in_block_only fr (reason t.class)) fr (out ++ held ++ (loop_end ∷ [])) t.class t
unfolding loop_ends
ends-loop r a n j fr out held t y z = rw (y, eq-eqb (j % n) 0 z)

values-end : {e : Bool} {c : Class} (r : Reading) (a n j : ℕ) (fr : Option ℕ) (out held : List Rec) (t : Tok) → Begins e c → lacks_values r j ≡ false → j % n ≡ 0
    → at_value r a n j fr out held c t ≡ at_item r (in_block_only fr (reason t.class)) fr (out ++ held ++ (loop_end ∷ [])) t.class t
unfolding at_value
values-end r a n j fr out held t (by-block e) y z = ends-loop r a n j fr out held t y z
values-end r a n j fr out held t by-tag y z = ends-loop r a n j fr out held t y z
values-end r a n j fr out held t (by_loop e) y z = ends-loop r a n j fr out held t y z
values-end r a n j fr out held t (by-save e) y z = ends-loop r a n j fr out held t y z
values-end r a n j fr out held t (by_end e) y z = ends-loop r a n j fr out held t y z

names-end : {c : Class} (a n : ℕ) (fr : Option ℕ) (out held : List Rec) (t : Tok) → Begins true c → t.class ≡ c
    → at_name First a (suc n) fr out held c t ≡ at_item First (in_block_only fr (reason t.class)) fr (out ++ held ++ (loop_end ∷ [])) t.class t
unfolding at_name no_more_names
names-end a n fr out held t (by-block e) q = ap (λ c. at_value First a (suc n) 0 fr out held c t) q ∙ values-end First a (suc n) 0 fr out held t (by-block e) refl (zero-mod (suc n))
names-end a n fr out held t (by_loop e) q = ap (λ c. at_value First a (suc n) 0 fr out held c t) q ∙ values-end First a (suc n) 0 fr out held t (by_loop e) refl (zero-mod (suc n))
names-end a n fr out held t (by-save e) q = ap (λ c. at_value First a (suc n) 0 fr out held c t) q ∙ values-end First a (suc n) 0 fr out held t (by-save e) refl (zero-mod (suc n))
names-end a n fr out held t (by_end e) q = ap (λ c. at_value First a (suc n) 0 fr out held c t) q ∙ values-end First a (suc n) 0 fr out held t (by_end e) refl (zero-mod (suc n))

-- what is read behind the loop is what is read where its list has ended
values-wait : {r : Reading} {f e : Bool} {es : List Line} → Nested r f (on_items e) es → (o a n j : ℕ) (fr : Option ℕ) (out held rs : List Rec) → lacks_values r j ≡ false → j % n ≡ 0
    → run r (tokens_from r (render es) 10 0 (mode_of f) o) (config (items 0) fr (out ++ held ++ (loop_end ∷ [])) []) ≡ done rs
    → run r (tokens_from r (render es) 10 0 (mode_of f) o) (config (values a n j) fr out held) ≡ done rs
unfolding run move config
values-wait {r} {f} {es = es} d o a n j fr out held rs y z h =
    let x = first-token d o in
    let k = any-detail r 0 (in_block_only fr (reason x.t.class)) fr (x.t ∷ x.ts) (out ++ held ++ (loop_end ∷ [])) rs (rw x.reads at h) in
    rw x.reads (ap (λ m. follow m (λ c. run r x.ts c)) (values-end r a n j fr out held x.t x.begins y z) ∙ k)

names-wait : {f : Bool} {es : List Line} → Nested First f (on_items true) es → (o a n : ℕ) (fr : Option ℕ) (out held rs : List Rec)
    → run First (tokens_from First (render es) 10 0 (mode_of f) o) (config (items 0) fr (out ++ held ++ (loop_end ∷ [])) []) ≡ done rs
    → run First (tokens_from First (render es) 10 0 (mode_of f) o) (config (names a (suc n)) fr out held) ≡ done rs
unfolding run move config
names-wait {f} {es} d o a n fr out held rs h =
    let x = first-token d o in
    let k = any-detail First 0 (in_block_only fr (reason x.t.class)) fr (x.t ∷ x.ts) (out ++ held ++ (loop_end ∷ [])) rs (rw x.reads at h) in
    rw x.reads (ap (λ m. follow m (λ c. run First x.ts c)) (names-end a n fr out held x.t x.begins refl) ∙ k)

pub trip : {r : Reading} {f : Bool} {w : Where} {es : List Line} → Nested r f w es → (o a fo : ℕ) (out held : List Rec) → Held w held
    → run r (tokens_from r (render es) 10 0 (mode_of f) o) (config (state_of w a) (frame_of f fo) out held) ≡ done (out ++ held ++ recs_at o es)
unfolding run follow config state_of frame_of render recs_at move Held tok lexed rec at_item at_want at_name at_value no_more_names after mode_of Reads tokens_from
trip (over {r} e) o a fo out held h = rw (h, end-lex r) (ap done (simp append-nil))
trip (headed {es} e l w r g n) o a fo out held h = rw (r (render es) o, h, g) (trip n (suc (o + length l + length w)) a fo _ [] refl ∙ ap done (simp (append_assoc, append-nil)))
trip (tagged {es = es} l w r g n) o a fo out held h = rw (r (render es) o, h, g) (trip n (suc (o + length l + length w)) (o + length l) fo out _ tt ∙ ap done (simp (append_assoc, append-nil)))
trip (valued {es = es} k l w r n) o a fo out held h = rw (r (render es) o) (trip n (suc (o + length l + length w)) a fo _ [] refl ∙ ap done (simp append_assoc))
trip (looped {es = es} e l w r n) o a fo out held h = rw (r (render es) o, h) (trip n (suc (o + length l + length w)) (o + length l) fo out _ tt ∙ ap done (simp (append_assoc, append-nil)))
trip (named {es = es} n l w r g d) o a fo out held h = rw (r (render es) o, g) (trip d (suc (o + length l + length w)) a fo out _ tt ∙ ap done (simp append_assoc))
trip (first-value {es = es} n k l w r d) o a fo out held h = rw (r (render es) o) (trip d (suc (o + length l + length w)) a fo out _ tt ∙ ap done (simp append_assoc))
trip (no_rows {f} n d) o a fo out held h = names-wait d o a n (frame_of f fo) out held _ (trip d o a fo _ [] refl) ∙ ap done (simp (append_assoc, append-nil))
trip (next-value {es = es} n j k l w r d) o a fo out held h = rw (r (render es) o) (trip d (suc (o + length l + length w)) a fo out _ tt ∙ ap done (simp append_assoc))
trip (rows {f = f} n j y z d) o a fo out held h = values-wait d o a n j (frame_of f fo) out held _ y z (trip d o a fo _ [] refl) ∙ ap done (simp (append_assoc, append-nil))
trip (opened {es = es} e l w r g d) o a fo out held h = rw (r (render es) o, h, g) (trip d (suc (o + length l + length w)) a (o + length l) _ [] refl ∙ ap done (simp (append_assoc, append-nil)))
trip (shut {r} {es} e l w x g d) o a fo out held h =
    rw (x (render es) o, h, shuts-five r fo out (tok (lexed save (length w)) (o + length l)) g) (trip d (suc (o + length l + length w)) a fo _ [] refl ∙ ap done (simp (append_assoc, append-nil)))
