-- THE SIMULATION behind the equal records of document 02 (Three). Proved (alike_read): where the strict reading reads a text
-- to records of one block whose values are calm (proofs/Tokens), the first reads it to the same records: from each place on,
-- in a state that both share, the first takes every token that the strict one takes. Assumes nothing.
use Prim.Native.Nat.{ℕ, zero, suc, ◌+◌, ◌≤◌}
use mathlib.Core.Path.{◌≡◌, refl, sym, ap, ◌∙◌, subst}
use mathlib.Core.Bool.{Bool, true, false, cond, ◌||◌, true≢false}
use mathlib.Core.List.{List, [], ◌∷◌, ◌++◌, append_assoc}
use mathlib.Core.Option.{Option, none, some}
use native.Mathlib.Omega.{arith}
use lib.Dec.{eqb, ltb}
use lib.ListN.{length, drop}
use Rattle.rules.specs.declared.Reading.{Reading}
use Rattle.rules.specs.declared.Reading.TheVariants.{First, Strict}
use Rattle.text.specs.Bytes.{is, is_ascii, is_space}
use Rattle.text.specs.Runs.{span}
use Rattle.text.specs.Limits.{limit}
use Rattle.text.specs.Parts.{part}
use Rattle.keywords.specs.Keywords.{starts, key_data, key_global, key_loop, key_save, key_stop, is_word}
use Rattle.gaps.specs.Gaps.{gap}
use Rattle.std.specs.Prelude.{Result, Ok, Err}
use Rattle.lines.specs.declared.Flaw.{Flaw}
use Rattle.lines.specs.declared.Flaw.TheVariants.{LongLine, Control}
use Rattle.lines.specs.Lines.{screened}
use Rattle.values.specs.Values.{Class, block, loop, save, tag, value, over_limit, joined, nothing, at_end, reserved_word, no_start, open_quote, open_field, Lexed, lexed}
use Rattle.values.proofs.Tokens.{value-class}
use Rattle.grammar.specs.Tokens.{Mode, before, in_block, in_frame, Tok, tok, lex_in, lex, after, emit, step, tokens_from, tokens}
use Rattle.grammar.specs.Machine.{Rec, rec, Answer, refused, done, State, start, items, names, values, wants, Config, config, Outcome, go, stop, at_start, move, follow, run}
use Rattle.grammar.specs.Reading.{decided, screens, outline}
use Rattle.grammar.proofs.Lexes.{pick}
use Rattle.alike.specs.Plain.{blocks}
use Rattle.alike.proofs.Moves.{frame_mode, mode_of, kept_of, kept, Fits, How, alike, another, Made, Moved, went, refuses, ends, moved}
use Rattle.alike.proofs.Tokens.{Calm, CalmIf, P, lex-alike}

-- a refusal is no success
never : {A : Type 0} {n o d : ℕ} {rs : List Rec} → refused n o d ≡ done rs → A
never e = let z : ◌≡◌ {A = ℕ} 0 1 = cc in absurd (omega arith)

unfoldable records_of : Answer → List Rec
records_of (done rs) = rs
records_of (refused n o d) = []

-- the records kept so far are among those answered
record Starts (h rs : List Rec) : Type 0 where
  more : List Rec
  is : rs ≡ h ++ more

keeps : (ts : List Tok) (c : Config) (rs : List Rec) → run Strict ts c ≡ done rs → Starts (kept c) rs
unfolding run records_of kept follow
keeps [] c rs e = never e
keeps (t ∷ ts) c rs e =
    by (move Strict c.state c.frame c.out c.held t) (moved c.state c.frame c.out c.held t) (λ c' q. keeps ts c' rs q) e
  where
    by : {y : Outcome} (x : Outcome) → Moved (kept c) (mode_of c.state c.frame) t.class t y x → ((c' : Config) → run Strict ts c' ≡ done rs → Starts (kept c') rs) → follow x (λ c'. run Strict ts c') ≡ done rs → Starts (kept c) rs
    by (go x) (went w) ih q =
        let s = ih x q in
        record { more = w.extra ++ (w.last ∷ s.more); is = s.is ∙ rw w.grows (simp append_assoc) }
    by (stop (refused n o d)) refuses ih q = never q
    by (stop (done us)) (ends w) ih q = record { more = w.extra; is = sym (ap records_of q) ∙ w.grows }

-- records, counted and tested piece by piece

blocks-append : (g h : List Rec) → blocks (g ++ h) ≡ blocks g + blocks h
unfolding blocks
blocks-append [] h = let z : 0 + blocks h ≡ blocks h = omega arith in sym z
blocks-append (r ∷ g) h =
    let a : ℕ = cond (eqb r.kind 1) 1 0 in
    let q : blocks (g ++ h) ≡ blocks g + blocks h = blocks-append g h in
    rw q (let z : a + (blocks g + blocks h) ≡ a + blocks g + blocks h = omega arith in z)

-- once the mode is past `before`, a block is kept
unfoldable Headed : Mode → List Rec → Type 0
Headed before h = Unit {0}
Headed in_block h = 1 ≤ blocks h
Headed in_frame h = 1 ≤ blocks h

headed-on : (c : Class) (t : Tok) (m : Mode) (h e : List Rec) (r : Rec) → Fits c t.size m → Made c t r → Headed m h → Headed (after c m) ((h ++ e) ++ (r ∷ []))
unfolding Fits Made Headed after rec blocks
headed-on c t m h e r f d k = by c m f d k (blocks-append (h ++ e) (r ∷ [])) (blocks-append h e)
  where
    by : (c : Class) (m : Mode) → Fits c t.size m → Made c t r → Headed m h → blocks ((h ++ e) ++ (r ∷ [])) ≡ blocks (h ++ e) + blocks (r ∷ []) → blocks (h ++ e) ≡ blocks h + blocks e → Headed (after c m) ((h ++ e) ++ (r ∷ []))
    by block before f d k p q = let one : blocks (r ∷ []) ≡ 1 = rw d in omega arith
    by block in_block f d k p q = absurd f
    by block in_frame f d k p q = absurd f
    by loop before f d k p q = absurd f
    by loop in_block f d k p q = omega arith
    by loop in_frame f d k p q = omega arith
    by save before f d k p q = absurd f
    by save in_block f d k p q = omega arith
    by save in_frame f d k p q = omega arith
    by tag before f d k p q = absurd f
    by tag in_block f d k p q = omega arith
    by tag in_frame f d k p q = omega arith
    by (value n) before f d k p q = absurd f
    by (value n) in_block f d k p q = omega arith
    by (value n) in_frame f d k p q = omega arith
    by over_limit m f d k p q = absurd f
    by (nothing w) m f d k p q = absurd f

-- a token with bytes is not the end

unfoldable is_end : Class → Bool
is_end (nothing at_end) = true
is_end (nothing reserved_word) = false
is_end (nothing no_start) = false
is_end (nothing open_quote) = false
is_end (nothing open_field) = false
is_end (nothing joined) = false
is_end block = false
is_end loop = false
is_end save = false
is_end tag = false
is_end (value k) = false
is_end over_limit = false

not_end : (p : ℕ) (m : Mode) (b : ℕ) (s : List ℕ) → is_end (lex Strict p m (b ∷ s)).class ≡ false
unfolding is_end lex lex_in lexed
not_end p m b s =
    pick Q (is_space p) _ _
    (λ _. pick Q (starts key_data (b ∷ s)) _ _ (λ _. refl)
    (λ _. pick Q (starts key_save (b ∷ s)) _ _ (λ _. refl)
    (λ _. pick Q (is_word key_loop (b ∷ s)) _ _ (λ _. refl)
    (λ _. pick Q (is_word key_global (b ∷ s) || is_word key_stop (b ∷ s)) _ _ (λ _. refl)
    (λ _. pick Q (is 95 b) _ _ (λ _. refl) (λ _. value-class (λ c. is_end c ≡ false) (λ k. refl) refl refl refl refl Strict p b s))))))
    (λ _. refl)
  where
    Q : Lexed → Type 0
    Q x = is_end x.class ≡ false

-- From a place of the text on, in a state that both readings share

unfoldable mode : Config → Mode
mode c = mode_of c.state c.frame

-- rs are records of a text, of one block, and their values are calm
pub record Alike (text : List ℕ) (rs : List Rec) : Type 0 where
  pub one : blocks rs ≤ 1
  pub calm : (g h : List Rec) (r : Rec) → rs ≡ g ++ (r ∷ h) → Calm r.kind (part text r.at r.size)

unfoldable Sim : List Rec → List ℕ → ℕ → Type 0
Sim rs s o =
    (p k : ℕ) (c : Config) → Headed (mode c) (kept c)
    → run Strict (tokens_from Strict s p k (mode c) o) c ≡ done rs → run First (tokens_from First s p k (mode c) o) c ≡ done rs

-- the text's end
same_end : (c : Class) (t : Tok) (h : List Rec) (m : Mode) (y x : Outcome) (rs : List Rec) → Moved h m c t y x → follow x (λ c'. run Strict [] c') ≡ done rs → follow y (λ c'. run First [] c') ≡ done rs
unfolding follow run
same_end c t h m y (go x) rs (went w) q = never q
same_end c t h m y (stop (refused n o d)) rs refuses q = never q
same_end c t h m y (stop (done us)) rs (ends w) q = rw w.same q

ends-alike : (o p : ℕ) (st : State) (f : Option ℕ) (out held rs : List Rec)
    → run Strict (tok (lexed (nothing at_end) 0) o ∷ []) (config st f out held) ≡ done rs
    → run First (tok (lex First p (mode_of st f) []) o ∷ []) (config st f out held) ≡ done rs
unfolding lexed follow run mode_of frame_mode lex lex_in tok move at_start config
ends-alike o p start f out held rs q = never q
ends-alike o p (items d) none out held rs q = same_end _ _ _ _ _ _ rs (moved (items d) none out held (tok (lexed (nothing at_end) 0) o)) q
ends-alike o p (items d) (some a) out held rs q = same_end _ _ _ _ _ _ rs (moved (items d) (some a) out held (tok (lexed (nothing at_end) 0) o)) q
ends-alike o p (names at n) none out held rs q = same_end _ _ _ _ _ _ rs (moved (names at n) none out held (tok (lexed (nothing at_end) 0) o)) q
ends-alike o p (names at n) (some a) out held rs q = same_end _ _ _ _ _ _ rs (moved (names at n) (some a) out held (tok (lexed (nothing at_end) 0) o)) q
ends-alike o p (values at n k) none out held rs q = same_end _ _ _ _ _ _ rs (moved (values at n k) none out held (tok (lexed (nothing at_end) 0) o)) q
ends-alike o p (values at n k) (some a) out held rs q = same_end _ _ _ _ _ _ rs (moved (values at n k) (some a) out held (tok (lexed (nothing at_end) 0) o)) q
ends-alike o p (wants at) none out held rs q = same_end _ _ _ _ _ _ rs (moved (wants at) none out held (tok (lexed (nothing at_end) 0) o)) q
ends-alike o p (wants at) (some a) out held rs q = same_end _ _ _ _ _ _ rs (moved (wants at) (some a) out held (tok (lexed (nothing at_end) 0) o)) q

sim-end : (rs : List Rec) (o : ℕ) → Sim rs [] o
unfolding Sim tokens_from lex lex_in mode config
sim-end rs o p k c h q = ends-alike o p c.state c.frame c.out c.held rs q

-- what follows a token that has so many bytes
unfoldable tail_of : ℕ → (ℕ → List Tok) → List Tok
tail_of zero f = []
tail_of (suc n) f = f n

emit-tail : (n : ℕ) (t : Tok) (f : ℕ → List Tok) → emit n t f ≡ t ∷ tail_of n f
unfolding emit tail_of
emit-tail zero t f = refl
emit-tail (suc n) t f = refl

drop-next : (o : ℕ) (text : List ℕ) (b : ℕ) (s : List ℕ) → drop o text ≡ b ∷ s → drop (suc o) text ≡ s
drop-next zero [] b s e = let z : ◌≡◌ {A = ℕ} 0 1 = cc in absurd (omega arith)
drop-next zero (c ∷ text) b s e = cc
drop-next (suc o) [] b s e = let z : ◌≡◌ {A = ℕ} 0 1 = cc in absurd (omega arith)
drop-next (suc o) (c ∷ text) b s e = drop-next o text b s e

-- a token that goes on
module _ (text : List ℕ) (rs : List Rec) (d : Alike text rs) (b : ℕ) (s : List ℕ) (o : ℕ) (here : drop o text ≡ b ∷ s) (ih : Sim rs s (suc o)) where
  -- the token that stands here, with the byte p before it, and the tokens behind it
  abbrev standing : Reading → ℕ → Mode → Lexed
  standing r p m = lex r p m (b ∷ s)

  abbrev behind : Reading → Mode → Lexed → List Tok
  behind r m x = tail_of x.size (λ k. tokens_from r s b k (after x.class m) (suc o))

  -- a value's bytes are calm, since its record is among those answered
  calm_of : (x : Lexed) (h e : List Rec) (r : Rec) (more : List Rec) → Made x.class (tok x o) r
      → rs ≡ ((h ++ e) ++ (r ∷ [])) ++ more → CalmIf (b ∷ s) x.class x.size
  unfolding Made rec tok part
  calm_of x h e r more w q k i =
      let v : r ≡ rec k (tok x o) = rw i at w in
      rw (v, here) at (d.calm (h ++ e) more r (q ∙ append_assoc (h ++ e) (r ∷ []) more))

  -- a further block is one too many
  no_other : (t : Tok) (h e : List Rec) (r : Rec) (more : List Rec) → r ≡ rec 1 t → 1 ≤ blocks h
      → rs ≡ ((h ++ e) ++ (r ∷ [])) ++ more → ⊥
  unfolding rec blocks
  no_other t h e r more w k q =
      let g = (h ++ e) ++ (r ∷ []) in
      let n : blocks (g ++ more) ≤ 1 = subst (λ l. blocks l ≤ 1) q d.one in
      let a : blocks (g ++ more) ≡ blocks g + blocks more = blocks-append g more in
      let a' : blocks g ≡ blocks (h ++ e) + blocks (r ∷ []) = blocks-append (h ++ e) (r ∷ []) in
      let a'' : blocks (h ++ e) ≡ blocks h + blocks e = blocks-append h e in
      let one : blocks (r ∷ []) ≡ 1 = rw w in
      absurd (omega arith)

  -- both go on behind the token, in one state
  onward : (m : Mode) (x : Lexed) (c : Config) → mode c ≡ after x.class m → Headed (mode c) (kept c)
      → run Strict (behind Strict m x) c ≡ done rs → run First (behind First m x) c ≡ done rs
  unfolding tail_of run Sim
  onward m x c e h q = by x.size q
    where
      by : (n : ℕ) → run Strict (tail_of n (λ k. tokens_from Strict s b k (after x.class m) (suc o))) c ≡ done rs
          → run First (tail_of n (λ k. tokens_from First s b k (after x.class m) (suc o))) c ≡ done rs
      by zero q = never q
      by (suc n) q = rw (← e) (ih b n c h (rw (← e) at q))

  module _ (p : ℕ) (st : State) (f : Option ℕ) (out held : List Rec) where
    abbrev m : Mode
    m = mode_of st f

    abbrev x : Lexed
    x = standing Strict p m

    -- the first reading's move over a token that is y, and what follows
    abbrev goes_on : Lexed → Answer
    goes_on y = follow (move First st f out held (tok y o)) (λ c. run First (behind First m y) c)

    token-alike : Headed m (kept_of st out held) → (u : Outcome)
        → Moved (kept_of st out held) m x.class (tok x o) (move First st f out held (tok x o)) u
        → follow u (λ c. run Strict (behind Strict m x) c) ≡ done rs
        → goes_on (standing First p m) ≡ done rs
    unfolding follow mode kept is_end Made Headed tok P
    token-alike h (stop (refused n a e)) refuses q = never q
    token-alike h (stop (done us)) (ends w) q = absurd (true≢false (sym (ap is_end w.is) ∙ not_end p m b s))
    token-alike h (go c) (went w) q = by w.how
      where
        old : List Rec
        old = kept_of st out held

        k : Starts (kept c) rs
        k = keeps (behind Strict m x) c rs q

        long : rs ≡ ((old ++ w.extra) ++ (w.last ∷ [])) ++ k.more
        long = k.is ∙ ap (λ l. l ++ k.more) w.grows

        by : How x.class (tok x o) m (move First st f out held (tok x o)) c → goes_on (standing First p m) ≡ done rs
        by (another e i) =
            let made : Made block (tok x o) w.last = subst (λ a. Made a (tok x o) w.last) e w.made in
            absurd (no_other (tok x o) old w.extra w.last k.more made (subst (λ a. Headed a old) i h) long)
        by (alike fits same) =
            let eq : standing First p m ≡ x = lex-alike p m b s fits (calm_of x old w.extra w.last k.more w.made long) in
            let hd : Headed (after x.class m) ((old ++ w.extra) ++ (w.last ∷ [])) = headed-on x.class (tok x o) m old w.extra w.last fits w.made h in
            let hd' : Headed (after x.class m) (kept c) = subst (λ l. Headed (after x.class m) l) (sym w.grows) hd in
            let on = onward m x c w.mode (subst (λ a. Headed a (kept c)) (sym w.mode) hd') q in
            subst (λ y. goes_on y ≡ done rs) (sym eq) (subst (λ y. follow y (λ c. run First (behind First m x) c) ≡ done rs) (sym same) on)

  -- one byte on: it belongs to what was read, or a token stands here
  stepped : (p : ℕ) (c : Config) → Headed (mode c) (kept c) → (g : ℕ)
      → run Strict (step g (standing Strict p (mode c)) (mode c) o (λ k m. tokens_from Strict s b k m (suc o))) c ≡ done rs
      → run First (step g (standing First p (mode c)) (mode c) o (λ k m. tokens_from First s b k m (suc o))) c ≡ done rs
  unfolding step Sim run mode kept tok
  stepped p c h (suc g) q = ih b g c h q
  stepped p c h zero q =
      let x = standing Strict p (mode c) in
      let y = standing First p (mode c) in
      let q' : run Strict (tok x o ∷ behind Strict (mode c) x) c ≡ done rs =
      subst (λ l. run Strict l c ≡ done rs) (emit-tail x.size (tok x o) _) q in
      let r : run First (tok y o ∷ behind First (mode c) y) c ≡ done rs =
      token-alike p c.state c.frame c.out c.held h
      (move Strict c.state c.frame c.out c.held (tok x o))
      (moved c.state c.frame c.out c.held (tok x o)) q' in
      subst (λ l. run First l c ≡ done rs) (sym (emit-tail y.size (tok y o) _)) r

  sim-step : Sim rs (b ∷ s) o
  unfolding Sim tokens_from lex
  sim-step p zero c h q = stepped p c h (gap (b ∷ s)) q
  sim-step p (suc k) c h q = ih b k c h q

sim : (text : List ℕ) (rs : List Rec) → Alike text rs → (s : List ℕ) (o : ℕ) → drop o text ≡ s → Sim rs s o
sim text rs d [] o e = sim-end rs o
sim text rs d (b ∷ s) o e = sim-step text rs d b s o e (sim text rs d s (suc o) (drop-next o text b s e))

-- what is accepted passed the checks of the whole text

record Accepted (s : List ℕ) (rs : List Rec) : Type 0 where
  fits : ltb limit (length s) ≡ false
  ascii : ltb (span is_ascii s) (length s) ≡ false
  runs : decided Strict s ≡ done rs

unscreened : (x : Result (Unit {0}) Flaw) (a : Answer) (rs : List Rec) → screens x a ≡ done rs → a ≡ done rs
unfolding screens
unscreened (Ok u) a rs e = e
unscreened (Err (LongLine o)) a rs e = never e
unscreened (Err (Control o)) a rs e = never e

accepted : (s : List ℕ) (rs : List Rec) → outline Strict s ≡ done rs → Accepted s rs
unfolding outline
accepted s rs e = by (ltb limit (length s)) refl (ltb (span is_ascii s) (length s)) refl e
  where
    by : (x : Bool) → ltb limit (length s) ≡ x → (y : Bool) → ltb (span is_ascii s) (length s) ≡ y → cond x (refused 1 0 0) (cond y (refused 2 (span is_ascii s) 0) (screens (screened s) (decided Strict s))) ≡ done rs → Accepted s rs
    by true p y r q = never q
    by false p true r q = never q
    by false p false r q = record { fits = p; ascii = r; runs = unscreened (screened s) (decided Strict s) rs q }

pub alike_read : (s : List ℕ) (rs : List Rec) → outline Strict s ≡ done rs → Alike s rs → outline First s ≡ done rs
unfolding outline decided tokens Sim mode mode_of kept kept_of Headed config
alike_read s rs e d =
    let a = accepted s rs e in
    rw (a.fits, a.ascii) (sim s rs d s 0 refl 10 0 (config start none [] []) tt a.runs)
