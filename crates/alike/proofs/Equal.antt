-- THE EQUAL RECORDS of document 02 (Three). Proved: a plain text (specs/Plain) is read by the first reading to the records
-- that the strict one gives (equal-records), so that the two answers are one, and so is whatever is made of the text and its
-- answer: places, store, area, lengths (equal-answers, equal-made). The same holds of the class that asks nothing of bytes
-- (unquoted-records). Assumes nothing.
use Prim.Native.Nat.{ℕ, zero, suc, ◌≤◌}
use mathlib.Core.Path.{◌≡◌, refl, sym, ap, ◌∙◌, subst}
use mathlib.Core.Bool.{true, false, not, ◌&&◌, ◌||◌, true≢false}
use mathlib.Core.List.{List, [], ◌∷◌, ◌++◌}
use native.Mathlib.Omega.{arith}
use borrow.Author.Tests.{eqb-true, not-true}
use lib.Dec.{eqb}
use lib.ListN.{take, drop}
use Rattle.rules.specs.declared.Reading.TheVariants.{First, Strict}
use Rattle.text.specs.Bytes.{is}
use Rattle.text.specs.Parts.{part}
use Rattle.text.proofs.Bools.{and_l, and_r, never_true}
use Rattle.grammar.specs.Machine.{Rec, Answer, done}
use Rattle.grammar.specs.Reading.{outline}
use Rattle.alike.specs.Plain.{is_mark, no_mark, is_plain_word, plain_values, blocks, OneBlock, starts_semicolon, unquoted, Plain, Unquoted}
use Rattle.alike.proofs.Tokens.{starts_quote, Calm}
use Rattle.alike.proofs.Simulation.{Alike, alike_read}

one_at_most : (rs : List Rec) → OneBlock rs → blocks rs ≤ 1
unfolding OneBlock
one_at_most rs e = omega (arith, e)

-- bare values, one by one
plain_at : (s : List ℕ) (g h : List Rec) (r : Rec) → plain_values s (g ++ (r ∷ h)) ≡ true → r.kind ≡ 10 → is_plain_word (part s r.at r.size) ≡ true
unfolding plain_values
plain_at s [] h r e k =
    let w = is_plain_word (part s r.at r.size) in
    rw k at (and_l (not (eqb r.kind 10) || w) (plain_values s h) e)
plain_at s (q ∷ g) h r e k = plain_at s g h r (and_r (not (eqb q.kind 10) || is_plain_word (part s q.at q.size)) (plain_values s (g ++ (r ∷ h))) e) k

-- no mark stands in a part of a text that has none
no-mark-drop : (n : ℕ) (s : List ℕ) → no_mark s ≡ true → no_mark (drop n s) ≡ true
unfolding no_mark
no-mark-drop zero s e = e
no-mark-drop (suc n) [] e = e
no-mark-drop (suc n) (b ∷ s) e = no-mark-drop n s (and_r (not (is_mark b)) (no_mark s) e)

no-mark-take : (n : ℕ) (s : List ℕ) → no_mark s ≡ true → no_mark (take n s) ≡ true
unfolding no_mark
no-mark-take zero s e = refl
no-mark-take (suc n) [] e = refl
no-mark-take (suc n) (b ∷ s) e = rw (and_l (not (is_mark b)) (no_mark s) e, no-mark-take n s (and_r (not (is_mark b)) (no_mark s) e))

pub no-mark-part : (s : List ℕ) (o n : ℕ) → no_mark s ≡ true → no_mark (part s o n) ≡ true
unfolding part
no-mark-part s o n e = no-mark-take n (drop o s) (no-mark-drop o s e)

-- so it starts with none: c is one
not_first : (c b : ℕ) (w : List ℕ) → is_mark c ≡ true → no_mark (b ∷ w) ≡ true → is c b ≡ false
unfolding no_mark is
not_first c b w m e =
    never_true (eqb b c) (λ h. true≢false (sym m ∙ ap is_mark (sym (eqb-true b c h)) ∙ not-true (is_mark b) (and_l (not (is_mark b)) (no_mark w) e)))

no-mark-quote : (w : List ℕ) → no_mark w ≡ true → starts_quote w ≡ false
unfolding starts_quote is_mark is
no-mark-quote [] e = refl
no-mark-quote (b ∷ w) e = rw (not_first 39 b w refl e, not_first 34 b w refl e)

pub no-mark-semicolon : (w : List ℕ) → no_mark w ≡ true → starts_semicolon w ≡ false
unfolding starts_semicolon is_mark is
no-mark-semicolon [] e = refl
no-mark-semicolon (b ∷ w) e = rw (not_first 59 b w refl e)

plain-alike : (s : List ℕ) (rs : List Rec) → Plain s rs → Alike s rs
plain-alike s rs p = record { one = one_at_most rs p.one_block; calm = calm }
  where
    calm : (g h : List Rec) (r : Rec) → rs ≡ g ++ (r ∷ h) → Calm r.kind (part s r.at r.size)
    calm g h r e =
        let n = no-mark-part s r.at r.size p.no-mark in
        record {
          not-quoted = λ _. no-mark-quote (part s r.at r.size) n;
          no-semicolon = λ _. no-mark-semicolon (part s r.at r.size) n;
          plain = plain_at s g h r (subst (λ l. plain_values s l ≡ true) e p.bare);
        }

-- THE THEOREM
pub equal-records : (s : List ℕ) (rs : List Rec) → Plain s rs → outline First s ≡ done rs
equal-records s rs p = alike_read s rs p.accepted (plain-alike s rs p)

-- both answer the same
pub equal-answers : (s : List ℕ) (rs : List Rec) → Plain s rs → outline First s ≡ outline Strict s
equal-answers s rs p = equal-records s rs p ∙ sym p.accepted

-- and what f makes of a text and its answer is the same, whatever f is: places, the bytes of store and area, lengths
pub equal-made : {A : Type 0} (f : List ℕ → Answer → A) (s : List ℕ) (rs : List Rec) → Plain s rs → f s (outline First s) ≡ f s (outline Strict s)
equal-made f s rs p = ap (f s) (equal-answers s rs p)

-- THE CLASS WITHOUT A WORD ON BYTES

-- no quoted value, and no bare one that starts with `;`
record Bare (s : List ℕ) (r : Rec) : Type 0 where
  not-quoted : eqb r.kind 21 ≡ false
  no-semicolon : (eqb r.kind 10 && starts_semicolon (part s r.at r.size)) ≡ false

unquoted-at : (s : List ℕ) (g h : List Rec) (r : Rec) → unquoted s (g ++ (r ∷ h)) ≡ true → Bare s r
unfolding unquoted
unquoted-at s [] h r e =
    let f = and_r (not (eqb r.kind 21)) _ e in
    let t = eqb r.kind 10 && starts_semicolon (part s r.at r.size) in
    record { not-quoted = not-true (eqb r.kind 21) (and_l (not (eqb r.kind 21)) _ e); no-semicolon = not-true t (and_l (not t) _ f) }
unquoted-at s (q ∷ g) h r e =
    let f = and_r (not (eqb q.kind 21)) _ e in
    unquoted-at s g h r (and_r (not (eqb q.kind 10 && starts_semicolon (part s q.at q.size))) _ f)

unquoted-alike : (s : List ℕ) (rs : List Rec) → Unquoted s rs → Alike s rs
unquoted-alike s rs p = record { one = one_at_most rs p.one_block; calm = calm }
  where
    calm : (g h : List Rec) (r : Rec) → rs ≡ g ++ (r ∷ h) → Calm r.kind (part s r.at r.size)
    calm g h r e =
        let n : Bare s r = unquoted-at s g h r (subst (λ l. unquoted s l ≡ true) e p.no-quote) in
        record {
          not-quoted = λ k. absurd (true≢false (rw k at n.not-quoted));
          no-semicolon = λ k. rw k at n.no-semicolon;
          plain = plain_at s g h r (subst (λ l. plain_values s l ≡ true) e p.bare);
        }

pub unquoted-records : (s : List ℕ) (rs : List Rec) → Unquoted s rs → outline First s ≡ done rs
unquoted-records s rs p = alike_read s rs p.accepted (unquoted-alike s rs p)
