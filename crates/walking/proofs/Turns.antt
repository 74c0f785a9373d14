-- One turn of the loops that write names and values: what stands next, and what is left. Assumes nothing.
use Prim.Native.Nat.{ℕ, ◌+◌, ◌-◌, ◌≤◌, ◌<◌}
use mathlib.Core.Path.{◌≡◌, refl, sym, ap, ◌∙◌}
use mathlib.Core.Bool.{true}
use mathlib.Core.List.{List, [], ◌∷◌}
use native.Mathlib.Omega.{arith}
use lib.ListN.{length, drop}
use Rattle.columns.specs.Before.{byte_before}
use Rattle.rules.specs.declared.Reading.{Reading}
use Rattle.gaps.specs.Gaps.{gap, gap_end}
use Rattle.places.specs.Places.{place_at}
use Rattle.gaps.proofs.Gaps.{gap_from, gap_within, gap-none, is-gap-end}
use Rattle.gaps.proofs.Bare.{gap-bare}
use Rattle.places.proofs.Places.{place-offset}
use Rattle.words.specs.Words.{word}
use Rattle.words.proofs.Words.{word_end}
use Rattle.values.specs.Values.{tag, value, lexed}
use Rattle.kinds.specs.Kinds.{kind_of, marks_of, is_value_kind}
use Rattle.found.specs.declared.Found.TheVariants.{Value}
use Rattle.grammar.specs.Tokens.{in_block, lex_in, after, tok, tokens_at}
use Rattle.grammar.specs.Machine.{rec}
use Rattle.grammar.specs.Descent.{name_recs, after_names, value_recs, after_values}
use Rattle.values.specs.Finding.{found_at}
use Rattle.openings.specs.Openings.{name_end}
use Rattle.grammar.proofs.Descent.{IsName, names_more, names-none, values-more, values-none}
use Rattle.values.proofs.Laws.{found-value}
use Rattle.openings.proofs.Openings.{named}
use Rattle.items.proofs.Wanted.{found-wanted}
use Rattle.items.proofs.Lists.{met-value, no_name, no_value}
use Rattle.grammar.proofs.Offsets.{tokens-gap, Met, met-tag, first-in}
use Rattle.desk.specs.declared.Cursor.{Cursor}
use Rattle.desk.specs.Desk.{IsToken, Going, ValueHere, rec_at}
use Rattle.desk.proofs.Lines.{part-token, value-token}

-- the cursor behind space and comments
pub going_on : (s : List ℕ) (c e : Cursor) → Going s c → e.place ≡ place_at s (gap_end s c.place.offset) → e.area ≡ c.area → Going s e
going_on s c e g p a =
    let o = place-offset s e.place (gap_end s c.place.offset) p in
    record {
      place = is-gap-end s c.place e.place g.place p;
      short = g.short;
      behind = omega (arith, g.behind, gap_from s c.place.offset);
    }

-- a tag that may stand does so at j, behind the space at o
pub record NameTurn (r : Reading) (s : List ℕ) (o j n : ℕ) : Type 0 where
  pub token : IsToken s 6 j n
  pub recs : name_recs r (tokens_at r in_block s o) ≡ rec_at 6 j n ∷ name_recs r (tokens_at r in_block s (j + n))
  pub rest : after_names r (tokens_at r in_block s o) ≡ after_names r (tokens_at r in_block s (j + n))

pub name-turn : (r : Reading) (s : List ℕ) (o j n : ℕ) → o ≤ length s → j ≡ gap_end s o → j < name_end r s j → n ≡ name_end r s j - j → NameTurn r s o j n
unfolding lexed tok after rec kind_of marks_of
name-turn r s o j n h e t q =
    let g : gap (drop j s) ≡ 0 = rw e (gap-none s o) in
    let l : j ≤ length s = omega (arith, gap_within s o h) in
    let d = named r s j t in
    let w : n ≡ word (drop j s) = omega (arith, d.ends, word_end s j) in
    let m : Met r in_block s j (lexed tag n) = rw w (met-tag s j g r d.tagged) in
    let x : tokens_at r in_block s o ≡ tok (lexed tag n) j ∷ tokens_at r in_block s (j + n) = sym (tokens-gap r in_block s o) ∙ rw (← e) m.next in
    let f : IsName r (tok (lexed tag n) j) = record { is-tag = refl; fits = rw (q, d.ends) d.fits } in
    let y = names_more r (tok (lexed tag n) j) (tokens_at r in_block s (j + n)) f in
    record {
      token = part-token s 6 j n l m.some_bytes (omega arith) m.some_bytes;
      recs = ap (name_recs r) x ∙ y.0;
      rest = ap (after_names r) x ∙ y.1;
    }

-- none does
pub name-none : (r : Reading) (s : List ℕ) (o j : ℕ) → j ≡ gap_end s o → name_end r s j ≤ j → (name_recs r (tokens_at r in_block s o) ≡ []) × (after_names r (tokens_at r in_block s o) ≡ tokens_at r in_block s o)
name-none r s o j e t =
    let g : gap (drop j s) ≡ 0 = rw e (gap-none s o) in
    let f = first-in s j g r in
    let x : tokens_at r in_block s o ≡ tok (lex_in r (byte_before s j) in_block (drop j s)) j ∷ f.0 = sym (tokens-gap r in_block s o) ∙ rw (← e) f.1 in
    let y = names-none r (tok (lex_in r (byte_before s j) in_block (drop j s)) j) f.0 (no_name r s j t) in
    (ap (name_recs r) x ∙ y.0, ap (after_names r) x ∙ y.1 ∙ sym x)

-- a value of kind k and n bytes stands at j
pub record ValueTurn (r : Reading) (s : List ℕ) (o j k n : ℕ) : Type 0 where
  pub token : IsToken s k j n
  pub value : is_value_kind k ≡ true
  pub recs : value_recs (tokens_at r in_block s o) ≡ rec_at k j n ∷ value_recs (tokens_at r in_block s (j + n))
  pub rest : after_values (tokens_at r in_block s o) ≡ after_values (tokens_at r in_block s (j + n))

pub value-turn : (r : Reading) (s : List ℕ) (o j k n : ℕ) → j ≡ gap_end s o → found_at r s j ≡ Value k n → ValueTurn r s o j k n
unfolding lexed tok after rec
value-turn r s o j k n e f =
    let g : gap (drop j s) ≡ 0 = rw e (gap-none s o) in
    let m : Met r in_block s j (lexed (value k) n) = met-value r s j k n g f in
    let x : tokens_at r in_block s o ≡ tok (lexed (value k) n) j ∷ tokens_at r in_block s (j + n) = sym (tokens-gap r in_block s o) ∙ rw (← e) m.next in
    let y = values-more (tok (lexed (value k) n) j) (tokens_at r in_block s (j + n)) k refl in
    record {
      token = value-token r s j k n f;
      value = found-value r s j k n f;
      recs = ap value_recs x ∙ y.0;
      rest = ap after_values x ∙ y.1;
    }

pub value_none : (r : Reading) (s : List ℕ) (o j : ℕ) → j ≡ gap_end s o → ((k n : ℕ) → found_at r s j ≡ Value k n → ⊥) → (value_recs (tokens_at r in_block s o) ≡ []) × (after_values (tokens_at r in_block s o) ≡ tokens_at r in_block s o)
unfolding tok
value_none r s o j e h =
    let g : gap (drop j s) ≡ 0 = rw e (gap-none s o) in
    let f = first-in s j g r in
    let x = lex_in r (byte_before s j) in_block (drop j s) in
    let z : tokens_at r in_block s o ≡ tok x j ∷ f.0 = sym (tokens-gap r in_block s o) ∙ rw (← e) f.1 in
    let y = values-none (tok x j) f.0 (no_value x.class x.size (λ k n q. h k n (found-wanted r in_block s j ∙ q))) in
    (ap value_recs z ∙ y.0, ap after_values z ∙ y.1 ∙ sym z)

-- where no space stands before it
pub value-here : (r : Reading) (s : List ℕ) (o k n : ℕ) → gap (drop o s) ≡ 0 → found_at r s o ≡ Value k n → ValueHere r s o k n
value-here r s o k n g f = record { bare = g; found = f }

pub here-turn : (r : Reading) (s : List ℕ) (o k n : ℕ) → ValueHere r s o k n → ValueTurn r s o o k n
here-turn r s o k n h = value-turn r s o o k n (sym (gap-bare s o h.bare)) h.found
