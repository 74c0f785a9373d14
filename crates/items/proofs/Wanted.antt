-- Where a value is wanted: what the value reader finds is what the token there says, in the block and in a frame. Assumes nothing.
use Prim.Native.Nat.{ℕ}
use mathlib.Core.Path.{◌≡◌, refl, ◌∙◌}
use mathlib.Core.Bool.{Bool, true, false, cond, ◌||◌}
use mathlib.Core.List.{List, [], ◌∷◌}
use lib.ListN.{drop}
use Rattle.columns.specs.Before.{byte_before}
use Rattle.rules.specs.declared.Reading.{Reading}
use Rattle.rules.specs.declared.Reading.TheVariants.{First, Strict}
use Rattle.text.specs.Bytes.{is, is_space}
use Rattle.words.specs.Words.{word}
use Rattle.keywords.specs.Keywords.{starts, key_data, key_global, key_loop, key_save, key_stop, stands}
use Rattle.values.specs.Values.{block, loop, save, tag, nothing, reserved_word, no_start, Lexed, lexed, lex_value, lex_as_value}
use Rattle.values.specs.Answers.{why_of, why_not, wanted}
use Rattle.values.specs.Finding.{found_at}
use Rattle.keywords.proofs.Keywords.{reserved-words}
use Rattle.values.proofs.Laws.{found-as-value, as-value-end, as-value, tag-none}
use Rattle.grammar.specs.Tokens.{Mode, save_size, lex_in}

-- no value starts with a keyword or `_`
starts_none : (d g l s t u : Bool) (z w : ℕ) (v : Lexed) → (u ≡ true → v ≡ lexed (nothing no_start) 0)
    → let x = cond (d || g || l || s || t) (lexed (nothing reserved_word) 0) v in let y = cond (d || g || t) (lexed (nothing reserved_word) 0) (cond l (lexed loop 5) (cond s (lexed save z) (cond u (lexed tag w) v))) in wanted x.class x.size ≡ wanted y.class y.size
unfolding wanted lexed why_not why_of
starts_none true g l s t u z w v h = refl
starts_none false true l s t u z w v h = refl
starts_none false false true s true u z w v h = refl
starts_none false false true s false u z w v h = refl
starts_none false false false true true u z w v h = refl
starts_none false false false true false u z w v h = refl
starts_none false false false false true u z w v h = refl
starts_none false false false false false true z w v h = rw (h refl)
starts_none false false false false false false z w v h = refl

-- nor in the strict reading, where `data_` and `save_` are tokens of their own and three keywords count as whole words
starts-strict : (d g l s t u : Bool) (z w : ℕ) (v : Lexed) → (u ≡ true → v ≡ lexed (nothing no_start) 0)
    → let x = cond (d || g || l || s || t) (lexed (nothing reserved_word) 0) v in let y = cond d (lexed block z) (cond s (lexed save z) (cond l (lexed loop 5) (cond (g || t) (lexed (nothing reserved_word) 0) (cond u (lexed tag w) v)))) in wanted x.class x.size ≡ wanted y.class y.size
unfolding wanted lexed why_not why_of
starts-strict true g l s t u z w v h = refl
starts-strict false true l true t u z w v h = refl
starts-strict false true true false t u z w v h = refl
starts-strict false true false false t u z w v h = refl
starts-strict false false true true t u z w v h = refl
starts-strict false false true false t u z w v h = refl
starts-strict false false false true t u z w v h = refl
starts-strict false false false false true u z w v h = refl
starts-strict false false false false false true z w v h = rw (h refl)
starts-strict false false false false false false z w v h = refl

-- a token that no space parts from the one before is the same for both
parted-alike : (a : Bool) (x y j : Lexed) → wanted x.class x.size ≡ wanted y.class y.size → wanted (cond a x j).class (cond a x j).size ≡ wanted (cond a y j).class (cond a y j).size
parted-alike true x y j e = e
parted-alike false x y j e = refl

lexes-alike : (r : Reading) (p : ℕ) (m : Mode) (s : List ℕ) → wanted (lex_as_value r p s).class (lex_as_value r p s).size ≡ wanted (lex_in r p m s).class (lex_in r p m s).size
unfolding lex_in
lexes-alike r p m [] = rw (as-value-end r p)
lexes-alike First p m (b ∷ s) =
    rw (as-value First p b s, reserved-words First (b ∷ s))
    (starts_none (starts key_data (b ∷ s)) (starts key_global (b ∷ s)) (starts key_loop (b ∷ s)) (starts key_save (b ∷ s)) (starts key_stop (b ∷ s)) (is 95 b) (save_size m (b ∷ s)) (word (b ∷ s)) (lex_value First p b s) (tag-none First p b s))
lexes-alike Strict p m (b ∷ s) =
    rw (as-value Strict p b s, reserved-words Strict (b ∷ s))
    (parted-alike (is_space p) _ _ _
    (starts-strict (starts key_data (b ∷ s)) (stands Strict key_global (b ∷ s)) (stands Strict key_loop (b ∷ s)) (starts key_save (b ∷ s)) (stands Strict key_stop (b ∷ s)) (is 95 b) (word (b ∷ s)) (word (b ∷ s)) (lex_value Strict p b s) (tag-none Strict p b s)))

-- THE VALUE READER FINDS WHAT THE TOKEN SAYS
pub found-wanted : (r : Reading) (m : Mode) (s : List ℕ) (o : ℕ) → found_at r s o ≡ wanted (lex_in r (byte_before s o) m (drop o s)).class (lex_in r (byte_before s o) m (drop o s)).size
found-wanted r m s o = found-as-value r s o ∙ lexes-alike r (byte_before s o) m (drop o s)
