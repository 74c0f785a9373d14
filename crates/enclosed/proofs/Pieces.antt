-- What a closing found says. Assumes nothing.
use Prim.Native.Nat.{ℕ, suc, ◌+◌, ◌-◌, ◌≤◌, ◌<◌}
use mathlib.Core.Path.{◌≡◌, sym, ◌∙◌}
use mathlib.Core.List.{List}
use mathlib.Core.Option.{Option, none, some}
use native.Mathlib.Omega.{arith}
use lib.ListN.{length, drop, length-drop}
use Rattle.rules.specs.declared.Reading.{Reading}
use Rattle.quotes.specs.Quotes.{quoted_by, field}
use Rattle.quotes.specs.Answers.{quote_end, field_end}
use Rattle.std.specs.Prelude.{Option as Maybe, Some, None}
use Rattle.quotes.proofs.Quotes.{quote-behind, quote-nothing, field-behind, field-nothing, field-ends}
use Rattle.quotes.proofs.Strict.{quoted-ends}
use Rattle.found.specs.declared.Found.{Found}
use Rattle.found.specs.declared.Found.TheVariants.{Value, Missing}
use Rattle.found.specs.declared.Why.{Why}
use Rattle.found.specs.declared.Why.TheVariants.{OpenQuote, OpenField}
use Rattle.enclosed.specs.Pieces.{quote_kind, between, quote_at, field_at}

-- where the value ends, inside the text
pub record Closes (s : List ℕ) (o e k : ℕ) (f : Found) : Type 0 where
  pub from : o ≤ e
  pub within : e ≤ length s
  pub value : Value k (e - o) ≡ f

module _ (k : ℕ) (w : Why) (s : List ℕ) (o e : ℕ) (x : Option ℕ) where
  between-found : (o + 1 ≤ e) × (x ≡ some (e - (o + 1))) → e - (o + 1) ≤ length (drop (o + 1) s) → o < length s → Closes s o e k (between k w x)
  unfolding between
  between-found f l h =
      let n : suc (e - (o + 1)) ≡ e - o = omega (arith, f.0) in
      record { from = omega (arith, f.0); within = omega (arith, f.0, l, length-drop (o + 1) s); value = rw (f.1, n) }

  between_none : x ≡ none → Missing w ≡ between k w x
  unfolding between
  between_none f = rw f

module _ (r : Reading) (m k : ℕ) (s : List ℕ) (o : ℕ) (c : Maybe ℕ) (q : c ≡ quote_end r m s (o + 1)) where
  pub quote-found : (e : ℕ) → c ≡ Some e → o < length s → Closes s o e (quote_kind r k) (quote_at r m k s o)
  unfolding quote_at
  quote-found e p h =
      let b = quote-behind r m s (o + 1) e (sym q ∙ p) in
      between-found (quote_kind r k) OpenQuote s o e (quoted_by r m (drop (o + 1) s)) b (quoted-ends r m (drop (o + 1) s) (e - (o + 1)) b.1).fits h

  pub quote-none : c ≡ None → Missing OpenQuote ≡ quote_at r m k s o
  unfolding quote_at
  quote-none p = between_none (quote_kind r k) OpenQuote s o 0 (quoted_by r m (drop (o + 1) s)) (quote-nothing r m s (o + 1) (sym q ∙ p))

module _ (s : List ℕ) (o : ℕ) (c : Maybe ℕ) (q : c ≡ field_end s (o + 1)) where
  pub field_found : (e : ℕ) → c ≡ Some e → o < length s → Closes s o e 13 (field_at s o)
  unfolding field_at
  field_found e p h =
      let b = field-behind s (o + 1) e (sym q ∙ p) in
      between-found 13 OpenField s o e (field (drop (o + 1) s)) b (field-ends (drop (o + 1) s) (e - (o + 1)) b.1).fits h

  pub field-none : c ≡ None → Missing OpenField ≡ field_at s o
  unfolding field_at
  field-none p = between_none 13 OpenField s o 0 (field (drop (o + 1) s)) (field-nothing s (o + 1) (sym q ∙ p))
